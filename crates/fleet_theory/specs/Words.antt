-- The words of demand 3, as document 01 has them, "The ends and their frames", and 02, No. 2.
use Rattle.std.specs.Prelude.{ℕ, ◌+◌, ◌*◌, ◌≡◌, ◌⊎◌, Bool, true, cond, ◌||◌, List, [], ◌∷◌, eqb}
use Rattle.table.specs.Table.{Table, item, joins}
use Rattle.probe_frame.specs.Frame.{Frame, frame_of, frame_fault}
use Rattle.wake_log.specs.declared.Entry.{Entry}
use Rattle.wake_log.specs.declared.What.{What}
use Rattle.wake_log.specs.declared.What.TheVariants as what
use Rattle.probe_record.specs.Record.{outbound, inbound}
use Rattle.probe_rules.specs.Rules.{sendable, rests}
use Rattle.probe_rules.specs.Frames.{heard_of}
use Rattle.probe.specs.declared.Kind.{Kind}
use Rattle.probe.specs.declared.Kind.TheVariants as kind
use Rattle.fleet_theory.specs.Fleet.{own, permitting, event_line_fault}

-- "Kind 01 is an offer, 02 a refusal"
abbrev pub IsFrame : Frame → Type 0
IsFrame f = (f.kind ≡ 1) ⊎ (f.kind ≡ 2)

-- a frame of the table: of its number, and of kind 01 or 02
abbrev pub FrameOfTable : Table → Frame → Type 0
FrameOfTable t f = (f.number ≡ t.number) × IsFrame f

-- "the rules above let the frame be sent": by the probe `from`, on its own bytes
abbrev pub MaySend : Table → List ℕ → Frame → Type 0
MaySend t r f = FrameOfTable t f × (sendable (heard_of t f) (own t f.from r) ≡ true)

-- the mark of the frame that an end may send on the link i, by the marks of its own bytes
abbrev pub frame_mark : Kind → List ℕ → ℕ → ℕ
frame_mark kind.Offer m i = outbound m i
frame_mark kind.Refusal m i = inbound m i

-- the mark of the byte k of the link i after a line, from the record r to r': 1 where it was 1 or its byte now permits the frame, otherwise 0
abbrev pub MarkStep : List ℕ → List ℕ → ℕ → ℕ → Type 0
MarkStep r r' i k = item r' (8 * i + (4 + k)) ≡ cond (eqb (item r (8 * i + (4 + k))) 1 || eqb (item r' (8 * i + k)) (permitting k)) 1 0

-- "Truly sent: at some moment so far, the start included, the rules above let the frame be sent": by the records of these moments
abbrev pub TrulySent : Table → Frame → List (List ℕ) → Type 0
TrulySent t f [] = ⊥
TrulySent t f (r ∷ rs) = MaySend t r f ⊎ TrulySent t f rs

-- "Refused: an event so far refused an offer on the link or displaced one": the entry of the probe p says so of the link i
abbrev pub Refuses : Table → ℕ → ℕ → What → Type 0
Refuses t i p (what.Refused j) = j ≡ i
Refuses t i p (what.TakenDisplacing j q) = joins t p q i ≡ true
Refuses t i p (what.Opened j) = ⊥
Refuses t i p what.Enough = ⊥
Refuses t i p (what.Taken j) = ⊥
Refuses t i p (what.RefusalLearnt j) = ⊥
Refuses t i p (what.NoChange j) = ⊥
Refuses t i p what.AllTried = ⊥
Refuses t i p what.Restarted = ⊥

abbrev pub RefusedIn : Table → ℕ → List Entry → Type 0
RefusedIn t i [] = ⊥
RefusedIn t i (e ∷ es) = Refuses t i e.probe e.what ⊎ RefusedIn t i es

-- the end p rests the link i
abbrev pub end_rests : Table → List ℕ → ℕ → ℕ → Bool
end_rests t r p i = rests (own t p r) i

-- "an opening, with from and to the same probe": a line of kind 00 that 1, 2, 9, 23 and 24 let pass
abbrev pub IsOpening : Table → List ℕ → Type 0
IsOpening t l = (event_line_fault t l ≡ 0) × ((frame_of l).kind ≡ 0)

-- "Script kind 03, with from and to the same": a line of kind 03 that they let pass
abbrev pub IsRestart : Table → List ℕ → Type 0
IsRestart t l = (event_line_fault t l ≡ 0) × ((frame_of l).kind ≡ 3)

-- the line of a truly sent frame: "A frame is a line of 14 digits, closed as the table's lines are"
abbrev pub TrulySentLine : Table → List ℕ → List (List ℕ) → Type 0
TrulySentLine t l so_far = (frame_fault l ≡ 0) × TrulySent t (frame_of l) so_far

-- "openings and truly sent frames"
abbrev pub Usable : Table → List ℕ → List (List ℕ) → Type 0
Usable t l so_far = IsOpening t l ⊎ TrulySentLine t l so_far
