-- A fleet of ends driven by lines. The sentences are those of document 01, "The ends and their frames" and "Turned down for the state", and of 02, No. 2.
use Rattle.std.specs.Prelude.{ℕ, zero, suc, ◌+◌, ◌*◌, ◌%◌, Bool, cond, ◌&&◌, ◌||◌, not, List, [], ◌∷◌, ◌++◌, ltb, eqb, length, replicate, set}
use Rattle.range.specs.Sum.{sum, count}
use Rattle.range.specs.First.{or_else, first}
use Rattle.range.specs.Lists.{joined}
use Rattle.table.specs.Table.{Table, item, touches, spare, between}
use Rattle.probe_frame.specs.Frame.{Frame, frame_of, frame_fault}
use Rattle.probe_record.specs.Record.{outbound, inbound, standing, dearest_untried, spare_fault}
use Rattle.wake_log.specs.declared.Entry.{Entry}
use Rattle.wake_log.specs.declared.What.TheVariants as what
use Rattle.wake_log.specs.declared.Answer.{Answer}
use Rattle.wake_log.specs.Entry.{answer_of}
use Rattle.probe_rules.specs.declared.Event.{Event}
use Rattle.probe_rules.specs.declared.Event.TheVariants.{Opening, Offer, Refusal}
use Rattle.probe_rules.specs.declared.Outcome.{Outcome}
use Rattle.probe_rules.specs.declared.Outcome.TheVariants.{Opened, Enough, Taken, TakenDisplacing, Refused, RefusalLearnt, NoChange, AllTried}
use Rattle.probe_rules.specs.Rules.{befalls, alter_at, entry_of}
use Rattle.probe_rules.specs.Frames.{number_fault, heard_of}
use Rattle.table.specs.Slices.{Slices, table_of, slices_fault}

-- "A fleet's record has four bytes a link: outbound from low, inbound at high, outbound from high, inbound at low."
-- 02, No. 2: it "gains, for each of its four bytes, a byte .. these marks follow the four bytes in the same order": a link has eight bytes, and a mark stands 4 behind its byte.
abbrev pub out_at : Table → ℕ → ℕ → ℕ
out_at t p i = cond (eqb p (t.low i)) (8 * i) (8 * i + 2)

abbrev pub in_at : Table → ℕ → ℕ → ℕ
in_at t p i = cond (eqb p (t.low i)) (8 * i + 3) (8 * i + 1)

-- an end's two bytes on a link, by their places in the fleet's record; "Links not its own hold 0."
abbrev pub pair_at : Table → ℕ → (ℕ → ℕ) → (ℕ → ℕ) → List ℕ → ℕ → List ℕ
pair_at t p out into r i = cond (touches t p i) (item r (out i) ∷ item r (into i) ∷ []) (0 ∷ 0 ∷ [])

-- an end's "own bytes of the fleet's record", and their marks
unfoldable pub own : Table → ℕ → List ℕ → List ℕ
own t p r = joined (pair_at t p (out_at t p) (in_at t p) r) t.links

unfoldable pub marks : Table → ℕ → List ℕ → List ℕ
marks t p r = joined (pair_at t p (λ i. out_at t p i + 4) (λ i. in_at t p i + 4) r) t.links

-- the value at which the byte k of a link's four permits its frame: 1 of an outbound byte, k even, 2 of an inbound byte
abbrev pub permitting : ℕ → ℕ
permitting k = k % 2 + 1

-- 21, of a byte, its mark, and the value at which it permits its frame: "A byte over 2"; 02, No. 2: "a mark over 1, or 0 while its byte permits the frame"
abbrev pub wrong_byte : ℕ → ℕ → ℕ → Bool
wrong_byte byte mark permit = (ltb 2 byte || ltb 1 mark) || (eqb byte permit && eqb mark 0)

-- of a link's four
abbrev pub link_bytes_fault : List ℕ → ℕ → ℕ
link_bytes_fault r i = first (λ k. cond (wrong_byte (item r (8 * i + k)) (item r (8 * i + (4 + k))) (permitting k)) 21 0) 4

-- 20 ("eight bytes a link of a fleet"), 21 and 22, of a fleet's record
abbrev pub fleet_fault : Table → List ℕ → ℕ
fleet_fault t r =
    or_else (cond (eqb (length r) (8 * t.links)) 0 20)
    (or_else (first (link_bytes_fault r) t.links) (first (λ p. spare_fault t p (own t p r)) t.probes))

-- "Script kind 03, with from and to the same, makes that probe fresh"
abbrev pub restarts : Frame → Bool
restarts f = eqb f.kind 3

-- a line of this kind is of one probe, an opening or a restart: 24 "treats kind 03 as an opening"
abbrev pub of_one_probe : ℕ → Bool
of_one_probe kind = eqb kind 0 || eqb kind 3

-- 9: "a script line may also be 00, an opening", and 03, a restart
abbrev pub event_kind_fault : Frame → ℕ
event_kind_fault f = cond (ltb f.kind 4) 0 9

-- 24: "No such probe, .. an opening whose two ends differ, or no such link."
abbrev pub event_ends_fault : Table → Frame → ℕ
event_ends_fault t f =
    cond (cond (of_one_probe f.kind) (eqb f.from f.to && ltb f.to t.probes) (ltb (between t f.from f.to) t.links)) 0 24

-- the checks of a line before 27: "1, 2, 9, 23, 24"
abbrev pub event_line_fault : Table → List ℕ → ℕ
event_line_fault t l =
    let f = frame_of l in
    or_else (frame_fault l) (or_else (event_kind_fault f) (or_else (number_fault t f) (event_ends_fault t f)))

-- what reaches the probe `to`. A restart is no event of an end's rules: it stands here as an opening, which 27 never turns down; `altered_by` and `entry_by` do not use its outcome.
abbrev pub event_of : Table → Frame → Event
event_of t f = cond (of_one_probe f.kind) Opening (heard_of t f)

-- 27: "now made when the frame could never yet have been sent": by the marks of the probe `from`
abbrev pub unsent_fault : Event → List ℕ → ℕ
unsent_fault Opening m = 0
unsent_fault (Offer i) m = cond (eqb (outbound m i) 1) 0 27
unsent_fault (Refusal i) m = cond (eqb (inbound m i) 1) 0 27

-- "These come after the table's checks: 20, 21, 22, then the frame's 1, 2, 9, 23, 24, then .. 27, then 26." `used` of the log's `room` entries are used.
abbrev pub event_fault : Slices → List ℕ → ℕ → ℕ → List ℕ → ℕ
event_fault x r used room l =
    let t = table_of x in
    let f = frame_of l in
    or_else (slices_fault x)
    (or_else (fleet_fault t r)
    (or_else (event_line_fault t l) (or_else (unsent_fault (event_of t f) (marks t f.from r)) (cond (ltb used room) 0 26))))

-- what befalls the probe `to`: the end's own rule on its own bytes
abbrev pub outcome_of : Table → List ℕ → Frame → Outcome
outcome_of t r f = befalls t f.to (event_of t f) (own t f.to r)

-- the marks of the bytes that an outcome makes permit their frames: an outbound byte 1, an inbound byte 2
abbrev pub mark_at : (ℕ → ℕ) → (ℕ → ℕ) → Outcome → List ℕ → List ℕ
mark_at out into (Opened i) r = set r (out i + 4) 1
mark_at out into Enough r = r
mark_at out into (Taken i) r = r
mark_at out into (TakenDisplacing i c) r = set r (into c + 4) 1
mark_at out into (Refused i) r = set r (into i + 4) 1
mark_at out into (RefusalLearnt i) r = r
mark_at out into (NoChange i) r = r
mark_at out into AllTried r = r

-- its bytes, put back in their places, with their marks
abbrev pub alter_fleet : Table → ℕ → Outcome → List ℕ → List ℕ
alter_fleet t p o r = mark_at (out_at t p) (in_at t p) o (alter_at (out_at t p) (in_at t p) o r)

-- the own bytes of p on the link i become 0
abbrev pub cleared_at : Table → ℕ → ℕ → List ℕ → List ℕ
cleared_at t p i r = set (set r (out_at t p i) 0) (in_at t p i) 0

-- on the first n links; "a wipe leaves" the marks
unfoldable pub wiped_to : Table → ℕ → ℕ → List ℕ → List ℕ
wiped_to t p zero r = r
wiped_to t p (suc n) r =
    let w = wiped_to t p n r in
    cond (touches t p n) (cleared_at t p n w) w

abbrev pub wiped : Table → ℕ → List ℕ → List ℕ
wiped t p = wiped_to t p t.links

-- the record after an accepted line, and its entry: "A wipe is logged as 08, without a link."
abbrev pub altered_by : Table → List ℕ → Frame → List ℕ
altered_by t r f = cond (restarts f) (wiped t f.to r) (alter_fleet t f.to (outcome_of t r f) r)

abbrev pub entry_by : Table → List ℕ → Frame → Entry
entry_by t r f = cond (restarts f) (record { probe = f.to; what = what.Restarted }) (entry_of t f.to (outcome_of t r f))

-- the fleet's record, and the entries logged so far
pub record State : Type 0 where
  pub bytes : List ℕ
  pub log : List Entry

-- "The list starts from a fresh fleet's record and a log of any room with no entry." "Fresh is all zero."
abbrev pub start : Slices → State
start x = record { bytes = replicate (8 * x.links) 0; log = [] }

abbrev pub fault_of : Slices → ℕ → State → List ℕ → ℕ
fault_of x room s l = event_fault x s.bytes (length s.log) room l

-- the answer to one line, and the state after it
abbrev pub answer_to : Slices → ℕ → State → List ℕ → Answer
answer_to x room s l = answer_of (fault_of x room s l) (entry_by (table_of x) s.bytes (frame_of l))

abbrev pub accepted : Slices → State → List ℕ → State
accepted x s l =
    let t = table_of x in
    let f = frame_of l in
    record { bytes = altered_by t s.bytes f; log = s.log ++ (entry_by t s.bytes f ∷ []) }

unfoldable pub next : Slices → ℕ → State → List ℕ → State
next x room s l = cond (eqb (fault_of x room s l) 0) (accepted x s l) s

-- the state after a list of lines
unfoldable pub run : Slices → ℕ → State → List (List ℕ) → State
run x room s [] = s
run x room s (l ∷ ls) = run x room (next x room s l) ls

-- "A change is one byte altered": whether the byte differs
abbrev pub differs : List ℕ → List ℕ → ℕ → ℕ
differs r r' j = cond (eqb (item r j) (item r' j)) 0 1

-- "a link's are those in its own four bytes"
abbrev pub link_changes : List ℕ → List ℕ → ℕ → ℕ
link_changes r r' i = sum 4 (λ k. differs r r' (8 * i + k))

-- 02, No. 2: "marks and wipes count nowhere as changes": those of the line of a frame, from the record r to r'
abbrev pub frame_changes : Frame → List ℕ → List ℕ → ℕ → ℕ
frame_changes f r r' i = cond (restarts f) 0 (link_changes r r' i)

-- "Changes: for each accepted event, the record bytes whose value after it differs from that before"
unfoldable pub changes : Slices → ℕ → State → List (List ℕ) → ℕ → ℕ
changes x room s [] i = 0
changes x room s (l ∷ ls) i =
    let s' = next x room s l in
    frame_changes (frame_of l) s.bytes s'.bytes i + changes x room s' ls i

-- "The count the script program prints is their sum over the accepted events."
abbrev pub all_changes : Slices → ℕ → State → List (List ℕ) → ℕ
all_changes x room s ls = sum x.links (changes x room s ls)

-- an opening of the probe would open a link
abbrev pub would_open : Table → List ℕ → ℕ → Bool
would_open t r p = ltb (standing t p (own t p r)) (spare t p) && ltb (dearest_untried t p (own t p r)) t.links

-- by an outbound byte and the other end's inbound byte, a frame that may be sent would alter a byte: an offer is unseen, or a refusal is not learnt
abbrev pub may_alter : ℕ → ℕ → Bool
may_alter out into = (eqb out 1 && eqb into 0) || (eqb into 2 && not (eqb out 2))

-- from the probe p to the probe q on the link i
abbrev pub alters : Table → List ℕ → ℕ → ℕ → ℕ → Bool
alters t r p q i = may_alter (outbound (own t p r) i) (inbound (own t q r) i)

-- "Finished means .. that no opening and no sendable frame would alter a record byte by these rules"
unfoldable pub finished : Table → List ℕ → Bool
finished t r =
    eqb (count t.probes (would_open t r)) 0
    && eqb (count t.links (λ i. alters t r (t.low i) (t.high i) i || alters t r (t.high i) (t.low i) i)) 0
