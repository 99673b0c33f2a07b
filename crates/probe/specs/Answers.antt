-- What the calls of one end promise: the answer, and the lent buffers at exit.
use Rattle.std.specs.Prelude.{ℕ, ◌≡◌, Bool, cond, ◌&&◌, List, [], ◌∷◌, eqb, length}
use Rattle.std.proofs.lemmas.List.Edits.{sets}
use Rattle.range.specs.First.{or_else}
use Rattle.range.specs.Reply.{Reply, refusal, values, reply_of}
use Rattle.bit_maps.specs.BitMap.{bit}
use Rattle.table.specs.Table.{Table, other}
use Rattle.table.specs.Legal.{lent_fault}
use Rattle.table.specs.Slices.{Slices, table_of}
use Rattle.probe_frame.specs.Frame.{Frame, frame_of, frame_line}
use Rattle.wake_log.specs.declared.Answer.{Answer}
use Rattle.wake_log.specs.Entry.{entry_values, answer_reply}
use Rattle.probe_rules.specs.declared.Event.{Event}
use Rattle.probe_rules.specs.declared.Event.TheVariants.{Opening, Offer, Refusal}
use Rattle.probe_rules.specs.Rules.{entry_of, sendable, rests}
use Rattle.probe_rules.specs.Frames.{heard_of}
use Rattle.probe_maps.specs.Maps.{Maps, bytes_of, state_fault}
use Rattle.probe_maps.specs.MapRules.{befalls_maps, alter_maps}
use Rattle.probe_checks.specs.Checks.{hear_fault, open_fault, link_call_fault}
use Rattle.probe.specs.declared.Kind.{Kind}
use Rattle.probe.specs.declared.Kind.TheVariants as kind
use Rattle.probe.specs.declared.Asked.{Asked}
use Rattle.probe.specs.declared.Asked.TheVariants as asked
use Rattle.probe.specs.declared.Resting.{Resting}
use Rattle.probe.specs.declared.Resting.TheVariants as resting

-- an event at the probe p: its entry and the altered maps, or the refusal alone and the maps unchanged
pub record Befallen (fault : ℕ) (t : Table) (p : ℕ) (event : Event) (r : Answer) (before after : Maps) : Type 0 where
  pub answer : answer_reply r ≡ reply_of fault (entry_values (entry_of t p (befalls_maps t p event before)))
  pub maps_after_lem : after ≡ cond (eqb fault 0) (alter_maps t.links (befalls_maps t p event before) before) before

-- a frame asked for: its kind's number, and what the other end would hear
abbrev pub kind_of : Kind → ℕ
kind_of kind.Offer = 1
kind_of kind.Refusal = 2

abbrev pub asked_event : Kind → ℕ → Event
asked_event kind.Offer i = Offer i
asked_event kind.Refusal i = Refusal i

-- the bit that lets it be sent: of the standing map, or of the refused inbound
abbrev pub asked_bit : Kind → List ℕ → List ℕ → ℕ → Bool
asked_bit kind.Offer standing refused_in i = bit standing i
asked_bit kind.Refusal standing refused_in i = bit refused_in i

-- the frame from the probe p on the link i, and its line
abbrev pub asked_frame : Table → ℕ → Kind → ℕ → Frame
asked_frame t p k i = record { kind = kind_of k; number = t.number; from = p; to = other t p i }

abbrev pub asked_line : Table → ℕ → Kind → ℕ → List ℕ
asked_line t p k i = frame_line (asked_frame t p k i)

-- the lent slice after asking
abbrev pub asked_out : ℕ → Table → ℕ → Kind → ℕ → List ℕ → List ℕ → List ℕ
asked_out fault t p k i e out = cond (eqb fault 0 && sendable (asked_event k i) e) (sets out 0 (asked_line t p k i)) out

-- 1 where the line is written, 0 where it may not be sent now
abbrev pub asked_reply : Asked → Reply
asked_reply asked.Written = values (1 ∷ [])
asked_reply asked.NotNow = values (0 ∷ [])
asked_reply (asked.Refused n) = refusal n

-- "an end writes the frame's line at the start of a lent slice, or answers that it may not be sent now and writes nothing"
pub record Asks (fault : ℕ) (t : Table) (p : ℕ) (k : Kind) (i : ℕ) (e : List ℕ) (r : Asked) (before after : List ℕ) : Type 0 where
  pub answer : asked_reply r ≡ reply_of fault (cond (sendable (asked_event k i) e) 1 0 ∷ [])
  pub line : after ≡ asked_out fault t p k i e before

-- 1 where the end rests the link, 0 where it does not
abbrev pub resting_reply : Resting → Reply
resting_reply (resting.Rests b) = values (cond b 1 0 ∷ [])
resting_reply (resting.Refused n) = refusal n

-- The calls of the end p, over the table in its slices and the maps of its record.

abbrev pub opens_fault : Slices → ℕ → Maps → ℕ → ℕ
opens_fault x p m free = open_fault (state_fault x p m) (table_of x) p free

abbrev pub hears_fault : Slices → ℕ → Maps → List ℕ → ℕ → ℕ
hears_fault x p m frame free = hear_fault (state_fault x p m) (table_of x) p frame free

-- "Opening: with fewer standing than spare, the dearest untried own link becomes standing."
abbrev pub Opens : Slices → ℕ → ℕ → Answer → Maps → Maps → Type 0
Opens x p free r before after = Befallen (opens_fault x p before free) (table_of x) p Opening r before after

-- "Offer heard", "Refusal heard": a frame of any bytes
abbrev pub Hears : Slices → ℕ → List ℕ → ℕ → Answer → Maps → Maps → Type 0
Hears x p frame free r before after =
    Befallen (hears_fault x p before frame free) (table_of x) p (heard_of (table_of x) (frame_of frame)) r before after

-- "Asked for either on a link": 8 where the lent slice has no room for the line comes first
abbrev pub ask_fault : Slices → ℕ → ℕ → Maps → List ℕ → ℕ
ask_fault x p i m out = or_else (lent_fault (length out) 15) (link_call_fault (state_fault x p m) (table_of x) p i)

abbrev pub AsksFor : Slices → ℕ → Kind → ℕ → Maps → Asked → List ℕ → List ℕ → Type 0
AsksFor x p k i m r before after = Asks (ask_fault x p i m before) (table_of x) p k i (bytes_of x.links m) r before after

-- "A probe rests a link when its own two bytes are both 1."
abbrev pub whether_rests : Slices → ℕ → Maps → ℕ → Reply
whether_rests x p m i = reply_of (link_call_fault (state_fault x p m) (table_of x) p i) (cond (rests (bytes_of x.links m) i) 1 0 ∷ [])
