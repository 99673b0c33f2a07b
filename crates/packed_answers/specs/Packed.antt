-- Answers as one number, for callers in other languages.
use Rattle.std.specs.Prelude.{ℕ, ◌+◌, ◌*◌, ◌^◌, ◌≡◌, cond, List, [], ◌∷◌, length, get_or, set}
use Rattle.range.specs.Reply.{Reply, refusal, values, reply_of}
use Rattle.output.specs.Output.{printed_into}
use Rattle.wake_log.specs.declared.Answer.{Answer}
use Rattle.wake_log.specs.declared.Answer.TheVariants.{Logged, Refused as Unlogged}
use Rattle.wake_log.specs.declared.Entry.{Entry}
use Rattle.wake_log.specs.declared.Slot.{Slot}
use Rattle.wake_log.specs.declared.Slot.TheVariants.{Used, Unused}
use Rattle.wake_log.specs.Entry.{code_of, link_of, displaced_of}
use Rattle.wake_log.specs.Log.{is_used}

-- a refusal is its number; any other answer is `answer_base` or more, an entry `entry_base` or more

abbrev pub answer_base : ℕ
answer_base = 2 ^ 48

abbrev pub entry_base : ℕ
entry_base = 2 ^ 63

abbrev pub packed_by : (List ℕ → ℕ) → Reply → ℕ
packed_by pack (refusal n) = n
packed_by pack (values vs) = pack vs

-- an answer by its first value, for most the only one
abbrev pub packed_value : Reply → ℕ
packed_value = packed_by (λ vs. answer_base + get_or vs 0 0)

-- an entry: the probe above its code, 8 bits, above the link's place and the displaced probe, 16 bits each
abbrev pub packed_entry : Entry → ℕ
packed_entry e = entry_base + e.probe * 2 ^ 40 + code_of e.what * 2 ^ 32 + link_of e.what * 2 ^ 16 + displaced_of e.what

abbrev pub packed_answer : Answer → ℕ
packed_answer (Logged e) = packed_entry e
packed_answer (Unlogged n) = n

-- what a place of a log holds; 0 where there is no entry
abbrev pub packed_slot : Slot → ℕ
packed_slot (Used e) = packed_entry e
packed_slot Unused = 0

-- The log of a caller in another language has packed entries.

-- what a place of it holds: a used one its number; past the used ones, or past the log's end, 0
abbrev pub packed_at : List ℕ → ℕ → ℕ → ℕ
packed_at log used i = cond (is_used (length log) used i) (get_or log i 0) 0

-- after an answer: an accepted event's entry stands behind the used ones
abbrev pub packed_after : List ℕ → ℕ → Answer → List ℕ
packed_after log used (Logged e) = set log used (packed_entry e)
packed_after log used (Unlogged n) = log

-- what is printed into a lent slice: its length
pub record PrintsPacked (fault : ℕ) (printed : List ℕ) (r : ℕ) (before after : List ℕ) : Type 0 where
  pub answer : r ≡ packed_value (reply_of fault (length printed ∷ []))
  pub out : after ≡ printed_into fault printed before
