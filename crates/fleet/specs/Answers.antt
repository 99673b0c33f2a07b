-- What the calls of a fleet promise: the answer, and the record at exit.
use Rattle.std.specs.Prelude.{ℕ, ◌≡◌, cond, List, [], ◌∷◌, eqb}
use Rattle.range.specs.First.{or_else}
use Rattle.range.specs.Reply.{Reply, refusal, values, reply_of}
use Rattle.probe_frame.specs.Frame.{frame_of}
use Rattle.wake_log.specs.declared.Answer.{Answer}
use Rattle.wake_log.specs.declared.Answer.TheVariants as answer
use Rattle.wake_log.specs.declared.What.{What}
use Rattle.wake_log.specs.declared.What.TheVariants.{Opened, Enough, Taken, TakenDisplacing, Refused, RefusalLearnt, NoChange, AllTried, Restarted}
use Rattle.wake_log.specs.Entry.{entry_values, answer_reply}
use Rattle.fleet.specs.declared.Finishing.{Finishing}
use Rattle.fleet.specs.declared.Finishing.TheVariants as finishing
use Rattle.fleet_theory.specs.Fleet.{fleet_fault, event_fault, entry_by, altered_by, finished}
use Rattle.table.specs.Slices.{Slices, table_of, slices_fault}

-- a line: the entry and the altered record, or the refusal alone and the record unchanged
pub record Handled (x : Slices) (used room : ℕ) (line : List ℕ) (r : Answer) (before after : List ℕ) : Type 0 where
  pub answer : answer_reply r ≡ reply_of (event_fault x before used room line) (entry_values (entry_by (table_of x) before (frame_of line)))
  pub record_after_lem : after ≡ cond (eqb (event_fault x before used room line) 0) (altered_by (table_of x) before (frame_of line)) before

-- how many changes an event made, by its entry; 02, No. 2: "marks and wipes count nowhere as changes"
abbrev pub changes_of : What → ℕ
changes_of (Opened link) = 1
changes_of Enough = 0
changes_of (Taken link) = 1
changes_of (TakenDisplacing link displaced) = 2
changes_of (Refused link) = 1
changes_of (RefusalLearnt link) = 1
changes_of (NoChange link) = 0
changes_of AllTried = 0
changes_of Restarted = 0

-- by its answer
abbrev pub changes_by : Answer → ℕ
changes_by (answer.Logged entry) = changes_of entry.what
changes_by (answer.Refused fault) = 0

-- 1 where the fleet is finished, 0 where it is not
abbrev pub finishing_reply : Finishing → Reply
finishing_reply (finishing.Says b) = values (cond b 1 0 ∷ [])
finishing_reply (finishing.Refused n) = refusal n

-- "Finished means .. that no opening and no sendable frame would alter a record byte by these rules"
abbrev pub whether_finished : Slices → List ℕ → Reply
whether_finished x r = reply_of (or_else (slices_fault x) (fleet_fault (table_of x) r)) (cond (finished (table_of x) r) 1 0 ∷ [])
