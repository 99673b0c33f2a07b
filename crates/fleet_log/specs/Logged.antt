-- A fleet's line with its wake log: document 01, "one for each accepted event .. The earlier entries never change."
use Rattle.std.specs.Prelude.{ℕ, ◌≡◌, cond, List, eqb, length, set}
use Rattle.probe_frame.specs.Frame.{frame_of}
use Rattle.wake_log.specs.declared.Entry.{Entry}
use Rattle.wake_log.specs.declared.Answer.{Answer}
use Rattle.fleet_theory.specs.Fleet.{event_fault, entry_by}
use Rattle.table.specs.Slices.{Slices, table_of}
use Rattle.fleet.specs.Answers.{Handled}

-- the line's answer and record as without a log; the log has the entry behind its used ones, or is unchanged
pub record LogsInFleet (x : Slices) (used : ℕ) (line : List ℕ) (r : Answer) (before after : List ℕ) (log log' : List Entry) : Type 0 where
  pub handled : Handled x used (length log) line r before after
  pub log_after : log' ≡ cond (eqb (event_fault x before used (length log) line) 0) (set log used (entry_by (table_of x) before (frame_of line))) log
