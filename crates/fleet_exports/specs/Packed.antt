-- What the functions of a fleet for C and Rust promise: the answer as one number, and the lent record as the functions that are called leave it. A log has packed entries.
-- A refusal is its number; any other answer is `answer_base` or more.
use Rattle.std.specs.Prelude.{ℕ, ◌≡◌, List, length}
use Rattle.wake_log.specs.Entry.{answer_of}
use Rattle.probe_frame.specs.Frame.{frame_of}
use Rattle.fleet_theory.specs.Fleet.{event_fault, entry_by}
use Rattle.table.specs.Slices.{Slices, table_of}
use Rattle.fleet.specs.Answers.{Handled}
use Rattle.packed_answers.specs.Packed.{packed_answer, packed_after}

pub record HandledPacked (x : Slices) (used room : ℕ) (line : List ℕ) (r : ℕ) (before after : List ℕ) : Type 0 where
  pub answer : r ≡ packed_answer (answer_of (event_fault x before used room line) (entry_by (table_of x) before (frame_of line)))
  pub lent : Handled x used room line (answer_of (event_fault x before used room line) (entry_by (table_of x) before (frame_of line))) before after

-- the same with a log: the entry stands behind its used ones, or it is unchanged
pub record LogsInFleetPacked (x : Slices) (used : ℕ) (line : List ℕ) (r : ℕ) (before after : List ℕ) (log log' : List ℕ) : Type 0 where
  pub handled : HandledPacked x used (length log) line r before after
  pub log_after : log' ≡ packed_after log used (answer_of (event_fault x before used (length log) line) (entry_by (table_of x) before (frame_of line)))
