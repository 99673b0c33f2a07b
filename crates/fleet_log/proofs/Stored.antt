-- A line's clause with the entry stored.
use Prim.Native.Nat.{ℕ}
use mathlib.Core.Path.{◌≡◌}
use mathlib.Core.List.{List}
use lib.ListN.{length}
use Rattle.probe_frame.specs.Frame.{frame_of}
use Rattle.wake_log.specs.declared.Entry.{Entry}
use Rattle.wake_log.specs.declared.Answer.{Answer}
use Rattle.wake_log.specs.Log.{log_with}
use Rattle.wake_log.proofs.Stored.{entry_stored}
use Rattle.fleet.specs.Answers.{Handled}
use Rattle.fleet.proofs.Calls.{handled_answer}
use Rattle.fleet_theory.specs.Fleet.{event_fault, entry_by}
use Rattle.table.specs.Slices.{Slices, table_of}
use Rattle.fleet_log.specs.Logged.{LogsInFleet}

pub line_stored : (x : Slices) (used : ℕ) (line : List ℕ) (r : Answer) (before after : List ℕ) (log log' : List Entry)
    → Handled x used (length log) line r before after → log' ≡ log_with used r log
    → LogsInFleet x used line r before after log log'
line_stored x used line r before after log log' h s =
    record { handled = h; log_after = entry_stored (event_fault x before used (length log) line) used (entry_by (table_of x) before (frame_of line)) r log log' (handled_answer h) s }
