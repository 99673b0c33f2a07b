-- How the code comes to a packed answer.
use Prim.Native.Nat.{ℕ}
use mathlib.Core.Path.{◌≡◌, refl, ◌∙◌, ap}
use mathlib.Core.List.{List}
use lib.ListN.{length}
use Rattle.wake_log.specs.declared.Answer.{Answer}
use Rattle.table.specs.Slices.{Slices}
use Rattle.fleet.specs.Answers.{Handled}
use Rattle.fleet.proofs.Calls.{handled_answer, handled_is}
use Rattle.packed_answers.specs.Packed.{packed_answer, packed_after}
use Rattle.fleet_exports.specs.Packed.{HandledPacked, LogsInFleetPacked}

pub handled_packed : (x : Slices) (used room : ℕ) (line : List ℕ) (a : Answer) (r : ℕ) (before after : List ℕ) → Handled x used room line a before after → r ≡ packed_answer a
    → HandledPacked x used room line r before after
handled_packed x used room line a r before after g e =
    record { answer = e ∙ ap packed_answer (handled_answer g); lent = handled_is x used room line _ before after refl g.record_after_lem }

pub logged_packed : (x : Slices) (used : ℕ) (line : List ℕ) (a : Answer) (r : ℕ) (before after : List ℕ) (log log' : List ℕ)
    → Handled x used (length log) line a before after → (r ≡ packed_answer a) × (log' ≡ packed_after log used a) → LogsInFleetPacked x used line r before after log log'
logged_packed x used line a r before after log log' g e =
    record { handled = handled_packed x used (length log) line a r before after g e.0; log_after = e.1 ∙ ap (packed_after log used) (handled_answer g) }
