-- How the code comes to a packed answer.
use Prim.Native.Nat.{ℕ}
use mathlib.Core.Path.{◌≡◌, ◌∙◌, ap}
use mathlib.Core.List.{List}
use Rattle.table.specs.Slices.{Slices}
use Rattle.plan_methods.specs.Planning.{planning_reply, PlansBySlse, PlansByTurns}
use Rattle.std.specs.Prelude.{Result}
use Rattle.refusals.specs.declared.Refusal.{Refusal}
use Rattle.plan_methods.specs.declared.Totals.{Totals}
use Rattle.plan_exports.specs.Packed.{packed_planning, SlsePacked, TurnsPacked}

pub slse_packed : (pmax lmax : ℕ) (x : Slices) (a : Result Totals Refusal) (r : ℕ) (before after : List ℕ) → PlansBySlse pmax lmax x a before after → r ≡ packed_planning (planning_reply a)
    → SlsePacked pmax lmax x r before after
slse_packed pmax lmax x a r before after g e = record { answer = e ∙ ap packed_planning g.answer; plan = g.plan }

pub turns_packed : (pmax lmax : ℕ) (x : Slices) (a : Result Totals Refusal) (r : ℕ) (before after work work' : List ℕ) → PlansByTurns pmax lmax x a before after work work'
    → r ≡ packed_planning (planning_reply a) → TurnsPacked pmax lmax x r before after work work'
turns_packed pmax lmax x a r before after work work' g e =
    record { answer = e ∙ ap packed_planning g.plans.answer; plan = g.plans.plan; cleared = g.cleared }
