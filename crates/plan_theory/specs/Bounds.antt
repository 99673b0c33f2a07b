-- What the plan keeps of a short probe, demand 3 on its needs and cost, and 02, No. 14; the theorems are `short_keeps`, `plan_bounds` and `none_for_nothing`.
use Rattle.std.specs.Prelude.{ℕ, ◌*◌, ◌≤◌, ◌<◌, ◌≡◌, Bool, true}
use Rattle.table.specs.Table.{Table, touches, spare, is_short}
use Rattle.plan_theory.specs.Plan.{kept, cost_of, Meets, without, is_needed}

-- 02, No. 1: "Such a probe has spare 0, keeps all its links, and is called short."
pub record ShortKeeps (t : Table) : Type 0 where
  pub no_spare : (v : ℕ) → is_short t v ≡ true → spare t v ≡ 0
  pub keeps_all : (v i : ℕ) → is_short t v ≡ true → i < t.links → touches t v i ≡ true → kept t i ≡ true

-- "Every need is then met, and the plan costs at most twice as much as any choice of links that meets the needs": the counted needs (02, No. 1)
pub record PlanBounds (t : Table) : Type 0 where
  pub needs_met : Meets t (kept t)
  pub cost_twice : (choice : ℕ → Bool) → Meets t choice → cost_of t (kept t) ≤ 2 * cost_of t choice

-- 02, No. 14, "No link awake for nothing", of a plan as a set of links; that it meets the needs is said beside it
pub record NoneForNothing (t : Table) (plan : ℕ → Bool) : Type 0 where
  -- "resting one more kept link always leaves an end with less than its counted need"
  pub each_needed : (i : ℕ) → i < t.links → plan i ≡ true → is_needed t plan i ≡ true
  -- "against any choice meeting the counted needs: the links that only our plan keeps cost together at most twice those that only the other keeps"
  pub apart_twice : (choice : ℕ → Bool) → Meets t choice → cost_of t (without plan choice) ≤ 2 * cost_of t (without choice plan)
