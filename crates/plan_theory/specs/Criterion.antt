-- What the rested links are, without going through them: by those that are dearer, by the spares of both ends, and by settled offers.
use Rattle.std.specs.Prelude.{ℕ, ◌≤◌, ◌<◌, ◌≡◌, ◌↔◌, ◌⊎◌, Bool, true, false, ◌&&◌}
use Rattle.table.specs.Table.{Table, spare, dearer}
use Rattle.plan_theory.specs.Plan.{links_at, has_more}

-- the links of r that are dearer than i
abbrev pub dearer_in : Table → (ℕ → Bool) → ℕ → ℕ → Bool
dearer_in t r i g = dearer t g i && r g

-- "gone through from dearest to cheapest .. a link is rested exactly when both ends still have more links than they need": with r the rested links, and those of r that are dearer rested before.
-- The plan's rested links do so (`plan_rule`), and no other set does
abbrev pub PlanRule : Table → (ℕ → Bool) → Type 0
PlanRule t r = (i : ℕ) → i < t.links → r i ≡ (has_more t (dearer_in t r i) (t.low i) && has_more t (dearer_in t r i) (t.high i))

-- how many links of r at v are dearer than i
abbrev pub dearer_at : Table → (ℕ → Bool) → ℕ → ℕ → ℕ
dearer_at t r i v = links_at t (dearer_in t r i) v

-- fewer than the spare of v
abbrev pub UnderSpare : Table → (ℕ → Bool) → ℕ → ℕ → Type 0
UnderSpare t r i v = dearer_at t r i v < spare t v

-- r has exactly the links with fewer dearer ones of r than the spare at both ends: the plan's rested links do (`plan_criterion`), and no other set does
abbrev pub Criterion : Table → (ℕ → Bool) → Type 0
Criterion t r = (i : ℕ) → i < t.links → (r i ≡ true) ↔ (UnderSpare t r i (t.low i) × UnderSpare t r i (t.high i))

-- a link from one of its ends to the other
pub data Across (t : Table) (i : ℕ) : ℕ → ℕ → Type 0 where
  up : Across t i (t.low i) (t.high i)
  down : Across t i (t.high i) (t.low i)

-- Offers that no opening and no answer would alter: a settled state rests the plan's rested links (`settled_is_plan`).
-- `stand u i`: the offer of u on the link i stands. `held w i`: w holds the other end's offer on i.
pub record Settled (t : Table) (stand held : ℕ → ℕ → Bool) : Type 0 where
  pub same : (i u w : ℕ) → i < t.links → Across t i u w → stand u i ≡ held w i
  pub standing : (v : ℕ) → links_at t (stand v) v ≤ spare t v
  pub holding : (v : ℕ) → links_at t (held v) v ≤ spare t v
  -- an offer that does not stand: its maker has its spare of dearer ones standing, or the other end holds its spare of dearer ones
  pub explained : (i u w : ℕ) → i < t.links → Across t i u w → stand u i ≡ false
      → (spare t u ≤ dearer_at t (stand u) i u) ⊎ (spare t w ≤ dearer_at t (held w) i w)
