-- A side's byte in the fleet's record, and the test of a link against the best so far.
use Prim.Native.Nat.{ℕ, ◌<◌}
use mathlib.Core.Path.{◌≡◌, ◌∙◌}
use mathlib.Core.List.{List}
use mathlib.Core.Bool.{Bool, true, false, cond, ◌||◌}
use native.Mathlib.Omega.{arith}
use lib.Dec.{leb}
use borrow.Author.Tests.{lt-leb, leb-false}
use Rattle.range.proofs.Bools.{or_false_left, or_false_right}
use Rattle.table.specs.Table.{Table, item, touches, dearer_by_place}
use Rattle.table.specs.Legal.{RisingLinks}
use Rattle.plan_theory.proofs.Order.{dearer_by_place_lem}
use Rattle.fleet_theory.specs.Fleet.{own}
use Rattle.fleet_theory.proofs.Own.{out_is, in_is}
use Rattle.fleet_rules.specs.declared.Side.{Side}
use Rattle.fleet_rules.specs.declared.Side.TheVariants.{Out, In}
use Rattle.fleet_rules.specs.Sides.{own_at, side_byte, cheapest, side_better}

pub side_is : (side : Side) (t : Table) (p : ℕ) (r : List ℕ) (i : ℕ) → i < t.links → side_byte side (own t p r) i ≡ cond (touches t p i) (item r (own_at side t p i)) 0
side_is Out = out_is
side_is In = in_is

-- the code's test of a link against the best so far
module _ (t : Table) (order : RisingLinks t) (side : Side) (k b : ℕ) (l : k < t.links) where
  abbrev by_side : Bool
  by_side = cond (cheapest side) (dearer_by_place t.cost b k) (dearer_by_place t.cost k b)

  better_is : b < t.links → side_better side t k b ≡ by_side
  better_is m = go side
    where
      go : (s : Side) → side_better s t k b ≡ cond (cheapest s) (dearer_by_place t.cost b k) (dearer_by_place t.cost k b)
      go Out = dearer_by_place_lem t order k b l m
      go In = dearer_by_place_lem t order b k m l

  pub side_before : (leb t.links b || by_side) ≡ true → b < k → side_better side t k b ≡ true
  side_before e m =
      let below : b < t.links = omega arith in
      better_is below ∙ (rw (lt-leb t.links b below) at e)

  pub side_behind : (leb t.links b || by_side) ≡ false → (b < t.links) × (side_better side t k b ≡ false)
  side_behind e =
      let below : b < t.links = leb-false t.links b (or_false_left (leb t.links b) by_side e) in
      (below, better_is below ∙ or_false_right (leb t.links b) by_side e)
