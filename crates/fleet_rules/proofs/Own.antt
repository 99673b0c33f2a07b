-- Where a probe's own bytes and their marks stand, and how a wipe goes from each of its links to the next.
use Prim.Native.Nat.{ℕ, zero, suc, ◌+◌, ◌*◌, ◌/◌, ◌-◌, ◌≤◌, ◌<◌}
use mathlib.Core.Path.{◌≡◌, refl, ◌∙◌, ap}
use mathlib.Core.Bool.{Bool, true, false, cond}
use mathlib.Core.List.{List}
use native.Mathlib.Omega.{arith}
use lib.Dec.{eqb}
use lib.ListN.{set}
use Rattle.table.specs.Table.{Table, touches}
use Rattle.table_links.proofs.Own.{Next}
use Rattle.fleet_theory.specs.Fleet.{out_at, in_at, wiped_to}
use Rattle.fleet_rules.specs.declared.Side.{Side}
use Rattle.fleet_rules.specs.declared.Side.TheVariants.{Out, In}
use Rattle.fleet_rules.specs.Sides.{own_at}

-- within the record
pub mark_below : (side : Side) (t : Table) (p i n : ℕ) → i < n / 8 → own_at side t p i + 4 < n
mark_below Out t p i n l = go (eqb p (t.low i))
  where
    go : (b : Bool) → cond b (8 * i) (8 * i + 2) + 4 < n
    go true = omega arith
    go false = omega arith
mark_below In t p i n l = go (eqb p (t.low i))
  where
    go : (b : Bool) → cond b (8 * i + 3) (8 * i + 1) + 4 < n
    go true = omega arith
    go false = omega arith

pub byte_below : (side : Side) (t : Table) (p i n : ℕ) → i < n / 8 → own_at side t p i < n
byte_below side t p i n l = let a = mark_below side t p i n l in omega arith

module _ (t : Table) (p : ℕ) (r : List ℕ) where
  pub wiped_none : wiped_to t p 0 r ≡ r
  unfolding wiped_to
  wiped_none = refl

  -- n links of other probes from i on
  wiped_on : (i n : ℕ) → ((j : ℕ) → i ≤ j → j < i + n → touches t p j ≡ false) → wiped_to t p i r ≡ wiped_to t p (i + n) r
  unfolding wiped_to
  wiped_on i zero e = let same : i ≡ i + 0 = omega arith in ap (λ (k : ℕ). wiped_to t p k r) same
  wiped_on i (suc n) e =
      let next : suc (i + n) ≡ i + suc n = omega arith in
      wiped_on i n (λ j l m. e j l (omega arith)) ∙ one ∙ ap (λ (k : ℕ). wiped_to t p k r) next
    where
      one : wiped_to t p (i + n) r ≡ wiped_to t p (suc (i + n)) r
      one = rw (e (i + n) (omega arith) (omega arith))

  -- up to the next own link
  pub wiped_skip : (i k : ℕ) (l : i ≤ t.links) → Next t p i l k → wiped_to t p i r ≡ wiped_to t p k r
  wiped_skip i k l n =
      let b = n.behind in
      let same : i + (k - i) ≡ k = omega arith in
      wiped_on i (k - i) (λ j m q. n.before j m (omega arith)) ∙ ap (λ (x : ℕ). wiped_to t p x r) same

  -- an own link
  pub wiped_next : (i : ℕ) → touches t p i ≡ true → set (set (wiped_to t p i r) (out_at t p i) 0) (in_at t p i) 0 ≡ wiped_to t p (i + 1) r
  unfolding wiped_to
  wiped_next i e = let next : suc i ≡ i + 1 = omega arith in one ∙ ap (λ (k : ℕ). wiped_to t p k r) next
    where
      one : set (set (wiped_to t p i r) (out_at t p i) 0) (in_at t p i) 0 ≡ wiped_to t p (suc i) r
      one = rw e
