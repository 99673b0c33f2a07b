-- Frames of a legal table: the link between two probes, and numbers that fit a frame's line.
use Prim.Native.Nat.{ℕ, ◌≤◌, ◌<◌}
use mathlib.Core.Path.{◌≡◌, refl, sym}
use mathlib.Core.Logic.{◌⊎◌, inl, inr}
use mathlib.Core.Bool.{true, false, ◌&&◌}
use native.Mathlib.Omega.{arith}
use native.Mathlib.Decide.{dec_lt}
use lib.Dec.{eqb}
use borrow.Author.Tests.{eqb-true, eq-eqb}
use Rattle.range.proofs.Bools.{and_left, and_right, or_intro_right, or_cases, decided}
use Rattle.range.proofs.Choice.{lowest_is, is_lowest}
use Rattle.table.specs.Table.{Table, touches, other, joins, between}
use Rattle.table.specs.Legal.{Legal, After, LegalTable}
use Rattle.table.proofs.LegalLaws.{legal_table}
use Rattle.plan_theory.specs.Criterion.{Across, up, down}
use Rattle.probe_frame.proofs.Laws.{Writable}

pub joins_across : (t : Table) (a b i : ℕ) → joins t a b i ≡ true → Across t i a b
joins_across t a b i e = go (or_cases (eqb a (t.low i) && eqb b (t.high i)) (eqb b (t.low i) && eqb a (t.high i)) e)
  where
    go : ((eqb a (t.low i) && eqb b (t.high i)) ≡ true) ⊎ ((eqb b (t.low i) && eqb a (t.high i)) ≡ true) → Across t i a b
    go (inl q) =
        rw (eqb-true a (t.low i) (and_left (eqb a (t.low i)) (eqb b (t.high i)) q), eqb-true b (t.high i) (and_right (eqb a (t.low i)) (eqb b (t.high i)) q))
        up
    go (inr q) =
        rw (eqb-true b (t.low i) (and_left (eqb b (t.low i)) (eqb a (t.high i)) q), eqb-true a (t.high i) (and_right (eqb b (t.low i)) (eqb a (t.high i)) q))
        down

pub across_joins : {t : Table} {i a b : ℕ} → Across t i a b → joins t a b i ≡ true
across_joins {t} {i} up = rw (eq-eqb (t.low i) (t.low i) refl, eq-eqb (t.high i) (t.high i) refl)
across_joins {t} {i} down =
    or_intro_right (eqb (t.high i) (t.low i) && eqb (t.low i) (t.high i)) (eqb (t.low i) (t.low i) && eqb (t.high i) (t.high i))
    (rw (eq-eqb (t.low i) (t.low i) refl, eq-eqb (t.high i) (t.high i) refl))

pub other_across : (t : Table) (p i : ℕ) → touches t p i ≡ true → Across t i p (other t p i)
other_across t p i e = go (decided (eqb p (t.low i)))
  where
    go : (eqb p (t.low i) ≡ true) ⊎ (eqb p (t.low i) ≡ false) → Across t i p (other t p i)
    go (inl a) = rw a (rw (eqb-true p (t.low i) a) up)
    go (inr a) = rw a (rw (eqb-true p (t.high i) (rw a at e)) down)

pub between_across : (t : Table) (a b : ℕ) → between t a b < t.links → Across t (between t a b) a b
between_across t a b l = joins_across t a b (between t a b) ((lowest_is (joins t a b) t.links).inside l)

-- the ends of a link that goes from one probe to another
abbrev Ways : Table → ℕ → ℕ → ℕ → Type 0
Ways t i p w = ((p ≡ t.low i) × (w ≡ t.high i)) ⊎ ((p ≡ t.high i) × (w ≡ t.low i))

ways : {t : Table} {i p w : ℕ} → Across t i p w → Ways t i p w
ways up = inl (refl, refl)
ways down = inr (refl, refl)

module _ (t : Table) (legal : Legal t) where
  abbrev good : LegalTable 256 2048 t
  good = legal_table 256 2048 t legal

  one_place : (i j : ℕ) → i < t.links → j < t.links → t.low i ≡ t.low j → t.high i ≡ t.high j → i ≡ j
  one_place i j li lj a b = go (dec_lt i j) (dec_lt j i)
    where
      apart : (g k : ℕ) → After t g k → t.low g ≡ t.low k → t.high g ≡ t.high k → ⊥
      apart g k (inl x) d e = omega arith
      apart g k (inr x) d e = omega arith

      go : Dec (i < j) → Dec (j < i) → i ≡ j
      go (yes k) d = absurd (apart i j (good.order.rising i j k lj) a b)
      go (no k) (yes m) = absurd (apart j i (good.order.rising j i m li) (sym a) (sym b))
      go (no k) (no m) = omega arith

  -- two probes share at most one link
  pub one_link : (i j p w : ℕ) → i < t.links → j < t.links → Across t i p w → Across t j p w → i ≡ j
  one_link i j p w li lj a b = go (ways a) (ways b)
    where
      rise : (k : ℕ) → k < t.links → t.low k < t.high k
      rise k l = (good.ends k l).rises

      go : Ways t i p w → Ways t j p w → i ≡ j
      go (inl x) (inl y) = one_place i j li lj (omega arith) (omega arith)
      go (inl x) (inr y) = let m = rise i li in let n = rise j lj in absurd (omega arith)
      go (inr x) (inl y) = let m = rise i li in let n = rise j lj in absurd (omega arith)
      go (inr x) (inr y) = one_place i j li lj (omega arith) (omega arith)

  pub between_is : (i p w : ℕ) → i < t.links → Across t i p w → between t p w ≡ i
  between_is i p w l a =
      sym (is_lowest (joins t p w) t.links i record {
        within = omega arith;
        inside = λ k. across_joins a;
        before = λ j k. go j k (decided (joins t p w j));
      })
    where
      go : (j : ℕ) → j < i → (joins t p w j ≡ true) ⊎ (joins t p w j ≡ false) → joins t p w j ≡ false
      go j k (inl e) = let o = one_link i j p w l (omega arith) a (joins_across t p w j e) in absurd (omega arith)
      go j k (inr e) = e

  -- a link's ends are probes of the table
  pub ends_below_lem : (i p w : ℕ) → i < t.links → Across t i p w → (p < t.probes) × (w < t.probes)
  ends_below_lem i p w l x = go (ways x)
    where
      go : Ways t i p w → (p < t.probes) × (w < t.probes)
      go (inl y) = let e = good.ends i l in let r = e.rises in let b = e.below in (omega arith, omega arith)
      go (inr y) = let e = good.ends i l in let r = e.rises in let b = e.below in (omega arith, omega arith)

  few : t.probes ≤ 256
  few = good.size.few

  pub writable : t.number < 65536 → (kind p w : ℕ) → kind < 3 → p < t.probes → w < t.probes
      → Writable (record { kind = kind; number = t.number; from = p; to = w })
  writable digits kind p w k a b =
      let n = few in
      record { kind = omega arith; number = digits; from = omega arith; to = omega arith }
