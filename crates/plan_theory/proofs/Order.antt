-- The order of a legal table's links: `dearer` is strict and total, by the cost and then by the place in the table.
use Prim.Native.Nat.{ℕ, ◌<◌}
use mathlib.Core.Path.{◌≡◌, sym, ◌∙◌}
use mathlib.Core.Logic.{◌⊎◌, inl, inr}
use mathlib.Core.Bool.{Bool, true, false, ◌&&◌, ◌||◌, and-false}
use native.Mathlib.Omega.{arith}
use native.Mathlib.Decide.{dec_lt}
use lib.Dec.{ltb, eqb}
use borrow.Author.Tests.{ltb-true, eqb-true, lt-ltb, le-ltb, eq-eqb, ne_eqb}
use Rattle.range.proofs.Bools.{and_left, and_right, and_intro, or_intro_right, or_cases, decided}
use Rattle.table.specs.Table.{Table, dearer}
use Rattle.plan_theory.proofs.Places.{Order}
use Rattle.table.specs.Legal.{RisingLinks, After}

-- dearer, as numbers
abbrev pub Dear : Table → ℕ → ℕ → Type 0
Dear t i j = (t.cost j < t.cost i) ⊎ ((t.cost i ≡ t.cost j) × (j < i))

module _ (t : Table) (r : RisingLinks t) where
  -- the later of two links has the larger low end, or the same and the larger high end
  by_place : (i j : ℕ) → i < t.links → j < t.links
      → (ltb (t.low j) (t.low i) || (eqb (t.low i) (t.low j) && ltb (t.high j) (t.high i))) ≡ ltb j i
  by_place i j li lj = go (dec_lt j i) (dec_lt i j)
    where
      after : After t j i → (ltb (t.low j) (t.low i) || (eqb (t.low i) (t.low j) && ltb (t.high j) (t.high i))) ≡ true
      after (inl a) = rw (lt-ltb (t.low j) (t.low i) a)
      after (inr a) =
          or_intro_right (ltb (t.low j) (t.low i)) (eqb (t.low i) (t.low j) && ltb (t.high j) (t.high i))
          (and_intro (eq-eqb (t.low i) (t.low j) (sym a.0)) (lt-ltb (t.high j) (t.high i) a.1))

      before : After t i j → (ltb (t.low j) (t.low i) || (eqb (t.low i) (t.low j) && ltb (t.high j) (t.high i))) ≡ false
      before (inl a) = rw (le-ltb (t.low j) (t.low i) (omega arith), ne_eqb (t.low i) (t.low j) (λ e. omega arith))
      before (inr a) =
          rw (le-ltb (t.low j) (t.low i) (omega arith), eq-eqb (t.low i) (t.low j) a.0, le-ltb (t.high j) (t.high i) (omega arith))

      go : Dec (j < i) → Dec (i < j) → (ltb (t.low j) (t.low i) || (eqb (t.low i) (t.low j) && ltb (t.high j) (t.high i))) ≡ ltb j i
      go (yes a) b = rw (lt-ltb j i a) (after (r.rising j i a li))
      go (no a) (yes b) = rw (le-ltb j i (omega arith)) (before (r.rising i j b lj))
      go (no a) (no b) =
          let e : i ≡ j = omega arith in
          rw (e, le-ltb j j (omega arith), le-ltb (t.low j) (t.low j) (omega arith), le-ltb (t.high j) (t.high j) (omega arith))
          (and-false (eqb (t.low j) (t.low j)))

  -- at equal cost the link with the larger place in the table is dearer
  pub dearer_by_place_lem : (i j : ℕ) → i < t.links → j < t.links
      → dearer t i j ≡ (ltb (t.cost j) (t.cost i) || (eqb (t.cost i) (t.cost j) && ltb j i))
  unfolding dearer
  dearer_by_place_lem i j li lj = rw (by_place i j li lj)

  pub dear : (i j : ℕ) → i < t.links → j < t.links → dearer t i j ≡ true → Dear t i j
  dear i j li lj e = go (or_cases more (same && ltb j i) (sym (dearer_by_place_lem i j li lj) ∙ e))
    where
      more : Bool
      more = ltb (t.cost j) (t.cost i)

      same : Bool
      same = eqb (t.cost i) (t.cost j)

      go : (more ≡ true) ⊎ ((same && ltb j i) ≡ true) → Dear t i j
      go (inl a) = inl (ltb-true (t.cost j) (t.cost i) a)
      go (inr a) = inr (eqb-true (t.cost i) (t.cost j) (and_left same (ltb j i) a), ltb-true j i (and_right same (ltb j i) a))

  pub on_dear : (i j : ℕ) → i < t.links → j < t.links → Dear t i j → dearer t i j ≡ true
  on_dear i j li lj d = dearer_by_place_lem i j li lj ∙ go d
    where
      go : Dear t i j → (ltb (t.cost j) (t.cost i) || (eqb (t.cost i) (t.cost j) && ltb j i)) ≡ true
      go (inl a) = rw (lt-ltb (t.cost j) (t.cost i) a)
      go (inr a) =
          or_intro_right (ltb (t.cost j) (t.cost i)) (eqb (t.cost i) (t.cost j) && ltb j i)
          (and_intro (eq-eqb (t.cost i) (t.cost j) a.0) (lt-ltb j i a.1))

  pub dearer_order : Order t.links (dearer t)
  dearer_order =
      record {
        irreflexive = λ i l. not_dear i l (decided (dearer t i i));
        transitive = λ i j k li lj lk e f. on_dear i k li lk (dear_dear i j k (dear i j li lj e) (dear j k lj lk f));
        total = λ i j li lj n. either i j li lj n (dec_lt (t.cost i) (t.cost j)) (dec_lt (t.cost j) (t.cost i)) (dec_lt i j);
      }
    where
      not_dear : (i : ℕ) → i < t.links → (dearer t i i ≡ true) ⊎ (dearer t i i ≡ false) → dearer t i i ≡ false
      not_dear i l (inl e) = absurd (go (dear i i l l e))
        where
          go : Dear t i i → ⊥
          go (inl a) = omega arith
          go (inr a) = omega arith
      not_dear i l (inr e) = e

      dear_dear : (i j k : ℕ) → Dear t i j → Dear t j k → Dear t i k
      dear_dear i j k (inl a) (inl b) = inl (omega arith)
      dear_dear i j k (inl a) (inr b) = inl (omega arith)
      dear_dear i j k (inr a) (inl b) = inl (omega arith)
      dear_dear i j k (inr a) (inr b) = inr (omega arith)

      either : (i j : ℕ) → i < t.links → j < t.links → (i ≡ j → ⊥) → Dec (t.cost i < t.cost j) → Dec (t.cost j < t.cost i) → Dec (i < j)
          → (dearer t i j ≡ true) ⊎ (dearer t j i ≡ true)
      either i j li lj n (yes a) b c = inr (on_dear j i lj li (inl a))
      either i j li lj n (no a) (yes b) c = inl (on_dear i j li lj (inl b))
      either i j li lj n (no a) (no b) (yes c) = inr (on_dear j i lj li (inr (omega arith)))
      either i j li lj n (no a) (no b) (no c) = inl (on_dear i j li lj (inr (omega arith)))
