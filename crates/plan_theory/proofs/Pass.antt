-- A pass: what it decides, that nothing else decides so, and what one step does.
use Prim.Native.Nat.{ℕ, zero, suc, ◌+◌, ◌≤◌, ◌<◌}
use mathlib.Core.Path.{◌≡◌, refl, sym, ◌∙◌, ap}
use mathlib.Core.Logic.{◌⊎◌, inl, inr}
use mathlib.Core.Bool.{Bool, true, false, cond, ◌&&◌}
use native.Mathlib.Omega.{arith}
use native.Mathlib.Numerals.{add-one}
use native.Mathlib.Decide.{ℕ_discrete}
use lib.Dec.{eqb}
use borrow.Author.Tests.{eq-eqb, ne_eqb}
use Rattle.range.proofs.Bools.{decided}
use Rattle.plan_theory.specs.Pass.{place, pass_after, pass}
use Rattle.plan_theory.proofs.Places.{Order, place_lt, place_ge, place_below, place_inj}

-- a test that depends only on the set's members below m
abbrev pub OnlyBelow : ℕ → ((ℕ → Bool) → ℕ → Bool) → Type 0
OnlyBelow m test = (r s : ℕ → Bool) → ((g : ℕ) → g < m → r g ≡ s g) → (i : ℕ) → test r i ≡ test s i

-- i is in r exactly when the test over the members of r before i passes
abbrev pub Solves : ℕ → (ℕ → ℕ → Bool) → ((ℕ → Bool) → ℕ → Bool) → (ℕ → Bool) → Type 0
Solves m before test r = (i : ℕ) → i < m → r i ≡ test (λ g. before g i && r g) i

module _ (m : ℕ) (before : ℕ → ℕ → Bool) (o : Order m before) (test : (ℕ → Bool) → ℕ → Bool) where
  -- before its step a number is out
  pub early : (k i : ℕ) → k ≤ place m before i → pass_after m before test k i ≡ false
  unfolding pass_after
  early zero i l = refl
  early (suc k) i l = rw (ne_eqb (place m before i) k (λ e. omega arith)) (early k i (omega arith))

  -- after its step it is as decided then
  late : (k i : ℕ) → place m before i < k → pass_after m before test k i ≡ test (pass_after m before test (place m before i)) i
  unfolding pass_after
  late zero i l = absurd (omega arith)
  late (suc k) i l = go (late k i) (ℕ_discrete (place m before i) k)
    where
      go : (place m before i < k → pass_after m before test k i ≡ test (pass_after m before test (place m before i)) i) → Dec (place m before i ≡ k)
          → cond (eqb (place m before i) k) (test (pass_after m before test k) i) (pass_after m before test k i) ≡ test (pass_after m before test (place m before i)) i
      go old (yes e) = rw (eq-eqb (place m before i) k e) (ap (λ n. test (pass_after m before test n) i) (sym e))
      go old (no e) = rw (ne_eqb (place m before i) k e) (old (omega arith))

  -- what one turn of a loop does: i, in place k, is decided, and no other changes
  pub pass_step : (k i : ℕ) → i < m → place m before i ≡ k → (j : ℕ) → j < m
      → pass_after m before test (k + 1) j ≡ cond (eqb j i) (test (pass_after m before test k) i) (pass_after m before test k j)
  unfolding pass_after
  pass_step k i li e j lj = rw (add-one k) (go (ℕ_discrete j i))
    where
      go : Dec (j ≡ i) → cond (eqb (place m before j) k) (test (pass_after m before test k) j) (pass_after m before test k j)
          ≡ cond (eqb j i) (test (pass_after m before test k) i) (pass_after m before test k j)
      go (yes q) = rw (q, eq-eqb (place m before i) k e, eq-eqb i i refl)
      go (no n) = rw (ne_eqb (place m before j) k (λ f. n (place_inj m before o j i lj li (f ∙ sym e))), ne_eqb j i n)

module _ (m : ℕ) (before : ℕ → ℕ → Bool) (o : Order m before) (test : (ℕ → Bool) → ℕ → Bool) (below : OnlyBelow m test) where
  pub criterion : Solves m before test (pass m before test)
  criterion i l =
      late m before o test m i (place_below m before o i l)
      ∙ below (pass_after m before test (place m before i)) (λ g. before g i && pass m before test g) (λ g k. go g k (decided (before g i))) i
    where
      go : (g : ℕ) → g < m → (before g i ≡ true) ⊎ (before g i ≡ false)
          → pass_after m before test (place m before i) g ≡ (before g i && pass m before test g)
      go g k (inl e) = rw e (late m before o test (place m before i) g (place_lt m before o g i k l e) ∙ sym (late m before o test m g (place_below m before o g k)))
      go g k (inr e) = rw e (early m before o test (place m before i) g (place_ge m before o g i k l e))

  pub only_pass : (r : ℕ → Bool) → Solves m before test r → (i : ℕ) → i < m → r i ≡ pass m before test i
  only_pass r d i l = go (suc (place m before i)) i l (omega arith)
    where
      agree : (i : ℕ) → i < m → ((g : ℕ) → g < m → before g i ≡ true → r g ≡ pass m before test g) → r i ≡ pass m before test i
      agree i l h =
          d i l
          ∙ below (λ g. before g i && r g) (λ g. before g i && pass m before test g) (λ g k. at g k (decided (before g i))) i
          ∙ sym (criterion i l)
        where
          at : (g : ℕ) → g < m → (before g i ≡ true) ⊎ (before g i ≡ false) → (before g i && r g) ≡ (before g i && pass m before test g)
          at g k (inl e) = rw e (h g k e)
          at g k (inr e) = rw e

      go : (b i : ℕ) → i < m → place m before i < b → r i ≡ pass m before test i
      go zero i l s = absurd (omega arith)
      go (suc b) i l s = agree i l (λ g k e. let a = place_lt m before o g i k l e in go b g k (omega arith))
