-- Sets compared by their counts, and a search.
use Prim.Native.Nat.{ℕ, zero, suc, ◌+◌, ◌*◌, ◌≤◌, ◌<◌}
use mathlib.Core.Path.{◌≡◌, refl, sym, ◌∙◌}
use mathlib.Core.Logic.{◌⊎◌, inl, inr}
use mathlib.Core.Bool.{Bool, true, false, cond, ◌&&◌, not, true≢false, and-false}
use native.Mathlib.Omega.{arith}
use native.Mathlib.Decide.{ℕ_discrete}
use lib.Dec.{eqb}
use borrow.Author.Tests.{eq-eqb, ne_eqb}
use Rattle.range.specs.Sum.{sum, count}
use Rattle.range.proofs.Bools.{and_left, and_intro, decided}
use Rattle.range.proofs.Sums.{sum_le, sum_add, sum_one, count_less}

-- terms of at most b
pub sum_most : (n : ℕ) (f : ℕ → ℕ) (b : ℕ) → ((i : ℕ) → i < n → f i ≤ b) → sum n f ≤ b * n
unfolding sum
sum_most zero f b h = omega arith
sum_most (suc n) f b h =
    let a = sum_most n f b (λ i l. h i (omega arith)) in
    let c = h n (omega arith) in
    omega arith

-- a larger set has a member that the smaller has not
pub member_outside : (n : ℕ) (p q : ℕ → Bool) → count n p < count n q → (i : ℕ) × (i < n) × (q i ≡ true) × (p i ≡ false)
unfolding sum
member_outside zero p q l = absurd (omega arith)
member_outside (suc n) p q l = here (member_outside n p q) (decided (q n)) (decided (p n))
  where
    here : (count n p < count n q → (i : ℕ) × (i < n) × (q i ≡ true) × (p i ≡ false)) → (q n ≡ true) ⊎ (q n ≡ false) → (p n ≡ true) ⊎ (p n ≡ false)
        → (i : ℕ) × (i < suc n) × (q i ≡ true) × (p i ≡ false)
    here below (inl a) (inr b) = (n, omega arith, a, b)
    here below (inl a) (inl b) =
        let k = rw (a, b) at l in
        let m = below (omega arith) in
        (m.0, omega (arith, m.1), m.2, m.3)
    here below (inr a) (inl b) =
        let k = rw (a, b) at l in
        let m = below (omega arith) in
        (m.0, omega (arith, m.1), m.2, m.3)
    here below (inr a) (inr b) =
        let k = rw (a, b) at l in
        let m = below (omega arith) in
        (m.0, omega (arith, m.1), m.2, m.3)

-- a set without its member a
without : (n : ℕ) (p : ℕ → Bool) (a : ℕ) → a < n → p a ≡ true → count n (λ i. p i && not (eqb i a)) < count n p
without n p a l e =
    count_less n (λ i. p i && not (eqb i a)) p a (λ i k. and_left (p i) (not (eqb i a))) l (rw (eq-eqb a a refl) (and-false (p a))) e

-- a set no smaller, without the member a, has another
pub other_outside : (n : ℕ) (p q : ℕ → Bool) (a : ℕ) → count n p ≤ count n q → a < n → p a ≡ true → q a ≡ false
    → (i : ℕ) × (i < n) × (q i ≡ true) × (p i ≡ false)
other_outside n p q a few l into out =
    let less = without n p a l into in
    let m = member_outside n (λ i. p i && not (eqb i a)) q (omega arith) in
    (m.0, m.1, m.2, go m.0 m.2 m.3 (ℕ_discrete m.0 a) (decided (p m.0)))
  where
    go : (i : ℕ) → q i ≡ true → (p i && not (eqb i a)) ≡ false → Dec (i ≡ a) → (p i ≡ true) ⊎ (p i ≡ false) → p i ≡ false
    go i e f (yes s) d = absurd (true≢false (sym (rw s at e) ∙ out))
    go i e f (no s) (inl d) = absurd (true≢false (sym (and_intro d (rw (ne_eqb i a s))) ∙ f))
    go i e f (no s) (inr d) = d

-- all members but a are in q
pub count_except : (n : ℕ) (p q : ℕ → Bool) (a : ℕ) → a < n → ((i : ℕ) → i < n → (i ≡ a → ⊥) → p i ≡ true → q i ≡ true) → count n p ≤ suc (count n q)
count_except n p q a l h =
    let x = sum_le n (λ i. cond (p i) 1 0) (λ i. cond (q i) 1 0 + cond (eqb i a) 1 0) (λ i k. part i k (ℕ_discrete i a) (decided (p i))) in
    let y = sum_add n (λ i. cond (q i) 1 0) (λ i. cond (eqb i a) 1 0) in
    let z = sum_one n (λ i. 1) a l in
    omega arith
  where
    part : (i : ℕ) → i < n → Dec (i ≡ a) → (p i ≡ true) ⊎ (p i ≡ false) → cond (p i) 1 0 ≤ cond (q i) 1 0 + cond (eqb i a) 1 0
    part i k d (inr f) = rw f (omega arith)
    part i k (yes e) (inl f) = rw (f, eq-eqb i a e) (omega arith)
    part i k (no d) (inl f) = rw (f, h i k d f) (omega arith)

-- the member a goes, for the member c
pub count_swap : (n : ℕ) (p q : ℕ → Bool) (a c : ℕ) → a < n → c < n → ((i : ℕ) → i < n → (i ≡ a → ⊥) → p i ≡ true → q i ≡ true) → p c ≡ false → q c ≡ true
    → count n p ≤ count n q
count_swap n p q a c la lc h out into =
    let less = without n q c lc into in
    let few = count_except n p (λ i. q i && not (eqb i c)) a la (λ i k d e. and_intro (h i k d e) (rw (ne_eqb i c (λ s. true≢false (sym (rw s at e) ∙ out))))) in
    omega arith

-- L, or Q at each i < n
pub or_each : (n : ℕ) (L : Type 0) (Q : ℕ → Type 0) → ((i : ℕ) → i < n → L ⊎ Q i) → L ⊎ ((i : ℕ) → i < n → Q i)
or_each zero L Q h = inr (λ i l. absurd (omega arith))
or_each (suc n) L Q h = go (or_each n L Q (λ i l. h i (omega arith))) (h n (omega arith))
  where
    go : L ⊎ ((i : ℕ) → i < n → Q i) → L ⊎ Q n → L ⊎ ((i : ℕ) → i < suc n → Q i)
    go (inl a) b = inl a
    go (inr a) (inl b) = inl b
    go (inr a) (inr b) = inr (λ i l. here i l (ℕ_discrete i n))
      where
        here : (i : ℕ) → i < suc n → Dec (i ≡ n) → Q i
        here i l (yes e) = rw e b
        here i l (no d) = a i (omega arith)
