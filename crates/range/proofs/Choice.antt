-- Laws of choosing one number out of a set.
use Prim.Native.Nat.{ℕ, zero, suc, ◌+◌, ◌≤◌, ◌<◌}
use mathlib.Core.Path.{◌≡◌, refl, sym, ◌∙◌}
use mathlib.Core.Logic.{◌⊎◌, inl, inr}
use mathlib.Core.Bool.{Bool, true, false, cond, ◌||◌, true≢false}
use native.Mathlib.Numerals.{add-one}
use native.Mathlib.Omega.{arith}
use native.Mathlib.Decide.{ℕ_discrete, dec_lt}
use lib.Dec.{eqb}
use borrow.Author.Tests.{eq-eqb, ne_eqb}
use Rattle.range.specs.Choice.{lowest, best}
use Rattle.range.proofs.Bools.{decided}

-- the lowest is at most n, is in the set where it is below n, and none below it is
pub record Lowest (p : ℕ → Bool) (n k : ℕ) : Type 0 where
  pub within : k ≤ n
  pub inside : k < n → p k ≡ true
  pub before : (j : ℕ) → j < k → p j ≡ false

pub lowest_is : (p : ℕ → Bool) (n : ℕ) → Lowest p n (lowest p n)
unfolding lowest
lowest_is p zero = record { within = omega arith; inside = λ l. absurd (omega arith); before = λ j l. absurd (omega arith) }
lowest_is p (suc n) = go (p 0) refl (lowest_is (λ i. p (suc i)) n)
  where
    go : (b : Bool) → p 0 ≡ b → Lowest (λ i. p (suc i)) n (lowest (λ i. p (suc i)) n)
        → Lowest p (suc n) (cond b 0 (suc (lowest (λ i. p (suc i)) n)))
    go true e h = record { within = omega arith; inside = λ l. e; before = λ j l. absurd (omega arith) }
    go false e h =
        let w = h.within in
        record { within = omega arith; inside = λ l. h.inside (omega arith); before = behind }
      where
        behind : (j : ℕ) → j < suc (lowest (λ i. p (suc i)) n) → p j ≡ false
        behind zero l = e
        behind (suc j) l = h.before j (omega arith)

-- one that is in the set with none before it is the lowest
pub is_lowest : (p : ℕ → Bool) (n k : ℕ) → Lowest p n k → k ≡ lowest p n
is_lowest p n k h = go (lowest_is p n) (ℕ_discrete k (lowest p n)) (dec_lt k (lowest p n))
  where
    go : Lowest p n (lowest p n) → Dec (k ≡ lowest p n) → Dec (k < lowest p n) → k ≡ lowest p n
    go m (yes e) d = e
    go m (no e) (yes l) =
        let w = m.within in
        absurd (true≢false (sym (h.inside (omega arith)) ∙ m.before k l))
    go m (no e) (no l) =
        let w = h.within in
        let s : lowest p n < k = omega arith in
        absurd (true≢false (sym (m.inside (omega arith)) ∙ h.before (lowest p n) s))

module _ (better : ℕ → ℕ → Bool) (p : ℕ → Bool) (n₀ : ℕ) where
  best_skip : (n : ℕ) → p n ≡ false → best better p n₀ (n + 1) ≡ best better p n₀ n
  unfolding best
  best_skip n e = rw (add-one n, e)

  best_first : (n : ℕ) → p n ≡ true → best better p n₀ n ≡ n₀ → best better p n₀ (n + 1) ≡ n
  unfolding best
  best_first n e f = rw (add-one n, e, f, eq-eqb n₀ n₀ refl)

  best_more : (n : ℕ) → p n ≡ true → better n (best better p n₀ n) ≡ true → best better p n₀ (n + 1) ≡ n
  unfolding best
  best_more n e f = rw (add-one n, e, f) (go (eqb (best better p n₀ n) n₀))
    where
      go : (b : Bool) → cond (b || true) n (best better p n₀ n) ≡ n
      go true = refl
      go false = refl

  best_stays : (n : ℕ) → p n ≡ true → (best better p n₀ n ≡ n₀ → ⊥) → better n (best better p n₀ n) ≡ false
      → best better p n₀ (n + 1) ≡ best better p n₀ n
  unfolding best
  best_stays n e m f = rw (add-one n, e, f, ne_eqb (best better p n₀ n) n₀ m)

  -- what a search that goes up has found among the first n
  pub record Found (n b : ℕ) : Type 0 where
    pub is : b ≡ best better p n₀ n
    pub within : b < n₀ → b < n
    pub most : b ≤ n₀

  pub found_start : Found 0 n₀
  unfolding best
  found_start = record { is = refl; within = λ l. absurd (omega arith); most = omega arith }

  pub found_skip : (n b : ℕ) → p n ≡ false → Found n b → Found (n + 1) b
  found_skip n b e f = record { is = f.is ∙ sym (best_skip n e); within = λ l. let w = f.within l in omega arith; most = f.most }

  pub found_new : (n b : ℕ) → n < n₀ → p n ≡ true → (b < n → better n b ≡ true) → Found n b → Found (n + 1) n
  found_new n b l e h f = record { is = go (dec_lt b n₀); within = λ k. omega arith; most = omega arith }
    where
      go : Dec (b < n₀) → n ≡ best better p n₀ (n + 1)
      go (yes k) = sym (best_more n e (rw (← f.is) (h (f.within k))))
      go (no k) = sym (best_first n e (sym f.is ∙ (let m = f.most in omega arith)))

  pub found_old : (n b : ℕ) → p n ≡ true → b < n₀ → better n b ≡ false → Found n b → Found (n + 1) b
  found_old n b e k h f =
      record {
        is = f.is ∙ sym (best_stays n e (λ q. let i = f.is in omega arith) (rw (← f.is) h));
        within = λ l. let w = f.within l in omega arith;
        most = f.most;
      }

  -- what was found among the first n: none is in the set, or it is the best of them
  pub data Best (n b : ℕ) : Type 0 where
    nobody : b ≡ n₀ → ((i : ℕ) → i < n → p i ≡ false) → Best n b
    chosen : b < n → p b ≡ true → ((i : ℕ) → i < n → p i ≡ true → better i b ≡ false) → Best n b

  -- with a strict order below n₀
  module _ (irreflexive : (i : ℕ) → i < n₀ → better i i ≡ false)
      (transitive : (i j k : ℕ) → i < n₀ → j < n₀ → k < n₀ → better i j ≡ true → better j k ≡ true → better i k ≡ true) where
    pub best_is : (n : ℕ) → n ≤ n₀ → Best n (best better p n₀ n)
    unfolding best
    best_is zero l = nobody refl (λ i k. absurd (omega arith))
    best_is (suc n) l = step (best better p n₀ n) (best_is n (omega arith)) (decided (p n))
      where
        none_yet : (b : ℕ) → b ≡ n₀ → cond (eqb b n₀ || better n b) n b ≡ n
        none_yet b e = rw (eq-eqb b n₀ e)

        one : (b : ℕ) → b < n → cond (eqb b n₀ || better n b) n b ≡ cond (better n b) n b
        one b k = rw (ne_eqb b n₀ (omega arith))

        past : (b : ℕ) → (i : ℕ) → i < suc n → p n ≡ false → ((j : ℕ) → j < n → p j ≡ true → better j b ≡ false) → p i ≡ true → better i b ≡ false
        past b i k e h f = go (ℕ_discrete i n)
          where
            go : Dec (i ≡ n) → better i b ≡ false
            go (yes q) = absurd (true≢false (sym f ∙ rw q e))
            go (no q) = h i (omega arith) f

        new : (b : ℕ) → b < n → better n b ≡ true → ((j : ℕ) → j < n → p j ≡ true → better j b ≡ false) → (i : ℕ) → i < suc n → p i ≡ true → better i n ≡ false
        new b k e h i m f = go (ℕ_discrete i n) (decided (better i n))
          where
            go : Dec (i ≡ n) → (better i n ≡ true) ⊎ (better i n ≡ false) → better i n ≡ false
            go (yes q) d = rw q (irreflexive n (omega arith))
            go (no q) (inl a) = absurd (true≢false (sym (transitive i n b (omega arith) (omega arith) (omega arith) a e) ∙ h i (omega arith) f))
            go (no q) (inr a) = a

        old : (b : ℕ) → better n b ≡ false → ((j : ℕ) → j < n → p j ≡ true → better j b ≡ false) → (i : ℕ) → i < suc n → p i ≡ true → better i b ≡ false
        old b e h i m f = go (ℕ_discrete i n)
          where
            go : Dec (i ≡ n) → better i b ≡ false
            go (yes q) = rw q e
            go (no q) = h i (omega arith) f

        none_still : ((i : ℕ) → i < n → p i ≡ false) → p n ≡ false → (i : ℕ) → i < suc n → p i ≡ false
        none_still h e i k = go (ℕ_discrete i n)
          where
            go : Dec (i ≡ n) → p i ≡ false
            go (yes q) = rw q e
            go (no q) = h i (omega arith)

        only : ((i : ℕ) → i < n → p i ≡ false) → (i : ℕ) → i < suc n → p i ≡ true → better i n ≡ false
        only h i k f = go (ℕ_discrete i n)
          where
            go : Dec (i ≡ n) → better i n ≡ false
            go (yes q) = rw q (irreflexive n (omega arith))
            go (no q) = absurd (true≢false (sym f ∙ h i (omega arith)))

        step : (b : ℕ) → Best n b → (p n ≡ true) ⊎ (p n ≡ false) → Best (suc n) (cond (p n) (cond (eqb b n₀ || better n b) n b) b)
        step b (nobody e h) (inl f) = rw (f, none_yet b e) (chosen (omega arith) f (only h))
        step b (nobody e h) (inr f) = rw f (nobody e (none_still h f))
        step b (chosen k f h) (inl g) = rw (g, one b k) (go (decided (better n b)))
          where
            go : (better n b ≡ true) ⊎ (better n b ≡ false) → Best (suc n) (cond (better n b) n b)
            go (inl e) = rw e (chosen (omega arith) g (new b k e h))
            go (inr e) = rw e (chosen (omega arith) f (old b e h))
        step b (chosen k f h) (inr g) = rw g (chosen (omega arith) f (λ i m q. past b i m g h q))

-- What is chosen below n depends only on what set and order say below n.

pub lowest_of_same : (p q : ℕ → Bool) (n : ℕ) → ((i : ℕ) → i < n → p i ≡ q i) → lowest p n ≡ lowest q n
unfolding lowest
lowest_of_same p q zero h = refl
lowest_of_same p q (suc n) h = rw (h 0 (omega arith), lowest_of_same (λ i. p (suc i)) (λ i. q (suc i)) n (λ i l. h (suc i) (omega arith)))

-- the best of the numbers below n is one of them, or there is none
best_below : (better : ℕ → ℕ → Bool) (p : ℕ → Bool) (n₀ n : ℕ) → (best better p n₀ n < n) ⊎ (best better p n₀ n ≡ n₀)
unfolding best
best_below better p n₀ zero = inr refl
best_below better p n₀ (suc n) =
    go (p n) (eqb (best better p n₀ n) n₀ || better n (best better p n₀ n)) (best better p n₀ n) (best_below better p n₀ n)
  where
    go : (a c : Bool) (b : ℕ) → (b < n) ⊎ (b ≡ n₀) → (cond a (cond c n b) b < suc n) ⊎ (cond a (cond c n b) b ≡ n₀)
    go true true b h = inl (omega arith)
    go true false b (inl l) = inl (omega arith)
    go true false b (inr e) = inr e
    go false c b (inl l) = inl (omega arith)
    go false c b (inr e) = inr e

module _ (better better' : ℕ → ℕ → Bool) (p p' : ℕ → Bool) (n₀ : ℕ) where
  pub best_of_same : (n : ℕ) → ((i : ℕ) → i < n → p i ≡ p' i) → ((i j : ℕ) → i < n → j < n → better i j ≡ better' i j)
      → best better p n₀ n ≡ best better' p' n₀ n
  unfolding best
  best_of_same zero sets orders = refl
  best_of_same (suc n) sets orders =
      let b = best better' p' n₀ n in
      rw (sets n (omega arith), best_of_same n (λ i l. sets i (omega arith)) (λ i j l m. orders i j (omega arith) (omega arith)))
      (go b (best_below better' p' n₀ n))
    where
      go : (b : ℕ) → (b < n) ⊎ (b ≡ n₀) → cond (p' n) (cond (eqb b n₀ || better n b) n b) b ≡ cond (p' n) (cond (eqb b n₀ || better' n b) n b) b
      go b (inl l) = rw (orders n b (omega arith) (omega arith))
      go b (inr e) = rw (eq-eqb b n₀ e)
