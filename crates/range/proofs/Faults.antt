-- Laws of first faults, as a loop over 0 ≤ i < n meets them.
use Prim.Native.Nat.{ℕ, zero, suc, ◌+◌, ◌<◌}
use mathlib.Core.Path.{◌≡◌, refl, sym, ◌∙◌, ap}
use native.Mathlib.Nat.{add-zero, add-suc}
use native.Mathlib.Omega.{arith}
use native.Mathlib.Numerals.{add-one}
use native.Mathlib.Decide.{dec_lt}
use Rattle.range.specs.First.{or_else, first}

pub or_none : (a b : ℕ) → a ≡ 0 → or_else a b ≡ b
or_none a b e = rw e

pub or_some : (a b : ℕ) → (a ≡ 0 → ⊥) → or_else a b ≡ a
or_some zero b n = absurd (n refl)
or_some (suc a) b n = refl

pub or_same : {a b c d : ℕ} → a ≡ b → c ≡ d → or_else a c ≡ or_else b d
or_same e f = rw (e, f)

-- the code's way through a chain of faults: r is found first
pub or_here : (r a b : ℕ) → r ≡ a → (r ≡ 0 → ⊥) → r ≡ or_else a b
or_here r a b e n = e ∙ sym (or_some a b (λ z. n (e ∙ z)))

-- nothing is found first, and q is found then
pub or_next : (r a b q : ℕ) → r ≡ a → r ≡ 0 → q ≡ b → q ≡ or_else a b
or_next r a b q e z f = f ∙ sym (or_none a b (sym e ∙ z))

pub or_left : (a b : ℕ) → or_else a b ≡ 0 → a ≡ 0
or_left zero b e = refl
or_left (suc a) b e = e

pub or_right : (a b : ℕ) → or_else a b ≡ 0 → b ≡ 0
or_right zero b e = e
or_right (suc a) b e = absurd (omega arith)

pub first_same : (f g : ℕ → ℕ) (n : ℕ) → ((i : ℕ) → i < n → f i ≡ g i) → first f n ≡ first g n
unfolding first
first_same f g zero h = refl
first_same f g (suc n) h = rw (first_same f g n (λ i l. h i (omega arith)), h n (omega arith))

pub first_none : (f : ℕ → ℕ) (i : ℕ) → first f i ≡ 0 → f i ≡ 0 → first f (i + 1) ≡ 0
unfolding first
first_none f i none here = rw (add-one i) (or_none (first f i) (f i) none ∙ here)

pub first_all : (f : ℕ → ℕ) (n i : ℕ) → first f n ≡ 0 → i < n → f i ≡ 0
unfolding first
first_all f zero i none l = absurd (omega arith)
first_all f (suc n) i none l = go (first_all f n i (or_left (first f n) (f n) none)) (dec_lt i n)
  where
    go : (i < n → f i ≡ 0) → Dec (i < n) → f i ≡ 0
    go before (yes k) = before k
    go before (no k) = let e : i ≡ n = omega arith in rw e (or_right (first f n) (f n) none)

pub first_some : (f : ℕ → ℕ) (n i : ℕ) → first f i ≡ 0 → i < n → (f i ≡ 0 → ⊥) → first f n ≡ f i
unfolding first
first_some f zero i none l some = absurd (omega arith)
first_some f (suc n) i none l some = go (λ k. first_some f n i none k some) (dec_lt i n)
  where
    go : (i < n → first f n ≡ f i) → Dec (i < n) → or_else (first f n) (f n) ≡ f i
    go before (yes k) =
        let e = before k in
        or_some (first f n) (f n) (λ z. some (sym e ∙ z)) ∙ e
    go before (no k) = let e : n ≡ i = omega arith in rw e (or_none (first f i) (f i) none)

-- where no fault is found, none is there
pub none_first : (f : ℕ → ℕ) (n : ℕ) → ((i : ℕ) → i < n → f i ≡ 0) → first f n ≡ 0
unfolding first
none_first f zero h = refl
none_first f (suc n) h = or_none (first f n) (f n) (none_first f n (λ i l. h i (omega arith))) ∙ h n (omega arith)

-- two stages that are checked as one: a fault of theirs is that of the whole
pub or_through : (r a b d : ℕ) → r ≡ or_else a b → (r ≡ 0 → ⊥) → r ≡ or_else a (or_else b d)
or_through r zero zero d e n = absurd (n e)
or_through r zero (suc b) d e n = e
or_through r (suc a) b d e n = e

-- the first a, and the b behind them
pub first_parts : (f : ℕ → ℕ) (a b : ℕ) → first f (a + b) ≡ or_else (first f a) (first (λ k. f (a + k)) b)
unfolding first
first_parts f a zero = ap (first f) (add-zero a) ∙ alone (first f a)
  where
    alone : (x : ℕ) → x ≡ or_else x 0
    alone zero = refl
    alone (suc x) = refl
first_parts f a (suc b) =
    ap (first f) (add-suc a b) ∙ ap (λ (x : ℕ). or_else x (f (a + b))) (first_parts f a b) ∙ grouped (first f a) (first (λ k. f (a + k)) b) (f (a + b))
  where
    grouped : (x y z : ℕ) → or_else (or_else x y) z ≡ or_else x (or_else y z)
    grouped zero y z = refl
    grouped (suc x) y z = refl
