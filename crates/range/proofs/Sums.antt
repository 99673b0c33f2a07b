-- Laws of sums and counts.
use Prim.Native.Nat.{ℕ, zero, suc, ◌+◌, ◌*◌, ◌≤◌, ◌<◌}
use mathlib.Core.Path.{◌≡◌, refl, sym, ◌∙◌, ap}
use mathlib.Core.Logic.{◌⊎◌, inl, inr}
use mathlib.Core.Bool.{Bool, true, false, cond, ◌&&◌, not}
use native.Mathlib.Omega.{arith}
use native.Mathlib.Numerals.{add-one}
use native.Mathlib.Decide.{dec_lt, ℕ_discrete}
use native.Mathlib.Nat.{mul-le-mul_right, add-zero, add-suc}
use lib.Dec.{ltb, eqb}
use borrow.Author.Tests.{lt-ltb, le-ltb, eq-eqb, ne_eqb}
use Rattle.range.specs.Sum.{sum, weigh, count}
use Rattle.range.proofs.Bools.{decided}

pub sum_same : (n : ℕ) (f g : ℕ → ℕ) → ((i : ℕ) → i < n → f i ≡ g i) → sum n f ≡ sum n g
unfolding sum
sum_same zero f g h = refl
sum_same (suc n) f g h =
    let a = sum_same n f g (λ i l. h i (omega arith)) in
    let b = h n (omega arith) in
    omega arith

bit_le : (b : Bool) → cond b 1 0 ≤ 1
bit_le true = omega arith
bit_le false = omega arith

pub count_le : (n : ℕ) (p : ℕ → Bool) → count n p ≤ n
unfolding sum
count_le zero p = omega arith
count_le (suc n) p =
    let a = count_le n p in
    let b = bit_le (p n) in
    omega arith

pub sum_le : (n : ℕ) (f g : ℕ → ℕ) → ((i : ℕ) → i < n → f i ≤ g i) → sum n f ≤ sum n g
unfolding sum
sum_le zero f g h = omega arith
sum_le (suc n) f g h =
    let a = sum_le n f g (λ i l. h i (omega arith)) in
    let b = h n (omega arith) in
    omega arith

pub sum_less : (n : ℕ) (f g : ℕ → ℕ) (i : ℕ) → ((j : ℕ) → j < n → f j ≤ g j) → i < n → f i < g i → sum n f < sum n g
unfolding sum
sum_less zero f g i h l s = absurd (omega arith)
sum_less (suc n) f g i h l s = go (λ k. sum_less n f g i (λ j d. h j (omega arith)) k s) (dec_lt i n)
  where
    go : (i < n → sum n f < sum n g) → Dec (i < n) → sum n f + f n < sum n g + g n
    go before (yes k) =
        let a = before k in
        let b = h n (omega arith) in
        omega arith
    go before (no k) =
        let a = sum_le n f g (λ j d. h j (omega arith)) in
        let e : i ≡ n = omega arith in
        let b = rw e at s in
        omega arith

pub sum_add : (n : ℕ) (f g : ℕ → ℕ) → sum n (λ i. f i + g i) ≡ sum n f + sum n g
unfolding sum
sum_add zero f g = refl
sum_add (suc n) f g = let a = sum_add n f g in omega arith

sum_zero : (n : ℕ) → sum n (λ i. 0) ≡ 0
unfolding sum
sum_zero zero = refl
sum_zero (suc n) = let a = sum_zero n in omega arith

pub sum_swap : (n m : ℕ) (f : ℕ → ℕ → ℕ) → sum n (λ i. sum m (λ j. f i j)) ≡ sum m (λ j. sum n (λ i. f i j))
unfolding sum
sum_swap zero m f = sym (sum_zero m)
sum_swap (suc n) m f =
    let a = sum_swap n m f in
    let b = sum_add m (λ j. sum n (λ i. f i j)) (f n) in
    omega arith

-- the term at i alone
one_below : (n : ℕ) (f : ℕ → ℕ) (i : ℕ) → sum n (λ x. cond (eqb x i) (f x) 0) ≡ cond (ltb i n) (f i) 0
unfolding sum
one_below zero f i = rw (le-ltb i 0 (omega arith))
one_below (suc n) f i = go (one_below n f i) (dec_lt i n) (ℕ_discrete n i)
  where
    go : sum n (λ x. cond (eqb x i) (f x) 0) ≡ cond (ltb i n) (f i) 0 → Dec (i < n) → Dec (n ≡ i)
        → sum n (λ x. cond (eqb x i) (f x) 0) + cond (eqb n i) (f n) 0 ≡ cond (ltb i (suc n)) (f i) 0
    go a (yes l) (yes e) = absurd (omega arith)
    go a (yes l) (no e) =
        let b = rw (lt-ltb i n l) at a in
        rw (lt-ltb i (suc n) (omega arith), ne_eqb n i e) (omega arith)
    go a (no l) (yes e) =
        let b = rw (le-ltb i n (omega arith)) at a in
        let d = ap f e in
        rw (lt-ltb i (suc n) (omega arith), eq-eqb n i e) (omega arith)
    go a (no l) (no e) =
        let b = rw (le-ltb i n (omega arith)) at a in
        rw (le-ltb i (suc n) (omega arith), ne_eqb n i e) (omega arith)

pub sum_one : (n : ℕ) (f : ℕ → ℕ) (i : ℕ) → i < n → sum n (λ x. cond (eqb x i) (f x) 0) ≡ f i
sum_one n f i l = one_below n f i ∙ rw (lt-ltb i n l)

pub sum_at : (n : ℕ) (f : ℕ → ℕ) (i : ℕ) → i < n → f i ≤ sum n f
sum_at n f i l =
    let a = sum_one n f i l in
    let b = sum_le n (λ x. cond (eqb x i) (f x) 0) f (λ x k. part (eqb x i) (f x)) in
    omega arith
  where
    part : (b : Bool) (k : ℕ) → cond b k 0 ≤ k
    part true k = omega arith
    part false k = omega arith

-- a part of a set
pub weigh_le : (n : ℕ) (p q : ℕ → Bool) (c : ℕ → ℕ) → ((i : ℕ) → i < n → p i ≡ true → q i ≡ true) → weigh n p c ≤ weigh n q c
weigh_le n p q c h = sum_le n (λ i. cond (p i) (c i) 0) (λ i. cond (q i) (c i) 0) (λ i l. part (p i) (q i) (c i) (h i l))
  where
    part : (a b : Bool) (k : ℕ) → (a ≡ true → b ≡ true) → cond a k 0 ≤ cond b k 0
    part true b k e = rw (e refl) (omega arith)
    part false b k e = omega arith

-- the same set at higher weights
pub weigh_up : (n : ℕ) (p : ℕ → Bool) (c d : ℕ → ℕ) → ((i : ℕ) → i < n → p i ≡ true → c i ≤ d i) → weigh n p c ≤ weigh n p d
weigh_up n p c d h = sum_le n (λ i. cond (p i) (c i) 0) (λ i. cond (p i) (d i) 0) (λ i l. part (p i) (c i) (d i) (h i l))
  where
    part : (a : Bool) (k m : ℕ) → (a ≡ true → k ≤ m) → cond a k 0 ≤ cond a m 0
    part true k m e = e refl
    part false k m e = omega arith

pub weigh_same : (n : ℕ) (p q : ℕ → Bool) (c : ℕ → ℕ) → ((i : ℕ) → i < n → p i ≡ q i) → weigh n p c ≡ weigh n q c
weigh_same n p q c h = sum_same n (λ i. cond (p i) (c i) 0) (λ i. cond (q i) (c i) 0) (λ i l. rw (h i l))

-- a set is what is also in q, and what is not
pub weigh_split : (n : ℕ) (p q : ℕ → Bool) (c : ℕ → ℕ) → weigh n p c ≡ weigh n (λ i. p i && q i) c + weigh n (λ i. p i && not (q i)) c
weigh_split n p q c =
    let a = sum_add n (λ i. cond (p i && q i) (c i) 0) (λ i. cond (p i && not (q i)) (c i) 0) in
    let b = sum_same n (λ i. cond (p i) (c i) 0) (λ i. cond (p i && q i) (c i) 0 + cond (p i && not (q i)) (c i) 0) (λ i l. part (p i) (q i) (c i)) in
    omega arith
  where
    part : (a b : Bool) (k : ℕ) → cond a k 0 ≡ cond (a && b) k 0 + cond (a && not b) k 0
    part true true k = omega arith
    part true false k = omega arith
    part false b k = omega arith

-- all of one weight
weigh_times : (n : ℕ) (p : ℕ → Bool) (b : ℕ) → weigh n p (λ i. b) ≡ count n p * b
unfolding sum
weigh_times zero p b = omega arith
weigh_times (suc n) p b = go (decided (p n)) (weigh_times n p b)
  where
    go : (p n ≡ true) ⊎ (p n ≡ false) → weigh n p (λ i. b) ≡ count n p * b
        → weigh n p (λ i. b) + cond (p n) b 0 ≡ (count n p + cond (p n) 1 0) * b
    go (inl e) a = rw e (omega arith)
    go (inr e) a = rw e (omega arith)

-- no more of them, each at most b, and the others at least b
pub weigh_dominated : (n : ℕ) (p q : ℕ → Bool) (c : ℕ → ℕ) (b : ℕ) → ((i : ℕ) → i < n → p i ≡ true → c i ≤ b) → ((i : ℕ) → i < n → q i ≡ true → b ≤ c i)
    → count n p ≤ count n q → weigh n p c ≤ weigh n q c
weigh_dominated n p q c b most least few =
    let a = weigh_up n p c (λ i. b) most in
    let d = weigh_up n q (λ i. b) c least in
    let e = weigh_times n p b in
    let f = weigh_times n q b in
    let g = mul-le-mul_right b few in
    omega arith

pub count_less : (n : ℕ) (p q : ℕ → Bool) (i : ℕ) → ((j : ℕ) → j < n → p j ≡ true → q j ≡ true) → i < n → p i ≡ false → q i ≡ true → count n p < count n q
count_less n p q i h l out into =
    sum_less n (λ j. cond (p j) 1 0) (λ j. cond (q j) 1 0) i (λ j k. part (p j) (q j) (h j k)) l (rw (out, into) (omega arith))
  where
    part : (a b : Bool) → (a ≡ true → b ≡ true) → cond a 1 0 ≤ cond b 1 0
    part true b e = rw (e refl) (omega arith)
    part false b e = omega arith

-- a set that is not empty has a member
pub member : (n : ℕ) (p : ℕ → Bool) → 0 < count n p → (i : ℕ) × (i < n) × (p i ≡ true)
unfolding sum
member zero p l = absurd (omega arith)
member (suc n) p l = go (decided (p n)) (member n p)
  where
    go : (p n ≡ true) ⊎ (p n ≡ false) → (0 < count n p → (i : ℕ) × (i < n) × (p i ≡ true)) → (i : ℕ) × (i < suc n) × (p i ≡ true)
    go (inl e) below = (n, omega arith, e)
    go (inr e) below =
        let k = rw e at l in
        let m = below (omega arith) in
        (m.0, omega (arith, m.1), m.2)

pub count_none : (n : ℕ) (p : ℕ → Bool) → count n p ≡ 0 → (i : ℕ) → i < n → p i ≡ false
count_none n p z i l = go (decided (p i)) (sum_at n (λ j. cond (p j) 1 0) i l)
  where
    go : (p i ≡ true) ⊎ (p i ≡ false) → cond (p i) 1 0 ≤ count n p → p i ≡ false
    go (inl e) a = let b = rw e at a in absurd (omega arith)
    go (inr e) a = e

pub none_count : (n : ℕ) (p : ℕ → Bool) → ((i : ℕ) → i < n → p i ≡ true → ⊥) → count n p ≡ 0
none_count n p h = go (dec_lt 0 (count n p))
  where
    go : Dec (0 < count n p) → count n p ≡ 0
    go (yes l) = let a = member n p l in absurd (h a.0 a.1 a.2)
    go (no l) = omega arith

pub count_all : (n : ℕ) → count n (λ i. true) ≡ n
unfolding sum
count_all zero = refl
count_all (suc n) = let a = count_all n in omega arith

-- a set with one member more
pub weigh_more : (n : ℕ) (p q : ℕ → Bool) (c : ℕ → ℕ) (i : ℕ) → i < n → p i ≡ false → q i ≡ true → ((j : ℕ) → j < n → (j ≡ i → ⊥) → q j ≡ p j)
    → weigh n q c ≡ weigh n p c + c i
weigh_more n p q c i l out into same =
    sum_same n (λ j. cond (q j) (c j) 0) (λ j. cond (p j) (c j) 0 + cond (eqb j i) (c j) 0) (λ j k. go j k (ℕ_discrete j i))
    ∙ (let a = sum_add n (λ j. cond (p j) (c j) 0) (λ j. cond (eqb j i) (c j) 0) in
    let b = sum_one n c i l in
    omega arith)
  where
    go : (j : ℕ) → j < n → Dec (j ≡ i) → cond (q j) (c j) 0 ≡ cond (p j) (c j) 0 + cond (eqb j i) (c j) 0
    go j k (yes e) = rw (e, into, out, eq-eqb i i refl) (omega arith)
    go j k (no d) = rw (same j k d, ne_eqb j i d) (omega arith)

pub weigh_next : (n : ℕ) (p : ℕ → Bool) (c : ℕ → ℕ) → weigh (n + 1) p c ≡ weigh n p c + cond (p n) (c n) 0
unfolding sum
weigh_next n p c = rw (add-one n)

pub count_hit : (p : ℕ → Bool) (n : ℕ) → p n ≡ true → count (n + 1) p ≡ count n p + 1
count_hit p n e = weigh_next n p (λ i. 1) ∙ rw e

pub count_miss : (p : ℕ → Bool) (n : ℕ) → p n ≡ false → count (n + 1) p ≡ count n p
count_miss p n e = weigh_next n p (λ i. 1) ∙ rw e (add-zero (count n p))

-- weights of 16 bits
pub weigh_most : (n : ℕ) (p : ℕ → Bool) (c : ℕ → ℕ) → ((i : ℕ) → i < n → c i ≤ 65535) → weigh n p c ≤ 65535 * n
unfolding sum
weigh_most zero p c h = omega arith
weigh_most (suc n) p c h = go (p n) (weigh_most n p c (λ i l. h i (omega arith))) (h n (omega arith))
  where
    go : (b : Bool) → weigh n p c ≤ 65535 * n → c n ≤ 65535 → weigh n p c + cond b (c n) 0 ≤ 65535 * suc n
    go true a m = omega arith
    go false a m = omega arith

-- the first a, and the b behind them
pub count_parts : (p : ℕ → Bool) (a b : ℕ) → count (a + b) p ≡ count a p + count b (λ k. p (a + k))
unfolding sum
count_parts p a zero = ap (λ (x : ℕ). count x p) (add-zero a) ∙ sym (add-zero (count a p))
count_parts p a (suc b) = ap (λ (x : ℕ). count x p) (add-suc a b) ∙ (let h = count_parts p a b in omega arith)

-- past which there is none
pub weigh_rest : (p : ℕ → Bool) (c : ℕ → ℕ) (k n : ℕ) → k ≤ n → ((j : ℕ) → k ≤ j → j < n → p j ≡ false) → weigh n p c ≡ weigh k p c
unfolding sum
weigh_rest p c zero zero l h = refl
weigh_rest p c (suc k) zero l h = absurd (omega arith)
weigh_rest p c k (suc n) l h = go (λ m. weigh_rest p c k n m (λ j a b. h j a (omega arith))) (ℕ_discrete k (suc n))
  where
    go : (k ≤ n → weigh n p c ≡ weigh k p c) → Dec (k ≡ suc n) → weigh (suc n) p c ≡ weigh k p c
    go before (yes e) = rw e
    go before (no d) =
        let m : k ≤ n = omega arith in
        let e = before m in
        rw (h n m (omega arith)) (add-zero (weigh n p c) ∙ e)
