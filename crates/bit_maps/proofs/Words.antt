-- Laws of one word and its bits.
use Prim.Native.Nat.{ℕ, zero, suc, ◌+◌, ◌*◌, ◌-◌, ◌/◌, ◌%◌, ◌^◌, ◌≤◌, ◌<◌}
use mathlib.Core.Path.{◌≡◌, refl, sym, ap, ◌∙◌}
use mathlib.Core.Bool.{Bool, true, false, cond, ◌&&◌, ◌||◌, not}
use native.Mathlib.Nat.{mod-lt, mod-eq_of_lt, mod-one, div-eq_of_lt, div-one, lt_of_lt_of_le, zero-lt-suc, pow-suc, zero-div, add-zero}
use native.Mathlib.Numerals.{one-add}
use native.Mathlib.Omega.{arith}
use native.Mathlib.Decide.{dec_lt}
use lib.Dec.{eqb}
use lib.Pow.{pow_pos, pow_mono, pow-lt, shr-shr, shl_exact, high, low, mod-pow-add, field, mod-mod-pow}
use lib.Bits.{bit_and, bit_or, bit_xor, and_shr, or_shr, xor_shr, and_mod, or_mod, xor_mod}
use lib.Count.{ones, ones_cat, count_trailing_zeros, under}
use borrow.Author.Tests.{ne_eqb}
use Rattle.range.specs.Sum.{sum, weigh, count}
use Rattle.range.proofs.Sums.{sum_one, weigh_same, weigh_next}
use Rattle.bit_maps.specs.BitMap.{word_bit}

-- an operation on words that works on each bit apart, as f
module _ (op : ℕ → ℕ → ℕ) (f : Bool → Bool → Bool) (shift : (a b k : ℕ) → op a b / 2 ^ k ≡ op (a / 2 ^ k) (b / 2 ^ k))
    (lows : (a b k : ℕ) → op a b % 2 ^ k ≡ op (a % 2 ^ k) (b % 2 ^ k))
    (digit : (x y : ℕ) → x < 2 → y < 2 → eqb (op x y) 1 ≡ f (eqb x 1) (eqb y 1)) where
  each : (a b k : ℕ) → word_bit (op a b) k ≡ f (word_bit a k) (word_bit b k)
  unfolding word_bit
  each a b k =
      ap (λ (x : ℕ). eqb (x % 2) 1) (shift a b k) ∙ ap (λ (x : ℕ). eqb x 1) (lows (a / 2 ^ k) (b / 2 ^ k) 1)
      ∙ digit (a / 2 ^ k % 2) (b / 2 ^ k % 2) (mod-lt (a / 2 ^ k) (zero-lt-suc 1)) (mod-lt (b / 2 ^ k) (zero-lt-suc 1))

pub wordbit_or : (a b k : ℕ) → word_bit (bit_or a b) k ≡ (word_bit a k || word_bit b k)
wordbit_or = each bit_or (λ x y. x || y) or_shr or_mod digit
  where
    digit : (x y : ℕ) → x < 2 → y < 2 → eqb (bit_or x y) 1 ≡ (eqb x 1 || eqb y 1)
    digit zero zero l m = refl
    digit zero (suc zero) l m = refl
    digit zero (suc (suc y)) l m = absurd (omega arith)
    digit (suc zero) zero l m = refl
    digit (suc zero) (suc zero) l m = refl
    digit (suc zero) (suc (suc y)) l m = absurd (omega arith)
    digit (suc (suc x)) y l m = absurd (omega arith)

pub wordbit_and : (a b k : ℕ) → word_bit (bit_and a b) k ≡ (word_bit a k && word_bit b k)
wordbit_and = each bit_and (λ x y. x && y) and_shr and_mod digit
  where
    digit : (x y : ℕ) → x < 2 → y < 2 → eqb (bit_and x y) 1 ≡ (eqb x 1 && eqb y 1)
    digit zero zero l m = refl
    digit zero (suc zero) l m = refl
    digit zero (suc (suc y)) l m = absurd (omega arith)
    digit (suc zero) zero l m = refl
    digit (suc zero) (suc zero) l m = refl
    digit (suc zero) (suc (suc y)) l m = absurd (omega arith)
    digit (suc (suc x)) y l m = absurd (omega arith)

pub wordbit_xor : (a b k : ℕ) → word_bit (bit_xor a b) k ≡ ((word_bit a k && not (word_bit b k)) || (not (word_bit a k) && word_bit b k))
wordbit_xor = each bit_xor (λ x y. (x && not y) || (not x && y)) xor_shr xor_mod digit
  where
    digit : (x y : ℕ) → x < 2 → y < 2 → eqb (bit_xor x y) 1 ≡ ((eqb x 1 && not (eqb y 1)) || (not (eqb x 1) && eqb y 1))
    digit zero zero l m = refl
    digit zero (suc zero) l m = refl
    digit zero (suc (suc y)) l m = absurd (omega arith)
    digit (suc zero) zero l m = refl
    digit (suc zero) (suc zero) l m = refl
    digit (suc zero) (suc (suc y)) l m = absurd (omega arith)
    digit (suc (suc x)) y l m = absurd (omega arith)

pub wordbit_zero : (k : ℕ) → word_bit 0 k ≡ false
unfolding word_bit
wordbit_zero k = ap (λ (x : ℕ). eqb (x % 2) 1) (zero-div (2 ^ k))

-- a word shifted down
pub wordbit_shift : (w k j : ℕ) → word_bit (w / 2 ^ k) j ≡ word_bit w (k + j)
unfolding word_bit
wordbit_shift w k j = ap (λ (x : ℕ). eqb (x % 2) 1) (shr-shr w k j)

-- a word of n bits has none from n on
pub wordbit_past : (w n k : ℕ) → w < 2 ^ n → n ≤ k → word_bit w k ≡ false
unfolding word_bit
wordbit_past w n k l m = ap (λ (x : ℕ). eqb (x % 2) 1) (div-eq_of_lt (lt_of_lt_of_le l (pow_mono m)))

-- the low n bits alone
pub wordbit_low : (w n k : ℕ) → k < n → word_bit (w % 2 ^ n) k ≡ word_bit w k
unfolding word_bit
wordbit_low w n k l =
    let e : n - (1 + k) + (1 + k) ≡ n = omega arith in
    ap (λ (x : ℕ). eqb x 1)
    (sym (field (w % 2 ^ n) 1 k)
    ∙ ap (λ (x : ℕ). x / 2 ^ k) (ap (λ (x : ℕ). w % 2 ^ x % 2 ^ (1 + k)) (sym e) ∙ mod-mod-pow w (n - (1 + k)) (1 + k))
    ∙ field w 1 k)

-- a digit times its weight
digit_times : (d m : ℕ) → d < 2 → d * m ≡ cond (eqb d 1) m 0
digit_times zero m l = omega arith
digit_times (suc zero) m l = omega arith
digit_times (suc (suc d)) m l = absurd (omega arith)

-- the low n bits are the sum of those that are set
pub low_bits : (w n : ℕ) → w % 2 ^ n ≡ weigh n (word_bit w) (λ k. 2 ^ k)
unfolding sum word_bit
low_bits w zero = mod-one w
low_bits w (suc n) =
    let a = low_bits w n in
    let b = digit_times (w / 2 ^ n % 2) (2 ^ n) (mod-lt (w / 2 ^ n) (zero-lt-suc 1)) in
    ap (λ (x : ℕ). w % 2 ^ x) (sym (one-add n)) ∙ mod-pow-add w 1 n ∙ omega arith

-- words of n bits with the same bits
pub same_below : (n a b : ℕ) → a < 2 ^ n → b < 2 ^ n → ((k : ℕ) → k < n → word_bit a k ≡ word_bit b k) → a ≡ b
same_below n a b l m h =
    sym (mod-eq_of_lt l) ∙ low_bits a n ∙ weigh_same n (word_bit a) (word_bit b) (λ k. 2 ^ k) h ∙ sym (low_bits b n) ∙ mod-eq_of_lt m

pub word_same : (a b : ℕ) → a < 2 ^ 64 → b < 2 ^ 64 → ((k : ℕ) → k < 64 → word_bit a k ≡ word_bit b k) → a ≡ b
word_same a b l m h = same_below 64 a b l m h

-- a word of n bits with none set
pub zero_below : (n a : ℕ) → a < 2 ^ n → ((k : ℕ) → k < n → word_bit a k ≡ false) → a ≡ 0
zero_below n a l h = same_below n a 0 l (pow_pos n) (λ k m. h k m ∙ sym (wordbit_zero k))

pub word_zero : (a : ℕ) → a < 2 ^ 64 → ((k : ℕ) → k < 64 → word_bit a k ≡ false) → a ≡ 0
word_zero a l h = zero_below 64 a l h

-- a word made of the bits of a set
pub made_small : (p : ℕ → Bool) (n : ℕ) → weigh n p (λ k. 2 ^ k) < 2 ^ n
unfolding sum
made_small p zero = zero-lt-suc 0
made_small p (suc n) = go (p n) (made_small p n) (pow-suc 2 n)
  where
    go : (b : Bool) → weigh n p (λ k. 2 ^ k) < 2 ^ n → 2 ^ suc n ≡ 2 ^ n * 2 → weigh n p (λ k. 2 ^ k) + cond b (2 ^ n) 0 < 2 ^ suc n
    go true a e = omega arith
    go false a e = omega arith

-- one bit more above n bits
turned : (b : Bool) (n r : ℕ) → r + cond b (2 ^ n) 0 ≡ cond b 1 0 * 2 ^ n + r
turned true n r = omega arith
turned false n r = omega arith

top_bit : (b : Bool) (n r : ℕ) → r < 2 ^ n → word_bit (r + cond b (2 ^ n) 0) n ≡ b
unfolding word_bit
top_bit b n r l = ap (λ (x : ℕ). eqb (x / 2 ^ n % 2) 1) (turned b n r) ∙ ap (λ (x : ℕ). eqb (x % 2) 1) (high (cond b 1 0) n l) ∙ back b
  where
    back : (b : Bool) → eqb (cond b 1 0 % 2) 1 ≡ b
    back true = refl
    back false = refl

under_top : (b : Bool) (n r k : ℕ) → r < 2 ^ n → k < n → word_bit (r + cond b (2 ^ n) 0) k ≡ word_bit r k
under_top b n r k l m =
    sym (wordbit_low (r + cond b (2 ^ n) 0) n k m)
    ∙ ap (λ (x : ℕ). word_bit x k) (ap (λ (x : ℕ). x % 2 ^ n) (turned b n r) ∙ low (cond b 1 0) n l)

pub made_bit : (p : ℕ → Bool) (n k : ℕ) → k < n → word_bit (weigh n p (λ j. 2 ^ j)) k ≡ p k
unfolding sum
made_bit p zero k l = absurd (omega arith)
made_bit p (suc n) k l = go (λ m. made_bit p n k m) (dec_lt k n)
  where
    go : (k < n → word_bit (weigh n p (λ j. 2 ^ j)) k ≡ p k) → Dec (k < n) → word_bit (weigh n p (λ j. 2 ^ j) + cond (p n) (2 ^ n) 0) k ≡ p k
    go before (yes m) = under_top (p n) n (weigh n p (λ j. 2 ^ j)) k (made_small p n) m ∙ before m
    go before (no m) =
        let e : k ≡ n = omega arith in
        rw e (top_bit (p n) n (weigh n p (λ j. 2 ^ j)) (made_small p n))

pub pow_bit : (b k : ℕ) → word_bit (2 ^ b) k ≡ eqb k b
pow_bit b k = go (dec_lt k (suc b))
  where
    go : Dec (k < suc b) → word_bit (2 ^ b) k ≡ eqb k b
    go (yes l) = ap (λ (x : ℕ). word_bit x k) (sym (sum_one (suc b) (λ j. 2 ^ j) b (omega arith))) ∙ made_bit (λ j. eqb j b) (suc b) k l
    go (no l) = wordbit_past (2 ^ b) (suc b) k (pow-lt (let m : b < suc b = omega arith in m)) (omega arith) ∙ sym (ne_eqb k b (λ (e : k ≡ b). omega arith))

-- what `1 << b` is
pub shifted_one : (b : ℕ) → b < 64 → 1 * 2 ^ b % 2 ^ 64 ≡ 2 ^ b
shifted_one b l = shl_exact 1 b 64 (let m : 1 < 2 ^ 1 = omega arith in m) (omega arith) ∙ (let e : 1 * 2 ^ b ≡ 2 ^ b = omega arith in e)

-- the ones of the low n bits
low_ones : (w n : ℕ) → ones (w % 2 ^ n) ≡ count n (word_bit w)
unfolding sum word_bit ones
low_ones w zero = ap ones (mod-one w)
low_ones w (suc n) =
    let a = low_ones w n in
    let b = one_digit (w / 2 ^ n % 2) (mod-lt (w / 2 ^ n) (zero-lt-suc 1)) in
    ap (λ (x : ℕ). ones (w % 2 ^ x)) (sym (one-add n)) ∙ ap ones (mod-pow-add w 1 n) ∙ ones_cat n (w / 2 ^ n % 2) (w % 2 ^ n) (mod-lt w (pow_pos n))
    ∙ (let e : ones (w / 2 ^ n % 2) + ones (w % 2 ^ n) ≡ count n (word_bit w) + cond (eqb (w / 2 ^ n % 2) 1) 1 0 = omega arith in e)
  where
    one_digit : (d : ℕ) → d < 2 → ones d ≡ cond (eqb d 1) 1 0
    one_digit zero l = refl
    one_digit (suc zero) l = refl
    one_digit (suc (suc d)) l = absurd (omega arith)

pub ones_bits : (w n : ℕ) → w < 2 ^ n → ones w ≡ count n (word_bit w)
ones_bits w n l = ap ones (sym (mod-eq_of_lt l)) ∙ low_ones w n

-- the lowest bit, and the others
first_bit : (w : ℕ) → word_bit w 0 ≡ eqb (w % 2) 1
unfolding word_bit
first_bit w = ap (λ (x : ℕ). eqb (x % 2) 1) (div-one w)

later_bit : (w k : ℕ) → word_bit w (suc k) ≡ word_bit (w / 2) k
later_bit w k = ap (word_bit w) (sym (one-add k)) ∙ sym (wordbit_shift w 1 k)

-- none is set below the zeros' end
pub trailing_none : (n w j : ℕ) → j < count_trailing_zeros n w → word_bit w j ≡ false
unfolding count_trailing_zeros
trailing_none zero w j l = absurd (omega arith)
trailing_none (suc n) w j l = go (w % 2) refl j l (λ i m. trailing_none n (w / 2) i m)
  where
    go : (d : ℕ) → w % 2 ≡ d → (j : ℕ) → j < under d (count_trailing_zeros n (w / 2)) → ((i : ℕ) → i < count_trailing_zeros n (w / 2) → word_bit (w / 2) i ≡ false)
        → word_bit w j ≡ false
    go zero e zero l rest = first_bit w ∙ ap (λ (x : ℕ). eqb x 1) e
    go zero e (suc i) l rest = later_bit w i ∙ rest i (omega arith)
    go (suc d) e j l rest = absurd (omega arith)

-- the bit there is set, where it is one of the n
pub trailing_here : (n w : ℕ) → count_trailing_zeros n w < n → word_bit w (count_trailing_zeros n w) ≡ true
unfolding count_trailing_zeros
trailing_here zero w l = absurd (omega arith)
trailing_here (suc n) w l = go (w % 2) refl (mod-lt w (zero-lt-suc 1)) l (λ m. trailing_here n (w / 2) m)
  where
    go : (d : ℕ) → w % 2 ≡ d → w % 2 < 2 → under d (count_trailing_zeros n (w / 2)) < suc n → (count_trailing_zeros n (w / 2) < n → word_bit (w / 2) (count_trailing_zeros n (w / 2)) ≡ true)
        → word_bit w (under d (count_trailing_zeros n (w / 2))) ≡ true
    go zero e m l rest = later_bit w (count_trailing_zeros n (w / 2)) ∙ rest (omega arith)
    go (suc zero) e m l rest = first_bit w ∙ ap (λ (x : ℕ). eqb x 1) e
    go (suc (suc d)) e m l rest = absurd (omega arith)

-- it is one of the n where any is set
pub trailing_some : (n w : ℕ) → w < 2 ^ n → (w ≡ 0 → ⊥) → count_trailing_zeros n w < n
trailing_some n w l h = go (dec_lt (count_trailing_zeros n w) n)
  where
    go : Dec (count_trailing_zeros n w < n) → count_trailing_zeros n w < n
    go (yes m) = m
    go (no m) = absurd (h (zero_below n w l (λ k s. trailing_none n w k (omega arith))))

-- A word made bit by bit.

-- one bit more, as the code adds it
pub bit_hit : (p : ℕ → Bool) (k word : ℕ) → k < 64 → word ≡ weigh k p (λ j. 2 ^ j) → p k ≡ true
    → word + 1 * 2 ^ k % 2 ^ 64 ≡ weigh (k + 1) p (λ j. 2 ^ j)
bit_hit p k word l e h = rw (shifted_one k l, e) (sym (weigh_next k p (λ j. 2 ^ j) ∙ rw h))

pub bit_miss : (p : ℕ → Bool) (k word : ℕ) → word ≡ weigh k p (λ j. 2 ^ j) → p k ≡ false → word ≡ weigh (k + 1) p (λ j. 2 ^ j)
bit_miss p k word e h = e ∙ sym (weigh_next k p (λ j. 2 ^ j) ∙ rw h (add-zero (weigh k p (λ j. 2 ^ j))))

pub bit_fits : (p : ℕ → Bool) (k word : ℕ) → k < 64 → word ≡ weigh k p (λ j. 2 ^ j) → p k ≡ true → word + 1 * 2 ^ k % 2 ^ 64 < 2 ^ 64
bit_fits p k word l e h =
    let a = made_small p (k + 1) in
    let b = bit_hit p k word l e h in
    let d : 2 ^ (k + 1) ≤ 2 ^ 64 = pow_mono (let m : k + 1 ≤ 64 = omega arith in m) in
    omega arith
