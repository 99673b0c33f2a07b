-- Laws of digits, over the width.
use Prim.Native.Nat.{ℕ, zero, suc, ◌+◌, ◌-◌, ◌*◌, ◌/◌, ◌%◌, ◌^◌, ◌≤◌, ◌<◌}
use mathlib.Core.Path.{◌≡◌, refl, sym, ◌∙◌, ap}
use mathlib.Core.Logic.{◌⊎◌, inl, inr}
use mathlib.Core.Bool.{Bool, true, false, cond, ◌&&◌}
use mathlib.Core.List.{List, [], ◌∷◌, ◌++◌}
use native.Mathlib.Nat.{pow-suc, pow-le-pow_right, add-zero}
use native.Mathlib.Numerals.{add-one}
use native.Mathlib.Omega.{arith}
use native.Mathlib.Decide.{dec_le, dec_lt}
use lib.Dec.{ltb}
use lib.ListN.{length, get_or, take, drop, set, length-append, length-drop, get_or-append}
use lib.Seq.{take-suc, get_or-drop, sets, get_or_at, set_comm}
use borrow.Author.Tests.{lt-ltb, le-ltb, le-leb, lt-leb}
use Rattle.std.specs.Prelude.{Ok, Err}
use Rattle.hex_digits.specs.Digits.{value_of, digit_of, number_at, are_digits, number_in, digits}

-- The value of a byte, by its range.

data Range (b : ℕ) : Type 0 where
  decimal : 48 ≤ b → b ≤ 57 → value_of b ≡ b - 48 → Range b
  letter : 97 ≤ b → b ≤ 102 → value_of b ≡ b - 87 → Range b
  other : value_of b ≡ 255 → Range b

range : (b : ℕ) → Range b
unfolding value_of
range b = go (dec_lt b 48) (dec_le b 57) (dec_lt b 97) (dec_le b 102)
  where
    go : Dec (b < 48) → Dec (b ≤ 57) → Dec (b < 97) → Dec (b ≤ 102) → Range b
    go (yes l) h p q = other (let k : b < 97 = omega arith in rw (lt-leb 48 b l, lt-leb 97 b k))
    go (no l) (yes h) p q = let k : 48 ≤ b = omega arith in decimal k h (rw (le-leb 48 b k, le-leb b 57 h))
    go (no l) (no h) (yes p) q =
        let k : 48 ≤ b = omega arith in
        let m : 57 < b = omega arith in
        other (rw (le-leb 48 b k, lt-leb b 57 m, lt-leb 97 b p))
    go (no l) (no h) (no p) (yes q) =
        let k : 48 ≤ b = omega arith in
        let m : 57 < b = omega arith in
        let n : 97 ≤ b = omega arith in
        letter n q (rw (le-leb 48 b k, lt-leb b 57 m, le-leb 97 b n, le-leb b 102 q))
    go (no l) (no h) (no p) (no q) =
        let k : 48 ≤ b = omega arith in
        let m : 57 < b = omega arith in
        let n : 97 ≤ b = omega arith in
        let o : 102 < b = omega arith in
        other (rw (le-leb 48 b k, lt-leb b 57 m, le-leb 97 b n, lt-leb b 102 o))

pub value_le : (b : ℕ) → value_of b ≤ 255
value_le b = go (range b)
  where
    go : Range b → value_of b ≤ 255
    go (decimal l h e) = omega arith
    go (letter l h e) = omega arith
    go (other e) = omega arith

pub value_digit : (v : ℕ) → v < 16 → value_of (digit_of v) ≡ v
unfolding value_of digit_of
value_digit v l = go (dec_lt v 10)
  where
    go : Dec (v < 10) → value_of (digit_of v) ≡ v
    go (yes d) =
        let a : 48 ≤ v + 48 = omega arith in
        let b : v + 48 ≤ 57 = omega arith in
        rw (lt-ltb v 10 d, le-leb 48 (v + 48) a, le-leb (v + 48) 57 b) (omega arith)
    go (no d) =
        let e : 10 ≤ v = omega arith in
        let a : 48 ≤ v + 87 = omega arith in
        let b : 57 < v + 87 = omega arith in
        let g : 97 ≤ v + 87 = omega arith in
        let h : v + 87 ≤ 102 = omega arith in
        rw (le-ltb v 10 e, le-leb 48 (v + 87) a, lt-leb (v + 87) 57 b, le-leb 97 (v + 87) g, le-leb (v + 87) 102 h) (omega arith)

pub digit_value : (b : ℕ) → value_of b < 16 → digit_of (value_of b) ≡ b
unfolding digit_of
digit_value b l = go (range b)
  where
    go : Range b → digit_of (value_of b) ≡ b
    go (decimal k h e) = let d : b - 48 < 10 = omega arith in rw (e, lt-ltb (b - 48) 10 d) (omega arith)
    go (letter k h e) = let d : 10 ≤ b - 87 = omega arith in rw (e, le-ltb (b - 87) 10 d) (omega arith)
    go (other e) = absurd (omega arith)

-- Numbers and their digits.

-- what the code adds up stays small, whatever the bytes are
number_small : (s : List ℕ) (at w : ℕ) → number_at s at w + 17 ≤ 17 * 16 ^ w
unfolding number_at
number_small s at zero = omega arith
number_small s at (suc w) =
    let n = number_small s at w in
    let v = value_le (get_or s (at + w) 0) in
    let p = pow-suc 16 w in
    omega arith

pub number_next : (s : List ℕ) (at i : ℕ) → number_at s at (i + 1) ≡ number_at s at i * 16 + value_of (get_or s (at + i) 0)
unfolding number_at
number_next s at i = rw (add-one i)

pub number_bound : (s : List ℕ) (at w : ℕ) → w ≤ 13 → number_at s at w < 76561193665298432
number_bound s at w l =
    let n = number_small s at w in
    let p : 16 ^ w ≤ 16 ^ 13 = pow-le-pow_right (omega arith) l in
    omega arith

-- The values of bytes, added up.
abbrev pub value_sum : List ℕ → ℕ → ℕ → ℕ
value_sum s at zero = 0
value_sum s at (suc w) = value_sum s at w + value_of (get_or s (at + w) 0)

pub sum_next : (s : List ℕ) (at i : ℕ) → value_sum s at (i + 1) ≡ value_sum s at i + value_of (get_or s (at + i) 0)
sum_next s at i = rw (add-one i)

pub sum_bound : (s : List ℕ) (at w : ℕ) → value_sum s at w ≤ 255 * w
sum_bound s at zero = omega arith
sum_bound s at (suc w) =
    let n = sum_bound s at w in
    let v = value_le (get_or s (at + w) 0) in
    omega arith

digit_or_255 : (b : ℕ) → (value_of b < 16) ⊎ (value_of b ≡ 255)
digit_or_255 b = go (range b)
  where
    go : Range b → (value_of b < 16) ⊎ (value_of b ≡ 255)
    go (decimal l h e) = inl (omega arith)
    go (letter l h e) = inl (omega arith)
    go (other e) = inr e

sum_tells : (s : List ℕ) (at w : ℕ) → ((are_digits s at w ≡ true) × (value_sum s at w ≤ 15 * w)) ⊎ ((are_digits s at w ≡ false) × (255 ≤ value_sum s at w))
unfolding are_digits
sum_tells s at zero = inl (refl, omega arith)
sum_tells s at (suc w) = go (sum_tells s at w) (digit_or_255 (get_or s (at + w) 0))
  where
    v : ℕ
    v = value_of (get_or s (at + w) 0)

    go : ((are_digits s at w ≡ true) × (value_sum s at w ≤ 15 * w)) ⊎ ((are_digits s at w ≡ false) × (255 ≤ value_sum s at w)) → (v < 16) ⊎ (v ≡ 255)
        → ((are_digits s at w && ltb v 16 ≡ true) × (value_sum s at w + v ≤ 15 * suc w)) ⊎ ((are_digits s at w && ltb v 16 ≡ false) × (255 ≤ value_sum s at w + v))
    go (inl (e, l)) (inl d) = inl (rw (e, lt-ltb v 16 d), omega arith)
    go (inl (e, l)) (inr n) = inr (rw (e, le-ltb v 16 (omega arith)), omega arith)
    go (inr (e, l)) d = inr (rw e, omega arith)

-- at most 16 digits stay below 255
pub good_by_sum : (s : List ℕ) (at w : ℕ) → w ≤ 16 → ltb (value_sum s at w) 255 ≡ are_digits s at w
good_by_sum s at w l = go (sum_tells s at w)
  where
    go : ((are_digits s at w ≡ true) × (value_sum s at w ≤ 15 * w)) ⊎ ((are_digits s at w ≡ false) × (255 ≤ value_sum s at w)) → ltb (value_sum s at w) 255 ≡ are_digits s at w
    go (inl (e, k)) = rw e (lt-ltb (value_sum s at w) 255 (omega arith))
    go (inr (e, k)) = rw e (le-ltb (value_sum s at w) 255 k)

pub number_fits : (s : List ℕ) (at w : ℕ) → ((j : ℕ) → j < w → value_of (get_or s (at + j) 0) < 16) → number_at s at w < 16 ^ w
unfolding number_at
number_fits s at zero h = omega arith
number_fits s at (suc w) h =
    let n = number_fits s at w (λ j l. h j (omega arith)) in
    let v = h w (omega arith) in
    let p = pow-suc 16 w in
    omega arith

-- four digits behind others
number_join : (s : List ℕ) (at u : ℕ) → number_at s at (u + 4) ≡ number_at s at u * 65536 + number_at s (at + u) 4
unfolding number_at
number_join s at u =
    let e : u + 4 ≡ suc (suc (suc (suc u))) = omega arith in
    let a : at + suc u ≡ at + u + 1 = omega arith in
    let b : at + suc (suc u) ≡ at + u + 2 = omega arith in
    let d : at + suc (suc (suc u)) ≡ at + u + 3 = omega arith in
    let z : at + u + 0 ≡ at + u = omega arith in
    rw (e, a, b, d, z) (omega arith)

-- the last four digits, and those before them
pub number_parts : (s : List ℕ) (at u : ℕ) → number_at s (at + u) 4 < 65536 → (number_at s at (u + 4) / 65536 ≡ number_at s at u) × (number_at s at (u + 4) % 65536 ≡ number_at s (at + u) 4)
number_parts s at u small = let e = number_join s at u in (omega arith, omega arith)

pub length_digits : (w v : ℕ) → length (digits w v) ≡ w
unfolding digits
length_digits zero v = refl
length_digits (suc w) v = length-append (digits w (v / 16)) (digit_of (v % 16) ∷ []) ∙ (let e = length_digits w (v / 16) in omega arith)

digits_init : (w v j : ℕ) → j < w → get_or (digits (suc w) v) j 0 ≡ get_or (digits w (v / 16)) j 0
unfolding digits
digits_init w v j l = get_or-append (digits w (v / 16)) (digit_of (v % 16) ∷ []) 0 j (let e = length_digits w (v / 16) in omega arith)

digits_last : (w v : ℕ) → get_or (digits (suc w) v) w 0 ≡ digit_of (v % 16)
unfolding digits
digits_last w v = get_or_at (digits w (v / 16)) (digit_of (v % 16)) [] 0 w (length_digits w (v / 16))

pub digits_are : (w v j : ℕ) → j < w → value_of (get_or (digits w v) j 0) < 16
digits_are zero v j l = absurd (omega arith)
digits_are (suc w) v j l = go (digits_are w (v / 16) j) (dec_lt j w)
  where
    last : value_of (get_or (digits (suc w) v) w 0) < 16
    last =
        let e = ap value_of (digits_last w v) ∙ value_digit (v % 16) (omega arith) in
        omega arith

    go : (j < w → value_of (get_or (digits w (v / 16)) j 0) < 16) → Dec (j < w) → value_of (get_or (digits (suc w) v) j 0) < 16
    go before (yes k) = rw (digits_init w v j k) (before k)
    go before (no k) = let e : j ≡ w = omega arith in rw e last

-- "the value of the written digits is the number"
pub number_digits : (s : List ℕ) (at w v : ℕ) → v < 16 ^ w → ((j : ℕ) → j < w → get_or s (at + j) 0 ≡ get_or (digits w v) j 0) → number_at s at w ≡ v
unfolding number_at
number_digits s at zero v l h = omega arith
number_digits s at (suc w) v l h =
    let p = pow-suc 16 w in
    let n = number_digits s at w (v / 16) (omega arith) (λ j k. h j (omega arith) ∙ digits_init w v j k) in
    let d = ap value_of (h w (omega arith) ∙ digits_last w v) ∙ value_digit (v % 16) (omega arith) in
    omega arith

-- "the digits of the value of lower-case digits are the digits"
pub digits_number : (s : List ℕ) (at w : ℕ) → at + w ≤ length s → ((j : ℕ) → j < w → value_of (get_or s (at + j) 0) < 16) → digits w (number_at s at w) ≡ take w (drop at s)
unfolding number_at digits
digits_number s at zero l h = refl
digits_number s at (suc w) l h =
    let n = number_at s at w in
    let x = value_of (get_or s (at + w) 0) in
    let small = h w (omega arith) in
    let q : (n * 16 + x) / 16 ≡ n = omega arith in
    let r : (n * 16 + x) % 16 ≡ x = omega arith in
    let within : w < length (drop at s) = simp length-drop (omega arith) in
    rw (q, r, digits_number s at w (omega arith) (λ j k. h j (omega arith)), digit_value (get_or s (at + w) 0) small, take-suc (drop at s) w 0 within, get_or-drop at s w 0)

-- Writing from the lowest digit on.

sets_last : (xs l : List ℕ) (at d : ℕ) → sets l at (xs ++ (d ∷ [])) ≡ sets (set l (at + length xs) d) at xs
sets_last [] l at d = rw (add-zero at)
sets_last (x ∷ xs) l at d =
    sets_last xs (set l at x) (suc at) d
    ∙ (let e : suc at + length xs ≡ at + suc (length xs) = omega arith in
    rw (e, set_comm l at (at + suc (length xs)) x d (λ (z : at ≡ at + suc (length xs)). omega arith)))

-- a digit stored before the lower ones leaves the rest to be written
pub put_step : (l m : List ℕ) (at w v d : ℕ) → 0 < w → d ≡ digit_of (v % 16) → sets l at (digits w v) ≡ m → sets (set l (at + (w - 1)) d) at (digits (w - 1) (v / 16)) ≡ m
unfolding digits
put_step l m at zero v d some e h = absurd (omega arith)
put_step l m at (suc w) v d some e h =
    let k : suc w - 1 ≡ w = omega arith in
    let last = rw (length_digits w (v / 16)) at (sets_last (digits w (v / 16)) l at (digit_of (v % 16))) in
    rw (k, e) (sym last ∙ h)

-- a number that is read has digits alone
pub number_in_ok : (s : List ℕ) (at w n : ℕ) → Ok n ≡ number_in s at w → (are_digits s at w ≡ true) × (n ≡ number_at s at w)
number_in_ok s at w n e = go (are_digits s at w) e
  where
    go : (b : Bool) → Ok n ≡ cond b (Ok (number_at s at w)) (Err (number_at s at w)) → (b ≡ true) × (n ≡ number_at s at w)
    go true e = (refl, cc)
    go false e = let z : ◌≡◌ {A = ℕ} 0 1 = cc in absurd (omega arith)
