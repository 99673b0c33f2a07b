-- Numbers as lower-case hexadecimal digits.
use Rattle.std.specs.Prelude.{ℕ, zero, suc, ◌+◌, ◌-◌, ◌*◌, ◌/◌, ◌%◌, Bool, true, cond, ◌&&◌, List, [], ◌∷◌, ◌++◌, leb, ltb, get_or, Result, Ok, Err}

-- "for each byte its digit value, or 255 where it is no digit"
unfoldable pub value_of : ℕ → ℕ
value_of b = cond (leb 48 b && leb b 57) (b - 48) (cond (leb 97 b && leb b 102) (b - 87) 255)

-- the byte of a digit value below 16
unfoldable pub digit_of : ℕ → ℕ
digit_of v = cond (ltb v 10) (v + 48) (v + 87)

-- the number that the w digits from an offset write, the highest first
unfoldable pub number_at : List ℕ → ℕ → ℕ → ℕ
number_at s at zero = 0
number_at s at (suc w) = number_at s at w * 16 + value_of (get_or s (at + w) 0)

-- whether each of the w bytes from an offset is a digit
unfoldable pub are_digits : List ℕ → ℕ → ℕ → Bool
are_digits s at zero = true
are_digits s at (suc w) = are_digits s at w && ltb (value_of (get_or s (at + w) 0)) 16

-- the number that they write: a good one where each is a digit
abbrev pub number_in : List ℕ → ℕ → ℕ → Result ℕ ℕ
number_in s at w = cond (are_digits s at w) (Ok (number_at s at w)) (Err (number_at s at w))

-- the w digits that write v, the highest first
unfoldable pub digits : ℕ → ℕ → List ℕ
digits zero v = []
digits (suc w) v = digits w (v / 16) ++ (digit_of (v % 16) ∷ [])
