-- Lengths counted as far as a slice can be long.
use Prim.Native.Nat.{ℕ, ◌+◌, ◌≤◌, ◌<◌}
use mathlib.Core.Path.{◌≡◌, sym, ◌∙◌, ap}
use mathlib.Core.List.{List}
use native.Mathlib.Omega.{arith}
use native.Mathlib.Decide.{dec_lt, dec_le}
use lib.Dec.{leb}
use lib.ListN.{length}
use lib.Seq.{sets}
use borrow.Author.Tests.{lt-ltb, le-ltb, le-leb, lt-leb}
use Rattle.script_lines.specs.Fitting.{capped, stored_within}

pub capped_below : (n : ℕ) → n < 9223372036854775808 → capped n ≡ n
unfolding capped
capped_below n l = rw (lt-ltb n 9223372036854775808 l)

pub capped_past : (n : ℕ) → 9223372036854775808 ≤ n → capped n ≡ 9223372036854775808
unfolding capped
capped_past n l = rw (le-ltb n 9223372036854775808 l)

-- a length that is counted already stays
pub capped_is : (n : ℕ) → n ≤ 9223372036854775808 → capped n ≡ n
capped_is n l = go (dec_lt n 9223372036854775808)
  where
    go : Dec (n < 9223372036854775808) → capped n ≡ n
    go (yes k) = capped_below n k
    go (no d) = let e : n ≡ 9223372036854775808 = omega arith in capped_past n (omega arith) ∙ sym e

pub capped_most : (n : ℕ) → capped n ≤ 9223372036854775808
capped_most n = go (dec_lt n 9223372036854775808)
  where
    go : Dec (n < 9223372036854775808) → capped n ≤ 9223372036854775808
    go (yes k) = let e = capped_below n k in omega arith
    go (no d) = let e = capped_past n (omega arith) in omega arith

-- one length counted behind another
pub capped_add : (m n : ℕ) → capped (capped m + n) ≡ capped (m + n)
capped_add m n = go (dec_lt m 9223372036854775808)
  where
    go : Dec (m < 9223372036854775808) → capped (capped m + n) ≡ capped (m + n)
    go (yes k) = ap (λ (j : ℕ). capped (j + n)) (capped_below m k)
    go (no d) =
        let e = capped_past m (omega arith) in
        capped_past (capped m + n) (omega arith) ∙ sym (capped_past (m + n) (omega arith))

-- it fits a slice exactly where the length itself does
within_capped : (n room : ℕ) → room < 9223372036854775808 → n ≤ room → capped n ≤ room
within_capped n room r l = let e = capped_below n (omega arith) in omega arith

past_capped : (n room : ℕ) → room < 9223372036854775808 → room < n → room < capped n
past_capped n room r l = go (dec_lt n 9223372036854775808)
  where
    go : Dec (n < 9223372036854775808) → room < capped n
    go (yes k) = let e = capped_below n k in omega arith
    go (no d) = let e = capped_past n (omega arith) in omega arith

pub stored_fits : (out : List ℕ) (at : ℕ) (printed : List ℕ) → at + length printed ≤ length out → stored_within out at printed ≡ sets out at printed
stored_fits out at printed l = rw (le-ltb (length out) (at + length printed) l)

pub stored_short : (out : List ℕ) (at : ℕ) (printed : List ℕ) → length out < at + length printed → stored_within out at printed ≡ out
stored_short out at printed l = rw (lt-ltb (length out) (at + length printed) l)

pub capped_least : (n : ℕ) → capped n ≤ n
capped_least n = go (dec_lt n 9223372036854775808)
  where
    go : Dec (n < 9223372036854775808) → capped n ≤ n
    go (yes k) = let e = capped_below n k in omega arith
    go (no d) = let e = capped_past n (omega arith) in omega arith

pub capped_within : (n room : ℕ) → room < 9223372036854775808 → capped n ≤ room → n ≤ room
capped_within n room r l = go (dec_le n room)
  where
    go : Dec (n ≤ room) → n ≤ room
    go (yes k) = k
    go (no d) = let m = past_capped n room r (omega arith) in absurd (omega arith)

pub capped_leb : (n room : ℕ) → room < 9223372036854775808 → leb (capped n) room ≡ leb n room
capped_leb n room r = go (dec_le n room)
  where
    go : Dec (n ≤ room) → leb (capped n) room ≡ leb n room
    go (yes l) = le-leb (capped n) room (within_capped n room r l) ∙ sym (le-leb n room l)
    go (no d) = lt-leb (capped n) room (past_capped n room r (omega arith)) ∙ sym (lt-leb n room (omega arith))
