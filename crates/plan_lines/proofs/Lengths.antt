-- The lengths of a plan's lines, and lines stored one behind the other.
use Prim.Native.Nat.{ℕ, zero, suc, ◌+◌, ◌-◌, ◌*◌, ◌≤◌}
use mathlib.Core.Path.{◌≡◌, refl, ◌∙◌}
use mathlib.Core.Bool.{Bool, true, false, cond}
use mathlib.Core.List.{List}
use native.Mathlib.Omega.{arith}
use native.Mathlib.Decide.{dec_le}
use lib.Dec.{ltb}
use lib.ListN.{length, length-append}
use lib.Seq.{sets}
use Rattle.range.specs.Sum.{sum, count}
use Rattle.range.specs.Lists.{joined}
use Rattle.range.proofs.Lists.{joined_next}
use Rattle.range.proofs.Sets.{sets_then}
use Rattle.hex_digits.proofs.Laws.{length_digits}
use Rattle.table.proofs.Lengths.{length_triple}
use Rattle.plan_lines.specs.Lines.{head_line, kept_line, short_line}

pub length_head : (number kept cost : ℕ) → length (head_line number kept cost) ≡ 17
length_head number kept cost =
    simp length-append (let a = length_digits 4 number in let b = length_digits 4 kept in let c = length_digits 8 cost in omega arith)

pub length_kept_line : (b : Bool) (low high cost : ℕ) → length (kept_line b low high cost) ≡ 13 * cond b 1 0
length_kept_line true low high cost = length_triple low high cost
length_kept_line false low high cost = refl

pub length_short_line : (b : Bool) (probe missing : ℕ) → length (short_line b probe missing) ≡ 9 * cond b 1 0
length_short_line true probe missing = simp length-append (let a = length_digits 4 probe in let b = length_digits 4 missing in omega arith)
length_short_line false probe missing = refl

-- the room for a short probe's line
pub short_room : (at degree need probe room : ℕ) → ltb degree need ≡ true → at + length (short_line (ltb degree need) probe (need - degree)) ≤ room → at + 9 ≤ room
short_room at degree need probe room e fits =
    let f = rw e at fits in
    let k = length_short_line true probe (need - degree) in
    omega arith

-- Lines of w bytes, one for each i in p and none for any other.
module _ (p : ℕ → Bool) (line : ℕ → List ℕ) (w : ℕ) (wide : (i : ℕ) → length (line i) ≡ w * cond (p i) 1 0) where
  pub length_lines : (n : ℕ) → length (joined line n) ≡ w * count n p
  unfolding joined sum
  length_lines zero = omega arith
  length_lines (suc n) = length-append (joined line n) (line n) ∙ (let a = length_lines n in let b = wide n in omega arith)

  -- the next line, stored behind those before it
  pub lines_then : (n start at : ℕ) (l m r : List ℕ) → m ≡ sets l start (joined line n) → at ≡ start + w * count n p → r ≡ sets m at (line n)
      → r ≡ sets l start (joined line (n + 1))
  lines_then n start at l m r e a g =
      rw (joined_next line n) (sets_then l m r start at (joined line n) (line n) e (let k = length_lines n in omega arith) g)

-- link i's line, where it is kept
abbrev pub kept_line_at : (ℕ → Bool) → (ℕ → ℕ) → (ℕ → ℕ) → (ℕ → ℕ) → ℕ → List ℕ
kept_line_at p low high cost i = kept_line (p i) (low i) (high i) (cost i)

-- probe v's line, where it is short
abbrev pub short_line_at : (ℕ → ℕ) → (ℕ → ℕ) → ℕ → List ℕ
short_line_at degree need v = short_line (ltb (degree v) (need v)) v (need v - degree v)

pub length_kept : (p : ℕ → Bool) (low high cost : ℕ → ℕ) (n : ℕ) → length (joined (kept_line_at p low high cost) n) ≡ 13 * count n p
length_kept p low high cost = length_lines p (kept_line_at p low high cost) 13 (λ i. length_kept_line (p i) (low i) (high i) (cost i))

pub length_shorts : (degree need : ℕ → ℕ) (n : ℕ) → length (joined (short_line_at degree need) n) ≡ 9 * count n (λ v. ltb (degree v) (need v))
length_shorts degree need = length_lines (λ v. ltb (degree v) (need v)) (short_line_at degree need) 9 (λ v. length_short_line (ltb (degree v) (need v)) v (need v - degree v))

-- a part of the numbers has no more that are in p
pub count_part : (p : ℕ → Bool) (k n : ℕ) → k ≤ n → count k p ≤ count n p
unfolding sum
count_part p k zero l = let e : k ≡ 0 = omega arith in rw e (omega arith)
count_part p k (suc n) l = go (count_part p k n) (dec_le k n)
  where
    go : (k ≤ n → count k p ≤ count n p) → Dec (k ≤ n) → count k p ≤ count n p + cond (p n) 1 0
    go before (yes h) = let a = before h in omega arith
    go before (no h) = let e : k ≡ suc n = omega arith in rw e (omega arith)
