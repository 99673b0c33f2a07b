-- Lines of digits as the code reads them: the line feed behind, and a number's parts of four digits.
use Prim.Native.Nat.{ℕ, ◌+◌, ◌/◌, ◌%◌, ◌≤◌, ◌<◌}
use mathlib.Core.Path.{◌≡◌, sym, ◌∙◌, ap}
use mathlib.Core.Bool.{Bool, true, false, ◌&&◌, not, true≢false}
use mathlib.Core.List.{List, [], ◌∷◌}
use native.Mathlib.Omega.{arith}
use lib.Dec.{eqb, ltb}
use lib.ListN.{length, get_or}
use borrow.Author.Tests.{ltb-true, lt-ltb, eqb-true, eq-eqb, not-true, not-false}
use Rattle.range.proofs.Bools.{and_left, and_right}
use Rattle.hex_digits.specs.Digits.{number_at}
use Rattle.hex_digits.proofs.Laws.{number_parts}
use Rattle.lines.specs.Digits.{line_fault}
use Rattle.lines.specs.Fields.{triple_fields, numbers_at}
use Rattle.reader.specs.Triple.{numbers_of}
use Rattle.reader.specs.declared.numbers.Triple.{Triple}
use Rattle.lines.proofs.Lines.{line_good, field_fits}

module _ (s : List ℕ) (at width : ℕ) (r : Bool) (e : r ≡ (ltb (at + width) (length s) && eqb (get_or s (at + width) 0) 10)) where
  pub no_feed : not r ≡ true → at + width < length s → get_or s (at + width) 0 ≡ 10 → ⊥
  no_feed n l f = true≢false (sym (rw (lt-ltb (at + width) (length s) l, eq-eqb (get_or s (at + width) 0) 10 f) at e) ∙ not-true r n)

  pub feed : not r ≡ false → (at + width < length s) × (get_or s (at + width) 0 ≡ 10)
  feed n =
      let b = sym e ∙ not-false r n in
      (ltb-true (at + width) (length s) (and_left (ltb (at + width) (length s)) _ b), eqb-true (get_or s (at + width) 0) 10 (and_right (ltb (at + width) (length s)) _ b))

-- four digits of a line without a fault, behind others
pub last_four : (s : List ℕ) (at u width : ℕ) → line_fault s at width ≡ 0 → u + 4 ≤ width → (number_at s at (u + 4) / 65536 ≡ number_at s at u) × (number_at s at (u + 4) % 65536 ≡ number_at s (at + u) 4)
last_four s at u width e l =
    number_parts s at u (field_fits s at width u (line_good s at width e) l)

-- the numbers of a line of twelve digits without a fault
pub triple_reads : (s : List ℕ) (at number : ℕ) → 0 ≡ line_fault s at 12 → number ≡ number_at s at 12
    → number / 65536 / 65536 ∷ number / 65536 % 65536 ∷ number % 65536 ∷ [] ≡ numbers_at s at triple_fields
triple_reads s at number good n =
    let c = last_four s at 8 12 (sym good) (omega arith) in
    let b = last_four s at 4 12 (sym good) (omega arith) in
    let e : at + 4 + 4 ≡ at + 8 = omega arith in
    rw (n, c.0, c.1, b.0, b.1, e)

-- the numbers of a line that was read
pub triple_numbers : (s : List ℕ) (at : ℕ) (t : Triple) → numbers_of t ≡ numbers_at s at triple_fields
    → (t.first ≡ number_at s at 4) × (t.second ≡ number_at s (at + 4) 4) × (t.third ≡ number_at s (at + 8) 4)
triple_numbers s at t e =
    let k : at + 4 + 4 ≡ at + 8 = omega arith in
    let first : t.first ≡ number_at s at 4 = cc in
    let second : t.second ≡ number_at s (at + 4) 4 = cc in
    let third : t.third ≡ number_at s (at + 4 + 4) 4 = cc in
    (first, second, third ∙ ap (λ (p : ℕ). number_at s p 4) k)
