-- No fault of a text, or of a table's sizes and links, is over 6: none of its stages' is. 8 is of lent slices alone.
use Prim.Native.Nat.{ℕ, zero, suc, ◌+◌, ◌-◌, ◌≤◌}
use mathlib.Core.Bool.{Bool, true, false, cond, ◌&&◌, ◌||◌}
use mathlib.Core.List.{List}
use native.Mathlib.Omega.{arith}
use lib.Dec.{ltb, eqb}
use lib.ListN.{length, get_or, drop}
use Rattle.range.specs.First.{or_else, first}
use Rattle.hex_digits.specs.Digits.{value_of}
use Rattle.lines.specs.Line.{line_at}
use Rattle.lines.specs.Digits.{length_fault, digit_fault, line_fault}
use Rattle.lines.specs.declared.Line.{Line}
use Rattle.std.specs.Prelude.{Option, Some, None}
use Rattle.table.specs.Legal.{size_fault, ends_fault, order_fault, link_fault, table_fault}
use Rattle.table.specs.Table.{Table}
use Rattle.table.specs.Text.{of_text, link_start, begins, closing_line, closing_fault, need_line_fault, link_line_fault, head_fault, body_fault, text_fault}

abbrev Most : ℕ → Type 0
Most n = n ≤ 6

or_most : (a b : ℕ) → Most a → Most b → Most (or_else a b)
or_most zero b n m = m
or_most (suc a) b n m = n

first_most : (f : ℕ → ℕ) (n : ℕ) → ((i : ℕ) → Most (f i)) → Most (first f n)
unfolding first
first_most f zero h = omega arith
first_most f (suc n) h = or_most (first f n) (f n) (first_most f n h) (h n)

cond_most : (b : Bool) (x y : ℕ) → Most x → Most y → Most (cond b x y)
cond_most true x y n m = n
cond_most false x y n m = m

length_most : (width : ℕ) (l : Option Line) → Most (length_fault width l)
length_most width (Some line) = cond_most (eqb line.len width) 0 1 (omega arith) (omega arith)
length_most width None = omega arith

line_most : (s : List ℕ) (at width : ℕ) → Most (line_fault s at width)
unfolding line_fault
line_most s at width =
    or_most (length_fault width (line_at s at).line) (first (λ j. digit_fault (get_or s (at + j) 0)) width) (length_most width (line_at s at).line)
    (first_most (λ j. digit_fault (get_or s (at + j) 0)) width (λ j. cond_most (ltb (value_of (get_or s (at + j) 0)) 16) 0 2 (omega arith) (omega arith)))

size_most : (pmax lmax probes links : ℕ) → Most (size_fault pmax lmax probes links)
size_most pmax lmax probes links = cond_most (eqb probes 0 || (ltb pmax probes || ltb lmax links)) 3 0 (omega arith) (omega arith)

link_most : (probes : ℕ) (low high : ℕ → ℕ) (i : ℕ) → Most (link_fault probes low high i)
unfolding link_fault
link_most probes low high i =
    let order = order_fault (low (i - 1)) (high (i - 1)) (low i) (high i) in
    or_most (ends_fault probes (low i) (high i)) (cond (eqb i 0) 0 order)
    (cond_most (ltb (low i) (high i) && ltb (high i) probes) 0 4 (omega arith) (omega arith))
    (cond_most (eqb i 0) 0 order (omega arith)
    (cond_most (ltb (low (i - 1)) (low i) || (eqb (low (i - 1)) (low i) && ltb (high (i - 1)) (high i))) 0 5 (omega arith) (omega arith)))

pub table_most : (pmax lmax : ℕ) (t : Table) → table_fault pmax lmax t ≤ 6
table_most pmax lmax t =
    or_most (size_fault pmax lmax t.probes t.links) (first (link_fault t.probes t.low t.high) t.links) (size_most pmax lmax t.probes t.links)
    (first_most (link_fault t.probes t.low t.high) t.links (link_most t.probes t.low t.high))

module _ (pmax lmax : ℕ) (more : Bool) (s : List ℕ) where
  abbrev t : Table
  t = of_text s

  abbrev closing : ℕ
  closing = closing_fault more s (link_start t.probes t.links)

  body_most : Most (body_fault more s)
  body_most =
      or_most (first (need_line_fault s) t.probes) (or_else (first (link_line_fault s) t.links) closing) (first_most (need_line_fault s) t.probes (λ v. line_most s _ 4))
      (or_most (first (link_line_fault s) t.links) closing
      (first_most (link_line_fault s) t.links (λ i. or_most _ _ (line_most s (link_start t.probes i) 12) (link_most t.probes t.low t.high i)))
      (cond_most (begins (drop (link_start t.probes t.links) s) closing_line && (more || eqb (length s) (link_start t.probes t.links + 5))) 0 6 (omega arith) (omega arith)))

  pub text_most : text_fault pmax lmax more s ≤ 6
  unfolding text_fault
  text_most =
      or_most (head_fault pmax lmax s) (body_fault more s) (or_most (line_fault s 0 12) (size_fault pmax lmax t.probes t.links) (line_most s 0 12) (size_most pmax lmax t.probes t.links))
      body_most
