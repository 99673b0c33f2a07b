-- What it means that a text is read with no fault.
use Prim.Native.Nat.{ℕ, ◌+◌, ◌<◌, ◌≤◌}
use mathlib.Core.Path.{◌≡◌, refl, ◌∙◌}
use mathlib.Core.Bool.{Bool, true, ◌&&◌, ◌||◌}
use mathlib.Core.List.{List}
use lib.Dec.{eqb}
use lib.ListN.{length, drop}
use native.Mathlib.Nat.{le_trans}
use Rattle.range.specs.First.{or_else, first}
use Rattle.range.proofs.Bools.{and_left, and_right, unless_none}
use Rattle.range.proofs.Faults.{or_none, or_left, or_right, first_all, none_first}
use Rattle.lines.specs.Digits.{line_fault}
use Rattle.lines.proofs.Lines.{GoodLine, line_good, good_line}
use Rattle.table.specs.Table.{Table}
use Rattle.table.specs.Legal.{size_fault, link_fault, table_fault}
use Rattle.table.proofs.Faults.{size_good, good_size}
use Rattle.table.specs.Text.{of_text, need_start, link_start, begins, closing_line, closing_fault, need_line_fault, link_line_fault, head_fault, text_fault, text_end}

-- Each line is good, and behind them stands the closing line. The text ends there, or may go on. The table is legal.
pub record Accepted (pmax lmax : ℕ) (more : Bool) (s : List ℕ) : Type 0 where
  pub head : GoodLine s 0 12
  pub need : (v : ℕ) → v < (of_text s).probes → GoodLine s (need_start v) 4
  pub link : (i : ℕ) → i < (of_text s).links → GoodLine s (link_start (of_text s).probes i) 12
  pub closing : begins (drop (link_start (of_text s).probes (of_text s).links) s) closing_line ≡ true
  pub end : (more || eqb (length s) (text_end (of_text s))) ≡ true
  pub legal : table_fault pmax lmax (of_text s) ≡ 0

or_both : (a b : ℕ) → or_else a b ≡ 0 → (a ≡ 0) × (b ≡ 0)
or_both a b e = (or_left a b e, or_right a b e)

and_both : (a b : Bool) → a && b ≡ true → (a ≡ true) × (b ≡ true)
and_both a b e = (and_left a b e, and_right a b e)

module _ (pmax lmax : ℕ) (more : Bool) (s : List ℕ) where
  abbrev t : Table
  t = of_text s

  abbrev size : ℕ
  size = size_fault pmax lmax t.probes t.links

  abbrev closing_at : ℕ
  closing_at = link_start t.probes t.links

  abbrev line : ℕ → ℕ
  line i = line_fault s (link_start t.probes i) 12

  abbrev link : ℕ → ℕ
  link = link_fault t.probes t.low t.high

  pub text_good : text_fault pmax lmax more s ≡ 0 → Accepted pmax lmax more s
  unfolding text_fault
  text_good e =
      let rows = or_else (first (link_line_fault s) t.links) (closing_fault more s closing_at) in
      let a = or_both (head_fault pmax lmax s) (or_else (first (need_line_fault s) t.probes) rows) e in
      let b = or_both (first (need_line_fault s) t.probes) rows a.1 in
      let c = or_both (first (link_line_fault s) t.links) (closing_fault more s closing_at) b.1 in
      let head = or_both (line_fault s 0 12) size a.0 in
      let each : (i : ℕ) → i < t.links → (line i ≡ 0) × (link i ≡ 0) = λ i l. or_both (line i) (link i) (first_all (link_line_fault s) t.links i c.0 l) in
      let begun = begins (drop closing_at s) closing_line in
      let last = more || eqb (length s) (closing_at + 5) in
      let end = and_both begun last (unless_none (begun && last) 5 c.1) in
      record {
        head = line_good s 0 12 head.0;
        need = λ v l. line_good s (need_start v) 4 (first_all (need_line_fault s) t.probes v b.0 l);
        link = λ i l. line_good s (link_start t.probes i) 12 (each i l).0;
        closing = end.0;
        end = end.1;
        legal = or_none size (first link t.links) head.1 ∙ none_first link t.links (λ i l. (each i l).1);
      }

  pub good_text : Accepted pmax lmax more s → text_fault pmax lmax more s ≡ 0
  unfolding text_fault
  good_text g =
      let a = or_both size (first link t.links) g.legal in
      let head = none (good_line s 0 12 g.head) a.0 in
      let needs = none_first (need_line_fault s) t.probes (λ v l. good_line s (need_start v) 4 (g.need v l)) in
      let row : (i : ℕ) → i < t.links → link_line_fault s i ≡ 0 = λ i l. none (good_line s (link_start t.probes i) 12 (g.link i l)) (first_all link t.links i a.1 l) in
      let end : closing_fault more s closing_at ≡ 0 = rw (g.closing, g.end) in
      none head (none needs (none (none_first (link_line_fault s) t.links row) end))
    where
      none : {a b : ℕ} → a ≡ 0 → b ≡ 0 → or_else a b ≡ 0
      none e f = rw e f

  pub text_legal : text_fault pmax lmax more s ≡ 0 → table_fault pmax lmax (of_text s) ≡ 0
  text_legal e = (text_good e).legal

-- a table that is legal within some limits is legal within wider ones
pub table_wider : (pmax lmax pmax' lmax' : ℕ) (t : Table) → pmax ≤ pmax' → lmax ≤ lmax' → table_fault pmax lmax t ≡ 0 → table_fault pmax' lmax' t ≡ 0
table_wider pmax lmax pmax' lmax' t p l e =
    let rest = first (link_fault t.probes t.low t.high) t.links in
    let size = size_good pmax lmax t.probes t.links (or_left (size_fault pmax lmax t.probes t.links) rest e) in
    or_none (size_fault pmax' lmax' t.probes t.links) rest
    (good_size pmax' lmax' t.probes t.links
    record { some = size.some; few = le_trans size.few p; within = le_trans size.within l })
    ∙ or_right (size_fault pmax lmax t.probes t.links) rest e

-- and so is a text
pub text_wider : (pmax lmax pmax' lmax' : ℕ) (more : Bool) (s : List ℕ) → pmax ≤ pmax' → lmax ≤ lmax' → text_fault pmax lmax more s ≡ 0 → text_fault pmax' lmax' true s ≡ 0
text_wider pmax lmax pmax' lmax' more s p l e =
    let g = text_good pmax lmax more s e in
    good_text pmax' lmax' true s
    record {
      head = g.head;
      need = g.need;
      link = g.link;
      closing = g.closing;
      end = refl;
      legal = table_wider pmax lmax pmax' lmax' (of_text s) p l g.legal;
    }
