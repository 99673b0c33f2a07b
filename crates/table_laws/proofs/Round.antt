-- The round trips of document 01's table text: a text read and written, and a table written and read.
use Prim.Native.Nat.{ℕ, ◌+◌, ◌*◌, ◌≤◌, ◌<◌}
use mathlib.Core.Path.{◌≡◌, refl, sym, ◌∙◌, ap}
use mathlib.Core.Bool.{Bool, true, false, ◌||◌}
use mathlib.Core.List.{List, [], ◌∷◌, ◌++◌}
use native.Mathlib.Omega.{arith}
use lib.Dec.{eqb}
use lib.ListN.{length, take, drop, length-append, length-take}
use lib.Seq.{take_all, take_at}
use borrow.Author.Tests.{eqb-true, eq-eqb}
use Rattle.hex_digits.specs.Digits.{number_at}
use Rattle.table.specs.Table.{Table}
use Rattle.table.specs.Legal.{table_fault}
use Rattle.table.specs.Text.{closing_line, text_of, need_start, link_start, of_text, begins, text_fault, text_end}
use Rattle.table.specs.Same.{FourDigits, Same}
use Rattle.lines.proofs.Lines.{GoodLine}
use Rattle.lines.proofs.Parts.{part, part_append, part_split, part_joined, joined_split}
use Rattle.lines.proofs.Numbers.{line_of, ReadsNumbers, length_line, reads_line, line_reads}
use Rattle.table_laws.proofs.Tables.{head_row, need_row, link_row, need_rows, link_rows, text_is}
use Rattle.table.proofs.Same.{same_fault}
use Rattle.table.proofs.Accepted.{Accepted, text_good, good_text}
use Rattle.table.proofs.Lengths.{length_needs, length_links, length_text}
use Rattle.table_text.proofs.Begins.{begins_take}
use Rattle.table_laws.proofs.Fits.{link_reads}

-- the lengths of the header, the need lines, the link lines and the closing line
end_is : (p l : ℕ) → 13 + 5 * p + 13 * l + 5 ≡ 13 + (5 * p + (13 * l + 5))
end_is p l = omega arith

-- where the closing line is found, it stands

take_begins : (s xs : List ℕ) → take (length xs) s ≡ xs → begins s xs ≡ true
unfolding begins
take_begins s [] e = refl
take_begins [] (x ∷ xs) e = let z : ◌≡◌ {A = ℕ} 0 1 = cc in absurd (omega arith)
take_begins (b ∷ s) (x ∷ xs) e = rw (eq-eqb b x (cc), take_begins s xs (cc))

-- The lines that the table of an accepted text writes.
module _ (pmax lmax : ℕ) (more : Bool) (s : List ℕ) (g : Accepted pmax lmax more s) where
  abbrev t : Table
  t = of_text s

  head_back : line_of (head_row t) ≡ part s 0 13
  head_back = reads_line s 0 (head_row t) g.head (refl, (refl, (refl, tt)))

  needs_back : need_rows t ≡ part s 13 (5 * t.probes)
  needs_back =
      part_joined (λ v. line_of (need_row t v)) 5 s 13 t.probes
      (λ v l. reads_line s (need_start v) (need_row t v) (g.need v l) (refl, tt))

  links_back : link_rows t ≡ part s (13 + 5 * t.probes) (13 * t.links)
  links_back =
      part_joined (λ i. line_of (link_row t i)) 13 s (13 + 5 * t.probes) t.links
      (λ i l. reads_line s (link_start t.probes i) (link_row t i) (g.link i l) (link_reads s i))

  closing_back : closing_line ≡ part s (link_start t.probes t.links) 5
  closing_back = sym (begins_take (drop (link_start t.probes t.links) s) closing_line g.closing)

  accepted_back : text_of t ≡ take (text_end t) s
  accepted_back =
      rw (text_is, end_is)
      (part_append s (line_of (head_row t)) _ 0 13 (5 * t.probes + (13 * t.links + 5)) head_back
      (part_append s (need_rows t) _ 13 (5 * t.probes) (13 * t.links + 5) needs_back
      (part_append s (link_rows t) closing_line (13 + 5 * t.probes) (13 * t.links) 5 links_back closing_back)))

-- every text that is read is what writing the table read gives
pub text_back : (pmax lmax : ℕ) (more : Bool) (s : List ℕ) → text_fault pmax lmax more s ≡ 0 → text_of (of_text s) ≡ take (text_end (of_text s)) s
text_back pmax lmax more s e = accepted_back pmax lmax more s (text_good pmax lmax more s e)

pub text_whole : (pmax lmax : ℕ) (s : List ℕ) → text_fault pmax lmax false s ≡ 0 → text_of (of_text s) ≡ s
text_whole pmax lmax s e =
    let l = eqb-true (length s) (text_end (of_text s)) (text_good pmax lmax false s e).end in
    text_back pmax lmax false s e ∙ take_all (text_end (of_text s)) s (omega arith)

-- the closing line stands within the text
pub text_within : (pmax lmax : ℕ) (more : Bool) (s : List ℕ) → text_fault pmax lmax more s ≡ 0 → text_end (of_text s) ≤ length s
text_within pmax lmax more s e =
    let n = ap length (text_back pmax lmax more s e) in
    let m = length_text (of_text s) in
    let k = length-take (text_end (of_text s)) s in
    omega arith

-- A text that starts with that of a table.
module _ (s : List ℕ) (t : Table) (fits : FourDigits t) (within : text_end t ≤ length s) (e : take (text_end t) s ≡ text_of t) where
  parts : (part s 0 13 ≡ line_of (head_row t)) × (part s 13 (5 * t.probes) ≡ need_rows t)
      × (part s (13 + 5 * t.probes) (13 * t.links) ≡ link_rows t) × (part s (link_start t.probes t.links) 5 ≡ closing_line)
  parts =
      let a = part_split s (line_of (head_row t)) (need_rows t ++ (link_rows t ++ closing_line)) 0 13 (5 * t.probes + (13 * t.links + 5)) (length_line (head_row t)) (rw (end_is, text_is) at e) in
      let b = part_split s (need_rows t) (link_rows t ++ closing_line) 13 (5 * t.probes) (13 * t.links + 5) (length_needs t) a.1 in
      let c = part_split s (link_rows t) closing_line (13 + 5 * t.probes) (13 * t.links) 5 (length_links t) b.1 in
      (a.0, b.0, c.0, c.1)

  head : GoodLine s 0 12 × ReadsNumbers s 0 (head_row t)
  head = line_reads s 0 (head_row t) (fits.number, (fits.probes, (fits.links, tt))) (omega arith) parts.0

  need : (v : ℕ) → v < t.probes → GoodLine s (need_start v) 4 × ReadsNumbers s (need_start v) (need_row t v)
  need v l =
      line_reads s (need_start v) (need_row t v) (fits.need v l, tt) (omega arith)
      (joined_split (λ v. line_of (need_row t v)) 5 s 13 t.probes v (λ v. length_line (need_row t v)) parts.1 l)

  link : (i : ℕ) → i < t.links → GoodLine s (link_start t.probes i) 12 × ReadsNumbers s (link_start t.probes i) (link_row t i)
  link i l =
      line_reads s (link_start t.probes i) (link_row t i) (fits.low i l, (fits.high i l, (fits.cost i l, tt))) (omega arith)
      (joined_split (λ i. line_of (link_row t i)) 13 s (13 + 5 * t.probes) t.links i (λ i. length_line (link_row t i)) parts.2 l)

  probes_is : number_at s 4 4 ≡ t.probes
  probes_is = head.1.1.0

  links_is : number_at s 8 4 ≡ t.links
  links_is = head.1.1.1.0

  read_same : Same (of_text s) t
  read_same =
      let p = probes_is in
      let m = links_is in
      record {
        number = head.1.0;
        probes = p;
        links = m;
        need = λ v l. (need v (omega arith)).1.0;
        low = λ i l. rw p (link i (omega arith)).1.0;
        high = λ i l. rw p (link i (omega arith)).1.1.0;
        cost = λ i l. let k : link_start t.probes i + 8 ≡ link_start t.probes i + 4 + 4 = omega arith in rw (p, k) (link i (omega arith)).1.1.1.0;
      }

  read_back : (pmax lmax : ℕ) (more : Bool) → table_fault pmax lmax t ≡ 0 → (more || eqb (length s) (text_end t)) ≡ true → (text_fault pmax lmax more s ≡ 0) × Same (of_text s) t
  read_back pmax lmax more legal end = (good_text pmax lmax more s accepted, read_same)
    where
      accepted : Accepted pmax lmax more s
      accepted =
          let p = probes_is in
          let m = links_is in
          record {
            head = head.0;
            need = λ v l. (need v (omega arith)).0;
            link = λ i l. rw p (link i (omega arith)).0;
            closing = rw (p, m) (take_begins (drop (link_start t.probes t.links) s) closing_line parts.3);
            end = rw (p, m) end;
            legal = same_fault (of_text s) t read_same pmax lmax ∙ legal;
          }

-- every legal table, written, reads back as itself
pub table_back : (pmax lmax : ℕ) (t : Table) (rest : List ℕ) → FourDigits t → table_fault pmax lmax t ≡ 0
    → (text_fault pmax lmax true (text_of t ++ rest) ≡ 0) × Same (of_text (text_of t ++ rest)) t
table_back pmax lmax t rest fits legal =
    let l = length_text t in
    let within : text_end t ≤ length (text_of t ++ rest) = simp length-append (omega arith) in
    read_back (text_of t ++ rest) t fits within (take_at (text_of t) rest (text_end t) l) pmax lmax true legal refl

pub table_whole : (pmax lmax : ℕ) (t : Table) → FourDigits t → table_fault pmax lmax t ≡ 0 → (text_fault pmax lmax false (text_of t) ≡ 0) × Same (of_text (text_of t)) t
table_whole pmax lmax t fits legal =
    let l = length_text t in
    read_back (text_of t) t fits (omega arith) (take_all (text_end t) (text_of t) (omega arith)) pmax lmax false legal (eq-eqb (length (text_of t)) (text_end t) l)
