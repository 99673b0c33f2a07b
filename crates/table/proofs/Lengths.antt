-- The lengths of a table's lines and text.
use Prim.Native.Nat.{ℕ, ◌*◌, ◌≤◌}
use mathlib.Core.Path.{◌≡◌, ◌∙◌}
use mathlib.Core.List.{List, [], ◌∷◌, ◌++◌}
use native.Mathlib.Omega.{arith}
use lib.ListN.{length, length-append}
use Rattle.range.specs.Lists.{joined}
use Rattle.range.proofs.Faults.{or_left}
use Rattle.range.proofs.Lists.{length_joined}
use Rattle.hex_digits.specs.Digits.{digits}
use Rattle.hex_digits.proofs.Laws.{length_digits}
use Rattle.table.specs.Table.{Table}
use Rattle.table.specs.Legal.{Legal}
use Rattle.table.specs.Text.{need_line, triple_line, closing_line, text_of, text_end}
use Rattle.table.proofs.Faults.{size_good}

pub length_need : (need : ℕ) → length (need_line need) ≡ 5
length_need need = length-append (digits 4 need) (10 ∷ []) ∙ (let e = length_digits 4 need in omega arith)

pub length_triple : (a b c : ℕ) → length (triple_line a b c) ≡ 13
length_triple a b c =
    simp length-append (let x = length_digits 4 a in let y = length_digits 4 b in let z = length_digits 4 c in omega arith)

module _ (t : Table) where
  abbrev pub header : List ℕ
  header = triple_line t.number t.probes t.links

  abbrev pub need_lines : List ℕ
  need_lines = joined (λ v. need_line (t.need v)) t.probes

  abbrev pub link_lines : List ℕ
  link_lines = joined (λ i. triple_line (t.low i) (t.high i) (t.cost i)) t.links

  pub length_header : length header ≡ 13
  length_header = length_triple t.number t.probes t.links

  pub length_needs : length need_lines ≡ 5 * t.probes
  length_needs = length_joined (λ v. need_line (t.need v)) 5 t.probes (λ v. length_need (t.need v))

  pub length_links : length link_lines ≡ 13 * t.links
  length_links =
      length_joined (λ i. triple_line (t.low i) (t.high i) (t.cost i)) 13 t.links (λ i. length_triple (t.low i) (t.high i) (t.cost i))

  pub length_text : length (text_of t) ≡ text_end t
  unfolding text_of
  length_text =
      let a = length-append header (need_lines ++ (link_lines ++ closing_line)) in
      let b = length-append need_lines (link_lines ++ closing_line) in
      let d = length-append link_lines closing_line in
      let h = length_header in
      let n = length_needs in
      let m = length_links in
      omega arith

-- "The longest text has 27,922 bytes."

pub longest : (t : Table) → Legal t → length (text_of t) ≤ 27922
longest t e =
    let s = size_good 256 2048 t.probes t.links (or_left _ _ e) in
    let l = length_text t in
    omega arith

pub longest_is : (t : Table) → t.probes ≡ 256 → t.links ≡ 2048 → length (text_of t) ≡ 27922
longest_is t p l = let e = length_text t in omega arith
