-- The numbers of an accepted text fit four digits.
use Prim.Native.Nat.{ℕ, ◌+◌}
use mathlib.Core.Path.{◌≡◌, refl}
use mathlib.Core.Bool.{Bool}
use mathlib.Core.List.{List}
use native.Mathlib.Omega.{arith}
use Rattle.lines.proofs.Lines.{GoodLine}
use Rattle.table.specs.Text.{of_text, need_start, link_start, text_fault}
use Rattle.table.proofs.Accepted.{text_good}
use Rattle.table.specs.Same.{FourDigits}
use Rattle.lines.proofs.Numbers.{Small, ReadsNumbers, reads_small}
use Rattle.table_laws.proofs.Tables.{head_row, need_row, link_row}

-- a link's numbers stand one after the other
pub link_reads : (s : List ℕ) (i : ℕ) → ReadsNumbers s (link_start (of_text s).probes i) (link_row (of_text s) i)
link_reads s i =
    let k : link_start (of_text s).probes i + 4 + 4 ≡ link_start (of_text s).probes i + 8 = omega arith in
    (refl, (refl, (rw k, tt)))

pub text_fits : (pmax lmax : ℕ) (more : Bool) (s : List ℕ) → text_fault pmax lmax more s ≡ 0 → FourDigits (of_text s)
text_fits pmax lmax more s e =
    let t = of_text s in
    let g = text_good pmax lmax more s e in
    let head = reads_small s 0 (head_row t) g.head (refl, (refl, (refl, tt))) in
    record {
      number = head.0;
      probes = head.1.0;
      links = head.1.1.0;
      need = λ v l. (reads_small s (need_start v) (need_row t v) (g.need v l) (refl, tt)).0;
      low = λ i l. (row i (g.link i l)).0;
      high = λ i l. (row i (g.link i l)).1.0;
      cost = λ i l. (row i (g.link i l)).1.1.0;
    }
  where
    row : (i : ℕ) → GoodLine s (link_start (of_text s).probes i) 12 → Small (link_row (of_text s) i)
    row i g = reads_small s (link_start (of_text s).probes i) (link_row (of_text s) i) g (link_reads s i)
