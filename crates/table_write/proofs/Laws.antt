-- The parts of the text, as the writer stores them.
use Prim.Native.Nat.{ℕ}
use mathlib.Core.Path.{◌≡◌}
use mathlib.Core.List.{List, ◌++◌}
use native.Mathlib.Omega.{arith}
use lib.Seq.{sets}
use Rattle.range.proofs.Sets.{sets_then}
use Rattle.table.specs.Table.{Table}
use Rattle.table.specs.Text.{closing_line, need_start, link_start, text_of}
use Rattle.table.proofs.Lengths.{header, need_lines, link_lines, length_header, length_needs, length_links}

-- the four parts of the text, stored in turn
pub text_then : (t : Table) (l l₁ l₂ l₃ l₄ : List ℕ) → l₁ ≡ sets l 0 (header t) → l₂ ≡ sets l₁ (need_start 0) (need_lines t) → l₃ ≡ sets l₂ (need_start t.probes) (link_lines t)
    → l₄ ≡ sets l₃ (link_start t.probes t.links) closing_line → l₄ ≡ sets l 0 (text_of t)
unfolding text_of
text_then t l l₁ l₂ l₃ l₄ e₁ e₂ e₃ e₄ =
    let h = length_header t in
    let n = length_needs t in
    let m = length_links t in
    sets_then l l₁ l₄ 0 (need_start 0) (header t) ((need_lines t) ++ ((link_lines t) ++ closing_line)) e₁ (omega arith)
    (sets_then l₁ l₂ l₄ (need_start 0) (need_start t.probes) (need_lines t) ((link_lines t) ++ closing_line) e₂ (omega arith)
    (sets_then l₂ l₃ l₄ (need_start t.probes) (link_start t.probes t.links) (link_lines t) closing_line e₃ (omega arith) e₄))
