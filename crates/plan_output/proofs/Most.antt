-- 22 bytes, 13 a link and 9 a probe hold every output: 28,950 in the full limits, so the buffer of the plan program always suffices.
use Prim.Native.Nat.{ℕ, ◌+◌, ◌*◌, ◌≤◌}
use mathlib.Core.Path.{◌≡◌, ◌∙◌}
use mathlib.Core.Bool.{false}
use mathlib.Core.List.{List}
use native.Mathlib.Omega.{arith}
use native.Mathlib.Decide.{ℕ_discrete}
use lib.ListN.{length}
use borrow.Author.Tests.{eq-eqb, ne_eqb}
use Rattle.range.proofs.Sums.{count_le}
use Rattle.table.specs.Table.{is_short}
use Rattle.table.specs.Text.{of_text, text_fault}
use Rattle.table_text.proofs.Good.{text_head}
use Rattle.plan_theory.specs.Plan.{kept}
use Rattle.plan_output.specs.Output.{output_of, PrintsText}
use Rattle.output.specs.declared.Output.{Output}
use Rattle.output.specs.declared.Output.TheVariants.{Length}
use Rattle.output.proofs.Printing.{prints_answer, long_enough}
use Rattle.plan_output.proofs.Printing.{length_plan}

pub most : (pmax lmax : ℕ) (s : List ℕ) → length (output_of pmax lmax s) ≤ 22 + 13 * lmax + 9 * pmax
most pmax lmax s = go (ℕ_discrete (text_fault pmax lmax false s) 0)
  where
    go : Dec (text_fault pmax lmax false s ≡ 0) → length (output_of pmax lmax s) ≤ 22 + 13 * lmax + 9 * pmax
    go (yes e) =
        let z = (text_head pmax lmax false s e).size in
        let l = length_plan (of_text s) in
        let n = count_le (of_text s).links (kept (of_text s)) in
        let m = count_le (of_text s).probes (is_short (of_text s)) in
        rw (eq-eqb (text_fault pmax lmax false s) 0 e) (omega arith)
    go (no n) = rw (ne_eqb (text_fault pmax lmax false s) 0 n) (omega arith)

pub always_printed : (pmax lmax : ℕ) (s : List ℕ) (r : Output) (out out' : List ℕ) → 22 + 13 * lmax + 9 * pmax ≤ length out
    → PrintsText pmax lmax s r out out' → r ≡ Length (length (output_of pmax lmax s))
always_printed pmax lmax s r out out' l p =
    let k = most pmax lmax s in
    prints_answer p ∙ rw (long_enough (length out) (output_of pmax lmax s) (omega arith))
