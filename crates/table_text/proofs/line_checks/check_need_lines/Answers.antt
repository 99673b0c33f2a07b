use Rattle.std.proofs.Common.{rules}
use Prim.Native.Nat.{◌+◌, ◌*◌}
use mathlib.Core.Path.{◌≡◌, sym, ◌∙◌, ap}
use native.Mathlib.Omega.{arith}
use Rattle.range.specs.First.{first}
use Rattle.range.proofs.Faults.{first_none}
use Rattle.refusals.proofs.Laws.{first_refused, at_exit}
use Rattle.lines.specs.Digits.{line_fault}
use Rattle.table.specs.Text.{need_start}
use Rattle.table_text.proofs.line_checks.check_need_lines.Goals as goal

pub loop-v-init : goal.loop-v-init
unfolding first
loop-v-init c = search rules

pub returns-in_err-need_line : goal.returns-in_err-need_line
returns-in_err-need_line c =
    let at : c.args.start + 5 * c.loop-v.v ≡ need_start c.loop-v.v = omega arith in
    let e = c.in_err-need_line.ensures.0 ∙ ap (λ k. line_fault c.args.text.now k 4) at in
    at_exit _ _ _ c.from_residual.ensures.1 (first_refused _ _ _ _ c.loop-v.invariant c.loop-v-test.true e)

pub loop-v-preserved : goal.loop-v-preserved
loop-v-preserved c =
    let at : c.args.start + 5 * c.loop-v.v ≡ need_start c.loop-v.v = omega arith in
    first_none _ _ c.loop-v.invariant (sym (c.in_ok-need_line.ensures.0 ∙ ap (λ k. line_fault c.args.text.now k 4) at))
