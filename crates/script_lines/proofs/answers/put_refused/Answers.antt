use borrow.Author.Rules.{rules}
use Prim.Native.Nat.{◌+◌}
use mathlib.Core.Path.{sym, ◌∙◌}
use native.Mathlib.Omega.{arith}
use Rattle.output.specs.Output.{refusal_line}
use Rattle.script_lines.proofs.Fitting.{capped_below, stored_fits, stored_short}
use Rattle.script_lines.proofs.answers.put_refused.Goals as goal

pub returns-then-out-next : goal.returns-then-out-next
returns-then-out-next c =
    let a = c.args in
    (sym (stored_short a.out.now a.at (refusal_line a.fault) (omega (arith, c.if-out-next.true))), c.cap.ensures)

pub returns : goal.returns
returns c =
    let a = c.args in
    let fits = stored_fits a.out.now a.at (refusal_line a.fault) (omega (arith, c.if-out-next.false)) in
    (c.put_refusal.ensures ∙ sym fits, sym (capped_below (a.at + 5) (omega (arith, c.if-out-next.false, c.well_formed.0))))
