use borrow.Author.Rules.{rules}
use Prim.Native.Nat.{◌+◌}
use mathlib.Core.Path.{sym, ◌∙◌, ap}
use native.Mathlib.Omega.{arith}
use lib.ListN.{length}
use Rattle.wake_log.specs.declared.Answer.{Answer}
use Rattle.script_lines.specs.Fitting.{capped, stored_within}
use Rattle.script_theory.specs.Script.{answer_line}
use Rattle.script_lines.proofs.Lines.{length_entry}
use Rattle.script_lines.proofs.answers.put_answer.Goals as goal

pub returns-in-Logged : goal.returns-in-Logged
returns-in-Logged c =
    let a = c.args in
    let e = c.put_logged.ensures in
    let is = sym c.in-Logged.is in
    let n = length_entry c.in-Logged.e in
    (e.0 ∙ ap (λ (z : Answer). stored_within a.out.now a.at (answer_line z)) is, e.1 ∙ ap capped (omega arith) ∙ ap (λ (z : Answer). capped (a.at + length (answer_line z))) is)
