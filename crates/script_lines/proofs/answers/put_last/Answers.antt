use borrow.Author.Rules.{rules}
use native.Mathlib.Omega.{arith}
use mathlib.Core.Logic.{⊎_elim}
use lib.ListN.{length-set}
use Rattle.script_lines.proofs.Lines.{last_then}
use Rattle.script_lines.proofs.answers.put_last.Goals as goal
use Rattle.script_lines.proofs.answers.put_last.Goals.{else-done, then-done}

pub shape_of-out : goal.shape_of-out
shape_of-out c =
    simp length-set (omega (arith, c.put_number-2.auto.out, c.put_number.auto.out))

pub returns : goal.returns
returns c =
    let a = c.args in
    last_then a.done a.changed _ a.at a.out.now _ _ (elim c.if-done.branch [ then-done w ↦ rw w.if-done.true w.flag-is | else-done w ↦ rw w.if-done.false w.flag-is ]) c.put_number.ensures c.put_number-2.ensures
