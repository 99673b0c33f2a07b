use borrow.Author.Rules.{rules}
use native.Mathlib.Omega.{arith}
use lib.ListN.{length-set}
use Rattle.script_lines.proofs.Lines.{entry_then}
use Rattle.script_lines.proofs.answers.put_entry.Goals as goal

pub shape_of-out : goal.shape_of-out
shape_of-out c =
    simp length-set (omega (arith, c.put_number-4.auto.out, c.put_number-3.auto.out, c.put_number-2.auto.out, c.put_number.auto.out))

pub returns : goal.returns
returns c =
    let a = c.args in
    entry_then a.e a.out.now _ _ _ _ a.at _ _ _ c.put_number.ensures c.code.ensures c.put_number-2.ensures c.link_place.ensures c.put_number-3.ensures c.displaced_probe.ensures c.put_number-4.ensures
