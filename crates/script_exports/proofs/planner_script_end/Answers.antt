use borrow.Author.Rules.{rules}
use native.Mathlib.Omega.{arith}
use Rattle.output.proofs.Printing.{printed_within}
use Rattle.packed_answers.proofs.Answers.{prints_packed}
use Rattle.script_exports.proofs.planner_script_end.Goals as goal

pub packed_output-requires : goal.packed_output-requires
packed_output-requires c =
    λ n is.
    let k = c.script_end in
    let l = printed_within _ n _ _ _ _ k.ensures is k.auto.out in
    omega (arith, c.well_formed.1.1.1.1.1.1.1.1.1.1.0)

pub returns : goal.returns
returns c =
    prints_packed _ _ _ _ _ _ c.script_end.ensures c.packed_output.ensures
