use native.Mathlib.Omega.{arith}
use Rattle.probe_decisions.proofs.SearchLaws.{one_cleared, all_cleared}
use Rattle.probe_decisions.proofs.search.remove_tried.Goals as goal

pub loop-w-preserved : goal.loop-w-preserved
loop-w-preserved c = one_cleared _ _ _ _ _ (λ k. (c.type_inv.one k).fits) (λ k. (c.type_inv.two k).fits) (omega arith) c.loop-w.invariant

pub returns : goal.returns
returns c = all_cleared _ _ _ _ _ (omega arith) (omega arith) c.loop-w.invariant
