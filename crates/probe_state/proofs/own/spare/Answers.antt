use borrow.Author.Rules.{rules}
use Rattle.probe_state.proofs.OwnLaws.{spare_by_ones}
use Rattle.probe_state.proofs.own.spare.Goals as goal

pub returns : goal.returns
returns c =
    let a = c.args in
    λ t few need own.
    spare_by_ones t a.probe 32 _ _ a.own.now a.needs.now few need own c.ones.ensures c.spare_of.ensures
