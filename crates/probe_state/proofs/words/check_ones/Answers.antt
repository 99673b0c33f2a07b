use borrow.Author.Rules.{rules}
use Rattle.bit_maps.specs.BitMap.{ones_of}
use Rattle.probe_state.proofs.FaultLaws.{standing_over, held_over, none_over}
use Rattle.probe_state.proofs.words.check_ones.Goals as goal

pub returns-then-spare-ones : goal.returns-then-spare-ones
returns-then-spare-ones c =
    let a = c.args in
    standing_over a.spare (ones_of a.standing.now) (ones_of a.held.now) _ c.ones.ensures c.if-spare-ones.true

pub returns-then-spare-ones-2 : goal.returns-then-spare-ones-2
returns-then-spare-ones-2 c =
    let a = c.args in
    held_over a.spare (ones_of a.standing.now) (ones_of a.held.now) _ _ c.ones.ensures c.ones-2.ensures c.if-spare-ones.false c.if-spare-ones-2.true

pub returns : goal.returns
returns c =
    let a = c.args in
    none_over a.spare (ones_of a.standing.now) (ones_of a.held.now) _ _ c.ones.ensures c.ones-2.ensures c.if-spare-ones.false c.if-spare-ones-2.false
