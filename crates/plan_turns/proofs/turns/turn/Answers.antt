use Rattle.plan_turns_search.proofs.Turns.{turn_next, turned_none}
use Rattle.plan_turns.proofs.turns.turn.Goals as goal

pub loop-rec-preserved : goal.loop-rec-preserved
loop-rec-preserved c =
    let m = c.make_offer.ensures in
    (turn_next _ _ _ _ _ _ m.0 c.loop-rec.invariant.0, m.1)

pub returns-else-make_offer : goal.returns-else-make_offer
returns-else-make_offer c =
    let m = c.make_offer.ensures in
    (turned_none _ _ _ _ _ _ m.0 c.loop-rec.invariant.0 c.if-make_offer.false, m.1)
