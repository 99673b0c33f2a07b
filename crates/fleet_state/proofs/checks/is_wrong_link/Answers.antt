use Rattle.fleet_state.proofs.checks.is_wrong_link.Goals as goal

pub returns : goal.returns
returns c = rw (c.is_wrong-first.ensures, c.is_wrong-second.ensures, c.is_wrong-third.ensures, c.is_wrong-fourth.ensures)
