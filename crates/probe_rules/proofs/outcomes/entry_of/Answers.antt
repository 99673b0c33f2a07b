use Rattle.probe_rules.proofs.outcomes.entry_of.Goals as goal

pub returns : goal.returns
returns c = rw c.what_of-what.ensures
