use Rattle.probe_log.proofs.Stored.{call_stored}
use Rattle.probe_log.proofs.hear_logged.Goals as goal

pub returns : goal.returns
returns c = call_stored _ _ _ _ _ _ _ _ _ _ (rw c.free.ensures at c.hear-answer.ensures) c.append_answer.ensures
