use Rattle.fleet_log.proofs.Stored.{line_stored}
use Rattle.fleet_log.proofs.event_logged.Goals as goal

pub returns : goal.returns
returns c = line_stored _ _ _ _ _ _ _ _ c.event-answer.ensures c.append_answer.ensures
