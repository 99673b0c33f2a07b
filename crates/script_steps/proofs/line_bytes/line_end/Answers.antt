use Rattle.script_steps.proofs.Closing.{end_here, end_missing}
use Rattle.script_steps.proofs.line_bytes.line_end.Goals as goal

pub returns-in-Some : goal.returns-in-Some
returns-in-Some c =
    let a = c.args in
    end_here a.text.now a.at _ _ _ c.find_line-found.ensures c.in-Some.is

pub returns-in-None : goal.returns-in-None
returns-in-None c =
    let a = c.args in
    end_missing a.text.now a.at _ c.find_line-found.ensures c.in-None.is
