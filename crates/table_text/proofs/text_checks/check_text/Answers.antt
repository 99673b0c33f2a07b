use Rattle.std.proofs.Common.{rules}
use Rattle.table.specs.Text.{text_fault}
use Rattle.table_text.proofs.text_checks.check_text.Goals as goal

pub returns-in_err-head : goal.returns-in_err-head
unfolding text_fault
returns-in_err-head c = search rules

pub returns-in_err-check_body : goal.returns-in_err-check_body
unfolding text_fault
returns-in_err-check_body c = search rules

pub returns : goal.returns
unfolding text_fault
returns c = search rules
