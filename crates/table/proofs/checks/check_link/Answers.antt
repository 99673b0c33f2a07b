use Rattle.std.proofs.Common.{rules}
use Rattle.table.specs.Legal.{link_fault}
use Rattle.table.proofs.checks.check_link.Goals as goal

pub returns-in_err-check_ends : goal.returns-in_err-check_ends
unfolding link_fault
returns-in_err-check_ends c = search rules

pub returns-then-i-eq0 : goal.returns-then-i-eq0
unfolding link_fault
returns-then-i-eq0 c = search rules

pub returns : goal.returns
unfolding link_fault
returns c = search rules
