use borrow.Author.Rules.{rules}
use native.Mathlib.Omega.{arith}
use Rattle.script_steps.proofs.numbers.add_changes.Goals as goal

pub returns-in-Logged : goal.returns-in-Logged
returns-in-Logged c = rw (c.in-Logged.is, ← c.changes_of-n.ensures)

pub returns-in-Refused : goal.returns-in-Refused
returns-in-Refused c = rw c.in-Refused.is (omega arith)
