use borrow.Author.Rules.{rules}
use native.Mathlib.Omega.{arith}
use Rattle.script_steps.proofs.numbers.add_used.Goals as goal

pub overflow_add-result : goal.overflow_add-result
overflow_add-result c = let w = rw c.in-Logged.is at c.requires in omega arith

pub returns-in-Logged : goal.returns-in-Logged
returns-in-Logged c = rw c.in-Logged.is

pub returns-in-Refused : goal.returns-in-Refused
returns-in-Refused c = rw c.in-Refused.is (omega arith)
