use borrow.Author.Rules.{rules}
use mathlib.Core.Path.{sym, ◌∙◌}
use borrow.Author.Tests.{eq-eqb, ne_eqb}
use Rattle.fleet.proofs.line_checks.line_event.Goals as goal

pub returns-then-is_of_one_probe : goal.returns-then-is_of_one_probe
returns-then-is_of_one_probe c = rw (sym c.is_of_one_probe.ensures ∙ c.if-is_of_one_probe.true)

pub returns-then-kind-eq1 : goal.returns-then-kind-eq1
returns-then-kind-eq1 c = rw (sym c.is_of_one_probe.ensures ∙ c.if-is_of_one_probe.false, eq-eqb _ _ c.if-kind-eq1.true)

pub returns : goal.returns
returns c = rw (sym c.is_of_one_probe.ensures ∙ c.if-is_of_one_probe.false, ne_eqb _ _ c.if-kind-eq1.false)
