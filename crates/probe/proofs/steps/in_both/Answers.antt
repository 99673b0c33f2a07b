use mathlib.Core.Path.{sym, ◌∙◌}
use borrow.Author.Tests.{not-true, not-false}
use Rattle.probe.proofs.steps.in_both.Goals as goal

pub returns-then-not-has : goal.returns-then-not-has
returns-then-not-has c = rw (sym c.has.ensures ∙ not-true _ c.if-not-has.true-raw)

pub returns : goal.returns
returns c = rw (sym c.has.ensures ∙ not-false _ c.if-not-has.false-raw) c.has-2.ensures
