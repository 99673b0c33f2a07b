use borrow.Author.Rules.{rules}
use mathlib.Core.Path.{sym, ◌∙◌}
use mathlib.Core.Bool.{true≢false}
use native.Mathlib.Omega.{arith}
use borrow.Author.Tests.{eq-eqb, ne_eqb, le-ltb, lt-ltb}
use Rattle.fleet.proofs.line_checks.find_ends.Goals as goal

pub returns-then-from-to : goal.returns-then-from-to
returns-then-from-to c = rw c.refused.ensures (rw (sym c.is_of_one_probe.ensures ∙ c.if-is_of_one_probe.true, ne_eqb _ _ c.if-from-to.true), λ z k. absurd (omega arith))

pub returns-then-probes-to : goal.returns-then-probes-to
returns-then-probes-to c = rw c.refused-then-probes-to.ensures
    (rw (sym c.is_of_one_probe.ensures ∙ c.if-is_of_one_probe.true, eq-eqb _ _ c.if-from-to.false, le-ltb _ _ c.if-probes-to.true), λ z k. absurd (omega arith))

pub returns-then-is_of_one_probe : goal.returns-then-is_of_one_probe
returns-then-is_of_one_probe c =
    let one = sym c.is_of_one_probe.ensures ∙ c.if-is_of_one_probe.true in
    rw c.refused-then-is_of_one_probe.ensures (rw (one, eq-eqb _ _ c.if-from-to.false, lt-ltb _ _ c.if-probes-to.false), λ z k. absurd (true≢false (sym one ∙ k)))

pub returns-then-links-link : goal.returns-then-links-link
returns-then-links-link c = rw c.refused-then-links-link.ensures
    (rw (sym c.is_of_one_probe.ensures ∙ c.if-is_of_one_probe.false, ← c.between-link.ensures, le-ltb _ _ c.if-links-link.true), λ z k. absurd (omega arith))

pub returns : goal.returns
returns c = (rw (sym c.is_of_one_probe.ensures ∙ c.if-is_of_one_probe.false, ← c.between-link.ensures, lt-ltb _ _ c.if-links-link.false), λ z k. c.between-link.ensures)
