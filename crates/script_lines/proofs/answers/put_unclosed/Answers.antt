use borrow.Author.Rules.{rules}
use mathlib.Core.Path.{refl}
use native.Mathlib.Omega.{arith}
use borrow.Author.Tests.{eq-eqb, ne_eqb}
use Rattle.script_lines.proofs.answers.put_unclosed.Goals as goal

pub returns-then-held-eq0 : goal.returns-then-held-eq0
returns-then-held-eq0 c = rw (eq-eqb _ _ c.if-held-eq0.true) (refl, omega arith)

pub returns : goal.returns
returns c =
    rw (ne_eqb _ _ c.if-held-eq0.false) (c.put_refusal.ensures, refl)
