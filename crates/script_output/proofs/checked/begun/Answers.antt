use mathlib.Core.Path.{refl}
use borrow.Author.Tests.{lt-ltb, le-ltb}
use Rattle.script_output.proofs.checked.begun.Goals as goal

pub returns-then-progress-lt16 : goal.returns-then-progress-lt16
returns-then-progress-lt16 c = (refl, rw (lt-ltb _ _ c.if-progress-lt16.true), refl)

pub returns : goal.returns
returns c = (refl, rw (le-ltb _ _ c.if-progress-lt16.false), refl)
