use borrow.Author.Tests.{lt-ltb, le-ltb, eq-eqb, ne_eqb}
use Rattle.probe_record.proofs.checks.check_byte.Goals as goal

pub returns-then-rec-i-gt2 : goal.returns-then-rec-i-gt2
returns-then-rec-i-gt2 c = rw (lt-ltb _ _ c.if-rec-i-gt2.true)

pub returns-then-rec-i-gt2-2 : goal.returns-then-rec-i-gt2-2
returns-then-rec-i-gt2-2 c = rw (le-ltb _ _ c.if-rec-i-gt2.false, lt-ltb _ _ c.if-rec-i-gt2-2.true)

pub returns-then-touches : goal.returns-then-touches
returns-then-touches c =
    rw (le-ltb _ _ c.if-rec-i-gt2.false, le-ltb _ _ c.if-rec-i-gt2-2.false, ← c.touches.ensures, c.if-touches.true)

pub returns-then-rec-i-ne0 : goal.returns-then-rec-i-ne0
returns-then-rec-i-ne0 c =
    rw (le-ltb _ _ c.if-rec-i-gt2.false, le-ltb _ _ c.if-rec-i-gt2-2.false, ← c.touches.ensures, c.if-touches.false, ne_eqb _ _ c.if-rec-i-ne0.true)

pub returns-then-rec-i-ne0-2 : goal.returns-then-rec-i-ne0-2
returns-then-rec-i-ne0-2 c =
    rw (le-ltb _ _ c.if-rec-i-gt2.false, le-ltb _ _ c.if-rec-i-gt2-2.false, ← c.touches.ensures, c.if-touches.false, eq-eqb _ _ c.if-rec-i-ne0.false, ne_eqb _ _ c.if-rec-i-ne0-2.true)

pub returns : goal.returns
returns c =
    rw (le-ltb _ _ c.if-rec-i-gt2.false, le-ltb _ _ c.if-rec-i-gt2-2.false, ← c.touches.ensures, c.if-touches.false, eq-eqb _ _ c.if-rec-i-ne0.false, eq-eqb _ _ c.if-rec-i-ne0-2.false)
