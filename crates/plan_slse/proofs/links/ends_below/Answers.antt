use borrow.Author.Tests.{lt-ltb, le-ltb}
use Rattle.plan_slse.proofs.links.ends_below.Goals as goal

pub returns-then-a-high : goal.returns-then-a-high
returns-then-a-high c =
    rw (lt-ltb _ _ c.if-a-low.true, lt-ltb _ _ c.if-a-high.true)

pub returns-then-a-low : goal.returns-then-a-low
returns-then-a-low c =
    rw (lt-ltb _ _ c.if-a-low.true, le-ltb _ _ c.if-a-high.false)

pub returns-then-a-high-2 : goal.returns-then-a-high-2
returns-then-a-high-2 c =
    rw (le-ltb _ _ c.if-a-low.false, lt-ltb _ _ c.if-a-high-2.true)

pub returns : goal.returns
returns c =
    rw (le-ltb _ _ c.if-a-low.false, le-ltb _ _ c.if-a-high-2.false)
