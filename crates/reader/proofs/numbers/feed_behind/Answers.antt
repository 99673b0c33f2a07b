use Prim.Native.Nat.{◌+◌}
use native.Mathlib.Omega.{arith}
use lib.ListN.{length}
use borrow.Author.Tests.{lt-ltb, le-ltb}
use Rattle.reader.proofs.numbers.feed_behind.Goals as goal

pub returns-then-text-width : goal.returns-then-text-width
returns-then-text-width c =
    let a = c.args in
    rw (le-ltb (a.at + a.width) (length a.text.now) (omega (arith, c.if-text-width.true)))

pub returns-then-text-width-2 : goal.returns-then-text-width-2
returns-then-text-width-2 c =
    let a = c.args in
    rw (le-ltb (a.at + a.width) (length a.text.now) (omega (arith, c.if-text-width-2.true, c.if-text-width.false)))

pub returns : goal.returns
returns c =
    let a = c.args in
    rw (lt-ltb (a.at + a.width) (length a.text.now) (omega (arith, c.if-text-width-2.false, c.if-text-width.false)))
