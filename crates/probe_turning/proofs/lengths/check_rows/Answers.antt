use borrow.Author.Rules.{rules}
use borrow.Author.Tests.{lt-ltb, le-ltb}
use Rattle.probe_turning.proofs.lengths.check_rows.Goals as goal

pub returns-then-standing-words : goal.returns-then-standing-words
returns-then-standing-words c = rw (lt-ltb _ _ c.if-standing-words.true)

pub returns-then-refused_out-words : goal.returns-then-refused_out-words
returns-then-refused_out-words c = rw (le-ltb _ _ c.if-standing-words.false, lt-ltb _ _ c.if-refused_out-words.true)

pub returns-then-held-words : goal.returns-then-held-words
returns-then-held-words c = rw (le-ltb _ _ c.if-standing-words.false, le-ltb _ _ c.if-refused_out-words.false, lt-ltb _ _ c.if-held-words.true)

pub returns-then-refused_in-words : goal.returns-then-refused_in-words
returns-then-refused_in-words c = rw (le-ltb _ _ c.if-standing-words.false, le-ltb _ _ c.if-refused_out-words.false, le-ltb _ _ c.if-held-words.false, lt-ltb _ _ c.if-refused_in-words.true)

pub returns : goal.returns
returns c = rw (le-ltb _ _ c.if-standing-words.false, le-ltb _ _ c.if-refused_out-words.false, le-ltb _ _ c.if-held-words.false, le-ltb _ _ c.if-refused_in-words.false)
