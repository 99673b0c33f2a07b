use borrow.Author.Rules.{rules}
use borrow.Author.Tests.{eq-eqb, ne_eqb}
use Rattle.probe_state.proofs.words.check_lengths.Goals as goal

pub returns-then-standing-words : goal.returns-then-standing-words
returns-then-standing-words c = rw (ne_eqb _ _ c.if-standing-words.true)

pub returns-then-refused_out-words : goal.returns-then-refused_out-words
returns-then-refused_out-words c = rw (eq-eqb _ _ c.if-standing-words.false, ne_eqb _ _ c.if-refused_out-words.true)

pub returns-then-held-words : goal.returns-then-held-words
returns-then-held-words c = rw (eq-eqb _ _ c.if-standing-words.false, eq-eqb _ _ c.if-refused_out-words.false, ne_eqb _ _ c.if-held-words.true)

pub returns-then-refused_in-words : goal.returns-then-refused_in-words
returns-then-refused_in-words c = rw (eq-eqb _ _ c.if-standing-words.false, eq-eqb _ _ c.if-refused_out-words.false, eq-eqb _ _ c.if-held-words.false, ne_eqb _ _ c.if-refused_in-words.true)

pub returns : goal.returns
returns c = rw (eq-eqb _ _ c.if-standing-words.false, eq-eqb _ _ c.if-refused_out-words.false, eq-eqb _ _ c.if-held-words.false, eq-eqb _ _ c.if-refused_in-words.false)
