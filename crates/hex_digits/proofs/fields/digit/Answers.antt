use borrow.Author.Tests.{lt-ltb, le-ltb}
use Rattle.hex_digits.specs.Digits.{digit_of}
use Rattle.hex_digits.proofs.fields.digit.Goals as goal

pub returns-then-v-lt10 : goal.returns-then-v-lt10
unfolding digit_of
returns-then-v-lt10 c = rw (lt-ltb _ _ c.if-v-lt10.true)

pub returns-else-v-lt10 : goal.returns-else-v-lt10
unfolding digit_of
returns-else-v-lt10 c = rw (le-ltb _ _ c.if-v-lt10.false)
