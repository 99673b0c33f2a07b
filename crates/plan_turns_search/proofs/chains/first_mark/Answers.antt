use borrow.Author.Tests.{lt-ltb, le-ltb}
use Rattle.plan_turns_search.proofs.chains.first_mark.Goals as goal

pub returns-then-j-lt-OFFER_CURSOR : goal.returns-then-j-lt-OFFER_CURSOR
returns-then-j-lt-OFFER_CURSOR c = rw (lt-ltb _ _ c.if-j-lt-OFFER_CURSOR.true)

pub returns-else-j-lt-OFFER_CURSOR : goal.returns-else-j-lt-OFFER_CURSOR
returns-else-j-lt-OFFER_CURSOR c = rw (le-ltb _ _ c.if-j-lt-OFFER_CURSOR.false)
