-- Each call lowers twice the count of untried offers: an offer made leaves one less; a displacement hands on to an offer after it.
use Rattle.std.proofs.Common.{◌+◌, ◌*◌}
use Rattle.plan_turns_search.specs.Record.{links_of, untried_count}
use Rattle.plan_turns.proofs.offers.+displace_make_offer.Given as goal

abbrev pub decreases-displace : goal.decreases-displace
decreases-displace l = 2 * untried_count (links_of l.site.now) l.rec.now

abbrev pub decreases-make_offer : goal.decreases-make_offer
decreases-make_offer l = 2 * untried_count (links_of l.site.now) l.rec.now + 1
