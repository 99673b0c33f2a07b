-- Invariant: above e nothing is left to offer; in the inner loop, below f the target holds no offer. Measure: the directions cheaper than e, and those dearer than f.
use Prim.Native.Nat.{◌*◌}
use mathlib.Core.Path.{◌≡◌}
use Rattle.plan_turns_search.specs.Record.{at_source, links_of, key_of, turned_key, site_of}
use Rattle.plan_turns_search.specs.Offers.{HeldSearch, OfferSearch}
use Rattle.plan_turns_search.proofs.Chain.{chain_measure}
use Rattle.plan_turns_search.proofs.search.next_offer.Given as goal

abbrev pub invariant-loop-d : goal.invariant-loop-d
invariant-loop-d l = (l.found ≡ 2 * links_of l.site) × HeldSearch (site_of l.site) (at_source l.rec) l.v l.f

abbrev pub decreases-loop-d : goal.decreases-loop-d
decreases-loop-d l = chain_measure (2 * links_of l.site) (turned_key l.site) l.f

abbrev pub invariant-search : goal.invariant-search
invariant-search l = (l.found ≡ 2 * links_of l.site) × OfferSearch (site_of l.site) (at_source l.rec) l.u l.e

abbrev pub decreases-search : goal.decreases-search
decreases-search l = chain_measure (2 * links_of l.site) (key_of l.site) l.e
