-- Invariant: below f the end holds no offer. Measure: the directions dearer than f.
use Prim.Native.Nat.{◌*◌}
use Rattle.plan_turns_search.specs.Record.{at_source, links_of, turned_key, site_of}
use Rattle.plan_turns_search.specs.Offers.{HeldSearch}
use Rattle.plan_turns_search.proofs.Chain.{chain_measure}
use Rattle.plan_turns_search.proofs.search.cheapest.Given as goal

abbrev pub invariant-loop-f : goal.invariant-loop-f
invariant-loop-f l = HeldSearch (site_of l.site) (at_source l.rec) l.v l.f

abbrev pub decreases-loop-f : goal.decreases-loop-f
decreases-loop-f l = chain_measure (2 * links_of l.site) (turned_key l.site) l.f
