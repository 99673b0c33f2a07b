-- The links that the search answers.
use Prim.Native.Nat.{ℕ}
use mathlib.Core.List.{List}
use native.Mathlib.Nat.{le_refl}
use Rattle.range.proofs.Choice.{Best, best_is}
use Rattle.table.specs.Table.{Table, dearer, cheaper}
use Rattle.table.specs.Legal.{RisingLinks}
use Rattle.plan_theory.proofs.Places.{Order, reversed}
use Rattle.plan_theory.proofs.Order.{dearer_order}
use Rattle.probe_record.specs.Record.{outbound, inbound, own_with, dearest_untried, cheapest_held}

module _ (t : Table) (rises : RisingLinks t) (p : ℕ) (e : List ℕ) where
  abbrev order : Order t.links (dearer t)
  order = dearer_order t rises

  pub dearest : Best (dearer t) (own_with t p (outbound e) 0) t.links t.links (dearest_untried t p e)
  dearest = best_is (dearer t) (own_with t p (outbound e) 0) t.links order.irreflexive order.transitive t.links (le_refl t.links)

  pub cheapest : Best (cheaper t) (own_with t p (inbound e) 1) t.links t.links (cheapest_held t p e)
  cheapest =
      let o = reversed order in
      best_is (cheaper t) (own_with t p (inbound e) 1) t.links o.irreflexive o.transitive t.links (le_refl t.links)
