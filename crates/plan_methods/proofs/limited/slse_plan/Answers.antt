use borrow.Author.Rules.{rules}
use Prim.Native.Nat.{ℕ}
use mathlib.Core.Path.{◌≡◌, ◌∙◌}
use mathlib.Core.List.{List}
use native.Mathlib.Omega.{arith}
use lib.ListN.{length}
use Rattle.table.specs.Table.{item, of_slices}
use Rattle.table.specs.Legal.{table_fault}
use Rattle.table.proofs.Faults.{room_good}
use Rattle.table.proofs.LegalLaws.{legal_table}
use Rattle.plan_order.specs.Order.{ByPlace}
use Rattle.plan_slse.specs.FromDearest.{InOrder}
use Rattle.plan_order.proofs.Order.{place_later}
use Rattle.plan_slse.proofs.Turns.{size, order_fits}
use Rattle.plan_methods.proofs.limited.slse_plan.Goals as goal

-- the order that `order_links` stores is that of the table
in_order : (probes links : ℕ) (rules lows highs costs order : List ℕ) → table_fault 256 2048 (of_slices 0 probes links rules lows highs costs) ≡ 0 → ByPlace links (item costs) order
    → InOrder (of_slices 0 probes links rules lows highs costs) order
in_order probes links rules lows highs costs order legal o =
    let t = of_slices 0 probes links rules lows highs costs in
    (legal, λ k l. (o.below k l, place_later t (legal_table 256 2048 t legal).order _ (o.below k l) ∙ o.placed k l))

pub order_links-requires : goal.order_links-requires
order_links-requires c =
    let a = c.args in
    let p = c.requires in
    let z = size p.probes a.table.links a.table.needs.now a.table.lows.now a.table.highs.now a.table.costs.now p.legal in
    let r = room_good p.probes a.table.links (length a.table.needs.now) (length a.table.lows.now) (length a.table.highs.now) (length a.table.costs.now) p.room in
    (z.within, p.in_order, p.in_half, p.base.0, p.base.1, omega arith)

pub plan_in_order-requires : goal.plan_in_order-requires
plan_in_order-requires c =
    let a = c.args in
    let p = c.requires in
    let call = c.order_links in
    let r = room_good p.probes a.table.links (length a.table.needs.now) (length a.table.lows.now) (length a.table.highs.now) (length a.table.costs.now) p.room in
    (order_fits p.probes a.table.links a.table.needs.now a.table.lows.now a.table.highs.now a.table.costs.now _ (length a.counts.now) (in_order p.probes a.table.links a.table.needs.now a.table.lows.now a.table.highs.now a.table.costs.now _ p.legal call.ensures) (omega (arith, call.auto.order, p.in_order)) r.needed r.linked (omega arith) p.in_counts, p.in_plan)

pub returns : goal.returns
returns c =
    λ probes wide legal.
    let a = c.args in
    c.plan_in_order.ensures probes a.table.costs.now wide (in_order probes a.table.links a.table.needs.now a.table.lows.now a.table.highs.now a.table.costs.now _ legal c.order_links.ensures)
