use Prim.Native.Nat.{ℕ}
use mathlib.Core.Path.{◌∙◌, ap}
use mathlib.Core.List.{List}
use native.Mathlib.Omega.{arith}
use lib.ListN.{length}
use Rattle.range.proofs.Faults.{or_left}
use Rattle.range.proofs.Lists.{zeros_at}
use Rattle.table.specs.Table.{item}
use Rattle.table.specs.Slices.{table_of, slices_room_fault, as_slices}
use Rattle.table.proofs.Faults.{ends_within}
use Rattle.table.proofs.LegalLaws.{legal_table}
use Rattle.table.proofs.Slices.{legal_slices}
use Rattle.plan_methods.proofs.Answers.{numbered}
use Rattle.plan_output.specs.Output.{plan_text}
use Rattle.output.proofs.Printing.{prints_refused, prints_done, too_short, long_enough}
use Rattle.plan_output.proofs.Printing.{end_says, plan_then}
use Rattle.plan_output.proofs.text.print_plan.Goals as goal

pub slse_plan-requires : goal.slse_plan-requires
slse_plan-requires c =
    let a = c.args in
    let pre = c.requires in
    let g = legal_slices 256 2048 (as_slices a.table) pre.0 in
    record {
      probes = a.table.probes;
      legal = g.legal;
      room = or_left (slices_room_fault (as_slices a.table)) _ pre.0;
      in_counts = pre.6;
      in_plan = pre.1;
      in_order = pre.2;
      in_half = pre.3;
      base = (pre.4, pre.5);
    }

pub count_degrees-requires : goal.count_degrees-requires
count_degrees-requires c =
    let a = c.args in
    let g = legal_slices 256 2048 (as_slices a.table) c.requires.0 in
    let z = c.clear_counts in
    let ends = ends_within a.table.probes a.table.links (length z.new.counts) (item a.table.lows.now) (item a.table.highs.now) (legal_table 256 2048 (table_of (as_slices a.table)) g.legal).links_pass (omega arith) in
    (g.in_lows, g.in_highs, omega (arith, g.within), ends, λ v. ap (λ (x : List ℕ). item x v) z.ensures ∙ zeros_at (length c.slse_plan.new.counts) v)

pub kept_count-kept-requires : goal.kept_count-kept-requires
kept_count-kept-requires c = (omega arith, (legal_slices 256 2048 (as_slices c.args.table) c.requires.0).within)

pub short_count-short-requires : goal.short_count-short-requires
short_count-short-requires c =
    let g = legal_slices 256 2048 (as_slices c.args.table) c.requires.0 in
    (g.few, g.in_needs, omega arith)

pub returns-then-out-end : goal.returns-then-out-end
returns-then-out-end c =
    let a = c.args in
    let pre = c.requires in
    let g = legal_slices 256 2048 (as_slices a.table) pre.0 in
    let t = a.table in
    let s = c.slse_plan in
    let p = numbered 0 t.number t.probes t.links t.needs.now t.lows.now t.highs.now t.costs.now a.plan.now s.new.plan (s.ensures t.probes pre.6 g.legal) in
    let l = end_says (table_of (as_slices t)) a.plan.now s.new.plan c.count_degrees.new.counts pre.1 p c.count_degrees.ensures _ _ c.kept_count-kept.ensures c.short_count-short.ensures in
    prints_refused _ 8 _ a.out.now (too_short (length a.out.now) (plan_text (table_of (as_slices t))) (omega arith)) (λ z. omega arith)

pub kept_cost-cost-requires : goal.kept_cost-cost-requires
kept_cost-cost-requires c =
    let g = legal_slices 256 2048 (as_slices c.args.table) c.requires.0 in
    (omega arith, g.in_costs, g.within)

pub put_kept-requires : goal.put_kept-requires
put_kept-requires c =
    let g = legal_slices 256 2048 (as_slices c.args.table) c.requires.0 in
    (omega arith, omega arith, g.in_lows, g.in_highs, g.in_costs)

pub put_shorts-requires : goal.put_shorts-requires
put_shorts-requires c =
    let g = legal_slices 256 2048 (as_slices c.args.table) c.requires.0 in
    (omega arith, g.few, g.in_needs, omega arith)

pub returns : goal.returns
returns c =
    let a = c.args in
    let pre = c.requires in
    let g = legal_slices 256 2048 (as_slices a.table) pre.0 in
    let b = a.table in
    let t = table_of (as_slices b) in
    let s = c.slse_plan in
    let p = numbered 0 b.number b.probes b.links b.needs.now b.lows.now b.highs.now b.costs.now a.plan.now s.new.plan (s.ensures b.probes pre.6 g.legal) in
    let d = c.count_degrees in
    let n = c.kept_count-kept in
    let k = c.short_count-short in
    let e = c.short_start-end.ensures in
    let l = end_says t a.plan.now s.new.plan d.new.counts pre.1 p d.ensures _ _ n.ensures k.ensures in
    let shorts = rw c.short_start-shorts.ensures at c.put_shorts.ensures in
    let closed = rw e at c.put_closing.ensures in
    prints_done _ _ _ a.out.now _ (long_enough (length a.out.now) (plan_text t) (omega arith)) (omega arith) c.if-out-end.false
    (plan_then t a.plan.now s.new.plan d.new.counts pre.1 p d.ensures n.result c.kept_cost-cost.result k.result a.out.now _ _ _ _ n.ensures c.kept_cost-cost.ensures k.ensures c.put_head.ensures c.put_kept.ensures shorts closed)
