use Rattle.std.proofs.Common.{◌≡◌, ℕ, List, ◌∙◌, ap, arith, length}
use Rattle.range.proofs.Lists.{zeros_at}
use Rattle.table.specs.Table.{item}
use Rattle.plan_turns_search.proofs.Turns.{zeros_ready, zeros_kept}
use Rattle.plan_turns_search.proofs.Plan.{small, ends, plan_bytes}
use Rattle.plan_turns.proofs.method.by_turns.Goals as goal

pub link_up-requires : goal.link_up-requires
link_up-requires c =
    let a = c.args in
    let p = c.requires in
    let s = small a.table.number a.table.probes a.table.links a.table.needs.now a.table.lows.now a.table.highs.now a.table.costs.now p.0 in (
      s.1,
      s.0,
      p.2,
      p.3,
      p.4,
      record {
        in_spares = omega (arith, c.find_spares.auto.spares, p.7.in_spares);
        in_marks = p.7.in_marks;
        in_site = p.7.in_site;
        in_order = p.7.in_order;
        in_half = p.7.in_half;
        base = p.7.base;
      },
      λ i l. let e = ends a.table.number a.table.probes a.table.links a.table.needs.now a.table.lows.now a.table.highs.now a.table.costs.now p.0 i l in (e.rises, e.below),
    )

pub take_turns-requires : goal.take_turns-requires
take_turns-requires c =
    let a = c.args in
    let p = c.requires in
    let w = c.clear in
    let k = c.link_up in
    let x = k.new.site in
    let few = k.ensures.1.probe_count in
    let m = k.ensures.1.link_count in
    let none : (j : ℕ) → item w.new.work j ≡ 0 = λ j. ap (λ (r : List ℕ). item r j) w.ensures ∙ zeros_at (length a.work.now) j in (
      zeros_ready x w.new.work k.ensures.0 none (omega (arith, w.auto.work, p.6)),
      zeros_kept x w.new.work k.ensures.0 none k.new.marks (omega (arith, k.auto.marks, p.7.in_marks)) k.ensures.2,
      omega arith,
    )

pub returns-clause-plan_after : goal.returns-clause-plan_after
returns-clause-plan_after c =
    let a = c.args in
    let f = c.find_spares in
    let k = c.link_up in
    let t = c.take_turns in
    c.write_plan.ensures ∙ plan_bytes a.table.number a.table.probes a.table.links a.table.needs.now a.table.lows.now a.table.highs.now a.table.costs.now c.requires.0 f.new.spares k.new.site k.ensures.1 f.ensures t.new.rec t.ensures a.plan.now
