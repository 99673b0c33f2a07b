use Prim.Native.Nat.{ℕ, ◌+◌}
use mathlib.Core.Path.{refl}
use native.Mathlib.Omega.{arith}
use Rattle.range.specs.Sum.{sum}
use Rattle.range.specs.Lists.{joined}
use Rattle.range.proofs.Sums.{weigh_next}
use Rattle.table.specs.Table.{item}
use Rattle.plan_lines.specs.Lines.{kept_start}
use Rattle.plan_lines.proofs.Lengths.{length_kept_line, kept_line_at, count_part, lines_then}
use Rattle.plan_theory.specs.Plan.{is_kept}
use Rattle.plan_lines.proofs.kept_lines.put_kept.Goals as goal

pub loop-i-init : goal.loop-i-init
unfolding joined sum
loop-i-init c = (c.kept_start-at.ensures, refl)

pub put_link-at-requires : goal.put_link-at-requires
put_link-at-requires c =
    let l = c.loop-i in
    let a = c.args in
    let n = weigh_next l.i (is_kept a.plan.now) (λ (j : ℕ). 1) in
    let m = count_part (is_kept a.plan.now) (l.i + 1) a.links (omega arith) in
    let k = length_kept_line (is_kept a.plan.now l.i) (item a.lows.now l.i) (item a.highs.now l.i) (item a.costs.now l.i) in
    omega (arith, l.invariant.0, c.requires.0)

pub loop-i-preserved : goal.loop-i-preserved
loop-i-preserved c =
    let l = c.loop-i in
    let a = c.args in
    let e = c.put_link-at.ensures in
    let n = weigh_next l.i (is_kept a.plan.now) (λ (j : ℕ). 1) in
    let k = length_kept_line (is_kept a.plan.now l.i) (item a.lows.now l.i) (item a.highs.now l.i) (item a.costs.now l.i) in
    (omega (arith, e.1, l.invariant.0), lines_then (is_kept a.plan.now) (kept_line_at (is_kept a.plan.now) (item a.lows.now) (item a.highs.now) (item a.costs.now)) 13 (λ j. length_kept_line (is_kept a.plan.now j) (item a.lows.now j) (item a.highs.now j) (item a.costs.now j)) l.i (kept_start 0) l.at a.out.now l.out _ l.invariant.1 (omega (arith, l.invariant.0)) e.0)
