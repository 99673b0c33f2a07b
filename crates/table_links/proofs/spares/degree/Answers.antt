use mathlib.Core.Path.{refl, sym, ◌∙◌}
use native.Mathlib.Omega.{arith}
use Rattle.range.specs.Sum.{sum}
use Rattle.range.proofs.Sums.{count_hit, count_miss}
use Rattle.table_links.proofs.spares.degree.Invariants.{own}
use Rattle.table_links.proofs.spares.degree.Goals.{then-touches, else-touches}
use Rattle.table_links.proofs.spares.degree.Goals as goal

pub loop-i-init : goal.loop-i-init
unfolding sum
loop-i-init c = (refl, omega arith)

pub loop-i-preserved : goal.loop-i-preserved
loop-i-preserved c =
    let a = c.args in
    elim c.if-touches.branch [
      | then-touches w ↦ let h = count_hit (own a.lows.now a.highs.now a.probe) c.loop-i.i (sym c.touches.ensures ∙ w.if-touches.true) in (omega arith, omega arith)
      | else-touches w ↦ let h = count_miss (own a.lows.now a.highs.now a.probe) c.loop-i.i (sym c.touches.ensures ∙ w.if-touches.false) in (omega arith, omega arith)
    ]
