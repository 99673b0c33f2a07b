use mathlib.Core.Path.{refl}
use native.Mathlib.Omega.{arith}
use borrow.Author.Tests.{eq-eqb, ne_eqb}
use Rattle.range.specs.Sum.{sum}
use Rattle.range.proofs.Sums.{count_hit, count_miss}
use Rattle.probe_record.proofs.counts.ones.Invariants.{one}
use Rattle.probe_record.proofs.counts.ones.Goals.{then-rec-i-eq1, else-rec-i-eq1}
use Rattle.probe_record.proofs.counts.ones.Goals as goal

pub loop-i-init : goal.loop-i-init
unfolding sum
loop-i-init c = (refl, omega arith)

pub loop-i-preserved : goal.loop-i-preserved
loop-i-preserved c =
    let a = c.args in
    elim c.if-rec-i-eq1.branch [
      | then-rec-i-eq1 w ↦ let h = count_hit (one a.rec.now a.at) c.loop-i.i (eq-eqb _ _ w.if-rec-i-eq1.true) in (omega arith, omega arith)
      | else-rec-i-eq1 w ↦ let h = count_miss (one a.rec.now a.at) c.loop-i.i (ne_eqb _ _ w.if-rec-i-eq1.false) in (omega arith, omega arith)
    ]
