use Prim.Native.Nat.{ℕ}
use mathlib.Core.Path.{refl, sym, ◌∙◌}
use mathlib.Core.Bool.{Bool}
use native.Mathlib.Omega.{arith}
use lib.Dec.{ltb}
use Rattle.range.specs.Sum.{sum}
use Rattle.table.specs.Table.{item}
use Rattle.range.proofs.Sums.{count_le, count_hit, count_miss}
use Rattle.plan_lines.proofs.short_lines.short_count.Goals as goal
use Rattle.plan_lines.proofs.short_lines.short_count.Goals.{then-is_short, else-is_short}

pub loop-v-init : goal.loop-v-init
unfolding sum
loop-v-init c = refl

pub overflow_add-n : goal.overflow_add-n
overflow_add-n c =
    let m = count_le c.loop-v.v (λ w. ltb (item c.args.degrees.now w) (item c.args.needs.now w)) in
    omega (arith, c.loop-v.invariant)

pub loop-v-preserved : goal.loop-v-preserved
loop-v-preserved c =
    let l = c.loop-v in
    let p : ℕ → Bool = λ w. ltb (item c.args.degrees.now w) (item c.args.needs.now w) in
    let e = sym c.is_short.ensures in
    elim c.if-is_short.branch [
      | then-is_short w ↦ let h = count_hit p l.v (e ∙ w.if-is_short.true) in omega (arith, l.invariant)
      | else-is_short w ↦ let h = count_miss p l.v (e ∙ w.if-is_short.false) in omega (arith, l.invariant)
    ]
