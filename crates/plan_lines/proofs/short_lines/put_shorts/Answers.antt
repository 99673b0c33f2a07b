use Prim.Native.Nat.{ℕ, ◌+◌, ◌-◌, ◌*◌}
use mathlib.Core.Path.{◌≡◌, refl}
use mathlib.Core.Bool.{Bool, cond}
use native.Mathlib.Omega.{arith}
use lib.Dec.{ltb}
use lib.ListN.{length}
use Rattle.range.specs.Sum.{sum}
use Rattle.range.specs.Lists.{joined}
use Rattle.range.proofs.Sums.{weigh_next}
use Rattle.table.specs.Table.{item}
use Rattle.plan_lines.proofs.Lengths.{length_short_line, short_line_at, count_part, lines_then}
use Rattle.plan_lines.proofs.short_lines.put_shorts.Goals as goal

pub loop-v-init : goal.loop-v-init
unfolding joined sum
loop-v-init c = (omega arith, refl)

pub put_short-at-requires : goal.put_short-at-requires
put_short-at-requires c =
    let l = c.loop-v in
    let a = c.args in
    let p : ℕ → Bool = λ w. ltb (item a.degrees.now w) (item a.needs.now w) in
    let n = weigh_next l.v p (λ (j : ℕ). 1) in
    let m = count_part p (l.v + 1) a.probes (omega arith) in
    let k = length_short_line (p l.v) l.v (item a.needs.now l.v - item a.degrees.now l.v) in
    omega (arith, l.invariant.0, c.requires.0)

pub loop-v-preserved : goal.loop-v-preserved
loop-v-preserved c =
    let l = c.loop-v in
    let a = c.args in
    let p : ℕ → Bool = λ w. ltb (item a.degrees.now w) (item a.needs.now w) in
    let e = c.put_short-at.ensures in
    let n = weigh_next l.v p (λ (j : ℕ). 1) in
    let wide : (v : ℕ) → length (short_line_at (item a.degrees.now) (item a.needs.now) v) ≡ 9 * cond (p v) 1 0 = λ v. length_short_line (p v) v (item a.needs.now v - item a.degrees.now v) in
    let k = wide l.v in
    (omega (arith, e.1, l.invariant.0), lines_then p (short_line_at (item a.degrees.now) (item a.needs.now)) 9 wide l.v a.start l.at a.out.now l.out _ l.invariant.1 l.invariant.0 e.0)
