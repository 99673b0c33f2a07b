use Prim.Native.Nat.{◌+◌, ◌-◌}
use mathlib.Core.Path.{◌≡◌, refl, sym, ap}
use native.Mathlib.Omega.{arith}
use Rattle.range.specs.First.{first}
use Rattle.table.specs.Table.{item}
use Rattle.table.proofs.Faults.{links_pass}
use Rattle.table.proofs.checks.are_rising.Goals as goal

pub loop-i-init : goal.loop-i-init
unfolding first
loop-i-init c = (λ _. refl, λ n. absurd (n refl))

pub loop-i-preserved : goal.loop-i-preserved
loop-i-preserved c =
    let l = c.loop-i in
    let a = c.args in
    let m : l.i + 1 - 1 ≡ l.i = omega arith in
    (links_pass a.probes (item a.lows.now) (item a.highs.now) l.i l.low0 l.high0 l.invariant.1 l.bad l.invariant.0, λ _. (ap (item a.lows.now) (sym m), ap (item a.highs.now) (sym m)))
