use native.Mathlib.Omega.{arith}
use lib.ListN.{set}
use mathlib.Core.List.{List}
use Prim.Native.Nat.{◌+◌, ◌*◌}
use mathlib.Core.Path.{◌∙◌, ap}
use Prim.Native.Nat.{ℕ}
use Rattle.plan_turns_search.proofs.chains.push.Goals as goal

pub set_of_direction-requires : goal.set_of_direction-requires
set_of_direction-requires c =
    let a = c.args in
    let p = c.requires in
    let e = c.of_probe.ensures in
    let f = (c.slice_known-1.given (4 * a.low + a.k)).fits in
    (omega (arith, p.3), omega arith)

pub set_of_direction-requires-2 : goal.set_of_direction-requires-2
set_of_direction-requires-2 c =
    let a = c.args in
    let p = c.requires in
    let e = c.of_probe-2.ensures in
    let f = (c.slice_known-1.given (4 * a.high + a.k)).fits in
    let n = c.set_of_direction.auto.site in
    (omega (arith, p.3), omega arith)

pub returns : goal.returns
returns c =
    let a = c.args in
    let s₁ = c.set_of_probe in
    let s₂ = c.set_of_direction in
    (c.set_of_probe-2.ensures ∙ ap (λ (m : List ℕ). set m (4 * a.high + a.k) (2 * a.i + 1)) s₁.ensures, c.set_of_direction-2.ensures ∙ rw (s₂.ensures, c.of_probe.ensures, c.of_probe-2.ensures))
