use Prim.Native.Nat.{ℕ}
use mathlib.Core.Path.{◌≡◌, sym, ◌∙◌}
use native.Mathlib.Omega.{arith}
use borrow.Author.Tests.{lt-ltb, le-ltb}
use Rattle.range.proofs.Faults.{first_some}
use Rattle.fleet_state.proofs.checks.check_counts.Invariants.{fault}
use Rattle.fleet_state.proofs.checks.check_counts.Goals as goal

pub returns-then-spare-standing : goal.returns-then-spare-standing
returns-then-spare-standing c =
    let l = c.loop-v in
    let a = c.args in
    let f : ℕ → ℕ = fault a.needs.now a.degrees.now a.standing.now a.held.now in
    let e : f l.v ≡ 22 = rw (← c.spare_at-spare.ensures, lt-ltb _ _ c.if-spare-standing.true) in
    sym (first_some f a.probes l.v l.invariant c.loop-v-test.true (λ z. omega arith) ∙ e)

pub returns-then-spare-held : goal.returns-then-spare-held
returns-then-spare-held c =
    let l = c.loop-v in
    let a = c.args in
    let f : ℕ → ℕ = fault a.needs.now a.degrees.now a.standing.now a.held.now in
    let e : f l.v ≡ 22 = rw (← c.spare_at-spare.ensures, le-ltb _ _ c.if-spare-standing.false, lt-ltb _ _ c.if-spare-held.true) in
    sym (first_some f a.probes l.v l.invariant c.loop-v-test.true (λ z. omega arith) ∙ e)
