use borrow.Author.Rules.{rules}
use mathlib.Core.Path.{◌≡◌, sym, ◌∙◌}
use native.Mathlib.Omega.{arith}
use lib.ListN.{length}
use Rattle.refusals.proofs.Laws.{number_some}
use Rattle.table.specs.Slices.{as_slices}
use Rattle.range.proofs.Lists.{zeros_at}
use Rattle.table.proofs.Slices.{legal_slices}
use Rattle.fleet_state.proofs.CheckLaws.{state_passed}
use Rattle.fleet.proofs.Calls.{state_refused}
use Rattle.fleet.proofs.event.Goals as goal

pub check_state-requires : goal.check_state-requires
check_state-requires c = (search rules, zeros_at 256)

pub returns-in-Err : goal.returns-in-Err
returns-in-Err c =
    let a = c.args in
    let t = a.table in
    state_refused t.number t.probes t.links t.needs.now t.lows.now t.highs.now t.costs.now a.used a.room a.line.now a.rec.now _
    (c.number.ensures ∙ c.in-Err.ensures.0) (λ z. number_some c.in-Err.refusal (sym c.number.ensures ∙ z))

pub invariant_of-counted : goal.invariant_of-counted
invariant_of-counted c =
    let x = as_slices c.args.table in
    let s = state_passed x c.args.rec.now c.in_default.is c.check_state.ensures in
    let room : length c.check_state.new.degrees ≡ 256 = c.check_state.auto.degrees in
    record { legal = s.0; in_degrees = omega (arith, (legal_slices 256 2048 x s.0).few, room); are_counted = s.2 }

pub handle_line-requires : goal.handle_line-requires
handle_line-requires c = (state_passed (as_slices c.args.table) c.args.rec.now c.in_default.is c.check_state.ensures).1
