use borrow.Author.Rules.{rules}
use mathlib.Core.Path.{◌≡◌, sym, ap, ◌∙◌}
use native.Mathlib.Omega.{arith}
use lib.ListN.{length}
use Rattle.refusals.specs.Refusals.{fault_of}
use Rattle.refusals.proofs.Laws.{number_some}
use Rattle.range.proofs.Lists.{zeros_at}
use Rattle.table.proofs.Slices.{legal_slices}
use Rattle.table.specs.Slices.{table_of, as_slices}
use Rattle.fleet_state.proofs.Legal.{fits}
use Rattle.fleet_state.proofs.CheckLaws.{fleet_good, state_passed}
use Rattle.fleet.proofs.Calls.{finishing_refused, finishing_says}
use Rattle.fleet.proofs.finished.Goals as goal

pub check_state-requires : goal.check_state-requires
check_state-requires c = (search rules, zeros_at 256)

pub returns-in-Err : goal.returns-in-Err
returns-in-Err c = finishing_refused _ _ _ (c.number.ensures ∙ c.in-Err.ensures.0) (λ z. number_some c.in-Err.refusal (sym c.number.ensures ∙ z))

pub is_finished-requires : goal.is_finished-requires
is_finished-requires c =
    let t = c.args.table in
    let x = as_slices t in
    let s = state_passed x c.args.rec.now c.in_default.is c.check_state.ensures in
    let f = fleet_good (table_of x) c.args.rec.now s.1 in
    let g = legal_slices 256 2048 x s.0 in
    let room : length c.check_state.new.degrees ≡ 256 = c.check_state.auto.degrees in
    (fits t.number t.probes t.links t.needs.now t.lows.now t.highs.now t.costs.now g, omega (arith, f.0), omega (arith, g.few, room), s.2)

pub returns : goal.returns
returns c =
    let a = c.args in
    finishing_says _ _ _ (sym c.check_state.ensures.0 ∙ ap fault_of c.in_default.is) (c.is_finished.ensures a.table.number a.table.costs.now)
