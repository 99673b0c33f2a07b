use mathlib.Core.Path.{sym}
use Rattle.refusals.proofs.Laws.{at_exit_if, or_refused, or_passed}
use Rattle.table.specs.Slices.{as_slices}
use Rattle.table.proofs.Slices.{legal_slices}
use Rattle.fleet_state.proofs.Legal.{fits}
use Rattle.fleet_state.proofs.checks.check_state.Goals as goal

pub returns-in_err-check_slices : goal.returns-in_err-check_slices
returns-in_err-check_slices c = at_exit_if _ _ _ _ c.from_residual.ensures.1 (or_refused _ _ _ c.in_err-check_slices.ensures)

pub check_fleet-requires : goal.check_fleet-requires
check_fleet-requires c =
    let t = c.args.table in
    let fine = legal_slices 256 2048 (as_slices t) (sym c.in_ok-check_slices.ensures) in
    (fits t.number t.probes t.links t.needs.now t.lows.now t.highs.now t.costs.now fine, c.requires.0, c.requires.1)

pub returns : goal.returns
returns c = let told = c.check_fleet.ensures in (or_passed _ _ _ c.in_ok-check_slices.ensures told.0, told.1)
