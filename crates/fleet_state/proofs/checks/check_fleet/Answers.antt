use native.Mathlib.Omega.{arith}
use borrow.Author.Tests.{eq-eqb, ne_eqb}
use Rattle.refusals.proofs.Laws.{at_exit_if, or_refused, or_passed}
use mathlib.Core.List.{[]}
use Rattle.table.specs.Table.{Table, of_slices}
use Rattle.table.proofs.LegalLaws.{legal_table}
use Rattle.fleet_state.proofs.checks.check_fleet.Goals as goal

pub overflow_mul-links : goal.overflow_mul-links
overflow_mul-links c =
    let a = c.args in
    let t : Table = of_slices 0 a.table.probes a.table.links a.table.needs.now a.table.lows.now a.table.highs.now [] in
    let w = (legal_table 256 2048 t c.requires.0.legal).size.within in
    omega (arith, w)

pub returns-then-rec-links : goal.returns-then-rec-links
returns-then-rec-links c = (rw (ne_eqb _ _ c.if-rec-links.true), tt)

pub check_bytes-requires : goal.check_bytes-requires
check_bytes-requires c =
    let a = c.args in
    let t : Table = of_slices 0 a.table.probes a.table.links a.table.needs.now a.table.lows.now a.table.highs.now [] in
    let w = (legal_table 256 2048 t c.requires.0.legal).size.within in
    (omega (arith, w), omega (arith, c.if-rec-links.false))

pub returns-in_err-check_bytes : goal.returns-in_err-check_bytes
returns-in_err-check_bytes c =
    at_exit_if _ _ _ _ c.from_residual.ensures.1 (rw (eq-eqb _ _ c.if-rec-links.false) (or_refused _ _ _ c.in_err-check_bytes.ensures))

pub returns-in_err-check_spares : goal.returns-in_err-check_spares
returns-in_err-check_spares c =
    at_exit_if _ _ _ _ c.from_residual-in_err-check_spares.ensures.1
    (rw (eq-eqb _ _ c.if-rec-links.false) (or_passed _ _ _ c.in_ok-check_bytes.ensures c.in_err-check_spares.ensures.0))

pub returns : goal.returns
returns c =
    let told = c.in_ok-check_spares.ensures in
    (rw (eq-eqb _ _ c.if-rec-links.false) (or_passed _ _ _ c.in_ok-check_bytes.ensures told.0), told.1)
