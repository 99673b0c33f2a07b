use borrow.Author.Rules.{rules}
use mathlib.Core.Path.{◌≡◌, refl, sym}
use native.Mathlib.Omega.{arith}
use borrow.Author.Tests.{lt-ltb, le-ltb}
use Rattle.range.proofs.Faults.{or_left, or_right}
use Rattle.refusals.specs.declared.Refusal.TheVariants.{Slice}
use Rattle.table.specs.Slices.{Slices, table_of, slices_fault, as_slices}
use Rattle.probe_maps.specs.Maps.{Maps, rows, maps_length_fault, maps_fault, state_fault}
use Rattle.probe_turning.proofs.Answers.{bytes_refused, bytes_turned, bits_standing, bits_refused_out, bits_held, bits_refused_in}
use Rattle.probe_turning.proofs.bytes_of.Goals as goal

pub returns-then-rec-table : goal.returns-then-rec-table
returns-then-rec-table c = bytes_refused _ _ _ _ _ Slice refl (rw (lt-ltb _ _ c.if-rec-table.true))

pub returns-in_err-check_state : goal.returns-in_err-check_state
returns-in_err-check_state c = bytes_refused _ _ _ _ _ _ c.from_residual.ensures.1 (rw (le-ltb _ _ c.if-rec-table.false) c.in_err-check_state.ensures.0)

pub store-requires : goal.store-requires
store-requires c =
    let a = c.args in
    let x : Slices = as_slices a.table in
    let m : Maps = rows a.standing.now a.refused_out.now a.held.now a.refused_in.now in
    let none : state_fault x a.probe m ≡ 0 = sym c.in_ok-check_state.ensures.0 in
    let w = or_left (maps_length_fault (table_of x) m) _ (or_right (slices_fault x) (maps_fault (table_of x) a.probe m) none) in
    (omega (arith, c.ranges.table), c.if-rec-table.false, bits_standing (table_of x) m w, bits_refused_out (table_of x) m w, bits_held (table_of x) m w, bits_refused_in (table_of x) m w)

pub returns : goal.returns
returns c =
    bytes_turned _ _ _ _ _ (rw (le-ltb _ _ c.if-rec-table.false) (sym c.in_ok-check_state.ensures.0)) c.store.ensures
