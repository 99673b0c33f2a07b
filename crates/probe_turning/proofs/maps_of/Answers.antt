use borrow.Author.Rules.{rules}
use mathlib.Core.Path.{sym}
use native.Mathlib.Omega.{arith}
use Rattle.refusals.proofs.Laws.{or_refused, or_passed}
use Rattle.table.specs.Slices.{Slices, as_slices}
use Rattle.table.proofs.Slices.{legal_slices}
use Rattle.probe_maps.specs.Maps.{Maps, rows}
use Rattle.probe_maps.proofs.Rounds.{rows_same}
use Rattle.probe_turning.proofs.Laws.{out_filled, in_filled}
use Rattle.probe_turning.proofs.Answers.{maps_refused, maps_turned, room_standing, room_refused_out, room_held, room_refused_in}
use Rattle.probe_turning.proofs.maps_of.Goals as goal

pub returns-in_err-check_rows : goal.returns-in_err-check_rows
returns-in_err-check_rows c = maps_refused _ _ _ _ _ _ c.from_residual.ensures.1 (or_refused _ _ _ c.in_err-check_rows.ensures)

pub returns-in_err-check_slices : goal.returns-in_err-check_slices
returns-in_err-check_slices c =
    maps_refused _ _ _ _ _ _ c.from_residual-in_err-check_slices.ensures.1 (or_passed _ _ _ c.in_ok-check_rows.ensures (or_refused _ _ _ c.in_err-check_slices.ensures))

pub check_record-requires : goal.check_record-requires
check_record-requires c =
    let g = legal_slices 256 2048 (as_slices c.args.table) (sym c.in_ok-check_slices.ensures) in
    (omega (arith, g.within), g.in_lows, g.in_highs)

pub returns-in_err-check_record : goal.returns-in_err-check_record
returns-in_err-check_record c =
    maps_refused _ _ _ _ _ _ c.from_residual-in_err-check_record.ensures.1
    (or_passed _ _ _ c.in_ok-check_rows.ensures (or_passed _ _ _ c.in_ok-check_slices.ensures c.in_err-check_record.ensures))

pub fill-requires : goal.fill-requires
fill-requires c =
    let a = c.args in
    let out : Maps = rows a.standing.now a.refused_out.now a.held.now a.refused_in.now in
    (search rules, search rules, search rules, room_standing a.table.links out (sym c.in_ok-check_rows.ensures))

pub fill-requires-2 : goal.fill-requires-2
fill-requires-2 c =
    let a = c.args in
    let out : Maps = rows a.standing.now a.refused_out.now a.held.now a.refused_in.now in
    (search rules, search rules, omega (arith, c.ranges.table), room_refused_out a.table.links out (sym c.in_ok-check_rows.ensures))

pub fill-requires-3 : goal.fill-requires-3
fill-requires-3 c =
    let a = c.args in
    let out : Maps = rows a.standing.now a.refused_out.now a.held.now a.refused_in.now in
    (search rules, search rules, omega (arith, c.ranges.table), room_held a.table.links out (sym c.in_ok-check_rows.ensures))

pub fill-requires-4 : goal.fill-requires-4
fill-requires-4 c =
    let a = c.args in
    let out : Maps = rows a.standing.now a.refused_out.now a.held.now a.refused_in.now in
    (search rules, search rules, omega (arith, c.ranges.table), room_refused_in a.table.links out (sym c.in_ok-check_rows.ensures))

pub returns : goal.returns
returns c =
    let a = c.args in
    let e = a.rec.now in
    let x : Slices = as_slices a.table in
    let out : Maps = rows a.standing.now a.refused_out.now a.held.now a.refused_in.now in
    let none = or_passed _ _ _ c.in_ok-check_rows.ensures (or_passed _ _ _ c.in_ok-check_slices.ensures c.in_ok-check_record.ensures) in
    maps_turned x a.probe e out _ (sym none)
    (rows_same (out_filled e 1 a.table.links a.standing.now _ c.fill.ensures)
    (out_filled e 2 a.table.links a.refused_out.now _ c.fill-2.ensures)
    (in_filled e 1 a.table.links a.held.now _ c.fill-3.ensures)
    (in_filled e 2 a.table.links a.refused_in.now _ c.fill-4.ensures))
