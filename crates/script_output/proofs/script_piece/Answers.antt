use borrow.Author.Rules.{rules}
use mathlib.Core.Path.{◌≡◌}
use native.Mathlib.Omega.{arith}
use lib.ListN.{length}
use Rattle.range.proofs.Lists.{zeros_at}
use Rattle.table.specs.Slices.{as_slices}
use Rattle.table.proofs.Slices.{legal_slices}
use Rattle.script_output.proofs.Answers.{unhandled, most_few, call_is, call_given}
use Rattle.script_output.proofs.script_piece.Goals as goal

pub piece_fault-fault-requires : goal.piece_fault-fault-requires
piece_fault-fault-requires c =
    let few = most_few c.args.progress.held in
    (omega (arith, c.begun-begun.ensures.1), omega (arith, c.well_formed.1.1.1.1.1.0), search rules, zeros_at 256)

pub returns-then-fault-ne0 : goal.returns-then-fault-ne0
returns-then-fault-ne0 c =
    let a = c.args in
    let x = as_slices a.table in
    let g = call_is x _ a.progress a.piece.now a.rec.now a.line.now (length a.out.now) _ c.begun-begun.ensures c.piece_fault-fault.ensures.0 in
    unhandled _ _ _ a.rec.now a.line.now a.out.now g c.if-fault-ne0.true

pub invariant_of-counted : goal.invariant_of-counted
invariant_of-counted c =
    let a = c.args in
    let x = as_slices a.table in
    let told = c.piece_fault-fault in
    let g = call_given x _ a.progress a.piece.now a.rec.now a.line.now (length a.out.now) _ c.begun-begun.ensures told.ensures.0 c.if-fault-ne0.false in
    let room : length told.new.degrees ≡ 256 = told.auto.degrees in
    record { legal = g.fine; in_degrees = omega (arith, (legal_slices 256 2048 x g.fine).few, room); are_counted = told.ensures.1 c.if-fault-ne0.false }

pub handle_piece-place-requires : goal.handle_piece-place-requires
handle_piece-place-requires c =
    let a = c.args in
    let g = call_given (as_slices a.table) _ a.progress a.piece.now a.rec.now a.line.now (length a.out.now) _ c.begun-begun.ensures c.piece_fault-fault.ensures.0 c.if-fault-ne0.false in
    (g.good, g.long, g.fits)
