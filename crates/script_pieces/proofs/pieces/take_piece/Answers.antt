use borrow.Author.Rules.{rules}
use native.Mathlib.Omega.{arith}
use lib.Seq.{length-take-le}
use Rattle.table.specs.Slices.{as_slices}
use Rattle.script_steps.specs.Within.{under_way}
use Rattle.script_steps.proofs.Holding.{appended_few}
use Rattle.script_pieces.proofs.Sharing.{closed_few, piece_taken}
use Rattle.script_pieces.proofs.pieces.take_piece.Goals as goal

pub take_closed-closed-requires : goal.take_closed-closed-requires
take_closed-closed-requires c =
    (c.requires.0, c.requires.1, omega (arith, c.requires.1, c.requires.2))

pub append-held-requires : goal.append-held-requires
append-held-requires c =
    let a = c.args in
    let x = as_slices a.counted.table in
    let n = length-take-le a.progress.held a.line.now (omega (arith, c.requires.1, c.requires.2)) in
    (closed_few x (under_way a.progress a.rec.now a.line.now) a.piece.now _ _ _ _ _ (omega (arith, c.requires.1)) c.take_closed-closed.ensures, c.requires.2)

pub overflow_cast-result : goal.overflow_cast-result
overflow_cast-result c =
    let a = c.args in
    let x = as_slices a.counted.table in
    let n = length-take-le a.progress.held a.line.now (omega (arith, c.requires.1, c.requires.2)) in
    let f = closed_few x (under_way a.progress a.rec.now a.line.now) a.piece.now _ _ _ _ _ (omega (arith, c.requires.1)) c.take_closed-closed.ensures in
    let k = appended_few _ _ _ f c.append-held.ensures.1 in
    omega arith

pub returns : goal.returns
returns c =
    let a = c.args in
    let x = as_slices a.counted.table in
    let n = length-take-le a.progress.held a.line.now (omega (arith, c.requires.1, c.requires.2)) in
    let e = c.append-held.ensures in
    piece_taken x (under_way a.progress a.rec.now a.line.now) a.piece.now _ _ _ a.line.now _ a.out.now _ (omega (arith, c.requires.1)) c.requires.2 c.take_closed-closed.ensures e.0 e.1
