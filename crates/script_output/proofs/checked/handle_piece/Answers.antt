use borrow.Author.Rules.{rules}
use native.Mathlib.Omega.{arith}
use Rattle.table.specs.Slices.{as_slices}
use Rattle.script_output.proofs.Answers.{handled_all, most_few, begun_same, call_passes}
use Rattle.script_output.proofs.checked.handle_piece.Goals as goal

pub take_piece-requires : goal.take_piece-requires
take_piece-requires c =
    let few = most_few c.args.progress.held in
    (c.requires.0, omega (arith, c.begun.ensures.1), c.requires.1)

pub returns : goal.returns
returns c =
    let a = c.args in
    let x = as_slices a.counted.table in
    let k = c.take_piece.ensures in
    let none = call_passes x a.progress a.piece.now a.rec.now a.line.now a.out.now c.args.counted.legal c.requires.0 c.requires.1 c.requires.2 in
    let same = begun_same _ a.progress a.rec.now a.line.now c.begun.ensures c.requires.1 in
    handled_all _ _ _ a.rec.now _ a.line.now _ a.out.now _ none (rw same at k.0) (rw same at k.1) c.requires.2 (omega (arith, c.well_formed.1.1.1.1.1.0))
