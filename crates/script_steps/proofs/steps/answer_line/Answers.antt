use borrow.Author.Rules.{rules}
use native.Mathlib.Omega.{arith}
use Rattle.table.specs.Slices.{as_slices}
use Rattle.fleet.proofs.Calls.{handled_answer}
use Rattle.script_steps.proofs.Printing.{used_within, line_buffered}
use Rattle.script_steps.proofs.steps.answer_line.Goals as goal

pub add_used-requires : goal.add_used-requires
add_used-requires c =
    let a = c.args in
    let x = as_slices a.counted.table in
    let h = c.handle_line-answer.ensures in
    rw (handled_answer h) (used_within x a.place.progress.used 1024 a.line.now a.rec.now (omega (arith, c.struct_known-1.given.0.fits)) (omega arith))

pub returns : goal.returns
returns c =
    let a = c.args in
    let x = as_slices a.counted.table in
    line_buffered x c.args.counted.legal a.place.progress 1024 a.place.at a.line.now a.rec.now _ a.out.now _ c.requires.0 _ _ _ _ c.handle_line-answer.ensures c.put_answer.ensures.0 c.put_answer.ensures.1 c.add_used.ensures c.add_changes.ensures
