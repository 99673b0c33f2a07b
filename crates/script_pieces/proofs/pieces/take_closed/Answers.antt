use borrow.Author.Rules.{rules}
use native.Mathlib.Omega.{arith}
use Rattle.table.specs.Slices.{as_slices}
use Rattle.script_steps.specs.Within.{under_way}
use Rattle.script_steps.proofs.PieceLaws.{at_most}
use Rattle.script_steps.proofs.Closing.{still_usable}
use Rattle.script_pieces.proofs.Sharing.{closed_then}
use Rattle.script_pieces.proofs.pieces.take_closed.Goals as goal

pub returns-then-p-ne0 : goal.returns-then-p-ne0
returns-then-p-ne0 c =
    let e = c.take_shared-first.ensures in
    record { within = e.0; unclosed = e.1 c.if-p-ne0.true; buffered = e.2 }

pub take_lines-behind-requires : goal.take_lines-behind-requires
take_lines-behind-requires c =
    let e = c.take_shared-first.ensures in
    let a = c.args in
    let x = as_slices a.counted.table in
    (still_usable x (under_way a.progress a.rec.now a.line.now) _ 0 _ _ _ _ _ c.args.counted.legal c.requires.0 e.2, omega arith, at_most _ 0 _ _ _ _ _ e.2)

pub overflow_add-result : goal.overflow_add-result
overflow_add-result c =
    let t = c.take_shared-first in
    let a = c.args in
    let x = as_slices a.counted.table in
    let r = closed_then x (under_way a.progress a.rec.now a.line.now) a.piece.now _ _ _ _ _ a.line.now a.out.now _ _ t.ensures.0 c.if-p-ne0.false t.auto.out (omega (arith, c.well_formed.1.1.1.1.1.0)) t.ensures.2 c.take_lines-behind.ensures in
    omega (arith, r.within, c.well_formed.1.1.1.1.0)

pub returns : goal.returns
returns c =
    let t = c.take_shared-first in
    let a = c.args in
    let x = as_slices a.counted.table in
    closed_then x (under_way a.progress a.rec.now a.line.now) a.piece.now _ _ _ _ _ a.line.now a.out.now _ _ t.ensures.0 c.if-p-ne0.false t.auto.out (omega (arith, c.well_formed.1.1.1.1.1.0)) t.ensures.2 c.take_lines-behind.ensures
