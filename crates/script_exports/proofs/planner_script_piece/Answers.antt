use borrow.Author.Rules.{rules}
use mathlib.Core.Path.{refl}
use native.Mathlib.Omega.{arith}
use lib.ListN.{length-set}
use borrow.Author.Tests.{le-ltb}
use Rattle.script_output.proofs.Answers.{handled_within}
use Rattle.script_exports.proofs.Answers.{piece_unhandled, piece_refused, piece_handled}
use Rattle.script_exports.proofs.planner_script_piece.Goals as goal

pub returns-then-numbers-lt3 : goal.returns-then-numbers-lt3
returns-then-numbers-lt3 c =
    let a = c.args in
    piece_unhandled _ _ a.rec.now a.line.now a.numbers.now a.out.now c.if-numbers-lt3.true

pub bounds-numbers-1-in-Printed : goal.bounds-numbers-1-in-Printed
bounds-numbers-1-in-Printed c =
    simp length-set (omega (arith, c.if-numbers-lt3.false))

pub bounds-numbers-2-in-Printed : goal.bounds-numbers-2-in-Printed
bounds-numbers-2-in-Printed c =
    simp length-set (omega (arith, c.if-numbers-lt3.false))

pub overflow_add-result : goal.overflow_add-result
overflow_add-result c =
    let k = c.script_piece-handled in
    let l = handled_within _ _ _ _ _ _ _ _ _ _ _ k.ensures c.in-Printed.is k.auto.out in
    omega (arith, c.well_formed.1.1.1.1.1.1.1.1.1.1.1.0)

pub returns-in-Printed : goal.returns-in-Printed
returns-in-Printed c =
    let k = c.script_piece-handled in
    let a = c.args in
    rw (le-ltb _ _ c.if-numbers-lt3.false) (piece_handled _ _ _ a.rec.now _ a.line.now _ a.out.now _ k.ensures _ _ _ a.numbers.now _ c.in-Printed.is c.if-numbers-lt3.false refl refl)

pub returns-in-Refused : goal.returns-in-Refused
returns-in-Refused c =
    let k = c.script_piece-handled in
    let a = c.args in
    rw (le-ltb _ _ c.if-numbers-lt3.false) (piece_refused _ _ _ a.rec.now _ a.line.now _ a.out.now _ k.ensures _ a.numbers.now c.in-Refused.is)
