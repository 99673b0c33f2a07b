use borrow.Author.Rules.{rules}
use Prim.Native.Nat.{◌≤◌}
use mathlib.Core.Path.{◌≡◌, sym, ap, ◌∙◌}
use native.Mathlib.Omega.{arith}
use lib.ListN.{length}
use lib.Seq.{length-take-le}
use borrow.Author.Tests.{lt-ltb}
use Rattle.refusals.specs.Refusals.{fault_of}
use Rattle.refusals.proofs.Laws.{number_some}
use Rattle.table.specs.Slices.{as_slices}
use Rattle.table.proofs.Slices.{legal_slices}
use Rattle.fleet_state.proofs.CheckLaws.{state_passed}
use Rattle.output.proofs.Printing.{too_short, long_enough}
use Rattle.script_lines.proofs.Fitting.{capped_least, capped_within}
use Rattle.script_theory.specs.Script.{after_piece}
use Rattle.script_steps.specs.Within.{under_way}
use Rattle.script_steps.proofs.PieceLaws.{piece_short}
use Rattle.script_output.proofs.Answers.{fault_site, fault_short}
use Rattle.script_output.proofs.piece_fault.Goals as goal

pub returns-then-line-lt16 : goal.returns-then-line-lt16
returns-then-line-lt16 c = (rw (lt-ltb _ _ c.if-line-lt16.true), λ z. absurd (omega (arith, z)))

pub check_state-requires : goal.check_state-requires
check_state-requires c = (c.requires.2, c.requires.3)

pub returns-in-Err : goal.returns-in-Err
returns-in-Err c =
    let a = c.args in
    let x = as_slices a.table in
    let n = number_some c.in-Err.refusal in
    let e = c.number.ensures in
    (fault_site x (under_way a.begun a.rec.now a.line.now) a.piece.now (length a.line.now) a.room _ c.if-line-lt16.false (e ∙ c.in-Err.ensures.0) (λ z. n (sym e ∙ z)), λ z. absurd (n (sym e ∙ z)))

pub returns-then-begun-piece : goal.returns-then-begun-piece
returns-then-begun-piece c =
    let a = c.args in
    let x = as_slices a.table in
    let f = c.check_state.ensures in
    let s = state_passed x a.rec.now c.in_default.is f in
    let p = under_way a.begun a.rec.now a.line.now in
    let printed = (after_piece x 1024 p a.piece.now).out in
    let n = length-take-le a.begun.held a.line.now (omega (arith, c.requires.0, c.if-line-lt16.false)) in
    let m = piece_short x 1024 p a.piece.now in
    let fits : length printed ≤ a.room = omega (arith, c.if-begun-piece.true) in
    (fault_short x p a.piece.now (length a.line.now) a.room _ c.if-line-lt16.false f.0 0 (ap fault_of c.in_default.is) (sym (long_enough a.room printed fits)), λ z. s.2)

pub invariant_of-counted : goal.invariant_of-counted
invariant_of-counted c =
    let x = as_slices c.args.table in
    let s = state_passed x c.args.rec.now c.in_default.is c.check_state.ensures in
    let room : length c.check_state.new.degrees ≡ 256 = c.check_state.auto.degrees ∙ c.requires.2 in
    record { legal = s.0; in_degrees = omega (arith, (legal_slices 256 2048 x s.0).few, room); are_counted = s.2 }

pub count_piece-length-requires : goal.count_piece-length-requires
count_piece-length-requires c =
    let s = state_passed (as_slices c.args.table) c.args.rec.now c.in_default.is c.check_state.ensures in
    (s.1, c.requires.0, omega (arith, c.requires.0, c.if-line-lt16.false))

pub returns-then-room-length : goal.returns-then-room-length
returns-then-room-length c =
    let a = c.args in
    let x = as_slices a.table in
    let f = c.check_state.ensures in
    let s = state_passed x a.rec.now c.in_default.is f in
    let p = under_way a.begun a.rec.now a.line.now in
    let printed = (after_piece x 1024 p a.piece.now).out in
    let n = capped_least (length printed) in
    (fault_short x p a.piece.now (length a.line.now) a.room _ c.if-line-lt16.false f.0 8 (ap fault_of c.in_default.is) (too_short a.room printed (omega (arith, c.if-room-length.true, c.count_piece-length.ensures))), λ z. absurd (omega (arith, z)))

pub returns : goal.returns
returns c =
    let a = c.args in
    let x = as_slices a.table in
    let f = c.check_state.ensures in
    let s = state_passed x a.rec.now c.in_default.is f in
    let p = under_way a.begun a.rec.now a.line.now in
    let printed = (after_piece x 1024 p a.piece.now).out in
    let fits = capped_within (length printed) a.room c.requires.1 (omega (arith, c.if-room-length.false, c.count_piece-length.ensures)) in
    (fault_short x p a.piece.now (length a.line.now) a.room _ c.if-line-lt16.false f.0 0 (ap fault_of c.in_default.is) (sym (long_enough a.room printed fits)), λ z. s.2)
