use borrow.Author.Rules.{rules}
use Prim.Native.Nat.{◌+◌, ◌-◌, ◌≤◌}
use mathlib.Core.Path.{◌≡◌, refl, ◌∙◌, ap}
use mathlib.Core.Logic.{⊎_elim}
use mathlib.Core.List.{[]}
use native.Mathlib.Omega.{arith}
use lib.ListN.{length, take, drop}
use Rattle.table.specs.Slices.{as_slices}
use Rattle.script_theory.specs.Script.{after_line, after_piece}
use Rattle.script_steps.specs.Within.{under_way, Buffered}
use Rattle.script_steps.specs.Closing.{closed_length}
use Rattle.script_steps.proofs.PieceLaws.{at_most}
use Rattle.script_steps.proofs.Closing.{end_within, none_taken, next_taken, still_usable, line_refused}
use Rattle.script_steps.proofs.steps.take_lines.Goals as goal
use Rattle.script_steps.proofs.steps.take_lines.Goals.{then-next-at-ne15, else-next-at-ne15}

pub loop-at-init : goal.loop-at-init
loop-at-init c =
    let a = c.args in
    let x = as_slices a.counted.table in
    (omega arith, c.line_end-next.ensures, none_taken x a.piece.now a.start a.rec.now a.out.now c.requires.1 c.requires.2, refl, refl)

pub refuse_line-place-requires : goal.refuse_line-place-requires
refuse_line-place-requires c =
    at_most _ _ _ _ _ _ _ c.loop-at.invariant.2

pub answer_line-place-requires : goal.answer_line-place-requires
answer_line-place-requires c =
    let a = c.args in
    let x = as_slices a.counted.table in
    let v = c.loop-at.invariant in
    (still_usable x (under_way a.start.progress a.rec.now []) _ a.start.at _ _ _ _ _ c.args.counted.legal c.requires.0 v.2, at_most _ a.start.at _ _ _ _ _ v.2)

pub loop-at-smaller : goal.loop-at-smaller
loop-at-smaller c =
    let v = c.loop-at.invariant in
    let k = end_within c.args.piece.now c.loop-at.at v.0 in
    omega (arith, v.1, c.loop-at-test.true)

pub returns : goal.returns
returns c =
    let v = c.loop-at.invariant in
    record { within = v.0; unclosed = omega (arith, v.1, c.loop-at-test.false); buffered = v.2 }

pub loop-at-preserved : goal.loop-at-preserved
loop-at-preserved c =
    let j = c.if-next-at-ne15 in
    let l = c.loop-at in
    let a = c.args in
    let x = as_slices a.counted.table in
    let p = under_way a.start.progress a.rec.now [] in
    let v = l.invariant in
    let k = end_within a.piece.now l.at v.0 in
    let good = still_usable x p _ a.start.at _ _ _ _ _ c.args.counted.legal c.requires.0 v.2 in
    let answered : Buffered (after_line x 1024 (under_way l.place.progress l.rec []) (take (l.next - l.at) (drop l.at a.piece.now))) l.place.at j.place j.rec [] l.out j.out =
    elim j.branch [
      | then-next-at-ne15 w ↦ rw (w.rec-is, w.out-is, w.place-is)
          (line_refused x p a.piece.now a.start.at l.at l.next l.place _ l.rec _ l.out _ c.args.counted.legal good (omega arith) v.2 (omega (arith, v.1)) (omega (arith, v.1)) w.if-next-at-ne15.true w.refuse_line-place.ensures)
      | else-next-at-ne15 w ↦ rw (w.rec-is, w.out-is, w.place-is) w.answer_line-place.ensures
    ] in
    let same : (length j.rec ≡ length l.rec) × (length j.out ≡ length l.out) =
    elim j.branch [
      | then-next-at-ne15 w ↦ (ap length w.rec-is, ap length w.out-is ∙ w.refuse_line-place.auto.out)
      | else-next-at-ne15 w ↦ (ap length w.rec-is ∙ w.answer_line-place.auto.rec, ap length w.out-is ∙ w.answer_line-place.auto.out)
    ] in
    (omega (arith, v.1), c.line_end-next-in-loop-at.ensures, next_taken x p a.piece.now a.start.at l.at l.next l.place _ _ _ _ _ _ v.1 c.loop-at-test.true v.4 (omega arith) v.2 answered, same.0 ∙ v.3, same.1 ∙ v.4)
