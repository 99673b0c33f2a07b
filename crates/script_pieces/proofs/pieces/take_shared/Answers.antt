use borrow.Author.Rules.{rules}
use mathlib.Core.Path.{sym}
use mathlib.Core.List.{List}
use Prim.Native.Nat.{ℕ}
use native.Mathlib.Omega.{arith}
use lib.ListN.{replicate}
use lib.Seq.{length-take-le}
use Rattle.table.specs.Slices.{as_slices}
use Rattle.script_steps.proofs.PieceLaws.{copied_part}
use Rattle.script_steps.proofs.Closing.{closed_within}
use Rattle.script_steps.proofs.Holding.{appended_few}
use Rattle.script_pieces.proofs.Sharing.{none_shared, shared_taken}
use Rattle.script_pieces.proofs.pieces.take_shared.Goals as goal

pub returns-then-held-eq0 : goal.returns-then-held-eq0
returns-then-held-eq0 c =
    let a = c.args in
    let x = as_slices a.counted.table in
    (omega arith, λ some. absurd (some c.if-held-eq0.true), none_shared x a.progress a.rec.now a.line.now a.piece.now a.out.now c.requires.1 c.requires.2)

pub returns-then-end-eq0 : goal.returns-then-end-eq0
returns-then-end-eq0 c =
    let a = c.args in
    let x = as_slices a.counted.table in
    (omega arith, λ some. (let e = c.line_end-end.ensures in omega (arith, c.if-end-eq0.true)), none_shared x a.progress a.rec.now a.line.now a.piece.now a.out.now c.requires.1 c.requires.2)

pub slice_bounds-append-end-2 : goal.slice_bounds-append-end-2
slice_bounds-append-end-2 c =
    let k = closed_within c.args.piece.now in
    sym (length-take-le _ _ (omega (arith, c.line_end-end.ensures)))

pub slice_bounds-joined-end : goal.slice_bounds-joined-end
slice_bounds-joined-end c =
    let k = appended_few _ _ _ c.requires.1 c.append-n.ensures.1 in
    omega (arith, c.append-n.auto.line, c.copy.auto.to)

pub slice_bounds-answer_line-end : goal.slice_bounds-answer_line-end
slice_bounds-answer_line-end c =
    let k = appended_few _ _ _ c.requires.1 c.append-n.ensures.1 in
    sym (length-take-le _ _ (omega (arith, c.append-n.auto.line, c.copy.auto.to)))

pub returns : goal.returns
returns c =
    let a = c.args in
    let x = as_slices a.counted.table in
    let k = closed_within a.piece.now in
    let zeros : List ℕ = replicate 16 0 in
    let same = copied_part zeros _ a.line.now a.progress.held c.copy.ensures (omega (arith, c.requires.1)) c.requires.2 in
    let t = shared_taken x a.progress a.rec.now a.line.now a.piece.now a.out.now c.requires.1 c.requires.2 _ _ _ _ _ _ _ c.copy.auto.to same c.append-n.ensures.0 c.append-n.ensures.1 c.line_end-end.ensures c.if-end-eq0.false c.answer_line-place.ensures in
    (omega (arith, c.line_end-end.ensures), λ some. absurd (some t.0), t.1)
