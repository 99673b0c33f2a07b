use borrow.Author.Rules.{rules}
use Prim.Native.Nat.{ℕ, ◌*◌, ◌≤◌}
use mathlib.Core.Logic.{⊎_elim, inl, inr}
use mathlib.Core.List.{List}
use mathlib.Core.Path.{sym}
use native.Mathlib.Omega.{arith}
use lib.ListN.{replicate}
use lib.Seq.{length-take-le}
use Rattle.table.proofs.Slices.{legal_slices}
use Rattle.table.specs.Slices.{as_slices}
use Rattle.fleet_state.proofs.Legal.{fits}
use Rattle.script_steps.proofs.PieceLaws.{at_most}
use Rattle.script_pieces.proofs.Ends.{links_within, zeros_pass, all_ready, all_printed, all_length}
use Rattle.script_pieces.proofs.whole.put_script.Goals as goal
use Rattle.script_pieces.proofs.whole.put_script.Goals.{else-closed-text, then-closed-text}

pub overflow_mul-bytes : goal.overflow_mul-bytes
overflow_mul-bytes c =
    let a = c.args in
    let x = as_slices a.counted.table in
    let m = links_within x c.args.counted.legal in
    omega arith

pub slice_bounds-bytes-end : goal.slice_bounds-bytes-end
slice_bounds-bytes-end c =
    let a = c.args in
    let x = as_slices a.counted.table in
    let m = links_within x c.args.counted.legal in
    omega arith

pub slice_bounds-rec-end : goal.slice_bounds-rec-end
slice_bounds-rec-end c =
    let a = c.args in
    let x = as_slices a.counted.table in
    let m = links_within x c.args.counted.legal in
    sym (length-take-le _ _ (omega arith))

pub take_lines-closed-requires : goal.take_lines-closed-requires
take_lines-closed-requires c =
    let start = c.begin-start.ensures in
    let a = c.args in
    let x = as_slices a.counted.table in
    let m = links_within x c.args.counted.legal in
    (zeros_pass x c.args.counted.legal (omega arith), start.2, omega arith)

pub put_end-requires : goal.put_end-requires
put_end-requires c =
    let t = c.args.counted.table in
    let x = as_slices t in
    let k = c.take_lines-closed in
    let m = links_within x c.args.counted.legal in
    let n = length-take-le (8 * x.links) (replicate {A = ℕ} 16384 0) (omega arith) in
    (fits t.number t.probes t.links t.needs.now t.lows.now t.highs.now t.costs.now (legal_slices 256 2048 x c.args.counted.legal), omega (arith, k.auto.rec), c.args.counted.in_degrees, c.args.counted.are_counted, at_most _ _ _ _ _ _ _ k.ensures.buffered)

pub returns : goal.returns
returns c =
    let k = c.take_lines-closed in
    let start = c.begin-start.ensures in
    let a = c.args in
    let x = as_slices a.counted.table in
    let e = c.put_end.ensures in
    let m = links_within x c.args.counted.legal in
    let w : 8 * a.counted.table.links ≤ 16384 = omega arith in
    let r = all_ready x c.args.counted.legal w a.text.now _ (start.1, start.2, start.3) _ _ a.out.now _ _ (rw start.0 at k.ensures) (elim c.if-closed-text.branch [ then-closed-text w ↦ inl (w.if-closed-text.true, w.unclosed-is) | else-closed-text w ↦ inr (w.if-closed-text.false, w.unclosed-is) ]) in
    (all_length x c.args.counted.legal w a.text.now _ a.out.now _ a.out.now _ _ _ r _ e.1, all_printed x c.args.counted.legal w a.text.now _ a.out.now _ _ _ _ _ r k.auto.out (omega arith) (e.0 a.counted.table.number a.counted.table.costs.now))
