use borrow.Author.Rules.{rules}
use Prim.Native.Nat.{ℕ}
use mathlib.Core.Path.{sym, ◌∙◌}
use mathlib.Core.List.{List}
use native.Mathlib.Omega.{arith}
use lib.ListN.{length, replicate}
use lib.Seq.{length-take-le, take_all}
use Rattle.table.specs.Slices.{table_of, as_slices}
use Rattle.fleet_state.proofs.CheckLaws.{fleet_good}
use Rattle.script_steps.specs.Within.{under_way}
use Rattle.script_steps.proofs.PieceLaws.{copied_part}
use Rattle.script_pieces.proofs.Sharing.{piece_counted}
use Rattle.script_pieces.proofs.Ends.{links_within}
use Rattle.script_pieces.proofs.pieces.count_piece.Goals as goal

pub copy-requires : goal.copy-requires
copy-requires c =
    let a = c.args in
    let x = as_slices a.counted.table in
    let m = links_within x c.args.counted.legal in
    let f = fleet_good (table_of x) a.rec.now c.requires.0 in
    (omega (arith, f.0), omega arith)

pub slice_bounds-bytes-end : goal.slice_bounds-bytes-end
slice_bounds-bytes-end c =
    let a = c.args in
    let x = as_slices a.counted.table in
    let m = links_within x c.args.counted.legal in
    let f = fleet_good (table_of x) a.rec.now c.requires.0 in
    omega (arith, f.0, c.copy.auto.to)

pub slice_bounds-take_closed-end : goal.slice_bounds-take_closed-end
slice_bounds-take_closed-end c =
    let a = c.args in
    let x = as_slices a.counted.table in
    let m = links_within x c.args.counted.legal in
    let f = fleet_good (table_of x) a.rec.now c.requires.0 in
    sym (length-take-le _ _ (omega (arith, f.0, c.copy.auto.to)))

pub take_closed-closed-requires : goal.take_closed-closed-requires
take_closed-closed-requires c =
    let a = c.args in
    let x = as_slices a.counted.table in
    let m = links_within x c.args.counted.legal in
    let f = fleet_good (table_of x) a.rec.now c.requires.0 in
    let zeros : List ℕ = replicate 16384 0 in
    let whole = copied_part zeros _ a.rec.now (length a.rec.now) c.copy.ensures (omega (arith, f.0)) (omega arith) ∙ take_all (length a.rec.now) a.rec.now (omega arith) in
    (rw whole c.requires.0, c.requires.1, c.requires.2)

pub returns : goal.returns
returns c =
    let a = c.args in
    let x = as_slices a.counted.table in
    let m = links_within x c.args.counted.legal in
    let f = fleet_good (table_of x) a.rec.now c.requires.0 in
    let zeros : List ℕ = replicate 16384 0 in
    let whole = copied_part zeros _ a.rec.now (length a.rec.now) c.copy.ensures (omega (arith, f.0)) (omega arith) ∙ take_all (length a.rec.now) a.rec.now (omega arith) in
    let n = length-take-le a.progress.held a.line.now c.requires.2 in
    piece_counted x (under_way a.progress a.rec.now a.line.now) a.piece.now _ _ _ _ _ (omega (arith, c.requires.1)) (rw whole at c.take_closed-closed.ensures)
