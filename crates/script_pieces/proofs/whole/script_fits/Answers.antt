use borrow.Author.Rules.{rules}
use Prim.Native.Nat.{ℕ, ◌*◌, ◌≤◌}
use mathlib.Core.Path.{sym, ◌∙◌, ap}
use native.Mathlib.Omega.{arith}
use lib.Dec.{leb}
use lib.ListN.{length}
use borrow.Author.Tests.{le-leb}
use Rattle.table.specs.Slices.{as_slices}
use Rattle.script_lines.proofs.Fitting.{capped_leb}
use Rattle.script_theory.specs.Script.{script_text}
use Rattle.script_pieces.proofs.Ends.{links_within, script_short}
use Rattle.script_pieces.proofs.whole.script_fits.Goals as goal

pub returns-then-text-room : goal.returns-then-text-room
returns-then-text-room c =
    let a = c.args in
    let x = as_slices a.counted.table in
    let m = links_within x c.args.counted.legal in
    let w : 8 * a.counted.table.links ≤ 16384 = omega arith in
    let n = script_short x c.args.counted.legal w a.text.now in
    sym (le-leb (length (script_text x 1024 a.text.now)) a.room (omega (arith, c.if-text-room.true)))

pub returns : goal.returns
returns c =
    let a = c.args in
    let x = as_slices a.counted.table in
    ap (λ (k : ℕ). leb k a.room) c.put_script-length.ensures.0 ∙ capped_leb (length (script_text x 1024 a.text.now)) a.room c.requires
