use Prim.Native.Nat.{ℕ}
use mathlib.Core.Path.{◌∙◌, ap}
use mathlib.Core.Bool.{true}
use native.Mathlib.Omega.{arith}
use lib.ListN.{length}
use Rattle.lines.proofs.Lines.{good_line}
use Rattle.lines.specs.Digits.{line_fault}
use Rattle.table.specs.Text.{of_text, need_start, link_start}
use Rattle.table.proofs.Faults.{room_good}
use Rattle.table.proofs.Accepted.{text_good}
use Rattle.table_text.proofs.Good.{text_head}
use Rattle.table_read.proofs.limited.fill_table.Goals as goal

pub store_needs-requires : goal.store_needs-requires
store_needs-requires c =
    let a = c.args in
    let s = a.text.now in
    let g = text_good 256 2048 true s c.requires.0 in
    let z = (text_head 256 2048 true s c.requires.0).size in
    let p = c.requires.1 in
    let m = c.requires.2 in
    let room = room_good (of_text s).probes (of_text s).links (length a.needs.now) (length a.lows.now) (length a.highs.now) (length a.costs.now) c.requires.3 in
    (omega arith, omega arith, λ v l. good_line s (need_start v) 4 (g.need v (omega arith)))

pub store_links-requires : goal.store_links-requires
store_links-requires c =
    let a = c.args in
    let s = a.text.now in
    let g = text_good 256 2048 true s c.requires.0 in
    let z = (text_head 256 2048 true s c.requires.0).size in
    let p = c.requires.1 in
    let m = c.requires.2 in
    let room = room_good (of_text s).probes (of_text s).links (length a.needs.now) (length a.lows.now) (length a.highs.now) (length a.costs.now) c.requires.3 in
    (omega arith, omega arith, omega arith, omega arith, omega arith, p, λ i l. ap (λ (k : ℕ). line_fault s (link_start k i) 12) p ∙ good_line s (link_start (of_text s).probes i) 12 (g.link i (omega arith)))
