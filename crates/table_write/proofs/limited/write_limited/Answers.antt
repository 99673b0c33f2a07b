use Prim.Native.Nat.{◌+◌, ◌≤◌, ◌<◌}
use mathlib.Core.Path.{refl, ◌∙◌, sym}
use native.Mathlib.Omega.{arith}
use lib.ListN.{length}
use Rattle.refusals.specs.declared.Refusal.TheVariants.{Slice}
use Rattle.range.proofs.Faults.{or_left}
use Rattle.table.specs.Text.{link_start}
use Rattle.table.proofs.Faults.{room_good}
use Rattle.table_write.proofs.Answers.{room_short, room_enough, writes_refused, writes_text}
use Rattle.table_write.proofs.limited.write_limited.Goals as goal

pub returns-then-out-end : goal.returns-then-out-end
returns-then-out-end c =
    let a = c.args in
    let short : length a.out.now < link_start a.table.probes a.table.links + 5 = omega (arith, c.text_end-end.ensures, c.if-out-end.true) in
    writes_refused _ _ _ Slice _ refl (room_short _ _ _ short)

pub returns-in_err-check_slices : goal.returns-in_err-check_slices
returns-in_err-check_slices c =
    let a = c.args in
    let enough : link_start a.table.probes a.table.links + 5 ≤ length a.out.now = omega (arith, c.text_end-end.ensures, c.if-out-end.false) in
    writes_refused _ _ _ _ _ c.from_residual.ensures.1 (c.in_err-check_slices.ensures ∙ sym (room_enough _ _ _ enough))

pub put_table-requires : goal.put_table-requires
put_table-requires c =
    let a = c.args in
    let e = c.text_end-end.ensures in
    let s = room_good a.table.probes a.table.links (length a.table.needs.now) (length a.table.lows.now) (length a.table.highs.now) (length a.table.costs.now) (or_left _ _ (sym c.in_ok-check_slices.ensures)) in
    (omega arith, omega arith, omega arith, omega arith, omega arith)

pub returns : goal.returns
returns c =
    let a = c.args in
    let e = c.text_end-end.ensures in
    let enough : link_start a.table.probes a.table.links + 5 ≤ length a.out.now = omega (arith, e, c.if-out-end.false) in
    rw e (writes_text _ _ _ _ (room_enough _ _ _ enough ∙ sym c.in_ok-check_slices.ensures) enough c.put_table.ensures)
