use native.Mathlib.Omega.{arith}
use mathlib.Core.Path.{sym}
use Rattle.refusals.proofs.Laws.{number_some, at_exit_if}
use Rattle.table.specs.Slices.{as_slices, table_of}
use Rattle.probe_bags.specs.Bag.{frames_of}
use Rattle.probe_hearing.proofs.Laws.{count_many, count_few}
use Rattle.probe_hearing.proofs.Faults.{fault_of_many, fault_of_frames, fault_of_probe, fault_of_room, fault_of_none}
use Rattle.probe_hearing.proofs.checks.check_bag.Goals as goal

pub returns-then-count-gt64 : goal.returns-then-count-gt64
returns-then-count-gt64 c = (fault_of_many _ _ _ _ (count_many _ _ c.count_frames-count.ensures c.if-count-gt64.true), tt)

pub returns-in_err-read_frames : goal.returns-in_err-read_frames
returns-in_err-read_frames c =
    let n = count_few _ _ c.count_frames-count.ensures (omega arith) in
    at_exit_if _ _ _ _ c.from_residual.ensures.1 (fault_of_frames _ _ _ _ n.0 _ c.in_err-read_frames.ensures.0 (number_some _))

pub returns-then-table-probe : goal.returns-then-table-probe
returns-then-table-probe c =
    let n = count_few _ _ c.count_frames-count.ensures (omega arith) in
    (fault_of_probe _ _ _ _ n.0 (sym c.in_ok-read_frames.ensures.0) c.if-table-probe.true, tt)

pub returns-then-free-count : goal.returns-then-free-count
returns-then-free-count c =
    let n = count_few _ _ c.count_frames-count.ensures (omega arith) in
    (fault_of_room _ _ _ _ n.0 (sym c.in_ok-read_frames.ensures.0) c.if-table-probe.false (omega arith), tt)

pub returns : goal.returns
returns c =
    let n = count_few _ _ c.count_frames-count.ensures (omega arith) in
    (fault_of_none _ _ _ _ n.0 (sym c.in_ok-read_frames.ensures.0) c.if-table-probe.false (omega arith), (n.1, c.in_ok-read_frames.ensures.1))
