use mathlib.Core.Path.{◌≡◌, sym}
use mathlib.Core.List.{[]}
use borrow.Author.Tests.{eq-eqb, ne_eqb}
use Rattle.range.specs.First.{first}
use Rattle.refusals.proofs.Laws.{at_exit, or_refused}
use Rattle.table.specs.Table.{Table, of_slices}
use Rattle.probe_record.specs.Record.{byte_fault}
use Rattle.probe_record.proofs.Bytes.{many_standing, many_held, none_over}
use Rattle.probe_record.proofs.checks.check_record.Goals as goal

pub returns-then-rec-links : goal.returns-then-rec-links
returns-then-rec-links c = rw (ne_eqb _ _ c.if-rec-links.true)

pub returns-in_err-check_bytes : goal.returns-in_err-check_bytes
returns-in_err-check_bytes c =
    at_exit _ _ _ c.from_residual.ensures.1 (rw (eq-eqb _ _ c.if-rec-links.false) (or_refused _ _ _ c.in_err-check_bytes.ensures))

pub returns-then-room-ones : goal.returns-then-room-ones
returns-then-room-ones c =
    let a = c.args in
    let t : Table = of_slices 0 0 a.table.links a.table.needs.now a.table.lows.now a.table.highs.now [] in
    let fine : first (byte_fault t a.probe a.rec.now) a.table.links ≡ 0 = sym c.in_ok-check_bytes.ensures in
    many_standing t a.probe a.rec.now c.if-rec-links.false fine _ _ c.spare-room.ensures c.ones.ensures.0 c.if-room-ones.true

pub returns-then-room-ones-2 : goal.returns-then-room-ones-2
returns-then-room-ones-2 c =
    let a = c.args in
    let t : Table = of_slices 0 0 a.table.links a.table.needs.now a.table.lows.now a.table.highs.now [] in
    let fine : first (byte_fault t a.probe a.rec.now) a.table.links ≡ 0 = sym c.in_ok-check_bytes.ensures in
    many_held t a.probe a.rec.now c.if-rec-links.false fine _ _ c.spare-room.ensures c.ones.ensures.0 c.if-room-ones.false _ c.ones-2.ensures.0 c.if-room-ones-2.true

pub returns : goal.returns
returns c =
    let a = c.args in
    let t : Table = of_slices 0 0 a.table.links a.table.needs.now a.table.lows.now a.table.highs.now [] in
    let fine : first (byte_fault t a.probe a.rec.now) a.table.links ≡ 0 = sym c.in_ok-check_bytes.ensures in
    none_over t a.probe a.rec.now c.if-rec-links.false fine _ _ c.spare-room.ensures c.ones.ensures.0 c.if-room-ones.false _ c.ones-2.ensures.0 c.if-room-ones-2.false
