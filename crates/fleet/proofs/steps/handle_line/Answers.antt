-- The places: at-start, the start; at_read, the frame read; at-check, the line checked; at-test, the test of its fault; at-event, what it says; at-unsent, 27 found; at-sent, its test.
use borrow.Author.Rules.{rules}
use Prim.Native.Nat.{◌/◌, ◌≤◌}
use mathlib.Core.Path.{◌≡◌, sym, ◌∙◌}
use native.Mathlib.Omega.{arith}
use lib.ListN.{length}
use Rattle.refusals.proofs.Laws.{number_some}
use Rattle.table.specs.Table.{Table}
use Rattle.table.specs.Slices.{Slices, LegalSlices, table_of, as_slices}
use Rattle.table.proofs.Slices.{legal_slices}
use Rattle.table_links.proofs.Search.{ordered}
use Rattle.table_links.proofs.OrderedLinks.{ordered_links}
use Rattle.probe_rules.proofs.OutcomeLaws.{event_wider}
use Rattle.fleet_theory.specs.Fleet.{event_line_fault}
use Rattle.fleet_theory.proofs.Events.{unsent_of}
use Rattle.probe_frame.specs.Frame.{frame_of}
use Rattle.fleet_state.proofs.CheckLaws.{fleet_good}
use Rattle.fleet.proofs.Checks.{line_turned, line_within, line_to}
use Rattle.fleet.proofs.Calls.{ReadSays, read_says, unsent_is, line_refused, unsent_refused, full_refused, line_accepted}
use Rattle.fleet.proofs.steps.handle_line.Goals as goal

pub check_line-ends-requires : goal.check_line-ends-requires
check_line-ends-requires c =
    let a = c.args in
    ordered 256 2048 a.counted.table.number a.counted.table.probes a.counted.table.links a.counted.table.needs.now a.counted.table.lows.now a.counted.table.highs.now a.counted.table.costs.now c.args.counted.legal

pub returns-in-Err : goal.returns-in-Err
returns-in-Err c =
    let a = c.args in
    let t : Table = table_of (as_slices a.counted.table) in
    let n = c.number.ensures ∙ line_turned t a.line.now c.in-Err.refusal c.in-Err.ensures in
    line_refused a.counted.table.number a.counted.table.probes a.counted.table.links a.counted.table.needs.now a.counted.table.lows.now a.counted.table.highs.now a.counted.table.costs.now a.used a.room a.line.now a.rec.now c.args.counted.legal c.requires _ n (λ z. number_some c.in-Err.refusal (sym c.number.ensures ∙ z))

pub returns-then-ends-ne0 : goal.returns-then-ends-ne0
returns-then-ends-ne0 c =
    let a = c.args in
    line_refused a.counted.table.number a.counted.table.probes a.counted.table.links a.counted.table.needs.now a.counted.table.lows.now a.counted.table.highs.now a.counted.table.costs.now a.used a.room a.line.now a.rec.now c.args.counted.legal c.requires _ (c.check_line-ends.ensures.0 a.line.now c.in-Ok.ensures) c.if-ends-ne0.true

pub unsent_fault-unsent-requires : goal.unsent_fault-unsent-requires
unsent_fault-unsent-requires c =
    let x : Slices = as_slices c.args.counted.table in
    let t : Table = table_of x in
    let legal : LegalSlices 256 2048 x = legal_slices 256 2048 x c.args.counted.legal in
    let passed : event_line_fault t c.args.line.now ≡ 0 = sym (c.check_line-ends.ensures.0 c.args.line.now c.in-Ok.ensures) ∙ c.if-ends-ne0.false in
    let says : ReadSays t c.args.line.now c.in-Ok.frame c.line_event-event.result = (
    let a = c.args in
    read_says a.counted.table.number a.counted.table.probes a.counted.table.links a.counted.table.needs.now a.counted.table.lows.now a.counted.table.highs.now a.counted.table.costs.now a.line.now c.in-Ok.frame _ _
    c.in-Ok.ensures.1 c.line_event-event.ensures
    (c.check_line-ends.ensures.1 c.if-ends-ne0.false)) in
    let a = c.args in
    let g = legal in
    let v = c.line_event-event.result in
    let w = rw (← says.event) at (line_within t a.line.now passed) in
    let room : a.counted.table.links ≤ length a.rec.now / 8 = omega (arith, (fleet_good t a.rec.now c.requires).0) in
    (event_wider a.counted.table.links (length a.counted.table.lows.now) v g.in_lows w, event_wider a.counted.table.links (length a.counted.table.highs.now) v g.in_highs w, event_wider a.counted.table.links 65536 v (omega (arith, g.within)) w, event_wider a.counted.table.links (length a.rec.now / 8) v room w)

pub returns-then-unsent-ne0 : goal.returns-then-unsent-ne0
returns-then-unsent-ne0 c =
    let x : Slices = as_slices c.args.counted.table in
    let t : Table = table_of x in
    let passed : event_line_fault t c.args.line.now ≡ 0 = sym (c.check_line-ends.ensures.0 c.args.line.now c.in-Ok.ensures) ∙ c.if-ends-ne0.false in
    let says : ReadSays t c.args.line.now c.in-Ok.frame c.line_event-event.result = (
    let a = c.args in
    read_says a.counted.table.number a.counted.table.probes a.counted.table.links a.counted.table.needs.now a.counted.table.lows.now a.counted.table.highs.now a.counted.table.costs.now a.line.now c.in-Ok.frame _ _
    c.in-Ok.ensures.1 c.line_event-event.ensures
    (c.check_line-ends.ensures.1 c.if-ends-ne0.false)) in
    let unsent : c.unsent_fault-unsent.result ≡ unsent_of t c.args.rec.now (frame_of c.args.line.now) = (
    let a = c.args in
    unsent_is a.counted.table.number a.counted.table.probes a.counted.table.links a.counted.table.needs.now a.counted.table.lows.now a.counted.table.highs.now a.counted.table.costs.now a.used a.room a.line.now a.rec.now _ _ _
    says.event says.from (line_within t a.line.now passed) (c.unsent_fault-unsent.ensures a.counted.table.links)) in
    let a = c.args in
    unsent_refused a.counted.table.number a.counted.table.probes a.counted.table.links a.counted.table.needs.now a.counted.table.lows.now a.counted.table.highs.now a.counted.table.costs.now a.used a.room a.line.now a.rec.now c.args.counted.legal c.requires passed _ unsent c.if-unsent-ne0.true

pub returns-then-room-used : goal.returns-then-room-used
returns-then-room-used c =
    let x : Slices = as_slices c.args.counted.table in
    let t : Table = table_of x in
    let passed : event_line_fault t c.args.line.now ≡ 0 = sym (c.check_line-ends.ensures.0 c.args.line.now c.in-Ok.ensures) ∙ c.if-ends-ne0.false in
    let says : ReadSays t c.args.line.now c.in-Ok.frame c.line_event-event.result = (
    let a = c.args in
    read_says a.counted.table.number a.counted.table.probes a.counted.table.links a.counted.table.needs.now a.counted.table.lows.now a.counted.table.highs.now a.counted.table.costs.now a.line.now c.in-Ok.frame _ _
    c.in-Ok.ensures.1 c.line_event-event.ensures
    (c.check_line-ends.ensures.1 c.if-ends-ne0.false)) in
    let unsent : c.unsent_fault-unsent.result ≡ unsent_of t c.args.rec.now (frame_of c.args.line.now) = (
    let a = c.args in
    unsent_is a.counted.table.number a.counted.table.probes a.counted.table.links a.counted.table.needs.now a.counted.table.lows.now a.counted.table.highs.now a.counted.table.costs.now a.used a.room a.line.now a.rec.now _ _ _
    says.event says.from (line_within t a.line.now passed) (c.unsent_fault-unsent.ensures a.counted.table.links)) in
    let sent : c.unsent_fault-unsent.result ≡ 0 = omega arith in
    let a = c.args in
    full_refused a.counted.table.number a.counted.table.probes a.counted.table.links a.counted.table.needs.now a.counted.table.lows.now a.counted.table.highs.now a.counted.table.costs.now a.used a.room a.line.now a.rec.now c.args.counted.legal c.requires passed (sym unsent ∙ sent) c.if-room-used.true

pub overflow_cast-frame : goal.overflow_cast-frame
overflow_cast-frame c =
    let x : Slices = as_slices c.args.counted.table in
    let t : Table = table_of x in
    let legal : LegalSlices 256 2048 x = legal_slices 256 2048 x c.args.counted.legal in
    let passed : event_line_fault t c.args.line.now ≡ 0 = sym (c.check_line-ends.ensures.0 c.args.line.now c.in-Ok.ensures) ∙ c.if-ends-ne0.false in
    let says : ReadSays t c.args.line.now c.in-Ok.frame c.line_event-event.result = (
    let a = c.args in
    read_says a.counted.table.number a.counted.table.probes a.counted.table.links a.counted.table.needs.now a.counted.table.lows.now a.counted.table.highs.now a.counted.table.costs.now a.line.now c.in-Ok.frame _ _
    c.in-Ok.ensures.1 c.line_event-event.ensures
    (c.check_line-ends.ensures.1 c.if-ends-ne0.false)) in
    let l = line_to t c.args.line.now passed legal.legal in
    let e = says.to in
    omega (arith, legal.few)

pub apply-e-requires : goal.apply-e-requires
apply-e-requires c =
    let x : Slices = as_slices c.args.counted.table in
    let t : Table = table_of x in
    let legal : LegalSlices 256 2048 x = legal_slices 256 2048 x c.args.counted.legal in
    let passed : event_line_fault t c.args.line.now ≡ 0 = sym (c.check_line-ends.ensures.0 c.args.line.now c.in-Ok.ensures) ∙ c.if-ends-ne0.false in
    let says : ReadSays t c.args.line.now c.in-Ok.frame c.line_event-event.result = (
    let a = c.args in
    read_says a.counted.table.number a.counted.table.probes a.counted.table.links a.counted.table.needs.now a.counted.table.lows.now a.counted.table.highs.now a.counted.table.costs.now a.line.now c.in-Ok.frame _ _
    c.in-Ok.ensures.1 c.line_event-event.ensures
    (c.check_line-ends.ensures.1 c.if-ends-ne0.false)) in
    let a = c.args in
    let l = line_to t a.line.now passed legal.legal in
    (ordered_links x legal, (fleet_good t a.rec.now c.requires).0, rw says.event (line_within t a.line.now passed), omega (arith, says.to, l, c.args.counted.in_degrees), c.args.counted.are_counted)

pub returns : goal.returns
returns c =
    let x : Slices = as_slices c.args.counted.table in
    let t : Table = table_of x in
    let passed : event_line_fault t c.args.line.now ≡ 0 = sym (c.check_line-ends.ensures.0 c.args.line.now c.in-Ok.ensures) ∙ c.if-ends-ne0.false in
    let says : ReadSays t c.args.line.now c.in-Ok.frame c.line_event-event.result = (
    let a = c.args in
    read_says a.counted.table.number a.counted.table.probes a.counted.table.links a.counted.table.needs.now a.counted.table.lows.now a.counted.table.highs.now a.counted.table.costs.now a.line.now c.in-Ok.frame _ _
    c.in-Ok.ensures.1 c.line_event-event.ensures
    (c.check_line-ends.ensures.1 c.if-ends-ne0.false)) in
    let unsent : c.unsent_fault-unsent.result ≡ unsent_of t c.args.rec.now (frame_of c.args.line.now) = (
    let a = c.args in
    unsent_is a.counted.table.number a.counted.table.probes a.counted.table.links a.counted.table.needs.now a.counted.table.lows.now a.counted.table.highs.now a.counted.table.costs.now a.used a.room a.line.now a.rec.now _ _ _
    says.event says.from (line_within t a.line.now passed) (c.unsent_fault-unsent.ensures a.counted.table.links)) in
    let a = c.args in
    let said = says in
    line_accepted a.counted.table.number a.counted.table.probes a.counted.table.links a.counted.table.needs.now a.counted.table.lows.now a.counted.table.highs.now a.counted.table.costs.now a.used a.room a.line.now a.rec.now c.args.counted.legal c.requires passed (sym unsent ∙ c.if-unsent-ne0.false) c.if-room-used.false _ _ _ said.kind said.to said.event _ _ c.apply-e.ensures
