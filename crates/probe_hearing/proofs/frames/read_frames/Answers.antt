use Prim.Native.Nat.{ℕ, ◌-◌, ◌≤◌, ◌<◌}
use mathlib.Core.Path.{◌≡◌, sym, ap, ◌∙◌}
use mathlib.Core.List.{List}
use native.Mathlib.Omega.{arith}
use lib.ListN.{length, take, drop}
use Rattle.lines.specs.Fields.{line_bytes}
use Rattle.lines.specs.declared.Found.{Found}
use Rattle.lines.proofs.Split.{next_after, line_part}
use Rattle.refusals.proofs.Laws.{number_some, at_exit_if}
use Rattle.table.specs.Slices.{as_slices, table_of}
use Rattle.probe_rules.proofs.OutcomeLaws.{event_wider}
use Rattle.probe_checks.specs.Checks.{heard_fault}
use Rattle.probe_frame.specs.Frame.{frame_of}
use Rattle.probe_rules.specs.Frames.{heard_of}
use Rattle.probe_checks.proofs.Accepted.{heard_within}
use Rattle.probe_hearing.specs.PackedEvents.{packed_event}
use Rattle.probe_hearing.proofs.Reading.{read_none, read_room, read_bad, read_next, read_fault_lem, read_said}
use Rattle.lines.specs.Line.{line_at}
use Rattle.probe_hearing.proofs.frames.read_frames.Goals as goal

-- the next frame's offset
next_is : (bag : List ℕ) (at : ℕ) (found : Found) → found ≡ line_at bag at → at < length bag → (at < found.next) × (found.next ≤ length bag)
next_is bag at found e test = rw (ap (λ (f : Found). f.next) e) (next_after bag at test)

-- the piece of the bag that check_frame hears is its line at this offset
piece_is : (bag : List ℕ) (at : ℕ) (found : Found) → found ≡ line_at bag at → at < length bag → take (found.next - at) (drop at bag) ≡ line_bytes bag at
piece_is bag at found e test = rw (ap (λ (f : Found). f.next) e) (line_part bag at test)

pub loop-at-init : goal.loop-at-init
loop-at-init c = let a = c.args in read_none _ a.probe a.bag.now a.said.now

pub slice_bounds-check_frame-start : goal.slice_bounds-check_frame-start
slice_bounds-check_frame-start c = omega (arith, next_is _ _ _ c.find_line-found.ensures c.loop-at-test.true)

pub slice_bounds-check_frame-end : goal.slice_bounds-check_frame-end
slice_bounds-check_frame-end c = omega (arith, next_is _ _ _ c.find_line-found.ensures c.loop-at-test.true)

pub slice_bounds-check_frame-count : goal.slice_bounds-check_frame-count
slice_bounds-check_frame-count c = omega (arith, next_is _ _ _ c.find_line-found.ensures c.loop-at-test.true)

pub returns-in_err-event : goal.returns-in_err-event
returns-in_err-event c =
    let a = c.args in
    let l = c.loop-at in
    let t = table_of (as_slices a.table) in
    let heard = c.in_err-event.ensures a.table.probes a.table.needs.now a.table.costs.now in
    let piece = piece_is a.bag.now l.at _ c.find_line-found.ensures c.loop-at-test.true in
    at_exit_if _ _ _ _ c.from_residual.ensures.1 (read_bad t a.probe a.bag.now a.said.now l.said l.n l.at l.invariant c.loop-at-test.true _ (heard.0 ∙ ap (heard_fault t a.probe) piece) (number_some _))

pub packed_event-requires : goal.packed_event-requires
packed_event-requires c =
    let a = c.args in
    let l = c.loop-at in
    let t = table_of (as_slices a.table) in
    let heard = c.in_ok-event.ensures a.table.probes a.table.needs.now a.table.costs.now in
    let piece = piece_is a.bag.now l.at _ c.find_line-found.ensures c.loop-at-test.true in
    rw (heard.1 ∙ ap (λ (line : List ℕ). heard_of t (frame_of line)) piece) (event_wider a.table.links 2048 _ c.requires.1 (heard_within t a.probe (line_bytes a.bag.now l.at) (sym (heard.0 ∙ ap (heard_fault t a.probe) piece))))

pub bounds-said-n : goal.bounds-said-n
bounds-said-n c =
    let l = c.loop-at in
    read_room _ _ _ _ l.said l.n l.at l.invariant c.loop-at-test.true (omega arith)

pub overflow_add-n : goal.overflow_add-n
overflow_add-n c =
    let l = c.loop-at in
    omega (arith, read_room _ _ _ _ l.said l.n l.at l.invariant c.loop-at-test.true (omega arith), l.invariant.long, c.requires.3)

pub loop-at-smaller : goal.loop-at-smaller
loop-at-smaller c = omega (arith, next_is _ _ _ c.find_line-found.ensures c.loop-at-test.true)

pub loop-at-preserved : goal.loop-at-preserved
loop-at-preserved c =
    let a = c.args in
    let l = c.loop-at in
    let t = table_of (as_slices a.table) in
    let heard = c.in_ok-event.ensures a.table.probes a.table.needs.now a.table.costs.now in
    let piece = piece_is a.bag.now l.at _ c.find_line-found.ensures c.loop-at-test.true in
    let e = ap (λ (f : Found). f.next) c.find_line-found.ensures in
    rw e (read_next t a.probe a.bag.now a.said.now l.said l.n l.at l.invariant c.loop-at-test.true _ (sym (heard.0 ∙ ap (heard_fault t a.probe) piece)) (c.packed_event.ensures ∙ ap packed_event (heard.1 ∙ ap (λ (line : List ℕ). heard_of t (frame_of line)) piece)))

pub returns : goal.returns
returns c =
    let l = c.loop-at in
    (sym (read_fault_lem _ _ _ _ l.said l.n l.at l.invariant c.loop-at-test.false), read_said _ _ _ _ l.said l.n l.at l.invariant c.loop-at-test.false)
