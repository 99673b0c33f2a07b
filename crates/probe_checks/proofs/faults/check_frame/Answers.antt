use mathlib.Core.Path.{◌∙◌, ap}
use borrow.Author.Tests.{lt-ltb, le-ltb, eq-eqb, ne_eqb}
use Rattle.refusals.proofs.Laws.{at_exit_if}
use Rattle.table.specs.Table.{of_slices}
use Rattle.probe_frame.specs.Frame.{frame_read}
use Rattle.probe_rules.specs.Frames.{heard_of}
use Rattle.probe_checks.proofs.Accepted.{heard_turned, of_frame, no_kind, known_kind, other_kind, only_to}
use Rattle.probe_checks.proofs.faults.check_frame.Goals as goal

pub returns-in_err-read : goal.returns-in_err-read
returns-in_err-read c =
    let a = c.args in
    λ probes needs costs.
    let t = of_slices a.number probes a.links needs a.lows.now a.highs.now costs in
    at_exit_if _ _ _ _ c.from_residual.ensures.1 (heard_turned t a.probe a.frame.now _ c.in_err-read.ensures)

pub returns-then-read-eq0 : goal.returns-then-read-eq0
returns-then-read-eq0 c =
    let a = c.args in
    λ probes needs costs.
    let t = of_slices a.number probes a.links needs a.lows.now a.highs.now costs in
    (of_frame t a.probe a.frame.now _ c.in_ok-read.ensures 9 (rw (no_kind _ c.if-read-eq0.true)), tt)

pub returns-then-read-gt2 : goal.returns-then-read-gt2
returns-then-read-gt2 c =
    let a = c.args in
    λ probes needs costs.
    let t = of_slices a.number probes a.links needs a.lows.now a.highs.now costs in
    (of_frame t a.probe a.frame.now _ c.in_ok-read.ensures 9 (rw (other_kind _ c.if-read-gt2.true)), tt)

pub returns-then-read-number : goal.returns-then-read-number
returns-then-read-number c =
    let a = c.args in
    λ probes needs costs.
    let t = of_slices a.number probes a.links needs a.lows.now a.highs.now costs in
    (of_frame t a.probe a.frame.now _ c.in_ok-read.ensures 23 (rw (known_kind _ c.if-read-eq0.false c.if-read-gt2.false, ne_eqb _ _ c.if-read-number.true)), tt)

pub returns-then-read-probe : goal.returns-then-read-probe
returns-then-read-probe c =
    let a = c.args in
    λ probes needs costs.
    let t = of_slices a.number probes a.links needs a.lows.now a.highs.now costs in
    let only = only_to t a.probe (frame_read c.in_ok-read.read) c.if-read-eq0.false c.if-read-gt2.false c.if-read-number.false in
    (of_frame t a.probe a.frame.now _ c.in_ok-read.ensures 24 (rw (only, ne_eqb _ _ c.if-read-probe.true)), tt)

pub returns-then-links-link : goal.returns-then-links-link
returns-then-links-link c =
    let a = c.args in
    λ probes needs costs.
    let t = of_slices a.number probes a.links needs a.lows.now a.highs.now costs in
    let only = only_to t a.probe (frame_read c.in_ok-read.read) c.if-read-eq0.false c.if-read-gt2.false c.if-read-number.false in
    (of_frame t a.probe a.frame.now _ c.in_ok-read.ensures 24 (rw (only, eq-eqb _ _ c.if-read-probe.false, ← c.between-link.ensures, le-ltb _ _ c.if-links-link.true)), tt)

pub returns : goal.returns
returns c =
    let a = c.args in
    λ probes needs costs.
    let t = of_slices a.number probes a.links needs a.lows.now a.highs.now costs in
    let reads = c.in_ok-read.ensures in
    let only = only_to t a.probe (frame_read c.in_ok-read.read) c.if-read-eq0.false c.if-read-gt2.false c.if-read-number.false in
    let none = of_frame t a.probe a.frame.now _ reads 0 (rw (only, eq-eqb _ _ c.if-read-probe.false, ← c.between-link.ensures, lt-ltb _ _ c.if-links-link.false)) in
    (none, rw (← c.between-link.ensures) c.event_of.ensures ∙ ap (heard_of t) reads.1)
