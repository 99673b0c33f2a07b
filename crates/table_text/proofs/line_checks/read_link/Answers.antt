use mathlib.Core.Path.{sym, ◌∙◌}
use borrow.Author.Tests.{eq-eqb, ne_eqb}
use Rattle.refusals.proofs.Laws.{or_refused, or_passed, at_exit_if}
use Rattle.reader.proofs.Fields.{triple_numbers}
use Rattle.table_text.specs.Header.{LinkOf}
use Rattle.table_text.proofs.Good.{low_at, high_at, link_line_is}
use Rattle.table_text.proofs.line_checks.read_link.Goals as goal

pub returns-in_err-check_ends : goal.returns-in_err-check_ends
returns-in_err-check_ends c =
    let a = c.args in
    let s = a.text.now in
    let p = c.requires.0 in
    let q = c.requires.1 in
    let t = c.in_ok-line.ensures in
    let n = triple_numbers s a.at c.in_ok-line.line t.1 in
    let is = link_line_is s a.probes a.i a.at p q _ _ _ _ t.0 (low_at s a.probes a.i a.at p q _ n.0) (high_at s a.probes a.i a.at p q _ n.1) c.requires.2 in
    at_exit_if (LinkOf s a.i) _ _ _ c.from_residual-in_err-check_ends.ensures.1 (or_refused _ _ _ c.in_err-check_ends.ensures ∙ sym is)

pub returns-in_err-check_order : goal.returns-in_err-check_order
returns-in_err-check_order c =
    let a = c.args in
    let s = a.text.now in
    let p = c.requires.0 in
    let q = c.requires.1 in
    let t = c.in_ok-line.ensures in
    let n = triple_numbers s a.at c.in_ok-line.line t.1 in
    let is = link_line_is s a.probes a.i a.at p q _ _ _ _ t.0 (low_at s a.probes a.i a.at p q _ n.0) (high_at s a.probes a.i a.at p q _ n.1) c.requires.2 in
    let order = c.in_err-check_order.ensures ∙ rw (ne_eqb a.i 0 c.if-i-ne0.true) in
    at_exit_if (LinkOf s a.i) _ _ _ c.from_residual-in_err-check_order.ensures.1 (or_passed _ _ _ c.in_ok-check_ends.ensures order ∙ sym is)

pub returns-in_ok-check_order : goal.returns-in_ok-check_order
returns-in_ok-check_order c =
    let a = c.args in
    let s = a.text.now in
    let p = c.requires.0 in
    let q = c.requires.1 in
    let t = c.in_ok-line.ensures in
    let n = triple_numbers s a.at c.in_ok-line.line t.1 in
    let low = low_at s a.probes a.i a.at p q _ n.0 in
    let high = high_at s a.probes a.i a.at p q _ n.1 in
    let is = link_line_is s a.probes a.i a.at p q _ _ _ _ t.0 low high c.requires.2 in
    let order = c.in_ok-check_order.ensures ∙ rw (ne_eqb a.i 0 c.if-i-ne0.true) in
    (or_passed _ _ _ c.in_ok-check_ends.ensures order ∙ sym is, (low, high))

pub returns-else-i-ne0 : goal.returns-else-i-ne0
returns-else-i-ne0 c =
    let a = c.args in
    let s = a.text.now in
    let p = c.requires.0 in
    let q = c.requires.1 in
    let t = c.in_ok-line.ensures in
    let n = triple_numbers s a.at c.in_ok-line.line t.1 in
    let low = low_at s a.probes a.i a.at p q _ n.0 in
    let high = high_at s a.probes a.i a.at p q _ n.1 in
    let is = link_line_is s a.probes a.i a.at p q _ _ _ _ t.0 low high c.requires.2 in
    (or_passed _ _ _ c.in_ok-check_ends.ensures (rw (eq-eqb a.i 0 c.if-i-ne0.false)) ∙ sym is, (low, high))
