use mathlib.Core.Path.{sym, ◌∙◌}
use Rattle.refusals.proofs.Laws.{or_refused, or_passed}
use Rattle.table.specs.Text.{of_text, read_fault}
use Rattle.table.proofs.Accepted.{text_wider}
use Rattle.table_read.specs.Reading.{lent_of}
use Rattle.table_read.proofs.Answers.{reads_refused, reads_table}
use Rattle.table_read.proofs.limited.read_limited.Goals as goal

pub returns-in_err-head : goal.returns-in_err-head
unfolding read_fault
returns-in_err-head c =
    let a = c.args in
    reads_refused _ (of_text a.text.now) _ _ (lent_of a.needs.now a.lows.now a.highs.now a.costs.now) c.from_residual.ensures.1 (or_refused _ _ _ c.in_err-head.ensures.0)

pub returns-in_err-check_room : goal.returns-in_err-check_room
unfolding read_fault
returns-in_err-check_room c =
    let a = c.args in
    let e = c.in_ok-head.ensures in
    reads_refused _ (of_text a.text.now) _ _ (lent_of a.needs.now a.lows.now a.highs.now a.costs.now) c.from_residual-in_err-check_room.ensures.1
    (or_passed _ _ _ e.0 (c.in_err-check_room.ensures ∙ rw (e.1.1, e.1.2)))

pub fill_table-requires : goal.fill_table-requires
fill_table-requires c =
    let a = c.args in
    let e = c.in_ok-head.ensures in
    let h = e.1 in
    (text_wider a.pmax a.lmax 256 2048 a.more a.text.now c.requires.0 c.requires.1 (sym e.0), h.1, h.2, rw (← h.1, ← h.2) (sym c.in_ok-check_room.ensures))

pub answer-requires : goal.answer-requires
answer-requires c =
    let a = c.args in
    let e = c.in_ok-head.ensures in
    (text_wider a.pmax a.lmax 256 2048 a.more a.text.now c.requires.0 c.requires.1 (sym e.0), e.1)

pub returns : goal.returns
unfolding read_fault
returns c =
    let a = c.args in
    let e = c.in_ok-head.ensures in
    let none = or_passed _ _ _ e.0 (c.in_ok-check_room.ensures ∙ rw (e.1.1, e.1.2)) in
    reads_table _ (of_text a.text.now) _ (lent_of a.needs.now a.lows.now a.highs.now a.costs.now) _ (sym none) c.answer.ensures c.fill_table.ensures
