use mathlib.Core.Path.{sym, ◌∙◌, ap}
use lib.Dec.{leb}
use lib.ListN.{length}
use borrow.Author.Tests.{not-true, not-false}
use Rattle.lines.specs.declared.Found.{Found}
use Rattle.table_text.proofs.Closing.{closing_absent, closing_more, closing_followed, closing_last}
use Rattle.table_text.proofs.line_checks.check_closing.Goals as goal

pub returns-then-not-stands_at : goal.returns-then-not-stands_at
returns-then-not-stands_at c =
    let a = c.args in
    closing_absent a.more a.text.now a.at (sym c.stands_at.ensures ∙ not-true _ c.if-not-stands_at.true-raw)

pub returns-then-more : goal.returns-then-more
returns-then-more c =
    let a = c.args in
    closing_more a.more a.text.now a.at (sym c.stands_at.ensures ∙ not-false _ c.if-not-stands_at.false-raw) c.if-more.true

pub returns-then-not-ends_at : goal.returns-then-not-ends_at
returns-then-not-ends_at c =
    let a = c.args in
    closing_followed a.more a.text.now a.at (sym c.stands_at.ensures ∙ not-false _ c.if-not-stands_at.false-raw) c.if-more.false
    (ap (λ (x : Found). leb (length a.text.now) x.next) (sym c.line_at-closing.ensures) ∙ sym c.ends_at.ensures ∙ not-true _ c.if-not-ends_at.true-raw)

pub returns : goal.returns
returns c =
    let a = c.args in
    closing_last a.more a.text.now a.at (sym c.stands_at.ensures ∙ not-false _ c.if-not-stands_at.false-raw) c.if-more.false
    (ap (λ (x : Found). leb (length a.text.now) x.next) (sym c.line_at-closing.ensures) ∙ sym c.ends_at.ensures ∙ not-false _ c.if-not-ends_at.false-raw)
