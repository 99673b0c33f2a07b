use mathlib.Core.Path.{sym, ◌∙◌, ap}
use Rattle.lines.specs.declared.Found.{Found}
use Rattle.lines.proofs.Lines.{fault_of_length, fault_of_digits, fault_of_missing}
use Rattle.reader.proofs.numbers.bad_digit.Goals as goal

pub returns-in-Some : goal.returns-in-Some
returns-in-Some c =
    let a = c.args in
    fault_of_digits a.text.now a.at a.width _ _ (sym (ap (λ (f : Found). f.line) c.line_at.ensures) ∙ c.in-Some.is) c.if-line-width.true c.requires

pub returns-in_default : goal.returns-in_default
returns-in_default c =
    let a = c.args in
    fault_of_length a.text.now a.at a.width _ _ (sym (ap (λ (f : Found). f.line) c.line_at.ensures) ∙ c.in-Some.is) c.if-line-width.false

pub returns-in_default-2 : goal.returns-in_default-2
returns-in_default-2 c =
    let a = c.args in
    fault_of_missing a.text.now a.at a.width (sym (ap (λ (f : Found). f.line) c.line_at.ensures) ∙ c.in_default.is)
