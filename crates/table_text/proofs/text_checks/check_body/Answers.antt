use mathlib.Core.Path.{sym, ◌∙◌, ap}
use native.Mathlib.Omega.{arith}
use Rattle.lines.specs.declared.Found.{Found}
use Rattle.lines.proofs.Lines.{line_good, good_next}
use Rattle.table_text.proofs.Good.{lines_within}
use Rattle.table_text.proofs.text_checks.check_body.Goals as goal

pub check_need_lines-requires : goal.check_need_lines-requires
check_need_lines-requires c =
    let s = c.args.text.now in
    (ap (λ (x : Found). x.next) c.first_line.ensures ∙ good_next s 0 12 (line_good s 0 12 c.requires.4), c.requires.2)

pub check_closing-requires : goal.check_closing-requires
check_closing-requires c =
    let a = c.args in
    let h = (line_good a.text.now 0 12 c.requires.4).within in
    let w = lines_within a.text.now a.probes a.links c.requires.0 (omega arith) (sym c.in_ok-check_need_lines.ensures) (sym c.in_ok-check_link_lines.ensures) in
    omega (arith, c.link_start.ensures)
