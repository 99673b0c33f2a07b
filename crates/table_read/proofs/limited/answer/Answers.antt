use mathlib.Core.Bool.{true}
use native.Mathlib.Omega.{arith}
use Rattle.lines.proofs.Lines.{field_fits}
use Rattle.table_text.proofs.Good.{text_head}
use Rattle.table_read.proofs.limited.answer.Goals as goal

pub overflow_cast-result : goal.overflow_cast-result
overflow_cast-result c =
    let g = text_head 256 2048 true c.args.text.now c.requires.0 in
    omega (arith, field_fits c.args.text.now 0 12 0 g.line (omega arith), c.requires.1.0)

pub overflow_cast-result-2 : goal.overflow_cast-result-2
overflow_cast-result-2 c =
    let z = (text_head 256 2048 true c.args.text.now c.requires.0).size in
    omega (arith, c.requires.1.1)

pub overflow_cast-result-3 : goal.overflow_cast-result-3
overflow_cast-result-3 c =
    let z = (text_head 256 2048 true c.args.text.now c.requires.0).size in
    omega (arith, c.requires.1.2)

pub text_end-requires : goal.text_end-requires
text_end-requires c =
    let z = (text_head 256 2048 true c.args.text.now c.requires.0).size in
    (omega (arith, c.requires.1.1), omega (arith, c.requires.1.2))

pub returns : goal.returns
returns c =
    let h = c.requires.1 in
    rw (c.text_end.ensures, h.0, h.1, h.2)
