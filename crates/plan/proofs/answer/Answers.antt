use Rattle.std.proofs.Common.{◌≤◌, arith, length}
use Rattle.plan.proofs.Writing.{whole_input}
use Rattle.plan.proofs.answer.Goals as goal

pub returns-else-not-write_output : goal.returns-else-not-write_output
returns-else-not-write_output g c =
    let within : c.in-Until.n ≤ length c.fill.new.buf = (let w = c.in-Until.ensures.fills.within in omega (arith, w.1 (omega arith), c.fill.auto.buf)) in
    whole_input _ _ _ _ c.fill.new.buf c.in-Until.n _ c.print-length.new.out c.print-length.result c.fill.auto.buf within c.in-Until.ensures.bytes c.print-length.ensures (c.write_output.ensures.bytes c.if-not-write_output.false)
