use Rattle.std.proofs.Common.{arith, true, take, length-take-le}
use Rattle.table_read.specs.Reading.{lent_of}
use Rattle.table_laws.proofs.Reading.{read_fine}
use Rattle.script.specs.Writing.{zero_slices}
use Rattle.script.proofs.Answered.{answers_within}
use Rattle.script.proofs.Behind.{behind_table, behind_refused}
use Rattle.script.proofs.answer_text.Goals as goal

pub answer_script-ending-requires : goal.answer_script-ending-requires
answer_script-ending-requires g c =
    let m = length-take-le 4096 c.args.text.now c.requires.1 in
    let b = c.read_table_prefix-read.new in
    let t = c.in-Ok.head in
    (read_fine 256 2048 true (take c.args.n c.args.text.now) c.read_table_prefix-read.result zero_slices (lent_of b.needs b.lows b.highs b.costs) c.read_table_prefix-read.ensures t.number t.probes t.links t.rest c.in-Ok.is, omega arith, omega arith)

pub write_ending-requires : goal.write_ending-requires
write_ending-requires g c = answers_within _ c.answer_script-ending.result c.answer_script-ending.new.out c.answer_script-ending.ensures.answers

pub returns-in-Ok : goal.returns-in-Ok
returns-in-Ok g c = λ done.
    let m = length-take-le 4096 c.args.text.now c.requires.1 in
    let b = c.read_table_prefix-read.new in
    let t = c.in-Ok.head in
    behind_table (take c.args.n c.args.text.now) _ _ _ _ _ t.number t.probes t.links t.rest (lent_of b.needs b.lows b.highs b.costs) c.in-Ok.ensures c.answer_script-ending.result c.answer_script-ending.new.out _ (omega (arith, m)) c.answer_script-ending.ensures (c.write_ending.ensures done)

pub returns-in-Err : goal.returns-in-Err
returns-in-Err g c = λ done.
    let b = c.read_table_prefix-read.new in
    behind_refused (take c.args.n c.args.text.now) _ _ _ c.in-Err.refusal _ (lent_of b.needs b.lows b.highs b.costs) _ c.refuse-length.new.out c.refuse-length.result c.in-Err.ensures c.number.ensures c.refuse-length.ensures (c.write.ensures done)
