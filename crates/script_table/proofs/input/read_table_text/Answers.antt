use Rattle.std.proofs.Common.{◌≡◌, ◌≤◌, ◌++◌, length, drop, arith, length-take-le}
use Rattle.std.proofs.lemmas.List.{take-append-le}
use Rattle.script_table.proofs.Reading.{refilled, reads_own, reads_table}
use Rattle.script_table.proofs.input.read_table_text.Goals as goal

pub returns-in-Until-clause-own : goal.returns-in-Until-clause-own
returns-in-Until-clause-own g c =
    let text = c.args.text.now in
    let part = c.fill.new.buf in
    let w = c.in-Until.ensures.fills.within in
    let few = length-take-le 13 text (omega (arith, c.requires)) in
    let long = refilled part text 13 c.fill.auto.buf (omega (arith, c.requires)) in
    reads_own (part ++ drop 13 text) c.in-Until.n c.table_end-end.result (omega (arith, w.1 (omega arith))) (omega (arith, c.requires)) c.table_end-end.ensures c.fill-in-Until.new.buf c.fill-in-Until.auto.buf c.fill-in-Until.ensures.fills.kept c.fill-in-Until.result c.fill-in-Until.ensures.fills

pub returns-in-Until-clause-bytes : goal.returns-in-Until-clause-bytes
returns-in-Until-clause-bytes g c =
    let text = c.args.text.now in
    let part = c.fill.new.buf in
    let w = c.in-Until.ensures.fills.within in
    let few = length-take-le 13 text (omega (arith, c.requires)) in
    let thirteen : length part ≡ 13 = omega (arith, few, c.fill.auto.buf) in
    let long = refilled part text 13 c.fill.auto.buf (omega (arith, c.requires)) in
    let most : c.in-Until.n ≤ 13 = omega (arith, w.1 (omega arith), few) in
    reads_table (part ++ drop 13 text) c.in-Until.n c.table_end-end.result most (omega (arith, c.requires, long)) c.table_end-end.ensures c.fill-in-Until.new.buf c.fill-in-Until.auto.buf c.fill-in-Until.ensures.fills.kept
    part thirteen (take-append-le c.in-Until.n part (drop 13 text) (omega (arith, most, thirteen)))
    _ _ _ c.fill-in-Until.result c.in-Until.ensures.bytes c.fill-in-Until.ensures.bytes c.fill-in-Until.ensures.fills
