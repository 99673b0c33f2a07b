use Rattle.table.specs.Slices.{as_slices}
use Rattle.script_theory.specs.Script.{end_text}
use Rattle.script_output.specs.Handling.{end_call_fault}
use Rattle.script_reads.proofs.Calls.{end_passes, never_refused}
use Rattle.script_reads.proofs.reads.end.Goals as goal

pub returns-in-Refused : goal.returns-in-Refused
returns-in-Refused c =
    let a = c.args in
    let x = as_slices a.table in
    let printed = end_text x a.rec.now a.progress.held a.progress.changed in
    let none = end_passes x c.requires.0 a.rec.now c.requires.1 a.progress.held a.progress.changed a.out.now c.requires.2 in
    absurd (never_refused (end_call_fault x a.rec.now printed a.out.now) printed c.script_end-printed.result a.out.now c.script_end-printed.new.out c.script_end-printed.ensures none c.in-Refused.field-0 c.in-Refused.is)
