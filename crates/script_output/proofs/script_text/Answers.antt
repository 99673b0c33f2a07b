use borrow.Author.Rules.{rules}
use native.Mathlib.Omega.{arith}
use Rattle.script_output.proofs.Reading.{refusal_printed, rest_within, script_printed}
use mathlib.Core.Bool.{true}
use Rattle.table_laws.proofs.Reading.{read_fine}
use Rattle.script_output.proofs.script_text.Goals as goal

pub slice_bounds-print_script-count : goal.slice_bounds-print_script-count
slice_bounds-print_script-count c =
    let a = c.args in
    let w = rest_within a.text.now _ _ _ _ _ c.read_table_prefix-read.ensures _ c.in-Ok.is in
    omega (arith, w.1)

pub print_script-requires : goal.print_script-requires
print_script-requires c =
    let a = c.args in
    read_fine 256 2048 true a.text.now _ _ _ c.read_table_prefix-read.ensures _ _ _ _ c.in-Ok.is

pub returns-in-Ok : goal.returns-in-Ok
returns-in-Ok c =
    let a = c.args in
    script_printed a.text.now _ _ _ _ _ c.read_table_prefix-read.ensures _ c.in-Ok.is _ a.out.now _ c.print_script.ensures

pub returns-in-Err : goal.returns-in-Err
returns-in-Err c =
    let a = c.args in
    refusal_printed a.text.now _ _ _ _ _ c.read_table_prefix-read.ensures _ _ a.out.now _ c.in-Err.is (rw (← c.number.ensures) c.print_refusal.ensures)

pub slice_bounds-print_script-start : goal.slice_bounds-print_script-start
slice_bounds-print_script-start c = (rest_within c.args.text.now _ _ _ _ _ c.read_table_prefix-read.ensures _ c.in-Ok.is).1
