use borrow.Author.Rules.{rules}
use Prim.Native.Nat.{◌+◌, ◌≤◌, ◌<◌}
use mathlib.Core.Path.{◌≡◌, sym, ap, ◌∙◌}
use mathlib.Core.Bool.{cond}
use native.Mathlib.Omega.{arith}
use lib.Dec.{eqb}
use lib.ListN.{length}
use Rattle.range.proofs.Lists.{zeros_at}
use Rattle.range.proofs.Faults.{or_here, or_none}
use Rattle.refusals.specs.Refusals.{fault_of}
use Rattle.refusals.proofs.Laws.{number_some}
use Rattle.table.proofs.Slices.{legal_slices}
use Rattle.table.specs.Slices.{table_of, as_slices}
use Rattle.fleet_state.proofs.Legal.{fits}
use Rattle.fleet_state.proofs.CheckLaws.{fleet_good, state_passed}
use Rattle.output.specs.Output.{output_fault}
use Rattle.output.proofs.Printing.{prints_refused, prints_done, too_short, long_enough}
use Rattle.script_lines.proofs.Fitting.{capped_below, stored_fits}
use Rattle.script_theory.specs.Script.{end_text}
use Rattle.script_pieces.proofs.Ends.{length_end, end_most}
use Rattle.script_output.specs.Handling.{site_fault, end_call_fault}
use Rattle.script_output.proofs.script_end.Goals as goal

pub returns-then-out-end_length : goal.returns-then-out-end_length
returns-then-out-end_length c =
    let a = c.args in
    let x = as_slices a.table in
    let printed = end_text x a.rec.now a.progress.held a.progress.changed in
    let n = length_end x a.rec.now a.progress.held a.progress.changed in
    let short : length a.out.now < length printed = omega (arith, c.end_length.ensures, c.if-out-end_length.true) in
    prints_refused _ 8 printed a.out.now (or_here 8 (output_fault (length a.out.now) printed) (site_fault x a.rec.now) (too_short (length a.out.now) printed short) (λ z. omega arith)) (λ z. omega arith)

pub check_state-requires : goal.check_state-requires
check_state-requires c = (search rules, zeros_at 256)

pub returns-in-Err : goal.returns-in-Err
returns-in-Err c =
    let a = c.args in
    let x = as_slices a.table in
    let printed = end_text x a.rec.now a.progress.held a.progress.changed in
    let n = length_end x a.rec.now a.progress.held a.progress.changed in
    let long : length printed ≤ length a.out.now = omega (arith, c.end_length.ensures, c.if-out-end_length.false) in
    let e = c.number.ensures in
    prints_refused _ _ printed a.out.now (e ∙ c.in-Err.ensures.0 ∙ sym (or_none (output_fault (length a.out.now) printed) (site_fault x a.rec.now) (long_enough (length a.out.now) printed long)))
    (λ z. number_some c.in-Err.refusal (sym e ∙ z))

pub put_end-length-requires : goal.put_end-length-requires
put_end-length-requires c =
    let t = c.args.table in
    let x = as_slices t in
    let s = state_passed x c.args.rec.now c.in_default.is c.check_state.ensures in
    let f = fleet_good (table_of x) c.args.rec.now s.1 in
    let g = legal_slices 256 2048 x s.0 in
    let room : length c.check_state.new.degrees ≡ 256 = c.check_state.auto.degrees in
    (fits t.number t.probes t.links t.needs.now t.lows.now t.highs.now t.costs.now g, omega (arith, f.0), omega (arith, g.few, room), s.2, omega arith)

pub returns : goal.returns
returns c =
    let a = c.args in
    let x = as_slices a.table in
    let printed = end_text x a.rec.now a.progress.held a.progress.changed in
    let k = c.put_end-length in
    let n = length_end x a.rec.now a.progress.held a.progress.changed in
    let m = end_most (eqb a.progress.held 0) in
    let e = k.ensures.1 ∙ capped_below (0 + cond (eqb a.progress.held 0) 11 16) (omega arith) in
    let long : 0 + length printed ≤ length a.out.now = omega (arith, c.end_length.ensures, c.if-out-end_length.false) in
    let none : end_call_fault x a.rec.now printed a.out.now ≡ 0 =
    or_none (output_fault (length a.out.now) printed) (site_fault x a.rec.now) (long_enough (length a.out.now) printed (omega arith)) ∙ sym c.check_state.ensures.0 ∙ ap fault_of c.in_default.is in
    prints_done _ _ printed a.out.now _ none (omega arith) (omega arith) (k.ensures.0 a.table.number a.table.costs.now ∙ stored_fits a.out.now 0 printed long)
