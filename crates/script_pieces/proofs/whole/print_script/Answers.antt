use borrow.Author.Rules.{rules}
use mathlib.Core.Path.{◌≡◌, sym, ◌∙◌}
use native.Mathlib.Omega.{arith}
use lib.ListN.{length}
use borrow.Author.Tests.{leb-true, leb-false, not-true, not-false}
use Rattle.range.proofs.Lists.{zeros_at}
use Rattle.table.specs.Slices.{as_slices}
use Rattle.table.proofs.Slices.{legal_slices}
use Rattle.fleet_state.proofs.Legal.{may_count}
use Rattle.output.proofs.Printing.{prints_refused, prints_done, too_short, long_enough}
use Rattle.script_lines.proofs.Fitting.{capped_below}
use Rattle.script_theory.specs.Script.{script_text}
use Rattle.script_pieces.proofs.whole.print_script.Goals as goal

pub count_degrees-requires : goal.count_degrees-requires
count_degrees-requires c =
    let a = c.args in
    let m = may_count a.table.number a.table.probes a.table.links a.table.needs.now a.table.lows.now a.table.highs.now a.table.costs.now c.requires in
    (m.0, m.1, m.2, m.3, zeros_at 256)

pub invariant_of-counted : goal.invariant_of-counted
invariant_of-counted c =
    let g = legal_slices 256 2048 (as_slices c.args.table) c.requires in
    let room : length c.count_degrees.new.counts ≡ 256 = c.count_degrees.auto.counts in
    record { legal = c.requires; in_degrees = omega (arith, g.few, room); are_counted = c.count_degrees.ensures }

pub script_fits-requires : goal.script_fits-requires
script_fits-requires c = omega (arith, c.well_formed.1.1.0)

pub returns-then-not-script_fits : goal.returns-then-not-script_fits
returns-then-not-script_fits c =
    let a = c.args in
    let x = as_slices a.table in
    let printed = script_text x 1024 a.text.now in
    let fits = sym c.script_fits.ensures ∙ not-true _ c.if-not-script_fits.true-raw in
    prints_refused _ 8 _ _ (too_short (length a.out.now) printed (leb-false (length printed) (length a.out.now) fits)) (λ z. omega arith)

pub returns : goal.returns
returns c =
    let a = c.args in
    let x = as_slices a.table in
    let printed = script_text x 1024 a.text.now in
    let fits = leb-true (length printed) (length a.out.now) (sym c.script_fits.ensures ∙ not-false _ c.if-not-script_fits.false-raw) in
    let e = c.put_script.ensures in
    let n = e.0 ∙ capped_below (length printed) (omega (arith, c.well_formed.1.1.0)) in
    prints_done _ _ printed a.out.now _ (long_enough (length a.out.now) printed fits) n (omega arith) (e.1 fits)
