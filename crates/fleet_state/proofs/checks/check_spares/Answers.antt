use borrow.Author.Rules.{rules}
use mathlib.Core.Path.{◌≡◌, ◌∙◌}
use mathlib.Core.List.{[]}
use native.Mathlib.Omega.{arith}
use lib.ListN.{length}
use Rattle.range.proofs.Faults.{first_same}
use Rattle.range.proofs.Lists.{zeros_at}
use Rattle.table.specs.Table.{Table, of_slices}
use Rattle.table.specs.Slices.{as_slices, table_of}
use Rattle.table.proofs.LegalLaws.{legal_table}
use Rattle.fleet_state.proofs.Legal.{fits_ends}
use Rattle.fleet_state.proofs.Spares.{over_counted}
use Rattle.fleet_state.proofs.checks.check_spares.Goals as goal

pub count_degrees-requires : goal.count_degrees-requires
count_degrees-requires c =
    let a = c.args in
    let p = c.requires.0 in
    let t = of_slices 0 a.table.probes a.table.links a.table.needs.now a.table.lows.now a.table.highs.now [] in
    let s = (legal_table 256 2048 t p.legal).size in
    (p.in_lows, p.in_highs, omega (arith, s.within), rw c.requires.2 (fits_ends a.table.probes a.table.links a.table.needs.now a.table.lows.now a.table.highs.now p), c.requires.3)

pub count_bytes-requires : goal.count_bytes-requires
count_bytes-requires c =
    let a = c.args in
    let p = c.requires.0 in
    let s = (legal_table 256 2048 (of_slices 0 a.table.probes a.table.links a.table.needs.now a.table.lows.now a.table.highs.now []) p.legal).size in
    let ends = fits_ends a.table.probes a.table.links a.table.needs.now a.table.lows.now a.table.highs.now p in
    (p.in_lows, p.in_highs, omega (arith, s.within), c.requires.1, search rules, search rules, ends, zeros_at 256)

pub count_bytes-requires-2 : goal.count_bytes-requires-2
count_bytes-requires-2 c =
    let a = c.args in
    let p = c.requires.0 in
    let s = (legal_table 256 2048 (of_slices 0 a.table.probes a.table.links a.table.needs.now a.table.lows.now a.table.highs.now []) p.legal).size in
    let ends = fits_ends a.table.probes a.table.links a.table.needs.now a.table.lows.now a.table.highs.now p in
    (p.in_lows, p.in_highs, omega (arith, s.within), c.requires.1, search rules, search rules, ends, zeros_at 256)

pub check_counts-requires : goal.check_counts-requires
check_counts-requires c =
    let a = c.args in
    let p = c.requires.0 in
    let s = (legal_table 256 2048 (of_slices 0 a.table.probes a.table.links a.table.needs.now a.table.lows.now a.table.highs.now []) p.legal).size in
    let d = c.count_degrees.auto.counts in
    let e : length c.count_bytes.new.counts ≡ 256 = c.count_bytes.auto.counts in
    let f : length c.count_bytes-2.new.counts ≡ 256 = c.count_bytes-2.auto.counts in
    (omega (arith, s.few, d, c.requires.2), omega (arith, s.few), omega (arith, s.few))

pub returns : goal.returns
returns c =
    let a = c.args in
    let t : Table = table_of (as_slices a.table) in
    (c.check_counts.ensures ∙ first_same _ _ a.table.probes (λ v l. over_counted t a.rec.now v _ _ _ (c.count_degrees.ensures v) (c.count_bytes.ensures v) (c.count_bytes-2.ensures v)), c.count_degrees.ensures)
