use borrow.Author.Rules.{rules}
use Prim.Native.Nat.{ℕ}
use mathlib.Core.Path.{◌≡◌, ◌∙◌, ap}
use mathlib.Core.List.{[]}
use native.Mathlib.Omega.{arith}
use lib.Dec.{eqb}
use lib.ListN.{length}
use borrow.Author.Tests.{not-true, not-false}
use Rattle.range.proofs.Lists.{zeros_at}
use Rattle.range.proofs.Sums.{weigh_same}
use Rattle.table.specs.Table.{Table, of_slices}
use Rattle.fleet_theory.specs.Fleet.{would_open}
use Rattle.table.proofs.LegalLaws.{legal_table}
use Rattle.fleet_state.proofs.Legal.{fits_ends}
use Rattle.fleet_finishing.proofs.Finished.{open_counted, not_finished, finished_counted}
use Rattle.fleet_finishing.proofs.finishing.is_finished.Goals as goal

pub returns-then-not-none_alters : goal.returns-then-not-none_alters
returns-then-not-none_alters c =
    let a = c.args in
    λ number costs. not_finished (of_slices number a.probes a.links a.needs.now a.lows.now a.highs.now costs) a.rec.now c.requires.0.legal _ c.none_alters.ensures (not-true _ c.if-not-none_alters.true-raw)

pub count_bytes-requires : goal.count_bytes-requires
count_bytes-requires c =
    let a = c.args in
    let p = c.requires.0 in
    let s = (legal_table 256 2048 (of_slices 0 a.probes a.links a.needs.now a.lows.now a.highs.now []) p.legal).size in
    let ends = fits_ends a.probes a.links a.needs.now a.lows.now a.highs.now p in
    (p.in_lows, p.in_highs, omega (arith, s.within), c.requires.1, search rules, search rules, ends, zeros_at 256)

pub count_bytes-requires-2 : goal.count_bytes-requires-2
count_bytes-requires-2 c =
    let a = c.args in
    let p = c.requires.0 in
    let s = (legal_table 256 2048 (of_slices 0 a.probes a.links a.needs.now a.lows.now a.highs.now []) p.legal).size in
    let ends = fits_ends a.probes a.links a.needs.now a.lows.now a.highs.now p in
    (p.in_lows, p.in_highs, omega (arith, s.within), c.requires.1, search rules, search rules, ends, zeros_at 256)

pub none_opens-requires : goal.none_opens-requires
none_opens-requires c =
    let a = c.args in
    let p = c.requires.0 in
    let s = (legal_table 256 2048 (of_slices 0 a.probes a.links a.needs.now a.lows.now a.highs.now []) p.legal).size in
    let e : length c.count_bytes.new.counts ≡ 256 = c.count_bytes.auto.counts in
    let f : length c.count_bytes-2.new.counts ≡ 256 = c.count_bytes-2.auto.counts in
    (c.requires.2, omega (arith, s.few), omega (arith, s.few))

pub returns : goal.returns
returns c =
    let a = c.args in
    λ number costs.
    let t : Table = of_slices number a.probes a.links a.needs.now a.lows.now a.highs.now costs in
    finished_counted t a.rec.now c.requires.0.legal _ _ c.none_alters.ensures (not-false _ c.if-not-none_alters.false-raw) (c.none_opens.ensures ∙ ap (λ (k : ℕ). eqb k 0) (weigh_same a.probes _ (would_open t a.rec.now) (λ i. 1) (λ v l. open_counted t a.rec.now v _ _ _ (c.requires.3 v) (c.count_bytes.ensures v) (c.count_bytes-2.ensures v))))
