use borrow.Author.Rules.{rules}
use mathlib.Core.Path.{◌≡◌, ap, ◌∙◌}
use Prim.Native.Nat.{◌≤◌}
use native.Mathlib.Omega.{arith}
use lib.ListN.{length}
use Rattle.bit_maps.proofs.Maps.{length_map_of}
use Rattle.table.specs.Table.{Table}
use Rattle.probe_rules.proofs.OutcomeLaws.{befalls_within, within_wider, entry_same}
use Rattle.probe_rules.specs.declared.Outcome.{Outcome}
use Rattle.probe_maps.specs.Maps.{Maps, rows, bytes_of, is_own}
use Rattle.probe_maps.specs.MapRules.{befalls_maps, alter_maps}
use Rattle.probe_decisions.proofs.StepLaws.{end_of}
use Rattle.table.specs.Slices.{as_slices, table_of}
use Rattle.probe_decisions.proofs.steps.apply.Goals as goal

pub decide-outcome-requires : goal.decide-outcome-requires
decide-outcome-requires c =
    let a = c.args in
    let t : Table = table_of (as_slices a.table) in
    let n : length a.own.now ≡ 32 = ap length c.requires.1 ∙ length_map_of (is_own t a.probe) 32 in
    search rules

pub alter-requires : goal.alter-requires
alter-requires c =
    let a = c.args in
    let p = c.requires in
    let t : Table = table_of (as_slices a.table) in
    let m : Maps = rows a.standing.now a.refused_out.now a.held.now a.refused_in.now in
    let d = c.decide-outcome.ensures.0 t (end_of a.table.number a.table.probes a.table.links a.table.needs.now a.table.lows.now a.table.highs.now a.table.costs.now a.own.now a.probe m p.0 p.1 p.2) in
    let w = befalls_within t a.probe a.event (bytes_of a.table.links m) p.3 in
    (a.table.links, p.2.sound, rw d w)

pub entry_of-requires : goal.entry_of-requires
entry_of-requires c =
    let a = c.args in
    let p = c.requires in
    let t : Table = table_of (as_slices a.table) in
    let m : Maps = rows a.standing.now a.refused_out.now a.held.now a.refused_in.now in
    let d = c.decide-outcome.ensures.0 t (end_of a.table.number a.table.probes a.table.links a.table.needs.now a.table.lows.now a.table.highs.now a.table.costs.now a.own.now a.probe m p.0 p.1 p.2) in
    let w = befalls_within t a.probe a.event (bytes_of a.table.links m) p.3 in
    let few : a.table.links ≤ 65536 = omega (arith, p.0.few) in
    rw d (within_wider a.table.links 65536 (befalls_maps t a.probe a.event m) few w, within_wider a.table.links (length a.table.lows.now) (befalls_maps t a.probe a.event m) p.0.in_lows w, within_wider a.table.links (length a.table.highs.now) (befalls_maps t a.probe a.event m) p.0.in_highs w)

pub returns : goal.returns
returns c =
    let a = c.args in
    let p = c.requires in
    let t : Table = table_of (as_slices a.table) in
    let m : Maps = rows a.standing.now a.refused_out.now a.held.now a.refused_in.now in
    let d = c.decide-outcome.ensures.0 t (end_of a.table.number a.table.probes a.table.links a.table.needs.now a.table.lows.now a.table.highs.now a.table.costs.now a.own.now a.probe m p.0 p.1 p.2) in
    let w = befalls_within t a.probe a.event (bytes_of a.table.links m) p.3 in
    let e = rw d at c.entry_of.ensures in
    (e ∙ entry_same a.table.number a.table.probes a.table.links a.table.needs.now a.table.lows.now a.table.highs.now a.table.costs.now a.probe (befalls_maps t a.probe a.event m), c.alter.ensures a.table.links p.2.sound (rw d w) ∙ ap (λ (o : Outcome). alter_maps a.table.links o m) d, c.decide-outcome.ensures.1)
