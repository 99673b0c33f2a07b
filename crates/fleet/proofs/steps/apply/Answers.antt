use borrow.Author.Rules.{rules}
use Prim.Native.Nat.{◌/◌, ◌≤◌}
use mathlib.Core.Path.{refl, ◌∙◌, ap}
use native.Mathlib.Omega.{arith}
use lib.ListN.{length}
use Rattle.table.specs.Table.{Table}
use Rattle.probe_rules.specs.declared.Outcome.{Outcome}
use Rattle.probe_rules.specs.Rules.{befalls, entry_of}
use Rattle.probe_rules.proofs.OutcomeLaws.{befalls_within, within_wider, entry_same}
use Rattle.fleet_theory.specs.Fleet.{own, alter_fleet}
use Rattle.fleet_theory.proofs.Wipe.{wiped_same}
use Rattle.table.specs.Slices.{as_slices, table_of}
use Rattle.fleet.proofs.steps.apply.Goals as goal

pub returns-then-restart : goal.returns-then-restart
returns-then-restart c =
    let a = c.args in
    let p = c.requires in
    let t : Table = table_of (as_slices a.table) in
    rw c.if-restart.true
    (refl, c.wipe.ensures ∙ wiped_same a.table.number a.table.probes a.table.links a.table.needs.now a.table.lows.now a.table.highs.now a.table.costs.now a.probe a.rec.now)

pub alter_fleet-requires : goal.alter_fleet-requires
alter_fleet-requires c =
    let a = c.args in
    let p = c.requires in
    let t : Table = table_of (as_slices a.table) in
    let o : Outcome = befalls t a.probe a.event (own t a.probe a.rec.now) in
    let w = befalls_within t a.probe a.event (own t a.probe a.rec.now) p.2 in
    let l : a.table.links ≤ length a.rec.now / 8 = omega (arith, p.1) in
    rw c.decide-outcome.ensures (within_wider a.table.links (length a.rec.now / 8) o l w, within_wider a.table.links (length a.table.lows.now) o p.0.in_lows w, within_wider a.table.links 65536 o (omega (arith, p.0.few)) w)

pub entry_of-requires : goal.entry_of-requires
entry_of-requires c =
    let a = c.args in
    let p = c.requires in
    let t : Table = table_of (as_slices a.table) in
    let o : Outcome = befalls t a.probe a.event (own t a.probe a.rec.now) in
    let w = befalls_within t a.probe a.event (own t a.probe a.rec.now) p.2 in
    rw c.decide-outcome.ensures (within_wider a.table.links 65536 o (omega (arith, p.0.few)) w, within_wider a.table.links (length a.table.lows.now) o p.0.in_lows w, within_wider a.table.links (length a.table.highs.now) o p.0.in_highs w)

pub returns : goal.returns
returns c =
    let a = c.args in
    let p = c.requires in
    let t : Table = table_of (as_slices a.table) in
    let o = c.decide-outcome.ensures in
    rw c.if-restart.false
    (c.entry_of.ensures ∙ entry_same a.table.number a.table.probes a.table.links a.table.needs.now a.table.lows.now a.table.highs.now a.table.costs.now a.probe c.decide-outcome.result ∙ ap (entry_of t a.probe) o, c.alter_fleet.ensures ∙ ap (λ (k : Outcome). alter_fleet t a.probe k a.rec.now) o)
