use Prim.Native.Nat.{ℕ}
use mathlib.Core.Path.{sym, ◌∙◌, ap}
use Rattle.refusals.specs.Refusals.{fault_of}
use Rattle.table.specs.Slices.{table_of, as_slices}
use Rattle.table.proofs.Slices.{legal_slices}
use Rattle.table_links.proofs.OrderedLinks.{ordered_links}
use Rattle.probe_rules.specs.declared.Event.TheVariants.{Opening}
use Rattle.probe_maps.specs.Maps.{rows}
use Rattle.probe_checks.specs.Checks.{open_fault}
use Rattle.probe_checks.proofs.Accepted.{not_refused, open_parts}
use Rattle.probe.proofs.Calls.{refused_by, accepted_call, all_words, good_state}
use Rattle.probe.proofs.open.Goals as goal

pub returns-in-Err : goal.returns-in-Err
returns-in-Err c =
    let a = c.args in
    let x = as_slices a.table in
    let is = c.in-Err.ensures x.number x.links x.needs x.lows x.highs x.costs in
    refused_by _ _ _ _ _ _ _ c.number.ensures (is ∙ ap (λ (n : ℕ). open_fault n (table_of x) a.probe a.free) c.check_state-state.ensures.0)

pub apply-e-requires : goal.apply-e-requires
apply-e-requires c =
    let a = c.args in
    let x = as_slices a.table in
    let m = rows a.standing.now a.refused_out.now a.held.now a.refused_in.now in
    let none = sym (c.check_open.ensures x.number x.links x.needs x.lows x.highs x.costs) ∙ ap fault_of c.in_default.is in
    let s = not_refused c.check_state-state.result (open_parts _ (table_of x) a.probe a.free none).0 c.check_state-state.ensures in
    let good = good_state x _ m (all_words c.slice_known-1.given c.slice_known-2-1.given c.slice_known-3-1.given c.slice_known-4-1.given) s.0 in
    (ordered_links x (legal_slices 256 2048 x good.0), s.1, good.1, tt)

pub returns : goal.returns
returns c =
    let a = c.args in
    let x = as_slices a.table in
    let m = rows a.standing.now a.refused_out.now a.held.now a.refused_in.now in
    let none = sym (c.check_open.ensures x.number x.links x.needs x.lows x.highs x.costs) ∙ ap fault_of c.in_default.is in
    let is = ap (λ (n : ℕ). open_fault n (table_of x) a.probe a.free) c.check_state-state.ensures.0 in
    accepted_call _ (table_of x) a.probe Opening m _ _ (sym is ∙ none) c.apply-e.ensures.0 c.apply-e.ensures.1
