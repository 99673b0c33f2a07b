use Prim.Native.Nat.{ℕ}
use mathlib.Core.Path.{sym, ◌∙◌, ap}
use Rattle.table.specs.Slices.{table_of, as_slices}
use Rattle.table.proofs.Slices.{legal_slices}
use Rattle.table_links.proofs.OrderedLinks.{ordered_links}
use Rattle.table_links.proofs.Search.{ordered}
use Rattle.probe_frame.specs.Frame.{frame_of}
use Rattle.probe_rules.specs.Frames.{heard_of}
use Rattle.probe_maps.specs.Maps.{rows}
use Rattle.probe_checks.specs.Checks.{hear_fault}
use Rattle.probe_checks.proofs.Accepted.{not_refused, state_parts, hear_parts, heard_within}
use Rattle.probe.proofs.Calls.{refused_by, accepted_call, all_words, good_state}
use Rattle.probe.proofs.hear.Goals as goal

pub check_hearing-requires : goal.check_hearing-requires
check_hearing-requires c = λ none.
    let a = c.args in
    let x = as_slices a.table in
    let m = rows a.standing.now a.refused_out.now a.held.now a.refused_in.now in
    let s = not_refused c.check_state-state.result none c.check_state-state.ensures in
    ordered 256 2048 0 x.probes x.links x.needs x.lows x.highs x.costs (state_parts x a.probe m s.0).0

pub returns-in-Err : goal.returns-in-Err
returns-in-Err c =
    let a = c.args in
    let x = as_slices a.table in
    let h = c.in-Err.ensures x.probes x.needs x.costs in
    refused_by _ _ _ _ _ _ _ c.number.ensures (h.0 ∙ ap (λ (n : ℕ). hear_fault n (table_of x) a.probe a.frame.now a.free) c.check_state-state.ensures.0)

pub apply-e-requires : goal.apply-e-requires
apply-e-requires c =
    let a = c.args in
    let x = as_slices a.table in
    let m = rows a.standing.now a.refused_out.now a.held.now a.refused_in.now in
    let t = table_of x in
    let h = c.in-Ok.ensures x.probes x.needs x.costs in
    let parts = hear_parts _ t a.probe a.frame.now a.free (sym h.0) in
    let s = not_refused c.check_state-state.result parts.0 c.check_state-state.ensures in
    let good = good_state x _ m (all_words c.slice_known-1.given c.slice_known-2-1.given c.slice_known-3-1.given c.slice_known-4-1.given) s.0 in
    (ordered_links x (legal_slices 256 2048 x good.0), s.1, good.1, rw h.1 (heard_within t a.probe a.frame.now parts.1))

pub returns : goal.returns
returns c =
    let a = c.args in
    let x = as_slices a.table in
    let m = rows a.standing.now a.refused_out.now a.held.now a.refused_in.now in
    let t = table_of x in
    let h = c.in-Ok.ensures x.probes x.needs x.costs in
    let is = ap (λ (n : ℕ). hear_fault n t a.probe a.frame.now a.free) c.check_state-state.ensures.0 in
    accepted_call _ t a.probe (heard_of t (frame_of a.frame.now)) m _ _ (sym is ∙ sym h.0) (rw h.1 at c.apply-e.ensures.0) (rw h.1 at c.apply-e.ensures.1)
