use Prim.Native.Nat.{ℕ}
use mathlib.Core.Path.{sym, ◌∙◌, ap}
use native.Mathlib.Omega.{arith}
use borrow.Author.Tests.{ne_eqb}
use Rattle.refusals.specs.Refusals.{fault_of}
use Rattle.refusals.proofs.Laws.{number_some}
use Rattle.table.specs.Slices.{table_of, as_slices}
use Rattle.table.proofs.Slices.{legal_slices}
use Rattle.probe_maps.specs.Maps.{rows}
use Rattle.probe_checks.specs.Checks.{link_call_fault}
use Rattle.probe_checks.proofs.Accepted.{not_refused, state_parts, link_parts}
use Rattle.probe.proofs.Calls.{all_words, good_state, rests_bits}
use Rattle.probe.proofs.rests.Goals as goal

pub check_link_call-requires : goal.check_link_call-requires
check_link_call-requires c = λ none.
    let a = c.args in
    let x = as_slices a.table in
    let m = rows a.standing.now a.refused_out.now a.held.now a.refused_in.now in
    let s = not_refused c.check_state-state.result none c.check_state-state.ensures in
    let g = legal_slices 256 2048 x (state_parts x a.probe m s.0).0 in
    (g.in_lows, g.in_highs)

pub returns-in-Err : goal.returns-in-Err
returns-in-Err c =
    let a = c.args in
    let x = as_slices a.table in
    let e = c.in-Err.ensures x.number x.probes x.needs x.costs ∙ ap (λ (n : ℕ). link_call_fault n (table_of x) a.probe a.link) c.check_state-state.ensures.0 in
    rw (c.number.ensures, ← e, ne_eqb _ 0 (number_some c.in-Err.refusal))

pub in_both-requires : goal.in_both-requires
in_both-requires c =
    let a = c.args in
    let x = as_slices a.table in
    let m = rows a.standing.now a.refused_out.now a.held.now a.refused_in.now in
    let passes = sym (c.check_link_call.ensures x.number x.probes x.needs x.costs) ∙ ap fault_of c.in_default.is in
    let parts = link_parts _ (table_of x) a.probe a.link passes in
    let s = not_refused c.check_state-state.result parts.0 c.check_state-state.ensures in
    let good = good_state x _ m (all_words c.type_inv.standing c.type_inv.refused_out c.type_inv.held c.type_inv.refused_in) s.0 in
    (omega (arith, good.1.sound.standing.size, parts.1), omega (arith, good.1.sound.held.size, parts.1))

pub returns : goal.returns
returns c =
    let a = c.args in
    let x = as_slices a.table in
    let m = rows a.standing.now a.refused_out.now a.held.now a.refused_in.now in
    let passes = sym (c.check_link_call.ensures x.number x.probes x.needs x.costs) ∙ ap fault_of c.in_default.is in
    let parts = link_parts _ (table_of x) a.probe a.link passes in
    let s = not_refused c.check_state-state.result parts.0 c.check_state-state.ensures in
    let good = good_state x _ m (all_words c.type_inv.standing c.type_inv.refused_out c.type_inv.held c.type_inv.refused_in) s.0 in
    let none = sym (ap (λ (n : ℕ). link_call_fault n (table_of x) a.probe a.link) c.check_state-state.ensures.0) ∙ passes in
    rw (none, c.in_both.ensures, rests_bits _ _ m good.1 a.link)
