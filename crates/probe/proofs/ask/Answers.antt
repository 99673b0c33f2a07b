use Prim.Native.Nat.{ℕ}
use mathlib.Core.Path.{sym, ◌∙◌, ap}
use native.Mathlib.Omega.{arith}
use borrow.Author.Tests.{ne_eqb, lt-ltb, le-ltb, not-true, not-false}
use Rattle.refusals.specs.Refusals.{fault_of}
use Rattle.refusals.proofs.Laws.{number_some}
use Rattle.table.specs.Slices.{table_of, as_slices}
use Rattle.table.proofs.Slices.{legal_slices}
use Rattle.probe_maps.specs.Maps.{rows}
use Rattle.probe_checks.specs.Checks.{link_call_fault}
use Rattle.probe_checks.proofs.Accepted.{not_refused, state_parts, link_parts}
use Rattle.probe.proofs.Calls.{all_words, good_state, asked_bit_lem}
use Rattle.probe.proofs.ask.Goals as goal

pub returns-then-out-lt15 : goal.returns-then-out-lt15
returns-then-out-lt15 c = record { answer = rw (lt-ltb _ _ c.if-out-lt15.true); line = rw (lt-ltb _ _ c.if-out-lt15.true) }

pub check_link_call-requires : goal.check_link_call-requires
check_link_call-requires c = λ none.
    let a = c.args in
    let x = as_slices a.table in
    let m = rows a.standing.now a.refused_out.now a.held.now a.refused_in.now in
    let s = not_refused c.check_state-state.result none c.check_state-state.ensures in
    let g = legal_slices 256 2048 x (state_parts x a.probe m s.0).0 in
    (g.in_lows, g.in_highs)

pub returns-in-Err : goal.returns-in-Err
returns-in-Err c =
    let a = c.args in
    let x = as_slices a.table in
    let e = c.in-Err.ensures x.number x.probes x.needs x.costs ∙ ap (λ (n : ℕ). link_call_fault n (table_of x) a.probe a.link) c.check_state-state.ensures.0 in
    let n = ne_eqb _ 0 (number_some c.in-Err.refusal) in
    record { answer = rw (c.number.ensures, le-ltb _ _ c.if-out-lt15.false, ← e, n); line = rw (le-ltb _ _ c.if-out-lt15.false, ← e, n) }

pub is_sendable-requires : goal.is_sendable-requires
is_sendable-requires c =
    let a = c.args in
    let x = as_slices a.table in
    let m = rows a.standing.now a.refused_out.now a.held.now a.refused_in.now in
    let passes = sym (c.check_link_call.ensures x.number x.probes x.needs x.costs) ∙ ap fault_of c.in_default.is in
    let parts = link_parts _ (table_of x) a.probe a.link passes in
    let s = not_refused c.check_state-state.result parts.0 c.check_state-state.ensures in
    let good = good_state x _ m (all_words c.type_inv.standing c.type_inv.refused_out c.type_inv.held c.type_inv.refused_in) s.0 in
    (omega (arith, good.1.sound.standing.size, parts.1), omega (arith, good.1.sound.refused_in_lem.size, parts.1))

pub returns-then-not-is_sendable : goal.returns-then-not-is_sendable
returns-then-not-is_sendable c =
    let a = c.args in
    let x = as_slices a.table in
    let m = rows a.standing.now a.refused_out.now a.held.now a.refused_in.now in
    let passes = sym (c.check_link_call.ensures x.number x.probes x.needs x.costs) ∙ ap fault_of c.in_default.is in
    let parts = link_parts _ (table_of x) a.probe a.link passes in
    let s = not_refused c.check_state-state.result parts.0 c.check_state-state.ensures in
    let good = good_state x _ m (all_words c.type_inv.standing c.type_inv.refused_out c.type_inv.held c.type_inv.refused_in) s.0 in
    let none = sym (ap (λ (n : ℕ). link_call_fault n (table_of x) a.probe a.link) c.check_state-state.ensures.0) ∙ passes in
    let may = sym (asked_bit_lem _ _ m good.1 a.kind a.link) ∙ sym c.is_sendable.ensures ∙ not-true _ c.if-not-is_sendable.true-raw in
    record { answer = rw (le-ltb _ _ c.if-out-lt15.false, none, may); line = rw (le-ltb _ _ c.if-out-lt15.false, none, may) }

pub other-to-requires : goal.other-to-requires
other-to-requires c =
    let a = c.args in
    let x = as_slices a.table in
    let m = rows a.standing.now a.refused_out.now a.held.now a.refused_in.now in
    let passes = sym (c.check_link_call.ensures x.number x.probes x.needs x.costs) ∙ ap fault_of c.in_default.is in
    let parts = link_parts _ (table_of x) a.probe a.link passes in
    let s = not_refused c.check_state-state.result parts.0 c.check_state-state.ensures in
    let good = good_state x _ m (all_words c.type_inv.standing c.type_inv.refused_out c.type_inv.held c.type_inv.refused_in) s.0 in
    let g = legal_slices 256 2048 x good.0 in
    (omega (arith, g.in_lows, parts.1), omega (arith, g.in_highs, parts.1))

pub returns : goal.returns
returns c =
    let a = c.args in
    let x = as_slices a.table in
    let m = rows a.standing.now a.refused_out.now a.held.now a.refused_in.now in
    let passes = sym (c.check_link_call.ensures x.number x.probes x.needs x.costs) ∙ ap fault_of c.in_default.is in
    let parts = link_parts _ (table_of x) a.probe a.link passes in
    let s = not_refused c.check_state-state.result parts.0 c.check_state-state.ensures in
    let good = good_state x _ m (all_words c.type_inv.standing c.type_inv.refused_out c.type_inv.held c.type_inv.refused_in) s.0 in
    let none = sym (ap (λ (n : ℕ). link_call_fault n (table_of x) a.probe a.link) c.check_state-state.ensures.0) ∙ passes in
    let w = rw (c.kind_of.ensures, c.other-to.ensures) at c.write_frame.ensures in
    let may = sym (asked_bit_lem _ _ m good.1 a.kind a.link) ∙ sym c.is_sendable.ensures ∙ not-false _ c.if-not-is_sendable.false-raw in
    record { answer = rw (le-ltb _ _ c.if-out-lt15.false, none, may); line = rw (le-ltb _ _ c.if-out-lt15.false, none, may) w }
