use Prim.Native.Nat.{ℕ, ◌-◌}
use mathlib.Core.Path.{◌≡◌, refl, sym, ap, ◌∙◌}
use mathlib.Core.List.{List}
use native.Mathlib.Omega.{arith}
use lib.ListN.{length, length-replicate}
use lib.Seq.{length-sets}
use Rattle.refusals.proofs.Laws.{or_refused}
use Rattle.table.specs.Slices.{Slices, table_of, as_slices}
use Rattle.table.proofs.Slices.{legal_slices}
use Rattle.table_links.proofs.OrderedLinks.{ordered_links}
use Rattle.table_links.proofs.Search.{ordered}
use Rattle.probe_maps.specs.Maps.{Maps, AllWords, rows, state_fault}
use Rattle.probe_maps.proofs.Faults.{good_maps}
use Rattle.probe_checks.proofs.Accepted.{passed, state_parts}
use Rattle.probe_bags.specs.Bag.{frames_of, bag_fault, hears_bag_fault}
use Rattle.probe_bags.proofs.Faults.{no_fault, none_many}
use Rattle.probe_hearing.proofs.Said.{said_events, said_own}
use Rattle.probe_hearing.proofs.Told.{refused_bag, heard_bag}
use Rattle.probe_hearing.proofs.tell_bag.Goals as goal

-- where the state has no fault, the bag's is that of the whole call
told_fault : (x : Slices) (p : ℕ) (m : Maps) (bag : List ℕ) (free room fault : ℕ) → state_fault x p m ≡ 0 → free ≡ room → fault ≡ bag_fault 0 (table_of x) p (frames_of bag) free
    → fault ≡ hears_bag_fault x p m bag room
told_fault x p m bag free room fault s n f = f ∙ ap (bag_fault 0 (table_of x) p (frames_of bag)) n ∙ ap (λ (k : ℕ). bag_fault k (table_of x) p (frames_of bag) room) (sym s)

pub returns-in-Err : goal.returns-in-Err
unfolding bag_fault
returns-in-Err c = refused_bag _ _ _ _ _ _ _ c.refused.ensures (or_refused _ _ _ c.in-Err.ensures.0)

pub check_bag-requires : goal.check_bag-requires
check_bag-requires c =
    let a = c.args in
    let x = as_slices a.table in
    let m = rows a.standing.now a.refused_out.now a.held.now a.refused_in.now in
    let s = passed c.in_default.is c.check_state.ensures in
    let t = a.table in
    let z = (state_parts x a.probe m s.0).0 in
    (ordered 256 2048 0 t.probes t.links t.needs.now t.lows.now t.highs.now t.costs.now z, (ordered_links x (legal_slices 256 2048 x z)).few, length-replicate {A = ℕ} 64 0)

pub returns-in-Err-check_bag : goal.returns-in-Err-check_bag
returns-in-Err-check_bag c =
    let a = c.args in
    let x = as_slices a.table in
    let m = rows a.standing.now a.refused_out.now a.held.now a.refused_in.now in
    let s = passed c.in_default.is c.check_state.ensures in
    refused_bag _ _ _ _ _ _ _ c.refused-in-Err-check_bag.ensures (told_fault x a.probe m a.bag.now _ _ _ s.0 c.free-free.ensures c.in-Err-check_bag.ensures.0)

pub hear_frames-entries-requires : goal.hear_frames-entries-requires
hear_frames-entries-requires c =
    let a = c.args in
    let x = as_slices a.table in
    let m = rows a.standing.now a.refused_out.now a.held.now a.refused_in.now in
    let s = passed c.in_default.is c.check_state.ensures in
    let words : AllWords m = record {
      standing = λ k. (c.slice_known-1.given k).fits;
      refused_out_lem = λ k. (c.slice_known-2-1.given k).fits;
      held = λ k. (c.slice_known-3-1.given k).fits;
      refused_in_lem = λ k. (c.slice_known-4-1.given k).fits;
    } in
    let ls = frames_of a.bag.now in
    let k = c.in-Ok.ensures in
    let passes = no_fault 0 (table_of x) a.probe ls c.free-free.result (sym k.0) in
    let few = none_many ls passes.few in
    let zeros = length-replicate {A = ℕ} 64 0 in
    let parts = state_parts x a.probe m s.0 in
    (ordered_links x (legal_slices 256 2048 x parts.0), s.1, good_maps (table_of x) a.probe m words parts.1, omega arith, omega (arith, simp length-sets at (ap length k.1.1)), said_own (table_of x) ls _ _ _ k.1.0 (omega arith) k.1.1 a.probe passes.frames)

pub returns : goal.returns
returns c =
    let a = c.args in
    let x = as_slices a.table in
    let m = rows a.standing.now a.refused_out.now a.held.now a.refused_in.now in
    let s = passed c.in_default.is c.check_state.ensures in
    let t = table_of x in
    let ls = frames_of a.bag.now in
    let k = c.in-Ok.ensures in
    let e = told_fault x a.probe m a.bag.now _ _ _ s.0 c.free-free.ensures k.0 in
    let few = none_many ls (no_fault 0 t a.probe ls c.free-free.result (sym k.0)).few in
    let zeros = length-replicate {A = ℕ} 64 0 in
    let told = c.hear_frames-entries.ensures in
    heard_bag _ _ t a.probe ls _ m _ _ (sym e) k.1.0 (said_events t ls _ _ _ k.1.0 (omega arith) k.1.1) told.0 told.1
