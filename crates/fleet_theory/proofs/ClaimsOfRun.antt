-- The claims of demand 3 about the run, one by one: each by what holds after a list of lines (`HoldsAfter`).
use Prim.Native.Nat.{ℕ, ◌<◌}
use mathlib.Core.Path.{◌≡◌, sym, ◌∙◌}
use mathlib.Core.List.{List}
use native.Mathlib.Omega.{arith}
use Rattle.table.specs.Table.{Table}
use Rattle.table.proofs.LegalLaws.{legal_table}
use Rattle.plan_theory.proofs.Plan.{touches_low, touches_high}
use Rattle.fleet_theory.specs.Fleet.{State, start, next, run}
use Rattle.table.specs.Slices.{Slices, table_of, slices_fault}
use Rattle.fleet_theory.specs.ClaimsOfRun.{moments, ClaimsOfRun}
use Rattle.fleet_theory.proofs.Events.{truly_sent_passes}
use Rattle.fleet_theory.proofs.Marked.{marks_step}
use Rattle.fleet_theory.proofs.Run.{slices_legal, HoldsAfter, start_holds, fleet_passes, next_marks, run_holds}
use Rattle.fleet_theory.proofs.Changes.{changes_four}
use Rattle.fleet_theory.proofs.Sent.{refused_is_kept, two_is_refused, marks_are_sent, by_27, unsent_turned_down, logged_usable}
use Rattle.fleet_theory.proofs.Finish.{run_sent, finished_unaltered, unaltered_finished, short_rests_none, ends_plan, needs_kept, cost_kept, kept_none_for_nothing, stays_finished, leads}

pub claims_of_run : (x : Slices) → slices_fault x ≡ 0 → x.number < 65536 → (room : ℕ) (ls : List (List ℕ)) → ClaimsOfRun x room ls
claims_of_run x fine digits room ls =
    record {
      passes = fleet_passes x fine after holds;
      eight = λ xs ys is i l none. let a = changes_four x fine room (run x room (start x) xs) (run_holds x fine room (start x) (start_holds x fine) xs) ys i l none in omega arith;
      four = λ xs ys is. changes_four x fine room (run x room (start x) xs) (run_holds x fine room (start x) (start_holds x fine) xs) ys;
      refused_kept = refused_is_kept x fine after holds;
      two_refused = two_is_refused x fine after holds;
      unsent_refused = λ xs ys l is. unsent_turned_down x fine room xs l;
      sent_passes = λ so_far l m. truly_sent_passes t l m.0 so_far m.1;
      accepted_usable = λ xs ys l is. logged_usable x fine room xs l;
      unsent_by_27 = λ xs ys l is frame e. by_27 x fine room xs l e frame;
      marks_say = marks_are_sent x fine room ls;
      marks_step = λ xs ys l is.
          let before = run x room (start x) xs in
          marks_step t (legal_table 256 2048 t (slices_legal x fine)) before.bytes (next x room before l).bytes
          (next_marks x fine before (run_holds x fine room (start x) (start_holds x fine) xs) room l);
      goes_on = let w = leads x fine digits after holds in (w.0, w.1 (moments x room (start x) ls) (run_sent x room (start x) ls));
      says_finished = (finished_unaltered x fine after holds, unaltered_finished x fine after holds digits);
      stays_finished = λ e room' ms none. stays_finished x fine room' after holds e ms none;
      rests_plan = ends_plan x fine after holds;
      ends_agree = λ e i l. ends_plan x fine after holds e i (t.low i) l (touches_low t i) ∙ sym (ends_plan x fine after holds e i (t.high i) l (touches_high t i));
      same_plan = λ e room' ls' e' i p l at.
          ends_plan x fine after holds e i p l at ∙ sym (ends_plan x fine (run x room' (start x) ls') (run_holds x fine room' (start x) (start_holds x fine) ls') e' i p l at);
      short_keeps = short_rests_none x fine after holds;
      needs_met = needs_kept x fine after holds;
      cost_twice = cost_kept x fine after holds;
      none_for_nothing = kept_none_for_nothing x fine after holds;
    }
  where
    t : Table
    t = table_of x

    after : State
    after = run x room (start x) ls

    holds : HoldsAfter t after
    holds = run_holds x fine room (start x) (start_holds x fine) ls
