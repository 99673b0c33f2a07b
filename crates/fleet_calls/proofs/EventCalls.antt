-- Calls without a lent log are the run over their lines, by induction on the calls: the record and the count are those of the state.
use Prim.Native.Nat.{ℕ, ◌+◌}
use mathlib.Core.Path.{◌≡◌, refl, sym, ◌∙◌, ap}
use mathlib.Core.List.{List, [], ◌∷◌}
use lib.ListN.{length}
use Rattle.table.specs.Slices.{Slices, slices_fault}
use Rattle.wake_log.specs.Entry.{accepted_by}
use Rattle.wake_log.specs.declared.Answer.{Answer}
use Rattle.fleet_theory.specs.Fleet.{State, start, answer_to, next, run}
use Rattle.fleet.specs.Answers.{Handled}
use Rattle.fleet.proofs.Calls.{handled_next}
use Rattle.fleet_calls.specs.Calls.{entries_in, EventCall, EventLeft, fresh_event, left_by_event, KeptEvent, EventCalls, left_after_events, event_lines, event_answers, answers_to, EventRun}
use Rattle.fleet_calls.proofs.Promises.{same_fine, handled_same}
use Rattle.fleet_calls.proofs.Calls.{used_next, run_log}

record FollowsEvents (s : State) (b : EventLeft) : Type 0 where
  bytes : b.bytes ≡ s.bytes
  used : b.used ≡ length s.log

module _ (x : Slices) (fine : slices_fault x ≡ 0) (room : ℕ) where
  kept_handled : (b : EventLeft) (c : EventCall) → KeptEvent x room b c → Handled x b.used room c.line c.answer b.bytes c.bytes
  kept_handled b c k =
      handled_same c.slices x k.same_table.same (same_fine x c.slices fine k.same_table) fine b.used room c.line b.bytes c.answer c.bytes k.promise

  event_follows : (s : State) (b : EventLeft) → FollowsEvents s b → (c : EventCall) → KeptEvent x room b c
      → (c.answer ≡ answer_to x room s c.line) × FollowsEvents (next x room s c.line) (left_by_event b c)
  event_follows s b f c k =
      let stepped = handled_next x room s c.line c.answer c.bytes (rw (f.used, f.bytes) at (kept_handled b c k)) in (
        stepped.0,
        record {
          bytes = stepped.1;
          used = ap (λ (n : ℕ). n + accepted_by c.answer) f.used
              ∙ ap (λ (a : Answer). length s.log + accepted_by a) stepped.0
              ∙ used_next x room s c.line;
        },
      )

  events_follow : (s : State) (b : EventLeft) → FollowsEvents s b → (cs : List EventCall) → EventCalls x room b cs
      → (event_answers cs ≡ answers_to x room s (event_lines cs)) × FollowsEvents (run x room s (event_lines cs)) (left_after_events b cs)
  unfolding run answers_to
  events_follow s b f [] k = (refl, f)
  events_follow s b f (c ∷ cs) k =
      let one = event_follows s b f c k.0 in
      let rest = events_follow (next x room s c.line) (left_by_event b c) one.1 cs k.1 in
      (rw (one.0, rest.0), rest.1)

  pub event_run : (cs : List EventCall) → EventCalls x room (fresh_event x) cs → EventRun x room cs
  event_run cs k =
      let all = events_follow (start x) (fresh_event x) (record { bytes = refl; used = refl }) cs k in
      record { answers = all.0; bytes = all.1.bytes; used = all.1.used; entries_answered = ap entries_in all.0 ∙ sym (run_log x room (start x) (event_lines cs)) }
