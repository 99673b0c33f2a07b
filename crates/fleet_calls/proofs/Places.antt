-- A call at its place in the list: what the calls before it left follows the run over their lines, and its answer is the run's.
use Prim.Native.Nat.{ℕ}
use mathlib.Core.Path.{◌≡◌, refl, ◌∙◌, ap}
use mathlib.Core.Bool.{Bool}
use mathlib.Core.List.{List, [], ◌∷◌, ◌++◌}
use lib.ListN.{length}
use Rattle.table.specs.Slices.{Slices, table_of, slices_fault}
use Rattle.probe_frame.specs.Frame.{frame_of}
use Rattle.wake_log.specs.declared.Entry.{Entry}
use Rattle.fleet_theory.specs.Fleet.{State, start, answer_to, next, run, frame_changes, changes}
use Rattle.fleet_theory.specs.ClaimsOfRun.{moments, LeadsOn, NoRestart}
use Rattle.fleet_calls.specs.Calls.{LoggedCall, LoggedLeft, fresh_logged, left_by_logged, KeptLogged, LoggedCalls, left_after_logged, logged_lines}
use Rattle.fleet_calls.specs.Demand3.{changes_over, NoRestartIn, records_over, LeadsToFinish}
use Rattle.fleet_calls.proofs.Calls.{FollowsRun, step_follows, fresh_follows, kept_logs, calls_follow}

-- calls up to a place and from it on, and the call there
pub calls_before : (x : Slices) (b : LoggedLeft) (before later : List LoggedCall) → LoggedCalls x b (before ++ later) → LoggedCalls x b before
calls_before x b [] later k = tt
calls_before x b (c ∷ before) later k = (k.0, calls_before x (left_by_logged b c) before later k.1)

pub calls_behind : (x : Slices) (b : LoggedLeft) (before later : List LoggedCall) → LoggedCalls x b (before ++ later) → LoggedCalls x (left_after_logged b before) later
calls_behind x b [] later k = k
calls_behind x b (c ∷ before) later k = calls_behind x (left_by_logged b c) before later k.1

pub lines_append : (before later : List LoggedCall) → logged_lines (before ++ later) ≡ logged_lines before ++ logged_lines later
lines_append [] later = refl
lines_append (c ∷ before) later = ap (λ (ls : List (List ℕ)). c.line ∷ ls) (lines_append before later)

pub call_at : (x : Slices) (b : LoggedLeft) (before later : List LoggedCall) (c : LoggedCall) → LoggedCalls x b (before ++ c ∷ later) → KeptLogged x (left_after_logged b before) c
call_at x b [] later c k = k.0
call_at x b (a ∷ before) later c k = call_at x (left_by_logged b a) before later c k.1

module _ (x : Slices) (fine : slices_fault x ≡ 0) (log : List Entry) where
  abbrev room : ℕ
  room = length log

  -- the changes and the moments are those of the run
  pub changes_are : (s : State) (b : LoggedLeft) → FollowsRun log s b → (cs : List LoggedCall) → LoggedCalls x b cs → (i : ℕ)
      → changes_over b.bytes cs i ≡ changes x room s (logged_lines cs) i
  unfolding changes
  changes_are s b f [] k i = refl
  changes_are s b f (c ∷ cs) k i =
      let one = (step_follows x log s b c f (kept_logs x fine b c k.0)).1 in
      let s' = next x room s c.line in
      let first : frame_changes (frame_of c.line) b.bytes c.bytes i ≡ frame_changes (frame_of c.line) s.bytes s'.bytes i = rw (f.bytes, one.bytes) in
      rw (first, changes_are s' (left_by_logged b c) one cs k.1 i)

  -- and so is that no restart is accepted
  pub no_restart_is : (who : ℕ → Bool) (s : State) (b : LoggedLeft) → FollowsRun log s b → (cs : List LoggedCall) → LoggedCalls x b cs → NoRestartIn (table_of x) who cs
      → NoRestart x room who s (logged_lines cs)
  no_restart_is who s b f [] k none = tt
  no_restart_is who s b f (c ∷ cs) k none =
      let one = step_follows x log s b c f (kept_logs x fine b c k.0) in
      (λ is one_of_lem e a. none.0 is one_of_lem e (one.0 ∙ a), no_restart_is who (next x room s c.line) (left_by_logged b c) one.1 cs k.1 none.1)

  records_are : (s : State) (b : LoggedLeft) → FollowsRun log s b → (cs : List LoggedCall) → LoggedCalls x b cs → records_over b.bytes cs ≡ moments x room s (logged_lines cs)
  unfolding moments
  records_are s b f [] k = rw f.bytes
  records_are s b f (c ∷ cs) k =
      let one = (step_follows x log s b c f (kept_logs x fine b c k.0)).1 in
      rw (f.bytes, records_are (next x room s c.line) (left_by_logged b c) one cs k.1)

  -- lines that lead on lead to the finish, by whichever calls
  pub leads_by_calls : (so_far : List (List ℕ)) (s : State) (b : LoggedLeft) → FollowsRun log s b → (ds : List LoggedCall) → LoggedCalls x b ds
      → LeadsOn x room so_far s (logged_lines ds) → LeadsToFinish (table_of x) so_far b.bytes ds
  leads_by_calls so_far s b f [] k on = rw f.bytes on
  leads_by_calls so_far s b f (d ∷ ds) k on =
      let one = step_follows x log s b d f (kept_logs x fine b d k.0) in
      let e = on.1 in
      let rest = leads_by_calls (so_far ++ (d.bytes ∷ [])) (next x room s d.line) (left_by_logged b d) one.1 ds k.1 (rw one.1.bytes on.2) in
      (on.0, (e.0, one.0 ∙ e.1), rest)

  module _ (cs : List LoggedCall) (k : LoggedCalls x (fresh_logged x log) cs) where
    pub moments_of_run : records_over (start x).bytes cs ≡ moments x room (start x) (logged_lines cs)
    moments_of_run = records_are (start x) (fresh_logged x log) (fresh_follows x log) cs k

    pub left_follows : FollowsRun log (run x room (start x) (logged_lines cs)) (left_after_logged (fresh_logged x log) cs)
    left_follows = (calls_follow x fine log (start x) (fresh_logged x log) (fresh_follows x log) cs k).1

  pub answer_of_run : (before later : List LoggedCall) (c : LoggedCall) → LoggedCalls x (fresh_logged x log) (before ++ c ∷ later)
      → c.answer ≡ answer_to x room (run x room (start x) (logged_lines before)) c.line
  answer_of_run before later c k =
      let b = left_after_logged (fresh_logged x log) before in
      let f = left_follows before (calls_before x (fresh_logged x log) before (c ∷ later) k) in
      (step_follows x log (run x room (start x) (logged_lines before)) b c f (kept_logs x fine b c (call_at x (fresh_logged x log) before later c k))).0
