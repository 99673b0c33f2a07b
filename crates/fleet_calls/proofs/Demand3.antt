-- Demand 3: each claim about the calls is that about the run (`ClaimsOfRun`), which they follow.
use Prim.Native.Nat.{ℕ, ◌+◌, ◌-◌, ◌≤◌, ◌<◌}
use mathlib.Core.Path.{◌≡◌, refl, sym, ◌∙◌, ap}
use mathlib.Core.Logic.{◌↔◌, ◌⊎◌}
use mathlib.Core.Bool.{true}
use mathlib.Core.List.{List, [], ◌∷◌, ◌++◌}
use native.Mathlib.Omega.{arith}
use lib.ListN.{length, take, drop, replicate, length-append, length-replicate, take-append-drop}
use lib.Seq.{take-append_seam}
use Rattle.range.specs.First.{or_else}
use Rattle.table.specs.Table.{Table, touches}
use Rattle.table.specs.Slices.{Slices, table_of, slices_fault}
use Rattle.probe_frame.specs.Frame.{frame_of}
use Rattle.wake_log.specs.declared.Entry.{Entry}
use Rattle.wake_log.specs.declared.Answer.TheVariants.{Logged, Refused}
use Rattle.wake_log.specs.Log.{no_entry}
use Rattle.fleet_theory.specs.Fleet.{State, start, fleet_fault, event_line_fault, next, run, finished}
use Rattle.fleet_theory.specs.Words.{IsFrame, MaySend, TrulySent, MarkStep, end_rests, IsOpening, IsRestart, TrulySentLine, Usable}
use Rattle.fleet_theory.specs.ClaimsOfRun.{moments, ClaimsOfRun}
use Rattle.fleet_theory.proofs.ClaimsOfRun.{claims_of_run}
use Rattle.fleet.specs.declared.Finishing.{Finishing}
use Rattle.fleet.specs.declared.Finishing.TheVariants.{Says}
use Rattle.fleet.specs.Answers.{finishing_reply, whether_finished}
use Rattle.fleet.proofs.Calls.{finishing_is, handled_next}
use Rattle.fleet_calls.specs.Calls.{SameTable, LoggedCall, LoggedLeft, fresh_logged, left_by_logged, KeptLogged, LoggedCalls, left_after_logged, logged_lines}
use Rattle.fleet_calls.specs.Demand3.{changes_over, NoRestartIn, records_over, LeadsToFinish, Demand3}
use Rattle.fleet_calls.proofs.Same.{same_own, same_fleet, same_finished}
use Rattle.fleet_calls.proofs.Promises.{same_fine, same_self}
use Rattle.fleet_calls.proofs.Calls.{FollowsRun, calls_through, fresh_through, step_follows, kept_logs, calls_follow, logged_run}
use Rattle.fleet_calls.proofs.Callable.{made_logged, made_kept}
use Rattle.fleet_calls.proofs.Places.{calls_before, calls_behind, call_at, lines_append, changes_are, no_restart_is, leads_by_calls, moments_of_run, left_follows, answer_of_run}

-- calls with these lines, in the slices of x
made_lines : (x : Slices) → slices_fault x ≡ 0 → (b : LoggedLeft) (ls : List (List ℕ)) → (ds : List LoggedCall) × (logged_lines ds ≡ ls) × LoggedCalls x b ds
made_lines x fine b [] = ([], refl, tt)
made_lines x fine b (l ∷ ls) =
    let rest = made_lines x fine (left_by_logged b (made_logged b x l)) ls in
    (made_logged b x l ∷ rest.0, ap (λ (ms : List (List ℕ)). l ∷ ms) rest.1, (made_kept x x (same_self x fine) b l, rest.2))

module _ (x : Slices) (fine : slices_fault x ≡ 0) (digits : x.number < 65536) (log : List Entry) where
  abbrev t : Table
  t = table_of x

  abbrev room : ℕ
  room = length log

  -- a call at its place
  module _ (before later : List LoggedCall) (c : LoggedCall) (k : LoggedCalls x (fresh_logged x log) (before ++ c ∷ later)) where
    abbrev lines : List (List ℕ)
    lines = logged_lines before

    abbrev claims : ClaimsOfRun x room (lines ++ c.line ∷ [])
    claims = claims_of_run x fine digits room (lines ++ c.line ∷ [])

    abbrev earlier : LoggedCalls x (fresh_logged x log) before
    earlier = calls_before x (fresh_logged x log) before (c ∷ later) k

    same_moments : records_over (start x).bytes before ≡ moments x room (start x) lines
    same_moments = moments_of_run x fine log before earlier

    unsent_here : (IsOpening t c.line → ⊥) → (IsRestart t c.line → ⊥) → (TrulySentLine t c.line (records_over (start x).bytes before) → ⊥)
        → (n : ℕ) × (c.answer ≡ Refused n)
    unsent_here no-opening no-restart no_frame =
        let w = claims.unsent_refused lines [] c.line refl no-opening no-restart (rw same_moments at no_frame) in
        (w.0, answer_of_run x fine log before later c k ∙ w.1)

    accepted_here : (e : Entry) → c.answer ≡ Logged e → Usable t c.line (records_over (start x).bytes before) ⊎ IsRestart t c.line
    accepted_here e is = rw same_moments (claims.accepted_usable lines [] c.line refl e (sym (answer_of_run x fine log before later c k) ∙ is))

    by_27_here : IsFrame (frame_of c.line) → event_line_fault t c.line ≡ 0
        → (c.answer ≡ Refused 27) ↔ (TrulySent t (frame_of c.line) (records_over (start x).bytes before) → ⊥)
    by_27_here frame line = rw (answer_of_run x fine log before later c k, same_moments) (claims.unsent_by_27 lines [] c.line refl frame line)

    marked_here : (i j : ℕ) → i < x.links → j < 4 → MarkStep (left_after_logged (fresh_logged x log) before).bytes c.bytes i j
    marked_here i j l m =
        let s = run x room (start x) lines in
        let b = left_after_logged (fresh_logged x log) before in
        let follows = left_follows x fine log before earlier in
        rw ((step_follows x log s b c follows (kept_logs x fine b c (call_at x (fresh_logged x log) before later c k))).1.bytes, follows.bytes)
        (claims.marks_step lines [] c.line refl i j l m)

  -- the calls from a place on
  module _ (before later : List LoggedCall) (k : LoggedCalls x (fresh_logged x log) (before ++ later)) where
    abbrev reached : State
    reached = run x room (start x) (logged_lines before)

    abbrev left : LoggedLeft
    left = left_after_logged (fresh_logged x log) before

    reached_by : FollowsRun log reached left
    reached_by = left_follows x fine log before (calls_before x (fresh_logged x log) before later k)

    behind : LoggedCalls x left later
    behind = calls_behind x (fresh_logged x log) before later k

    four_from : (i : ℕ) → i < x.links → NoRestartIn t (λ p. touches t p i) later → changes_over left.bytes later i ≤ 4
    four_from i l none =
        rw (changes_are x fine log reached left reached_by later behind i)
        ((claims_of_run x fine digits room (logged_lines (before ++ later))).four (logged_lines before) (logged_lines later) (lines_append before later) i l
        (no_restart_is x fine log (λ p. touches t p i) reached left reached_by later behind none))

  -- after all calls
  module _ (cs : List LoggedCall) (k : LoggedCalls x (fresh_logged x log) cs) where
    abbrev ls : List (List ℕ)
    ls = logged_lines cs

    abbrev s : State
    s = run x room (start x) ls

    abbrev after : LoggedLeft
    after = left_after_logged (fresh_logged x log) cs

    all : ClaimsOfRun x room ls
    all = claims_of_run x fine digits room ls

    f : FollowsRun log s after
    f = left_follows x fine log cs k

    entries_are : take after.used after.log ≡ s.log
    entries_are = (logged_run x fine log cs k).entries

    abbrev with_log : List Entry → LoggedLeft
    with_log log' = record { bytes = after.bytes; log = log'; used = after.used }

    -- with another log that has the used entries
    follows_with : (log' : List Entry) → take after.used log' ≡ take after.used after.log → FollowsRun log' s (with_log log')
    follows_with log' has =
        record {
          bytes = f.bytes;
          used = f.used;
          log_is = sym (take-append-drop (length s.log) log') ∙ ap (λ (es : List Entry). es ++ drop (length s.log) log') (rw f.used at has ∙ rw f.used at entries_are);
          long = refl;
        }

    passes_after : fleet_fault t after.bytes ≡ 0
    passes_after = rw f.bytes all.passes

    says_whether : (y : Slices) → SameTable y x → (q : Finishing) → finishing_reply q ≡ whether_finished y after.bytes → q ≡ Says (finished t after.bytes)
    says_whether y same q is =
        let passes : fleet_fault (table_of y) after.bytes ≡ 0 = same_fleet (table_of y) t same.same after.bytes ∙ passes_after in
        finishing_is q (or_else (slices_fault y) (fleet_fault (table_of y) after.bytes)) (finished (table_of y) after.bytes) is
        ∙ rw (same_fine x y fine same, passes) (ap Says (same_finished (table_of y) t same.same after.bytes))

    -- the further list, by whichever calls
    further : (log' : List Entry) → take after.used log' ≡ take after.used after.log → after.used + length all.goes_on.0 ≤ length log'
        → (ds : List LoggedCall) → logged_lines ds ≡ all.goes_on.0 → LoggedCalls x (with_log log') ds → LeadsToFinish t (records_over (start x).bytes cs) after.bytes ds
    further log' has fits ds lines calls =
        rw (moments_of_run x fine log cs k)
        (leads_by_calls x fine log' (moments x room (start x) ls) s (with_log log') (follows_with log' has) ds calls
        (rw lines (all.goes_on.1 (length log') (rw f.used at fits))))

    -- a call with an entry free
    bytes_next : (log' : List Entry) (c : LoggedCall) → KeptLogged x (with_log log') c → c.bytes ≡ (next x (length log') s c.line).bytes
    bytes_next log' c kept =
        (handled_next x (length log') s c.line c.answer c.bytes (rw (f.used, f.bytes) at (kept_logs x fine (with_log log') c kept).handled)).1

    -- further calls without a restart
    finished_stays : finished t after.bytes ≡ true → (log' : List Entry) → take after.used log' ≡ take after.used after.log → (ds : List LoggedCall)
        → LoggedCalls x (with_log log') ds → NoRestartIn t (λ p. true) ds → finished t (left_after_logged (with_log log') ds).bytes ≡ true
    finished_stays e log' has ds calls none =
        let g = follows_with log' has in
        rw (calls_follow x fine log' s (with_log log') g ds calls).1.bytes
        (all.stays_finished (rw f.bytes at e) (length log') (logged_lines ds) (no_restart_is x fine log' (λ p. true) s (with_log log') g ds calls none))

    -- a log with the used entries and a given room
    abbrev log_of : ℕ → List Entry
    log_of room' = s.log ++ replicate (room' - length s.log) no_entry

    log_long : (room' : ℕ) → length s.log < room' → length (log_of room') ≡ room'
    log_long room' free =
        let a = length-append s.log (replicate (room' - length s.log) no_entry) in
        let b = length-replicate (room' - length s.log) no_entry in
        omega arith

    log_has : (room' : ℕ) → take after.used (log_of room') ≡ take after.used after.log
    log_has room' = ap (λ (n : ℕ). take n (log_of room')) f.used ∙ take-append_seam s.log (replicate (room' - length s.log) no_entry) ∙ sym entries_are

    abbrev Unaltered : Type 0
    Unaltered =
        (log' : List Entry) → take after.used log' ≡ take after.used after.log → after.used < length log' → (c : LoggedCall) → KeptLogged x (with_log log') c
        → event_line_fault t c.line ≡ 0 → ((frame_of c.line).kind ≡ 0) ⊎ MaySend t after.bytes (frame_of c.line) → c.bytes ≡ after.bytes

    finished_unaltered : finished t after.bytes ≡ true → Unaltered
    finished_unaltered e log' has free c kept line usable =
        bytes_next log' c kept
        ∙ all.says_finished.0 (rw f.bytes at e) c.line line (rw f.bytes at usable) (length log') (rw f.used at free)
        ∙ sym f.bytes

    unaltered_finished : Unaltered → finished t after.bytes ≡ true
    unaltered_finished unaltered = rw f.bytes (all.says_finished.1 stays)
      where
        stays : (l : List ℕ) → event_line_fault t l ≡ 0 → ((frame_of l).kind ≡ 0) ⊎ MaySend t s.bytes (frame_of l) → (room' : ℕ) → length s.log < room'
            → (next x room' s l).bytes ≡ s.bytes
        stays l line usable room' free =
            let long = log_long room' free in
            let c = made_logged (with_log (log_of room')) x l in
            let kept = made_kept x x (same_self x fine) (with_log (log_of room')) l in
            let u = f.used in
            ap (λ (n : ℕ). (next x n s l).bytes) (sym long)
            ∙ sym (bytes_next (log_of room') c kept)
            ∙ unaltered (log_of room') (log_has room') (omega arith) c kept line (rw f.bytes usable)
            ∙ f.bytes

    plans_same : finished t after.bytes ≡ true → (y : Slices) → SameTable y x → (log' : List Entry) (cs' : List LoggedCall) → LoggedCalls y (fresh_logged y log') cs'
        → (let bytes' = (left_after_logged (fresh_logged y log') cs').bytes in
        finished (table_of y) bytes' ≡ true → (i p : ℕ) → i < x.links → touches t p i ≡ true → end_rests t after.bytes p i ≡ end_rests (table_of y) bytes' p i)
    plans_same e y same log' cs' k' e' i p l at =
        let calls = rw (fresh_through x y same log') at (calls_through x y same (fresh_logged y log') cs' k') in
        let g = left_follows x fine log' cs' calls in
        let s' = run x (length log') (start x) (logged_lines cs') in
        let bytes' = (left_after_logged (fresh_logged y log') cs').bytes in
        let is : bytes' ≡ s'.bytes = ap (λ (b : LoggedLeft). (left_after_logged b cs').bytes) (fresh_through x y same log') ∙ g.bytes in
        let done : finished t s'.bytes ≡ true = ap (finished t) (sym is) ∙ sym (same_finished (table_of y) t same.same bytes') ∙ e' in
        rw (f.bytes, is, same_own (table_of y) t same.same p s'.bytes) (all.same_plan (rw f.bytes at e) (length log') (logged_lines cs') done i p l at)

  pub demand_3 : (cs : List LoggedCall) → LoggedCalls x (fresh_logged x log) cs → Demand3 x log cs
  demand_3 cs k =
      record {
        passes = λ before later is. passes_after before (calls_before x (fresh_logged x log) before later (rw is at k));
        says = λ before later is. says_whether before (calls_before x (fresh_logged x log) before later (rw is at k));
        eight = λ before later is i l none. let a = four_from before later (rw is at k) i l none in omega arith;
        four = λ before later is. four_from before later (rw is at k);
        refused_kept = λ i l a. claimed.refused_kept i l (rw (entries_are cs k) at a);
        two_refused = λ j e. rw (entries_are cs k) (claimed.two_refused j (rw same.bytes at e));
        unsent_refused = λ before later c is. unsent_here before later c (rw is at k);
        accepted_usable = λ before later c is. accepted_here before later c (rw is at k);
        sent_passes = claimed.sent_passes;
        unsent_by_27 = λ before later c is. by_27_here before later c (rw is at k);
        marks_say = λ j p i own. rw (same.bytes, moments_of_run x fine log cs k) (claimed.marks_say j p i own);
        marks_step = λ before later c is. marked_here before later c (rw is at k);
        goes_on = (claimed.goes_on.0, λ log' has fits. (made_lines x fine (with_log cs k log') claimed.goes_on.0, further cs k log' has fits));
        says_finished = (finished_unaltered cs k, unaltered_finished cs k);
        stays_finished = finished_stays cs k;
        rests_plan = λ e. rw same.bytes (claimed.rests_plan (rw same.bytes at e));
        ends_agree = λ e. rw same.bytes (claimed.ends_agree (rw same.bytes at e));
        same_plan = plans_same cs k;
        short_keeps = rw same.bytes claimed.short_keeps;
        needs_met = λ e. rw same.bytes (claimed.needs_met (rw same.bytes at e));
        cost_twice = λ e. rw same.bytes (claimed.cost_twice (rw same.bytes at e));
        none_for_nothing = λ e. rw same.bytes (claimed.none_for_nothing (rw same.bytes at e));
      }
    where
      claimed : ClaimsOfRun x room (logged_lines cs)
      claimed = all cs k

      same : FollowsRun log (run x room (start x) (logged_lines cs)) (left_after_logged (fresh_logged x log) cs)
      same = f cs k
