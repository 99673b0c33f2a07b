-- The claims of demand 3 about the run over a list of lines of any bytes. Behind demand 3, which is about calls: `fleet_calls`.
use Rattle.std.specs.Prelude.{ℕ, ◌+◌, ◌*◌, ◌/◌, ◌≤◌, ◌<◌, ◌≡◌, ◌↔◌, ◌⊎◌, Bool, true, false, not, List, [], ◌∷◌, ◌++◌, length}
use Rattle.table.specs.Table.{Table, item, touches, counted_need, is_short}
use Rattle.table.specs.Slices.{Slices, table_of}
use Rattle.plan_theory.specs.Plan.{rested, kept, links_at, cost_of, Meets}
use Rattle.plan_theory.specs.Bounds.{NoneForNothing}
use Rattle.probe_frame.specs.Frame.{frame_of}
use Rattle.wake_log.specs.declared.Entry.{Entry}
use Rattle.wake_log.specs.declared.Answer.TheVariants.{Logged, Refused}
use Rattle.probe_rules.specs.Within.{OwnLink}
use Rattle.probe.specs.declared.Kind.{Kind}
use Rattle.probe.specs.Answers.{asked_frame}
use Rattle.fleet_theory.specs.Fleet.{State, start, marks, fleet_fault, event_line_fault, answer_to, next, run, changes, finished}
use Rattle.fleet_theory.specs.Words.{IsFrame, MaySend, TrulySent, frame_mark, MarkStep, RefusedIn, end_rests, IsOpening, IsRestart, TrulySentLine, Usable}

-- the moments of a list: its records, "the start included"
unfoldable pub moments : Slices → ℕ → State → List (List ℕ) → List (List ℕ)
moments x room s [] = s.bytes ∷ []
moments x room s (l ∷ ls) = s.bytes ∷ moments x room (next x room s l) ls

-- "some further list of openings and truly sent frames, none turned down, leads to the finish": `so_far` are the moments up to the state
abbrev pub LeadsOn : Slices → ℕ → List (List ℕ) → State → List (List ℕ) → Type 0
LeadsOn x room so_far s [] = finished (table_of x) s.bytes ≡ true
LeadsOn x room so_far s (l ∷ ls) =
    Usable (table_of x) l so_far
    × ((e : Entry) × (answer_to x room s l ≡ Logged e))
    × LeadsOn x room (so_far ++ ((next x room s l).bytes ∷ [])) (next x room s l) ls

-- no line of a list is an accepted restart of one of these probes
abbrev pub NoRestart : Slices → ℕ → (ℕ → Bool) → State → List (List ℕ) → Type 0
NoRestart x room who s [] = Unit
NoRestart x room who s (l ∷ ls) =
    (IsRestart (table_of x) l → who (frame_of l).to ≡ true → (e : Entry) → answer_to x room s l ≡ Logged e → ⊥) × NoRestart x room who (next x room s l) ls

-- "For every list of openings and heard frames, refused ones included, from a fleet begun fresh with one legal table"; 02, No. 2: "A restart joins the events of demand 3's list"
module _ (x : Slices) (room : ℕ) (ls : List (List ℕ)) where
  abbrev t : Table
  t = table_of x

  -- the state after some of the lines, and after all
  abbrev state_after : List (List ℕ) → State
  state_after xs = run x room (start x) xs

  abbrev after : State
  after = state_after ls

  pub record ClaimsOfRun : Type 0 where
    -- 20 to 22 let the record pass
    pub passes : fleet_fault t after.bytes ≡ 0
    -- "after it no link has had more than eight changes", and not more than four; 02, No. 2: "from the last restart on", so over every rest of the list in which no end of the link restarts
    pub eight : (xs ys : List (List ℕ)) → ls ≡ xs ++ ys → (i : ℕ) → i < x.links → NoRestart x room (λ p. touches t p i) (state_after xs) ys → changes x room (state_after xs) ys i ≤ 8
    pub four : (xs ys : List (List ℕ)) → ls ≡ xs ++ ys → (i : ℕ) → i < x.links → NoRestart x room (λ p. touches t p i) (state_after xs) ys → changes x room (state_after xs) ys i ≤ 4
    -- "every link that either end has refused is in demand 2's plan"; "A byte 2 stands on no other link."
    pub refused_kept : (i : ℕ) → i < x.links → RefusedIn t i after.log → kept t i ≡ true
    pub two_refused : (j : ℕ) → item after.bytes j ≡ 2 → RefusedIn t (j / 8) after.log
    -- "every frame not truly sent was turned down", at its place in the list: every line that is neither an opening nor a restart nor a truly sent frame
    pub unsent_refused : (xs ys : List (List ℕ)) (l : List ℕ) → ls ≡ xs ++ l ∷ ys → (IsOpening t l → ⊥) → (IsRestart t l → ⊥)
        → (TrulySentLine t l (moments x room (start x) xs) → ⊥) → (n : ℕ) × (answer_to x room (state_after xs) l ≡ Refused n)
    -- so an accepted line is an opening or a truly sent frame, or a restart
    pub accepted_usable : (xs ys : List (List ℕ)) (l : List ℕ) → ls ≡ xs ++ l ∷ ys
        → (e : Entry) → answer_to x room (state_after xs) l ≡ Logged e → Usable t l (moments x room (start x) xs) ⊎ IsRestart t l
    -- a line that is no frame, or is one of another table number, of another kind or between probes without a link, is never truly sent
    pub sent_passes : (so_far : List (List ℕ)) (l : List ℕ) → TrulySentLine t l so_far → event_line_fault t l ≡ 0
    -- "a frame past the checks before 27 is turned down by 27 exactly when it is not truly sent"
    pub unsent_by_27 : (xs ys : List (List ℕ)) (l : List ℕ) → ls ≡ xs ++ l ∷ ys → IsFrame (frame_of l) → event_line_fault t l ≡ 0
        → (answer_to x room (state_after xs) l ≡ Refused 27) ↔ (TrulySent t (frame_of l) (moments x room (start x) xs) → ⊥)
    -- 02, No. 2: a mark says "that the frame it permits could once have been sent": it is 1 exactly when the frame that p may send on its link i is truly sent
    pub marks_say : (k : Kind) (p i : ℕ) → OwnLink t p i → (frame_mark k (marks t p after.bytes) i ≡ 1) ↔ TrulySent t (asked_frame t p k i) (moments x room (start x) ls)
    pub marks_step : (xs ys : List (List ℕ)) (l : List ℕ) → ls ≡ xs ++ l ∷ ys → (i k : ℕ) → i < x.links → k < 4
        → MarkStep (state_after xs).bytes (next x room (state_after xs) l).bytes i k
    -- "From there some further list of openings and truly sent frames, none turned down, leads to the finish": "the log lent has an entry free for each of them"
    pub goes_on : (ms : List (List ℕ)) × ((room' : ℕ) → length after.log + length ms ≤ room'
        → LeadsOn x room' (moments x room (start x) ls) after ms)
    -- "The fleet says finished exactly when no opening and no frame that may be sent would change anything."
    pub says_finished : (finished t after.bytes ≡ true)
        ↔ ((l : List ℕ) → event_line_fault t l ≡ 0 → ((frame_of l).kind ≡ 0) ⊎ MaySend t after.bytes (frame_of l)
        → (room' : ℕ) → length after.log < room' → (next x room' after l).bytes ≡ after.bytes)
    -- and a finished fleet stays finished until a restart is accepted
    pub stays_finished : finished t after.bytes ≡ true → (room' : ℕ) (ms : List (List ℕ)) → NoRestart x room' (λ p. true) after ms → finished t (run x room' after ms).bytes ≡ true
    -- "Whenever it is finished, each end of each link rests it exactly when it is not in demand 2's plan, so both ends agree"
    pub rests_plan : finished t after.bytes ≡ true → (i p : ℕ) → i < x.links → touches t p i ≡ true → end_rests t after.bytes p i ≡ rested t i
    pub ends_agree : finished t after.bytes ≡ true → (i : ℕ) → i < x.links
        → end_rests t after.bytes (t.low i) i ≡ end_rests t after.bytes (t.high i) i
    -- "no two such lists with the same table finish with different plans"
    pub same_plan : finished t after.bytes ≡ true → (room' : ℕ) (ls' : List (List ℕ)) → finished t (run x room' (start x) ls').bytes ≡ true
        → (i p : ℕ) → i < x.links → touches t p i ≡ true → end_rests t after.bytes p i ≡ end_rests t (run x room' (start x) ls').bytes p i
    -- 02, No. 1: a short probe "keeps all its links": it rests none of them, finished or not
    pub short_keeps : (v i : ℕ) → is_short t v ≡ true → i < x.links → touches t v i ≡ true → end_rests t after.bytes v i ≡ false
    -- "Every need is then met, and the plan costs at most twice as much as any choice of links that meets the needs": the counted needs (02, No. 1)
    pub needs_met : finished t after.bytes ≡ true → (v : ℕ) → v < x.probes → counted_need t v ≤ links_at t (λ i. not (end_rests t after.bytes v i)) v
    pub cost_twice : finished t after.bytes ≡ true → (choice : ℕ → Bool) → Meets t choice
        → cost_of t (λ i. not (end_rests t after.bytes (t.low i) i)) ≤ 2 * cost_of t choice
    -- 02, No. 14, of the links that a finished fleet keeps
    pub none_for_nothing : finished t after.bytes ≡ true → NoneForNothing t (λ i. not (end_rests t after.bytes (t.low i) i))
