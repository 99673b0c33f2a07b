-- Demand 3: one claim about a whole list of calls, each with a line of any bytes. Its words stand in `fleet_theory`, specs/Words.antt and specs/Fleet.antt.
use Rattle.std.specs.Prelude.{ℕ, ◌+◌, ◌*◌, ◌/◌, ◌≤◌, ◌<◌, ◌≡◌, ◌↔◌, ◌⊎◌, Bool, true, false, not, List, [], ◌∷◌, ◌++◌, length, take}
use Rattle.table.specs.Table.{Table, item, touches, counted_need, is_short}
use Rattle.table.specs.Slices.{Slices, table_of}
use Rattle.plan_theory.specs.Plan.{rested, kept, links_at, cost_of, Meets}
use Rattle.plan_theory.specs.Bounds.{NoneForNothing}
use Rattle.probe_frame.specs.Frame.{frame_of}
use Rattle.wake_log.specs.declared.Entry.{Entry}
use Rattle.wake_log.specs.declared.Answer.TheVariants.{Logged, Refused}
use Rattle.probe_rules.specs.Within.{OwnLink}
use Rattle.probe.specs.declared.Kind.{Kind}
use Rattle.probe.specs.Answers.{asked_frame}
use Rattle.fleet_theory.specs.Fleet.{start, marks, fleet_fault, event_line_fault, frame_changes, finished}
use Rattle.fleet_theory.specs.Words.{IsFrame, MaySend, TrulySent, frame_mark, MarkStep, RefusedIn, end_rests, IsOpening, IsRestart, TrulySentLine, Usable}
use Rattle.fleet.specs.declared.Finishing.{Finishing}
use Rattle.fleet.specs.declared.Finishing.TheVariants.{Says}
use Rattle.fleet.specs.Answers.{finishing_reply, whether_finished}
use Rattle.fleet_calls.specs.Calls.{SameTable, LoggedCall, LoggedLeft, fresh_logged, KeptLogged, LoggedCalls, left_after_logged, logged_lines}

-- "Changes: for each accepted event, the record bytes whose value after it differs from that before; a link's are those in its own four bytes": from the record r on. A refused call alters none.
-- 02, No. 2: "marks and wipes count nowhere as changes"
abbrev pub changes_over : List ℕ → List LoggedCall → ℕ → ℕ
changes_over r [] i = 0
changes_over r (c ∷ cs) i = frame_changes (frame_of c.line) r c.bytes i + changes_over c.bytes cs i

-- no call of a list is an accepted restart of one of these probes
abbrev pub NoRestartIn : Table → (ℕ → Bool) → List LoggedCall → Type 0
NoRestartIn t who [] = Unit
NoRestartIn t who (c ∷ cs) = (IsRestart t c.line → who (frame_of c.line).to ≡ true → (e : Entry) → c.answer ≡ Logged e → ⊥) × NoRestartIn t who cs

-- the records of the moments from the record r on, "the start included"
abbrev pub records_over : List ℕ → List LoggedCall → List (List ℕ)
records_over r [] = r ∷ []
records_over r (c ∷ cs) = r ∷ records_over c.bytes cs

-- "some further list of openings and truly sent frames, none turned down, leads to the finish": from the record r on, `so_far` are the records of the moments up to it
abbrev pub LeadsToFinish : Table → List (List ℕ) → List ℕ → List LoggedCall → Type 0
LeadsToFinish t so_far r [] = finished t r ≡ true
LeadsToFinish t so_far r (d ∷ ds) =
    Usable t d.line so_far × ((e : Entry) × (d.answer ≡ Logged e)) × LeadsToFinish t (so_far ++ (d.bytes ∷ [])) d.bytes ds

-- "For every list of openings and heard frames, refused ones included, from a fleet begun fresh with one legal table"; 02, No. 2: "A restart joins the events of demand 3's list": the calls `cs`, with a log of any content and length
module _ (x : Slices) (log : List Entry) (cs : List LoggedCall) where
  abbrev t : Table
  t = table_of x

  -- what the calls up to a moment leave, and what all leave
  abbrev left_at : List LoggedCall → LoggedLeft
  left_at before = left_after_logged (fresh_logged x log) before

  abbrev after : LoggedLeft
  after = left_at cs

  -- the record after it, and the used entries of the log
  abbrev bytes : List ℕ
  bytes = after.bytes

  abbrev entries : List Entry
  entries = take after.used after.log

  -- the records up to a moment
  abbrev moments_at : List LoggedCall → List (List ℕ)
  moments_at before = records_over (start x).bytes before

  -- a log with these used entries, of any room, and what a call then gets
  abbrev HasEntries : List Entry → Type 0
  HasEntries log' = take after.used log' ≡ entries

  abbrev with_log : List Entry → LoggedLeft
  with_log log' = record { bytes = bytes; log = log'; used = after.used }

  pub record Demand3 : Type 0 where
    -- 20 to 22 let the record pass at every moment; so `finished`, called on it in any slices of the table, says whether the fleet is finished, and refuses nothing
    pub passes : (before later : List LoggedCall) → cs ≡ before ++ later → fleet_fault t (left_at before).bytes ≡ 0
    pub says : (before later : List LoggedCall) → cs ≡ before ++ later → (y : Slices) → SameTable y x
        → (q : Finishing) → finishing_reply q ≡ whether_finished y (left_at before).bytes → q ≡ Says (finished t (left_at before).bytes)
    -- "after it no link has had more than eight changes", and not more than four; 02, No. 2: "from the last restart on", so over every rest of the list in which no end of the link restarts
    pub eight : (before later : List LoggedCall) → cs ≡ before ++ later → (i : ℕ) → i < x.links → NoRestartIn t (λ p. touches t p i) later → changes_over (left_at before).bytes later i ≤ 8
    pub four : (before later : List LoggedCall) → cs ≡ before ++ later → (i : ℕ) → i < x.links → NoRestartIn t (λ p. touches t p i) later → changes_over (left_at before).bytes later i ≤ 4
    -- "every link that either end has refused is in demand 2's plan"; "A byte 2 stands on no other link."
    pub refused_kept : (i : ℕ) → i < x.links → RefusedIn t i entries → kept t i ≡ true
    pub two_refused : (j : ℕ) → item bytes j ≡ 2 → RefusedIn t (j / 8) entries
    -- "every frame not truly sent was turned down": every line that is neither an opening nor a restart nor a truly sent frame, at its place in the list
    pub unsent_refused : (before later : List LoggedCall) (c : LoggedCall) → cs ≡ before ++ c ∷ later → (IsOpening t c.line → ⊥)
        → (IsRestart t c.line → ⊥) → (TrulySentLine t c.line (moments_at before) → ⊥) → (n : ℕ) × (c.answer ≡ Refused n)
    -- so an accepted line is an opening or a truly sent frame, or a restart
    pub accepted_usable : (before later : List LoggedCall) (c : LoggedCall) → cs ≡ before ++ c ∷ later
        → (e : Entry) → c.answer ≡ Logged e → Usable t c.line (moments_at before) ⊎ IsRestart t c.line
    -- a line that is no frame, or is one of another table number, of another kind or between probes without a link, is never truly sent
    pub sent_passes : (so_far : List (List ℕ)) (l : List ℕ) → TrulySentLine t l so_far → event_line_fault t l ≡ 0
    -- "a frame past the checks before 27 is turned down by 27 exactly when it is not truly sent"
    pub unsent_by_27 : (before later : List LoggedCall) (c : LoggedCall) → cs ≡ before ++ c ∷ later → IsFrame (frame_of c.line) → event_line_fault t c.line ≡ 0
        → (c.answer ≡ Refused 27) ↔ (TrulySent t (frame_of c.line) (moments_at before) → ⊥)
    -- 02, No. 2: a mark says "that the frame it permits could once have been sent": it is 1 exactly when the frame that p may send on its link i is truly sent
    pub marks_say : (k : Kind) (p i : ℕ) → OwnLink t p i → (frame_mark k (marks t p bytes) i ≡ 1) ↔ TrulySent t (asked_frame t p k i) (moments_at cs)
    pub marks_step : (before later : List LoggedCall) (c : LoggedCall) → cs ≡ before ++ c ∷ later → (i k : ℕ) → i < x.links → k < 4 → MarkStep (left_at before).bytes c.bytes i k
    -- "From there some further list of openings and truly sent frames, none turned down, leads to the finish": "the log lent has an entry free for each of them". It is one list of lines, whatever calls give them; such calls can be made (`callable`).
    pub goes_on : (ms : List (List ℕ))
        × ((log' : List Entry) → HasEntries log' → after.used + length ms ≤ length log'
        → ((ds : List LoggedCall) × (logged_lines ds ≡ ms) × LoggedCalls x (with_log log') ds)
        × ((ds : List LoggedCall) → logged_lines ds ≡ ms → LoggedCalls x (with_log log') ds → LeadsToFinish t (moments_at cs) bytes ds))
    -- "The fleet says finished exactly when no opening and no frame that may be sent would change anything": called with an entry free
    pub says_finished : (finished t bytes ≡ true)
        ↔ ((log' : List Entry) → HasEntries log' → after.used < length log' → (d : LoggedCall) → KeptLogged x (with_log log') d
        → event_line_fault t d.line ≡ 0 → ((frame_of d.line).kind ≡ 0) ⊎ MaySend t bytes (frame_of d.line) → d.bytes ≡ bytes)
    -- and a finished fleet stays finished until a restart is accepted
    pub stays_finished : finished t bytes ≡ true → (log' : List Entry) → HasEntries log' → (ds : List LoggedCall) → LoggedCalls x (with_log log') ds → NoRestartIn t (λ p. true) ds
        → finished t (left_after_logged (with_log log') ds).bytes ≡ true
    -- "Whenever it is finished, each end of each link rests it exactly when it is not in demand 2's plan, so both ends agree"
    pub rests_plan : finished t bytes ≡ true → (i p : ℕ) → i < x.links → touches t p i ≡ true → end_rests t bytes p i ≡ rested t i
    pub ends_agree : finished t bytes ≡ true → (i : ℕ) → i < x.links → end_rests t bytes (t.low i) i ≡ end_rests t bytes (t.high i) i
    -- "no two such lists with the same table finish with different plans": the other calls `cs'`, over slices y of the table, with another log
    pub same_plan : finished t bytes ≡ true → (y : Slices) → SameTable y x → (log' : List Entry) (cs' : List LoggedCall) → LoggedCalls y (fresh_logged y log') cs'
        → (let bytes' = (left_after_logged (fresh_logged y log') cs').bytes in
        finished (table_of y) bytes' ≡ true → (i p : ℕ) → i < x.links → touches t p i ≡ true → end_rests t bytes p i ≡ end_rests (table_of y) bytes' p i)
    -- 02, No. 1: a short probe "keeps all its links": it rests none of them, finished or not
    pub short_keeps : (v i : ℕ) → is_short t v ≡ true → i < x.links → touches t v i ≡ true → end_rests t bytes v i ≡ false
    -- "Every need is then met, and the plan costs at most twice as much as any choice of links that meets the needs": the counted needs (02, No. 1)
    pub needs_met : finished t bytes ≡ true → (v : ℕ) → v < x.probes → counted_need t v ≤ links_at t (λ i. not (end_rests t bytes v i)) v
    pub cost_twice : finished t bytes ≡ true → (choice : ℕ → Bool) → Meets t choice
        → cost_of t (λ i. not (end_rests t bytes (t.low i) i)) ≤ 2 * cost_of t choice
    -- 02, No. 14, of the links that a finished fleet keeps
    pub none_for_nothing : finished t bytes ≡ true → NoneForNothing t (λ i. not (end_rests t bytes (t.low i) i))
