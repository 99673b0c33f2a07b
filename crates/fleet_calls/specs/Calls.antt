-- Calls of a fleet, one after the other: document 01, "The ends and their frames".
-- "Every call gets the same legal table, in slices that 8 lets pass, and the record and log as the last call left them; nobody else writes them meanwhile."
use Rattle.std.specs.Prelude.{ℕ, ◌+◌, ◌<◌, ◌≤◌, ◌≡◌, List, [], ◌∷◌, length, take, drop, get_or}
use Rattle.range.specs.Reply.{values}
use Rattle.table.specs.Same.{Same}
use Rattle.table.specs.Slices.{Slices, table_of, slices_room_fault}
use Rattle.wake_log.specs.declared.Entry.{Entry}
use Rattle.wake_log.specs.declared.Answer.{Answer}
use Rattle.wake_log.specs.declared.Answer.TheVariants.{Logged, Refused}
use Rattle.wake_log.specs.declared.Slot.{Slot}
use Rattle.wake_log.specs.declared.Slot.TheVariants.{Used, Unused}
use Rattle.wake_log.specs.Entry.{accepted_by}
use Rattle.wake_log.specs.Log.{no_entry, slot_reply, slot_values}
use Rattle.fleet_theory.specs.Fleet.{State, start, answer_to, next, run}
use Rattle.fleet.specs.Answers.{Handled}
use Rattle.fleet_log.specs.Logged.{LogsInFleet}

-- "the same .. table, in slices that 8 lets pass": those of y have the table of x. They may be longer or shorter, with anything behind the table's own entries.
pub record SameTable (y x : Slices) : Type 0 where
  pub same : Same (table_of y) (table_of x)
  pub passes_8 : slices_room_fault y ≡ 0

-- lines, each with slices of the table of x
abbrev pub GivenLines : Slices → List (Slices × List ℕ) → Type 0
GivenLines x [] = Unit
GivenLines x (g ∷ gs) = SameTable g.0 x × GivenLines x gs

-- the entries that answers have logged
abbrev pub entries_in : List Answer → List Entry
entries_in [] = []
entries_in (Logged e ∷ rest) = e ∷ entries_in rest
entries_in (Refused n ∷ rest) = entries_in rest

-- Calls with a lent log: `event_logged`.

-- a call: its slices and its line, its answer, and the record and the log at its exit
pub record LoggedCall : Type 0 where
  pub slices : Slices
  pub line : List ℕ
  pub answer : Answer
  pub bytes : List ℕ
  pub log : List Entry

-- what the last call left: the record, the log, and the count of its used entries
pub record LoggedLeft : Type 0 where
  pub bytes : List ℕ
  pub log : List Entry
  pub used : ℕ

-- "The list starts from a fresh fleet's record and a log of any room with no entry"
abbrev pub fresh_logged : Slices → List Entry → LoggedLeft
fresh_logged x log = record { bytes = (start x).bytes; log = log; used = 0 }

abbrev pub left_by_logged : LoggedLeft → LoggedCall → LoggedLeft
left_by_logged b c = record { bytes = c.bytes; log = c.log; used = b.used + accepted_by c.answer }

-- the call gets the table of x and what the last one left, and does what `event_logged` promises
pub record KeptLogged (x : Slices) (b : LoggedLeft) (c : LoggedCall) : Type 0 where
  pub same_table : SameTable c.slices x
  pub promise : LogsInFleet c.slices b.used c.line c.answer b.bytes c.bytes b.log c.log

abbrev pub LoggedCalls : Slices → LoggedLeft → List LoggedCall → Type 0
LoggedCalls x b [] = Unit
LoggedCalls x b (c ∷ cs) = KeptLogged x b c × LoggedCalls x (left_by_logged b c) cs

-- what the last of them left, what they were given, their lines, and their answers
abbrev pub left_after_logged : LoggedLeft → List LoggedCall → LoggedLeft
left_after_logged b [] = b
left_after_logged b (c ∷ cs) = left_after_logged (left_by_logged b c) cs

abbrev pub logged_given : List LoggedCall → List (Slices × List ℕ)
logged_given [] = []
logged_given (c ∷ cs) = (c.slices, c.line) ∷ logged_given cs

abbrev pub logged_lines : List LoggedCall → List (List ℕ)
logged_lines [] = []
logged_lines (c ∷ cs) = c.line ∷ logged_lines cs

abbrev pub logged_answers : List LoggedCall → List Answer
logged_answers [] = []
logged_answers (c ∷ cs) = c.answer ∷ logged_answers cs

-- Calls without a lent log: `event`. The caller keeps the count of used entries, of a room.

-- a call: its slices and its line, its answer, and the record at its exit
pub record EventCall : Type 0 where
  pub slices : Slices
  pub line : List ℕ
  pub answer : Answer
  pub bytes : List ℕ

-- what the last call left: the record, and the count of used entries
pub record EventLeft : Type 0 where
  pub bytes : List ℕ
  pub used : ℕ

abbrev pub fresh_event : Slices → EventLeft
fresh_event x = record { bytes = (start x).bytes; used = 0 }

abbrev pub left_by_event : EventLeft → EventCall → EventLeft
left_by_event b c = record { bytes = c.bytes; used = b.used + accepted_by c.answer }

-- the call gets the table of x and what the last one left, and does what `event` promises
pub record KeptEvent (x : Slices) (room : ℕ) (b : EventLeft) (c : EventCall) : Type 0 where
  pub same_table : SameTable c.slices x
  pub promise : Handled c.slices b.used room c.line c.answer b.bytes c.bytes

abbrev pub EventCalls : Slices → ℕ → EventLeft → List EventCall → Type 0
EventCalls x room b [] = Unit
EventCalls x room b (c ∷ cs) = KeptEvent x room b c × EventCalls x room (left_by_event b c) cs

abbrev pub left_after_events : EventLeft → List EventCall → EventLeft
left_after_events b [] = b
left_after_events b (c ∷ cs) = left_after_events (left_by_event b c) cs

abbrev pub event_given : List EventCall → List (Slices × List ℕ)
event_given [] = []
event_given (c ∷ cs) = (c.slices, c.line) ∷ event_given cs

abbrev pub event_lines : List EventCall → List (List ℕ)
event_lines [] = []
event_lines (c ∷ cs) = c.line ∷ event_lines cs

abbrev pub event_answers : List EventCall → List Answer
event_answers [] = []
event_answers (c ∷ cs) = c.answer ∷ event_answers cs

-- Both are the run over their lines (`logged_run`, `event_run`). Calls can be made for any lines, each over any slices of the table (`callable`, `event_callable`).

-- the answers of the run over a list of lines
unfoldable pub answers_to : Slices → ℕ → State → List (List ℕ) → List Answer
answers_to x room s [] = []
answers_to x room s (l ∷ ls) = answer_to x room s l ∷ answers_to x room (next x room s l) ls

-- the answers, the record and the used entries are the run's, the free entries and the log's length are as lent
module _ (x : Slices) (log : List Entry) (cs : List LoggedCall) where
  abbrev after : LoggedLeft
  after = left_after_logged (fresh_logged x log) cs

  abbrev reached : State
  reached = run x (length log) (start x) (logged_lines cs)

  pub record LoggedRun : Type 0 where
    pub answers : logged_answers cs ≡ answers_to x (length log) (start x) (logged_lines cs)
    pub bytes : after.bytes ≡ reached.bytes
    pub used : after.used ≡ length reached.log
    pub used_within : after.used ≤ length after.log
    pub entries : take after.used after.log ≡ reached.log
    -- "one for each accepted event"
    pub entries_answered : take after.used after.log ≡ entries_in (logged_answers cs)
    -- `entry_at` of a used place gives the run's entry; past the used ones it answers that there is none
    pub entry_read : (i : ℕ) (r : Slot) → slot_reply r ≡ values (slot_values after.log after.used i) → i < after.used → r ≡ Used (get_or reached.log i no_entry)
    pub none_read : (i : ℕ) (r : Slot) → slot_reply r ≡ values (slot_values after.log after.used i) → after.used ≤ i → r ≡ Unused
    pub free : drop after.used after.log ≡ drop after.used log
    pub long : length after.log ≡ length log

-- the answers, the record and the count are the run's
module _ (x : Slices) (room : ℕ) (cs : List EventCall) where
  abbrev events_reached : State
  events_reached = run x room (start x) (event_lines cs)

  pub record EventRun : Type 0 where
    pub answers : event_answers cs ≡ answers_to x room (start x) (event_lines cs)
    pub bytes : (left_after_events (fresh_event x) cs).bytes ≡ events_reached.bytes
    pub used : (left_after_events (fresh_event x) cs).used ≡ length events_reached.log
    -- "one for each accepted event"
    pub entries_answered : entries_in (event_answers cs) ≡ events_reached.log
