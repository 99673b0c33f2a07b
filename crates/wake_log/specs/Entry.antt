-- The entries of the wake log: document 01, "The ends and their frames". For each case 01's code, and its values.
use Rattle.std.specs.Prelude.{ℕ, cond, List, [], ◌∷◌, eqb}
use Rattle.range.specs.Reply.{Reply, refusal, values}
use Rattle.wake_log.specs.declared.Entry.{Entry}
use Rattle.wake_log.specs.declared.Answer.{Answer}
use Rattle.wake_log.specs.declared.Answer.TheVariants as answer
use Rattle.wake_log.specs.declared.What.{What}
use Rattle.wake_log.specs.declared.What.TheVariants.{Opened, Enough, Taken, TakenDisplacing, Refused, RefusalLearnt, NoChange, AllTried, Restarted}

-- "00 opened, 01 nothing to open, 02 taken, 03 taken with the displaced probe, 04 refused, 05 refusal learnt, 06 heard with no change"
-- 02, No. 3: "01 when the offers standing equal the spare, otherwise 07, every link tried"
-- 02, No. 2: "A wipe is logged as 08, without a link."
abbrev pub code_of : What → ℕ
code_of (Opened link) = 0
code_of Enough = 1
code_of (Taken link) = 2
code_of (TakenDisplacing link displaced) = 3
code_of (Refused link) = 4
code_of (RefusalLearnt link) = 5
code_of (NoChange link) = 6
code_of AllTried = 7
code_of Restarted = 8

-- `ffff` "for a link or probe that is absent"
abbrev pub absent : ℕ
absent = 65535

-- the link's place
abbrev pub link_of : What → ℕ
link_of (Opened link) = link
link_of Enough = absent
link_of (Taken link) = link
link_of (TakenDisplacing link displaced) = link
link_of (Refused link) = link
link_of (RefusalLearnt link) = link
link_of (NoChange link) = link
link_of AllTried = absent
link_of Restarted = absent

-- the displaced probe
abbrev pub displaced_of : What → ℕ
displaced_of (Opened link) = absent
displaced_of Enough = absent
displaced_of (Taken link) = absent
displaced_of (TakenDisplacing link displaced) = displaced
displaced_of (Refused link) = absent
displaced_of (RefusalLearnt link) = absent
displaced_of (NoChange link) = absent
displaced_of AllTried = absent
displaced_of Restarted = absent

-- "the entry: probe, what .., link's place in the table from 0, displaced probe"
abbrev pub entry_values : Entry → List ℕ
entry_values e = e.probe ∷ code_of e.what ∷ link_of e.what ∷ displaced_of e.what ∷ []

abbrev pub answer_reply : Answer → Reply
answer_reply (answer.Logged e) = values (entry_values e)
answer_reply (answer.Refused n) = refusal n

-- the answer to an event by the fault found: its entry, or the number of the refusal alone
abbrev pub answer_of : ℕ → Entry → Answer
answer_of fault entry = cond (eqb fault 0) (answer.Logged entry) (answer.Refused fault)

-- "one for each accepted event": how many entries an answer has logged
abbrev pub accepted_by : Answer → ℕ
accepted_by (answer.Logged e) = 1
accepted_by (answer.Refused n) = 0
