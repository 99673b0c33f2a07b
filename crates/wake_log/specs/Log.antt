-- The wake log: document 01, "The wake log is a lent list of entries, one for each accepted event."
use Rattle.std.specs.Prelude.{ℕ, Bool, cond, ◌&&◌, List, [], ltb, length, get_or, set}
use Rattle.range.specs.Reply.{Reply, values}
use Rattle.wake_log.specs.declared.Entry.{Entry}
use Rattle.wake_log.specs.Entry.{entry_values}
use Rattle.wake_log.specs.declared.What.TheVariants.{Enough}
use Rattle.wake_log.specs.declared.Answer.{Answer}
use Rattle.wake_log.specs.declared.Answer.TheVariants.{Logged, Refused}
use Rattle.wake_log.specs.declared.Slot.{Slot}
use Rattle.wake_log.specs.declared.Slot.TheVariants.{Used, Unused}

-- stands where there is no entry, as the default of a place of a list; no answer gives it in place of an entry
abbrev pub no_entry : Entry
no_entry = record { probe = 0; what = Enough }

-- "one for each accepted event": the entry stands behind the used ones, or past the log's end nowhere; "The earlier entries never change."
abbrev pub log_with : ℕ → Answer → List Entry → List Entry
log_with used (Logged e) log = set log used e
log_with used (Refused n) log = log

-- a used place of a log of so many places; past the used ones, or past the log's end, there is none
abbrev pub is_used : ℕ → ℕ → ℕ → Bool
is_used room used i = ltb i used && ltb i room

-- what a place holds: a used one its entry
abbrev pub slot_of : List Entry → ℕ → ℕ → Slot
slot_of log used i = cond (is_used (length log) used i) (Used (get_or log i no_entry)) Unused

-- the values of its entry, or none
abbrev pub slot_reply : Slot → Reply
slot_reply (Used e) = values (entry_values e)
slot_reply Unused = values []

abbrev pub slot_values : List Entry → ℕ → ℕ → List ℕ
slot_values log used i = cond (is_used (length log) used i) (entry_values (get_or log i no_entry)) []
