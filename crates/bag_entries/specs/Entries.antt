-- The entries of a bag, by value.
use Rattle.std.specs.Prelude.{List, length, replicate}
use Rattle.std.proofs.lemmas.List.Edits.{sets}
use Rattle.wake_log.specs.declared.Entry.{Entry}
use Rattle.wake_log.specs.Log.{no_entry}
use Rattle.bag_entries.specs.declared.Entries.{Entries}

-- in the first of 64 places
abbrev pub entries_of : List Entry → Entries
entries_of es = record { count = length es; entries = sets (replicate 64 no_entry) 0 es }
