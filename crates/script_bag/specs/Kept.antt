-- What the call leaves of the maps and of the log that it is lent, whatever it answers.
use Rattle.std.specs.Prelude.{ℕ, List}
use Rattle.table.specs.Slices.{Slices}
use Rattle.wake_log.specs.declared.Entry.{Entry}
use Rattle.probe_maps.specs.Maps.{Maps}
use Rattle.probe_bags.specs.declared.Hearing.{Hearing}
use Rattle.probe_bags.specs.Bag.{HearsBag}

abbrev pub KeepsBag : Slices → ℕ → List ℕ → Maps → Maps → ℕ → List Entry → List Entry → Type 0
KeepsBag x p bag before after used log log' = (answer : Hearing) × HearsBag x p bag answer before after used log log'
