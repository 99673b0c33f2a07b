-- What the calls leave of the record and of the log that they are lent, whatever they answer.
use Rattle.std.specs.Prelude.{ℕ, List}
use Rattle.table.specs.Slices.{Slices}
use Rattle.wake_log.specs.declared.Entry.{Entry}
use Rattle.wake_log.specs.declared.Answer.{Answer}
use Rattle.probe_maps.specs.Maps.{Maps}
use Rattle.probe_log.specs.Logged.{OpensLogged, HearsLogged}
use Rattle.fleet_log.specs.Logged.{LogsInFleet}

abbrev pub KeepsLine : Slices → ℕ → List ℕ → List ℕ → List ℕ → List Entry → List Entry → Type 0
KeepsLine x used line before after log log' = (answer : Answer) × LogsInFleet x used line answer before after log log'

abbrev pub KeepsOpening : Slices → ℕ → Maps → Maps → ℕ → List Entry → List Entry → Type 0
KeepsOpening x p before after used log log' = (answer : Answer) × OpensLogged x p answer before after used log log'

abbrev pub KeepsFrame : Slices → ℕ → List ℕ → Maps → Maps → ℕ → List Entry → List Entry → Type 0
KeepsFrame x p frame before after used log log' = (answer : Answer) × HearsLogged x p frame answer before after used log log'
