-- The rules of an end on its maps: those of its bytes, which stand behind them. Document 02, No. 9.
use Rattle.std.specs.Prelude.{ℕ}
use Rattle.table.specs.Table.{Table}
use Rattle.probe_rules.specs.declared.Event.{Event}
use Rattle.probe_rules.specs.declared.Outcome.{Outcome}
use Rattle.probe_rules.specs.Rules.{befalls, alter}
use Rattle.probe_maps.specs.Maps.{Maps, bytes_of, maps_of}

-- what befalls the end p, by the bytes of its maps
abbrev pub befalls_maps : Table → ℕ → Event → Maps → Outcome
befalls_maps t p event m = befalls t p event (bytes_of t.links m)

-- the maps of the bytes that an outcome leaves
abbrev pub alter_maps : ℕ → Outcome → Maps → Maps
alter_maps links o m = maps_of links (alter o (bytes_of links m))
