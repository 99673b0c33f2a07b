-- What the functions that decide ask of their arguments, and of which tables they decide.
use Rattle.std.specs.Prelude.{ℕ, ◌≤◌, ◌≡◌, List, length}
use Rattle.bit_maps.specs.BitMap.{words_for, map_of}
use Rattle.table.specs.Table.{Table, item}
use Rattle.table.specs.Legal.{RisingLinks}
use Rattle.probe_maps.specs.Maps.{Maps, is_own}
use Rattle.probe_maps.specs.GoodMaps.{GoodMaps}

-- slices long enough for the links
pub record EndRoom (links : ℕ) (costs own : List ℕ) (m : Maps) : Type 0 where
  pub few : links ≤ 2048
  pub in_costs : links ≤ length costs
  pub in_own : length own ≡ 32
  pub in_standing : length m.standing ≡ words_for links
  pub in_refused_out : length m.refused_out ≡ words_for links
  pub in_held : length m.held ≡ words_for links
  pub in_refused_in : length m.refused_in ≡ words_for links

-- the slices are those of the end p of the table t: its need, the links' costs, its own links as a map, and its maps, which pass
pub record EndOf (t : Table) (p links : ℕ) (needs costs own : List ℕ) (m : Maps) : Type 0 where
  pub links_are : t.links ≡ links
  pub few : links ≤ 2048
  pub need_is : t.need p ≡ item needs p
  pub costs_are : (i : ℕ) → t.cost i ≡ item costs i
  pub order : RisingLinks t
  pub own_are : own ≡ map_of (is_own t p) 32
  pub good : GoodMaps t p m
