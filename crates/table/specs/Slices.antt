-- A table in slices: document 01, "A table in slices goes with its number, probe count and link count."
use Rattle.std.specs.Prelude.{ℕ, ◌≤◌, ◌≡◌, List, length}
use Rattle.range.specs.First.{or_else}
use Rattle.table.specs.Table.{Table, of_slices}
use Rattle.table.specs.Legal.{table_fault, room_fault}
use Rattle.table.specs.declared.TableSlices.{TableSlices}

pub record Slices : Type 0 where
  pub number : ℕ
  pub probes : ℕ
  pub links : ℕ
  pub needs : List ℕ
  pub lows : List ℕ
  pub highs : List ℕ
  pub costs : List ℕ

-- by its parts
abbrev pub slices_of : ℕ → ℕ → ℕ → List ℕ → List ℕ → List ℕ → List ℕ → Slices
slices_of number probes links needs lows highs costs =
    record { number = number; probes = probes; links = links; needs = needs; lows = lows; highs = highs; costs = costs }

-- the table in the slices
abbrev pub table_of : Slices → Table
table_of x = of_slices x.number x.probes x.links x.needs x.lows x.highs x.costs

-- 8, of a table's slices
abbrev pub slices_room_fault : Slices → ℕ
slices_room_fault x = room_fault x.probes x.links (length x.needs) (length x.lows) (length x.highs) (length x.costs)

-- "Slices of numbers: 8, 3, then 4 and 5 link by link, 7", without 7
abbrev pub slice_fault : ℕ → ℕ → Slices → ℕ
slice_fault pmax lmax x = or_else (slices_room_fault x) (table_fault pmax lmax (table_of x))

abbrev pub slices_fault : Slices → ℕ
slices_fault x = slice_fault 256 2048 x

-- what slices that pass give: a table without a fault, and room for it
pub record LegalSlices (pmax lmax : ℕ) (x : Slices) : Type 0 where
  pub legal : table_fault pmax lmax (table_of x) ≡ 0
  pub few : x.probes ≤ pmax
  pub within : x.links ≤ lmax
  pub in_needs : x.probes ≤ length x.needs
  pub in_lows : x.links ≤ length x.lows
  pub in_highs : x.links ≤ length x.highs
  pub in_costs : x.links ≤ length x.costs

-- the slices that a program lends, with their numbers
abbrev pub as_slices : TableSlices → Slices
as_slices t =
    slices_of t.number t.probes t.links t.needs.now t.lows.now t.highs.now t.costs.now
