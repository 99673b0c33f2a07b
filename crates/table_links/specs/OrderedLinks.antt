-- The order of a legal table's links, by cost and place.
use Rattle.std.specs.Prelude.{ℕ, ◌≤◌, List, [], length}
use Rattle.table.specs.Table.{of_slices}
use Rattle.table.specs.Legal.{RisingLinks}

-- "0 to 2,048 links", "in rising order of low end, then high end, none twice", in slices long enough
pub record OrderedLinks (links : ℕ) (lows highs costs : List ℕ) : Type 0 where
  pub few : links ≤ 2048
  pub in_lows : links ≤ length lows
  pub in_highs : links ≤ length highs
  pub in_costs : links ≤ length costs
  pub order : RisingLinks (of_slices 0 0 links [] lows highs costs)
