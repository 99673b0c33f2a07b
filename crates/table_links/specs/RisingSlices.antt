-- The links of a legal table by their ends, in its slices.
use Rattle.std.specs.Prelude.{ℕ, ◌≤◌, ◌<◌, Bool, ◌&&◌, ◌||◌, List, [], ltb, eqb, length}
use Rattle.table.specs.Table.{item, of_slices}
use Rattle.table.specs.Legal.{After}

-- the links rise in their slices
pub record RisingSlices (links : ℕ) (lows highs : List ℕ) : Type 0 where
  pub in_lows : links ≤ length lows
  pub in_highs : links ≤ length highs
  pub ends : (i : ℕ) → i < links → item lows i < item highs i
  pub rising : (i j : ℕ) → i < j → j < links → After (of_slices 0 0 links [] lows highs []) i j

-- the ends of the link i come before the given ones in that order
abbrev pub earlier : List ℕ → List ℕ → ℕ → ℕ → ℕ → Bool
earlier lows highs low high i = ltb (item lows i) low || (eqb (item lows i) low && ltb (item highs i) high)
