-- Links that stand from dearest to cheapest.
use Rattle.std.specs.Prelude.{ℕ, ◌≤◌, ◌<◌, ◌≡◌, List, length}
use Rattle.table.specs.Table.{Table, item, dearer}
use Rattle.table.specs.Legal.{Ends, table_fault}
use Rattle.plan_theory.specs.Pass.{place}

-- the entry at each place k is the link with k dearer ones
abbrev pub FromDearest : Table → List ℕ → Type 0
FromDearest t order = (k : ℕ) → k < t.links → (item order k < t.links) × (place t.links (dearer t) (item order k) ≡ k)

-- a legal table with its links in this order
abbrev pub InOrder : Table → List ℕ → Type 0
InOrder t order = (table_fault 256 2048 t ≡ 0) × FromDearest t order

-- the links fit the slices, each entry of the order is a link, and each end of a link has a count and a need; `counts` and `needs` are lengths
pub record OrderFits (links counts needs : ℕ) (order lows highs : List ℕ) : Type 0 where
  pub few : links ≤ 2048
  pub in_order : links ≤ length order
  pub in_lows : links ≤ length lows
  pub in_highs : links ≤ length highs
  pub below : (k : ℕ) → k < links → item order k < links
  pub counted : (i : ℕ) → i < links → Ends counts (item lows i) (item highs i)
  pub needed : (i : ℕ) → i < links → item highs i < needs
