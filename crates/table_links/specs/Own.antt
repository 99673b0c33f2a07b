-- A probe's own links in a table's slices.
use Rattle.std.specs.Prelude.{ℕ, ◌+◌, ◌-◌}
use Rattle.range.specs.Choice.{lowest}
use Rattle.table.specs.Table.{Table, touches}

-- its first link from a place on, or the number of links
abbrev pub next_own : Table → ℕ → ℕ → ℕ
next_own t v from = from + lowest (λ k. touches t v (from + k)) (t.links - from)
