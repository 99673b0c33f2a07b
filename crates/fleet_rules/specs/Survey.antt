-- What one pass over the links tells of an end.
use Rattle.std.specs.Prelude.{ℕ, ◌≡◌, Bool}
use Rattle.range.specs.Sum.{count}
use Rattle.range.specs.Choice.{best}
use Rattle.table.specs.Table.{Table}
use Rattle.probe_record.specs.Record.{own_with}
use Rattle.fleet_rules.specs.declared.Survey.{Survey}

-- among the first n links: those of the probe p with the byte 1, and the best of its own with the value
pub record Surveyed (t : Table) (p : ℕ) (byte : ℕ → ℕ) (better : ℕ → ℕ → Bool) (value n : ℕ) (s : Survey) : Type 0 where
  pub ones : s.count ≡ count n (own_with t p byte 1)
  pub chosen : s.best ≡ best better (own_with t p byte value) t.links n
