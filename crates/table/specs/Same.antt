-- What two tables say of each other: that their own entries are the same; and that every number of a table fits four digits.
use Rattle.std.specs.Prelude.{ℕ, ◌<◌, ◌≡◌}
use Rattle.table.specs.Table.{Table}

-- every number of the table can be written in four digits
pub record FourDigits (t : Table) : Type 0 where
  pub number : t.number < 65536
  pub probes : t.probes < 65536
  pub links : t.links < 65536
  pub need : (v : ℕ) → v < t.probes → t.need v < 65536
  pub low : (i : ℕ) → i < t.links → t.low i < 65536
  pub high : (i : ℕ) → i < t.links → t.high i < 65536
  pub cost : (i : ℕ) → i < t.links → t.cost i < 65536

-- equal numbers, and equal entries for each probe and link that the table has
pub record Same (t u : Table) : Type 0 where
  pub number : t.number ≡ u.number
  pub probes : t.probes ≡ u.probes
  pub links : t.links ≡ u.links
  pub need : (v : ℕ) → v < t.probes → t.need v ≡ u.need v
  pub low : (i : ℕ) → i < t.links → t.low i ≡ u.low i
  pub high : (i : ℕ) → i < t.links → t.high i ≡ u.high i
  pub cost : (i : ℕ) → i < t.links → t.cost i ≡ u.cost i
