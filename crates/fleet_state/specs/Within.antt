-- What the functions ask of their arguments, and what they count.
use Rattle.std.specs.Prelude.{ℕ, ◌+◌, ◌*◌, ◌≤◌, Bool, cond, ◌&&◌, List, [], eqb, length}
use Rattle.table.specs.Table.{item, of_slices}
use Rattle.table.specs.Legal.{Legal}

-- v is the low end of the link i, whose byte k has the value, or its high end, and byte m has it
abbrev pub end_with : (ℕ → ℕ) → (ℕ → ℕ) → List ℕ → ℕ → ℕ → ℕ → ℕ → ℕ → Bool
end_with low high r k m value v i =
    cond (eqb v (low i)) (eqb (item r (8 * i + k)) value) (eqb v (high i) && eqb (item r (8 * i + m)) value)

-- a legal table in slices that are long enough; costs do not bear on it
pub record LegalWithoutCosts (probes links : ℕ) (needs lows highs : List ℕ) : Type 0 where
  pub legal : Legal (of_slices 0 probes links needs lows highs [])
  pub in_lows : links ≤ length lows
  pub in_highs : links ≤ length highs
