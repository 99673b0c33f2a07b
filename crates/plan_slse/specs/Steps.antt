-- One link's turn, on the plan's bytes and the counts of links by probe. The needs are as given: for the counts that are met here that says the same as the counted needs (laws `under_given`, `over_given`).
use Rattle.std.specs.Prelude.{ℕ, ◌+◌, ◌-◌, Bool, cond, ◌&&◌, ◌||◌, List, ltb}
use Rattle.table.specs.Table.{item}
use Rattle.range.specs.Lists.{changed_at}

-- at how many of two ends the entry of a is below that of b
abbrev pub ends_below : List ℕ → List ℕ → ℕ → ℕ → ℕ
ends_below a b low high = cond (ltb (item a low) (item b low)) 1 0 + cond (ltb (item a high) (item b high)) 1 0

-- an end has fewer links than it needs
abbrev pub either_below : List ℕ → List ℕ → ℕ → ℕ → Bool
either_below counts needs low high = ltb (item counts low) (item needs low) || ltb (item counts high) (item needs high)

-- both ends have more links than they need
abbrev pub both_over : List ℕ → List ℕ → ℕ → ℕ → Bool
both_over counts needs low high = ltb (item needs low) (item counts low) && ltb (item needs high) (item counts high)

-- one link more, or one less, at both ends
abbrev pub one_more : List ℕ → ℕ → ℕ → List ℕ
one_more counts low high = changed_at (λ n. n + 1) (changed_at (λ n. n + 1) counts low) high

abbrev pub one_less : List ℕ → ℕ → ℕ → List ℕ
one_less counts low high = changed_at (λ n. n - 1) (changed_at (λ n. n - 1) counts low) high
