-- Invariant: the directions of the links from n on are in chains, and the other entries stay.
use Prim.Native.Nat.{ℕ, ◌*◌, ◌/◌, ◌<◌}
use mathlib.Core.Path.{◌≡◌}
use lib.ListN.{length}
use Rattle.plan_turns_search.specs.Record.{of_direction, mark}
use Rattle.plan_turns_search.specs.Chain.{ChainBelow, Directions, Falls}
use Rattle.plan_turns_search.proofs.Build.{key_bound}
use Rattle.plan_turns_search.proofs.chains.chain_links.Given as goal

abbrev pub invariant-loop-n : goal.invariant-loop-n
invariant-loop-n l =
    ((link_key source key : ℕ → ℕ) → Directions l.links l.lows l.highs link_key source key → Falls l.links link_key l.order → ChainBelow (length l.initial.marks / 4) (2 * l.links) source key (λ v. mark l.marks v l.k) (λ d. of_direction l.site d l.k) (key_bound l.links link_key l.order l.n))
    × ((v j : ℕ) → j < 4 → (j ≡ l.k → ⊥) → mark l.marks v j ≡ mark l.initial.marks v j) × ((d j : ℕ) → j < 4 → (j ≡ l.k → ⊥) → of_direction l.site d j ≡ of_direction l.initial.site d j)
