-- A probe's own links, one after the other.
use Prim.Native.Nat.{ℕ, ◌+◌, ◌-◌, ◌≤◌, ◌<◌}
use mathlib.Core.Path.{◌≡◌, sym, ◌∙◌, ap}
use mathlib.Core.Bool.{Bool, true, false}
use native.Mathlib.Omega.{arith}
use Rattle.range.proofs.Choice.{lowest_is, is_lowest}
use Rattle.table.specs.Table.{Table, touches}
use Rattle.table_links.specs.Own.{next_own}

module _ (t : Table) (v from : ℕ) (l : from ≤ t.links) where
  abbrev shifted : ℕ → Bool
  shifted k = touches t v (from + k)

  -- k is the first own link from `from` on
  pub record Next (k : ℕ) : Type 0 where
    pub behind : from ≤ k
    pub within : k ≤ t.links
    pub inside : k < t.links → touches t v k ≡ true
    pub before : (j : ℕ) → from ≤ j → j < k → touches t v j ≡ false

  from_here : (j : ℕ) → from ≤ j → touches t v j ≡ shifted (j - from)
  from_here j m = ap (touches t v) (let e : j ≡ from + (j - from) = omega arith in e)

  pub next_own_is : Next (next_own t v from)
  next_own_is =
      let h = lowest_is shifted (t.links - from) in
      let w = h.within in
      record {
        behind = omega arith;
        within = omega arith;
        inside = λ m. h.inside (omega arith);
        before = λ j m n. from_here j m ∙ h.before (j - from) (omega arith);
      }

  pub is_next_own : (k : ℕ) → Next k → k ≡ next_own t v from
  is_next_own k h =
      let b = h.behind in
      let w = h.within in
      let e = is_lowest shifted (t.links - from) (k - from) (record { within = omega arith; inside = λ m. sym (from_here k b) ∙ h.inside (omega arith); before = λ j m. h.before (from + j) (omega arith) (omega arith) }) in
      omega arith
