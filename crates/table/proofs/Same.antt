-- The checks of two tables that agree on their own entries.
use Prim.Native.Nat.{ℕ, ◌-◌, ◌<◌}
use mathlib.Core.Path.{◌≡◌}
use mathlib.Core.Bool.{cond, ◌||◌}
use native.Mathlib.Omega.{arith}
use native.Mathlib.Decide.{ℕ_discrete}
use lib.Dec.{eqb}
use borrow.Author.Tests.{eq-eqb, ne_eqb}
use Rattle.range.specs.First.{first}
use Rattle.range.specs.Sum.{count}
use Rattle.range.proofs.Faults.{first_same, or_same}
use Rattle.range.proofs.Sums.{sum_same}
use Rattle.table.specs.Table.{Table}
use Rattle.table.specs.Legal.{size_fault, link_fault, table_fault}
use Rattle.table.specs.Same.{Same}

module _ (links : ℕ) (low low' high high' : ℕ → ℕ) (lows : (i : ℕ) → i < links → low i ≡ low' i) (highs : (i : ℕ) → i < links → high i ≡ high' i) where
  link_same : (probes i : ℕ) → i < links → link_fault probes low high i ≡ link_fault probes low' high' i
  unfolding link_fault
  link_same probes i l = go (ℕ_discrete i 0)
    where
      go : Dec (i ≡ 0) → link_fault probes low high i ≡ link_fault probes low' high' i
      go (yes z) = rw (lows i l, highs i l, eq-eqb i 0 z)
      go (no n) = rw (lows i l, highs i l, ne_eqb i 0 n, lows (i - 1) (omega arith), highs (i - 1) (omega arith))

  pub links_same : (probes : ℕ) → first (link_fault probes low high) links ≡ first (link_fault probes low' high') links
  links_same probes = first_same (link_fault probes low high) (link_fault probes low' high') links (link_same probes)

  pub degree_same : (v : ℕ) → count links (λ i. eqb v (low i) || eqb v (high i)) ≡ count links (λ i. eqb v (low' i) || eqb v (high' i))
  degree_same v =
      sum_same links (λ i. cond (eqb v (low i) || eqb v (high i)) 1 0) (λ i. cond (eqb v (low' i) || eqb v (high' i)) 1 0)
      (λ i l. rw (lows i l, highs i l))

module _ (t u : Table) (e : Same t u) where
  pub same_fault : (pmax lmax : ℕ) → table_fault pmax lmax t ≡ table_fault pmax lmax u
  same_fault pmax lmax = or_same size links
    where
      size : size_fault pmax lmax t.probes t.links ≡ size_fault pmax lmax u.probes u.links
      size = rw (e.probes, e.links)

      links : first (link_fault t.probes t.low t.high) t.links ≡ first (link_fault u.probes u.low u.high) u.links
      links = rw (← e.probes, ← e.links) (links_same t.links t.low u.low t.high u.high e.low e.high t.probes)
