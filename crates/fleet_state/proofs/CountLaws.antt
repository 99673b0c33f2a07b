-- The counts of a fleet's record: each probe's offers standing, those that it holds, its untried links.
use Prim.Native.Nat.{ℕ, ◌*◌, ◌<◌}
use mathlib.Core.Path.{◌≡◌}
use mathlib.Core.List.{List}
use native.Mathlib.Nat.{add-zero}
use native.Mathlib.Decide.{ℕ_discrete}
use borrow.Author.Tests.{eq-eqb, ne_eqb}
use Rattle.range.specs.Sum.{count}
use Rattle.range.proofs.Sums.{weigh_same}
use Rattle.table.specs.Table.{Table}
use Rattle.probe_record.specs.Record.{outbound, inbound, own_with, held}
use Rattle.fleet_theory.specs.Fleet.{own}
use Rattle.fleet_state.specs.Within.{end_with}
use Rattle.fleet_theory.proofs.Own.{out_is, in_is}

module _ (low high : ℕ → ℕ) (r : List ℕ) (k m value : ℕ) where
  -- how many of the first i links count at v
  abbrev pub counted_at : ℕ → ℕ → ℕ
  counted_at i v = count i (end_with low high r k m value v)

-- a probe's own bytes with a value
module _ (t : Table) (r : List ℕ) (value v i : ℕ) (l : i < t.links) where
  out_counted : end_with t.low t.high r 0 2 value v i ≡ own_with t v (outbound (own t v r)) value i
  out_counted = go (ℕ_discrete v (t.low i)) (ℕ_discrete v (t.high i))
    where
      go : Dec (v ≡ t.low i) → Dec (v ≡ t.high i) → end_with t.low t.high r 0 2 value v i ≡ own_with t v (outbound (own t v r)) value i
      go (yes a) d = rw (out_is t v r i l, eq-eqb v (t.low i) a, add-zero (8 * i))
      go (no a) (yes b) = rw (out_is t v r i l, ne_eqb v (t.low i) a, eq-eqb v (t.high i) b)
      go (no a) (no b) = rw (ne_eqb v (t.low i) a, ne_eqb v (t.high i) b)

  in_counted : end_with t.low t.high r 3 1 value v i ≡ own_with t v (inbound (own t v r)) value i
  in_counted = go (ℕ_discrete v (t.low i)) (ℕ_discrete v (t.high i))
    where
      go : Dec (v ≡ t.low i) → Dec (v ≡ t.high i) → end_with t.low t.high r 3 1 value v i ≡ own_with t v (inbound (own t v r)) value i
      go (yes a) d = rw (in_is t v r i l, eq-eqb v (t.low i) a)
      go (no a) (yes b) = rw (in_is t v r i l, ne_eqb v (t.low i) a, eq-eqb v (t.high i) b)
      go (no a) (no b) = rw (ne_eqb v (t.low i) a, ne_eqb v (t.high i) b)

module _ (t : Table) (r : List ℕ) (v : ℕ) where
  pub outs_counted : (value : ℕ) → counted_at t.low t.high r 0 2 value t.links v ≡ count t.links (own_with t v (outbound (own t v r)) value)
  outs_counted value =
      weigh_same t.links (end_with t.low t.high r 0 2 value v) (own_with t v (outbound (own t v r)) value) (λ i. 1) (out_counted t r value v)

  pub held_counted : counted_at t.low t.high r 3 1 1 t.links v ≡ held t v (own t v r)
  held_counted = weigh_same t.links (end_with t.low t.high r 3 1 1 v) (own_with t v (inbound (own t v r)) 1) (λ i. 1) (in_counted t r 1 v)
