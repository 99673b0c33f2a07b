-- The pass over the links, from each own link of the end to the next.
use Prim.Native.Nat.{ℕ, zero, suc, ◌+◌, ◌-◌, ◌≤◌, ◌<◌}
use mathlib.Core.Path.{◌≡◌, refl, sym, ◌∙◌, ap}
use mathlib.Core.Logic.{◌⊎◌, inl, inr}
use mathlib.Core.Bool.{Bool, true, false, cond, ◌&&◌}
use mathlib.Core.List.{List, []}
use native.Mathlib.Omega.{arith}
use lib.Dec.{eqb}
use Rattle.range.specs.Sum.{sum, count}
use Rattle.range.specs.Choice.{best}
use Rattle.range.proofs.Bools.{decided}
use Rattle.range.proofs.Choice.{Found, found_start, found_skip, found_new, found_old}
use Rattle.range.proofs.Sums.{count_hit, count_miss}
use Rattle.table.specs.Table.{Table, of_slices, touches, dearer}
use Rattle.table_links.proofs.Own.{Next}
use Rattle.probe_record.specs.Record.{own_with}
use Rattle.fleet_theory.specs.Fleet.{own}
use Rattle.fleet_rules.specs.declared.Side.{Side}
use Rattle.fleet_rules.specs.Sides.{wanted, side_byte, side_better}
use Rattle.fleet_rules.specs.Survey.{Surveyed}
use Rattle.fleet_rules.specs.declared.Survey.{Survey}

pub one_most : (c : Bool) → cond c 1 0 ≤ 1
one_most true = omega arith
one_most false = omega arith

module _ (t : Table) (p : ℕ) (byte : ℕ → ℕ) (better : ℕ → ℕ → Bool) (value : ℕ) where
  -- what is found among the first i links
  pub record Passing (i : ℕ) (s : Survey) : Type 0 where
    pub ones : s.count ≡ count i (own_with t p byte 1)
    pub found : Found better (own_with t p byte value) t.links i s.best
    pub few_ones : s.count ≤ i

  pub passing_start : Passing 0 (record { count = 0; best = t.links })
  unfolding sum
  passing_start = record { ones = refl; found = found_start better (own_with t p byte value) t.links; few_ones = omega arith }

  -- another probe's link
  passing_skip : (i : ℕ) (s : Survey) → touches t p i ≡ false → Passing i s → Passing (i + 1) s
  passing_skip i s e g =
      record {
        ones = g.ones ∙ sym (count_miss (own_with t p byte 1) i (rw e));
        found = found_skip better (own_with t p byte value) t.links i s.best (rw e) g.found;
        few_ones = let k = g.few_ones in omega arith;
      }

  -- n links of other probes
  passing_on : (i n : ℕ) (s : Survey) → ((j : ℕ) → i ≤ j → j < i + n → touches t p j ≡ false) → Passing i s → Passing (i + n) s
  passing_on i zero s e g = let same : i + 0 ≡ i = omega arith in rw same g
  passing_on i (suc n) s e g =
      let next : i + suc n ≡ (i + n) + 1 = omega arith in
      rw next (passing_skip (i + n) s (e (i + n) (omega arith) (omega arith)) (passing_on i n s (λ j l m. e j l (omega arith)) g))

  -- up to the next own link
  pub passing_next : (i k : ℕ) (s : Survey) (l : i ≤ t.links) → Next t p i l k → Passing i s → Passing k s
  passing_next i k s l n g =
      let b = n.behind in
      let same : i + (k - i) ≡ k = omega arith in
      rw (← same) (passing_on i (k - i) s (λ j m q. n.before j m (omega arith)) g)

  -- an own link; `test` says whether it goes before the best so far
  module _ (i : ℕ) (s : Survey) (l : i < t.links) (own : touches t p i ≡ true) (b : ℕ) (is : byte i ≡ b) (test : Bool)
      (before : test ≡ true → s.best < i → better i s.best ≡ true) (behind : test ≡ false → (s.best < t.links) × (better i s.best ≡ false)) (g : Passing i s) where
    own_value : (v : ℕ) → own_with t p byte v i ≡ eqb b v
    own_value v = rw (own, is)

    ones_next : s.count + cond (eqb b 1) 1 0 ≡ count (i + 1) (own_with t p byte 1)
    ones_next = go (decided (eqb b 1))
      where
        go : (eqb b 1 ≡ true) ⊎ (eqb b 1 ≡ false) → s.count + cond (eqb b 1) 1 0 ≡ count (i + 1) (own_with t p byte 1)
        go (inl e) = let h = count_hit (own_with t p byte 1) i (own_value 1 ∙ e) in let o = g.ones in rw e (omega arith)
        go (inr e) = let h = count_miss (own_with t p byte 1) i (own_value 1 ∙ e) in let o = g.ones in rw e (omega arith)

    found_next : Found better (own_with t p byte value) t.links (i + 1) (cond (eqb b value && test) i s.best)
    found_next = go (decided (eqb b value)) (decided test)
      where
        go : (eqb b value ≡ true) ⊎ (eqb b value ≡ false) → (test ≡ true) ⊎ (test ≡ false)
            → Found better (own_with t p byte value) t.links (i + 1) (cond (eqb b value && test) i s.best)
        go (inl e) (inl f) = rw (e, f) (found_new better (own_with t p byte value) t.links i s.best l (own_value value ∙ e) (before f) g.found)
        go (inl e) (inr f) = let h = behind f in rw (e, f) (found_old better (own_with t p byte value) t.links i s.best (own_value value ∙ e) h.0 h.1 g.found)
        go (inr e) f = rw e (found_skip better (own_with t p byte value) t.links i s.best (own_value value ∙ e) g.found)

    pub passing_own : (ones chosen : ℕ) → ones ≡ s.count + cond (eqb b 1) 1 0 → chosen ≡ cond (eqb b value && test) i s.best
        → Passing (i + 1) (record { count = ones; best = chosen })
    passing_own ones chosen o e =
        let m = g.few_ones in
        let w = one_most (eqb b 1) in
        record { ones = o ∙ ones_next; found = rw e found_next; few_ones = omega arith }

  pub passing_all : (i : ℕ) (s : Survey) → i ≡ t.links → Passing i s → Surveyed t p byte better value t.links s
  passing_all i s e g =
      record {
        ones = g.ones ∙ ap (λ (n : ℕ). count n (own_with t p byte 1)) e;
        chosen = g.found.is ∙ ap (best better (own_with t p byte value) t.links) e;
      }

-- what a pass tells does not hang on the number, the probe count and the needs
pub surveyed_same : (side : Side) (number probes links : ℕ) (needs lows highs costs : List ℕ) (p : ℕ) (r : List ℕ) (s : Survey)
    → (let t = of_slices 0 0 links [] lows highs costs in Surveyed t p (side_byte side (own t p r)) (side_better side t) (wanted side) links s)
    → (let t = of_slices number probes links needs lows highs costs in Surveyed t p (side_byte side (own t p r)) (side_better side t) (wanted side) links s)
unfolding dearer own
surveyed_same side number probes links needs lows highs costs p r s g = record { ones = g.ones; chosen = g.chosen }
