-- When a fleet is finished, by its counts and its bytes.
use Prim.Native.Nat.{ℕ, zero, suc, ◌+◌, ◌*◌, ◌-◌, ◌≤◌, ◌<◌}
use mathlib.Core.Path.{◌≡◌, sym, ◌∙◌, ap}
use mathlib.Core.Logic.{◌⊎◌, inl, inr}
use mathlib.Core.Bool.{Bool, true, false, cond, ◌&&◌, ◌||◌, true≢false, and-false, and-true}
use mathlib.Core.List.{List}
use native.Mathlib.Nat.{add-zero}
use native.Mathlib.Omega.{arith}
use native.Mathlib.Decide.{ℕ_discrete}
use lib.Dec.{ltb, eqb}
use borrow.Author.Tests.{lt-ltb, le-ltb, eq-eqb, ne_eqb}
use Rattle.range.specs.Sum.{sum, count}
use Rattle.range.specs.Choice.{best}
use Rattle.range.proofs.Bools.{decided}
use Rattle.range.proofs.Sums.{weigh_same, count_none}
use Rattle.table.specs.Table.{Table, item, degree, dearer}
use Rattle.table.specs.Legal.{Legal}
use Rattle.table.proofs.LegalLaws.{legal_table}
use Rattle.table.proofs.Needs.{spare_given}
use Rattle.probe_record.specs.Record.{outbound, own_with}
use Rattle.fleet_theory.specs.Fleet.{own, would_open, alters, finished, may_alter}
use Rattle.fleet_theory.proofs.Bytes.{first_byte, second_byte, third_byte, fourth_byte}
use Rattle.fleet_finishing.specs.Opening.{may_open}
use Rattle.fleet_state.proofs.CountLaws.{counted_at, outs_counted}

-- a set with a member is not empty
pub some_counted : (n : ℕ) (p : ℕ → Bool) (i : ℕ) → i < n → p i ≡ true → false ≡ eqb (count n p) 0
some_counted n p i l e = sym (ne_eqb (count n p) 0 (λ z. true≢false (sym e ∙ count_none n p z i l)))

-- the best of a set is a number below n₀ exactly when the set has a member
module _ (better : ℕ → ℕ → Bool) (p : ℕ → Bool) (n₀ : ℕ) where
  best_most : (n : ℕ) → n ≤ n₀ → best better p n₀ n ≤ n₀
  unfolding best
  best_most zero l = omega arith
  best_most (suc n) l = go (p n) (best better p n₀ n) (eqb (best better p n₀ n) n₀ || better n (best better p n₀ n)) (best_most n (omega arith))
    where
      go : (x : Bool) (b : ℕ) (y : Bool) → b ≤ n₀ → cond x (cond y n b) b ≤ n₀
      go true b true h = omega arith
      go true b false h = h
      go false b y h = h

  best_some : (n : ℕ) → n ≤ n₀ → ltb (best better p n₀ n) n₀ ≡ ltb 0 (count n p)
  unfolding best sum
  best_some zero l = rw (le-ltb n₀ n₀ (omega arith))
  best_some (suc n) l = go (decided (p n)) (best_some n (omega arith))
    where
      b : ℕ
      b = best better p n₀ n

      below : cond (eqb b n₀ || better n b) n b < n₀
      below = pick (ℕ_discrete b n₀) (decided (better n b))
        where
          pick : Dec (b ≡ n₀) → (better n b ≡ true) ⊎ (better n b ≡ false) → cond (eqb b n₀ || better n b) n b < n₀
          pick (yes e) d = rw (eq-eqb b n₀ e) (omega arith)
          pick (no e) (inl d) = rw (ne_eqb b n₀ e, d) (omega arith)
          pick (no e) (inr d) = let m = best_most n (omega arith) in rw (ne_eqb b n₀ e, d) (omega arith)

      go : (p n ≡ true) ⊎ (p n ≡ false) → ltb b n₀ ≡ ltb 0 (count n p)
          → ltb (cond (p n) (cond (eqb b n₀ || better n b) n b) b) n₀ ≡ ltb 0 (count n p + cond (p n) 1 0)
      go (inl e) h = rw (e, lt-ltb (cond (eqb b n₀ || better n b) n b) n₀ below) (sym (lt-ltb 0 (count n p + 1) (omega arith)))
      go (inr e) h = rw e (h ∙ ap (ltb 0) (sym (add-zero (count n p))))

-- a frame that may be sent on the link i would alter a byte, by its four bytes
abbrev pub alters_of : List ℕ → ℕ → Bool
alters_of r i = may_alter (item r (8 * i)) (item r (8 * i + 1)) || may_alter (item r (8 * i + 2)) (item r (8 * i + 3))

module _ (t : Table) (r : List ℕ) where
  -- an opening of v would open a link, by its counts
  pub open_counted : (v d s u : ℕ) → d ≡ degree t v → s ≡ counted_at t.low t.high r 0 2 1 t.links v → u ≡ counted_at t.low t.high r 0 2 0 t.links v
      → may_open s (d - t.need v) u ≡ would_open t r v
  open_counted v d s u ed es eu =
      rw (ed, spare_given t v, es ∙ outs_counted t r v 1, eu ∙ outs_counted t r v 0, best_some (dearer t) (own_with t v (outbound (own t v r)) 0) t.links t.links (omega arith))

  alters_at : Legal t → (i : ℕ) → i < t.links → alters_of r i ≡ (alters t r (t.low i) (t.high i) i || alters t r (t.high i) (t.low i) i)
  alters_at legal i l =
      let s = legal_table 256 2048 t legal in
      rw (first_byte t s r i l, second_byte t s r i l, third_byte t s r i l, fourth_byte t s r i l)

  pub finished_is : Legal t → finished t r ≡ (eqb (count t.probes (would_open t r)) 0 && eqb (count t.links (alters_of r)) 0)
  unfolding finished
  finished_is legal =
      rw (weigh_same t.links (alters_of r) (λ i. alters t r (t.low i) (t.high i) i || alters t r (t.high i) (t.low i) i) (λ i. 1) (alters_at legal))

  pub not_finished : Legal t → (b : Bool) → b ≡ eqb (count t.links (alters_of r)) 0 → b ≡ false → false ≡ finished t r
  not_finished legal b e z =
      sym (finished_is legal ∙ rw (sym e ∙ z) (and-false (eqb (count t.probes (would_open t r)) 0)))

  pub finished_counted : Legal t → (b d : Bool) → b ≡ eqb (count t.links (alters_of r)) 0 → b ≡ true → d ≡ eqb (count t.probes (would_open t r)) 0 → d ≡ finished t r
  finished_counted legal b d e z f = f ∙ sym (finished_is legal ∙ rw (sym e ∙ z) (and-true (eqb (count t.probes (would_open t r)) 0)))
