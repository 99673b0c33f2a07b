-- Laws of the working bytes and of the site that the slices give.
use Prim.Native.Nat.{ℕ, ◌+◌, ◌-◌, ◌*◌, ◌/◌, ◌%◌, ◌≤◌, ◌<◌}
use mathlib.Core.Path.{◌≡◌, refl, sym, ◌∙◌, ap}
use mathlib.Core.Logic.{◌↔◌, ◌⊎◌, inl, inr}
use mathlib.Core.Bool.{true}
use mathlib.Core.List.{List}
use native.Mathlib.Omega.{arith}
use native.Mathlib.Decide.{ℕ_discrete}
use lib.Dec.{ltb, eqb}
use lib.ListN.{length, set, length-set}
use lib.Seq.{get_or-set_same, get_or-set_other}
use borrow.Author.Tests.{ltb-true, lt-ltb, eqb-true, eq-eqb, ne_eqb}
use Rattle.range.proofs.Bools.{same_bool}
use Rattle.range.proofs.Sums.{weigh_le, count_less}
use Rattle.table.specs.Table.{item}
use Rattle.plan_turns_search.specs.Chain.{opposite}
use Rattle.plan_turns_search.specs.Record.{at_source, at_target, probes_of, links_of, of_direction, target_of, source_of, key_of, site_of, put, untried_count, SiteInSlice, SiteOfLinks, Paired, OffersReady}
use Rattle.plan_turns_search.specs.Offers.{WouldTake, WouldRefuse}
use Rattle.plan_turns_search.proofs.Taking.{Distinct, not_taken, not_taken_count}

-- the other way
opposite_even : (d : ℕ) → d % 2 ≡ 0 → opposite d ≡ d + 1
unfolding opposite
opposite_even d e = rw (eq-eqb (d % 2) 0 e)

opposite_odd : (d : ℕ) → (d % 2 ≡ 0 → ⊥) → opposite d ≡ d - 1
unfolding opposite
opposite_odd d n = rw (ne_eqb (d % 2) 0 n)

opposite_from : (i : ℕ) → opposite (2 * i) ≡ 2 * i + 1
opposite_from i = opposite_even (2 * i) (omega arith)

opposite_back : (i : ℕ) → opposite (2 * i + 1) ≡ 2 * i
opposite_back i = opposite_odd (2 * i + 1) (λ z. omega arith) ∙ (let e : 2 * i + 1 - 1 ≡ 2 * i = omega arith in e)

pub opposite_half : (d : ℕ) → opposite d / 2 ≡ d / 2
opposite_half d = go (ℕ_discrete (d % 2) 0)
  where
    go : Dec (d % 2 ≡ 0) → opposite d / 2 ≡ d / 2
    go (yes e) = rw (opposite_even d e) (omega arith)
    go (no n) = rw (opposite_odd d n) (omega arith)

pub opposite_below : (links d : ℕ) → d < 2 * links → opposite d < 2 * links
opposite_below links d l = let a = opposite_half d in omega arith

opposite_twice : (d : ℕ) → opposite (opposite d) ≡ d
opposite_twice d = go (ℕ_discrete (d % 2) 0)
  where
    go : Dec (d % 2 ≡ 0) → opposite (opposite d) ≡ d
    go (yes e) = let h = opposite_even d e in let k = opposite_odd (opposite d) (λ z. omega arith) in omega arith
    go (no n) = let h = opposite_odd d n in let k = opposite_even (opposite d) (omega arith) in omega arith

-- a link's two directions
same_link : (f g : ℕ) → f / 2 ≡ g / 2 → (f ≡ g) ⊎ (f ≡ opposite g)
same_link f g e = go (ℕ_discrete (g % 2) 0) (ℕ_discrete f g)
  where
    go : Dec (g % 2 ≡ 0) → Dec (f ≡ g) → (f ≡ g) ⊎ (f ≡ opposite g)
    go x (yes q) = inl q
    go (yes x) (no n) = inr (let h = opposite_even g x in omega (arith, n))
    go (no x) (no n) = inr (let h = opposite_odd g x in omega (arith, n))

pub opposite_source : (slice : List ℕ) (d : ℕ) → source_of slice (opposite d) ≡ target_of slice d
opposite_source slice d = ap (target_of slice) (opposite_twice d)

pub opposite_target : (slice : List ℕ) (d : ℕ) → target_of slice (opposite d) ≡ source_of slice d
opposite_target slice d = refl

same_test : (a b c d : ℕ) → (a < b → c < d) → (c < d → a < b) → ltb a b ≡ ltb c d
same_test a b c d f g = same_bool (ltb a b) (ltb c d) (λ e. lt-ltb c d (f (ltb-true a b e))) (λ e. lt-ltb a b (g (ltb-true c d e)))

-- the order of the keys, at unequal and at equal costs
module _ (slice : List ℕ) (f d : ℕ) (lf : f < 131072) (ld : d < 131072) where
  pub key_by_cost : (of_direction slice f 1 ≡ of_direction slice d 1 → ⊥) → ltb (key_of slice f) (key_of slice d) ≡ ltb (of_direction slice f 1) (of_direction slice d 1)
  unfolding key_of
  key_by_cost n =
      same_test (of_direction slice f 1 * 65536 + f / 2) (of_direction slice d 1 * 65536 + d / 2) (of_direction slice f 1) (of_direction slice d 1) (λ a. omega (arith, n)) (λ a. omega arith)

  pub key_by_place : of_direction slice f 1 ≡ of_direction slice d 1 → ltb (key_of slice f) (key_of slice d) ≡ ltb (f / 2) (d / 2)
  unfolding key_of
  key_by_place e =
      same_test (of_direction slice f 1 * 65536 + f / 2) (of_direction slice d 1 * 65536 + d / 2) (f / 2) (d / 2) (λ a. omega arith) (λ a. omega arith)

pub length_put : (r : List ℕ) (d b : ℕ) → length (put r d b) ≡ length r
unfolding put
length_put r d b = simp length-set

-- both bytes of d stored
module _ (r : List ℕ) (d b : ℕ) (fits : 2 * d + 1 < length r) where
  pub put_here : at_source (put r d b) d ≡ b
  unfolding put
  put_here =
      get_or-set_other (set r (2 * d) b) (2 * d + 1) (2 * d) b 0 (λ z. omega arith) ∙ get_or-set_same r (2 * d) b 0 (omega arith)

  in_here : at_target (put r d b) d ≡ b
  unfolding put
  in_here = get_or-set_same (set r (2 * d) b) (2 * d + 1) b 0 (simp length-set fits)

  pub put_other : (e : ℕ) → (e ≡ d → ⊥) → at_source (put r d b) e ≡ at_source r e
  unfolding put
  put_other e n =
      get_or-set_other (set r (2 * d) b) (2 * d + 1) (2 * e) b 0 (λ z. omega arith)
      ∙ get_or-set_other r (2 * d) (2 * e) b 0 (λ z. n (omega arith))

  in_other : (e : ℕ) → (e ≡ d → ⊥) → at_target (put r d b) e ≡ at_target r e
  unfolding put
  in_other e n =
      get_or-set_other (set r (2 * d) b) (2 * d + 1) (2 * e + 1) b 0 (λ z. n (omega arith))
      ∙ get_or-set_other r (2 * d) (2 * e + 1) b 0 (λ z. omega arith)

  pub put_paired : (links : ℕ) → Paired links r → Paired links (put r d b)
  put_paired links p = record { room = let a = length_put r d b in let k = p.room in omega arith; twin = λ e. twin e (ℕ_discrete e d) }
    where
      twin : (e : ℕ) → Dec (e ≡ d) → at_target (put r d b) e ≡ at_source (put r d b) e
      twin e (yes q) = rw q (in_here ∙ sym put_here)
      twin e (no n) = in_other e n ∙ p.twin e ∙ sym (put_other e n)

-- the count of untried offers
module _ (links : ℕ) (r r' : List ℕ) (tried : (e : ℕ) → at_source r' e ≡ 0 → at_source r e ≡ 0) where
  zero_was : (e : ℕ) → e < 2 * links → eqb (at_source r' e) 0 ≡ true → eqb (at_source r e) 0 ≡ true
  zero_was e l z = eq-eqb (at_source r e) 0 (tried e (eqb-true (at_source r' e) 0 z))

  pub untried_most : untried_count links r' ≤ untried_count links r
  untried_most = weigh_le (2 * links) (λ d. eqb (at_source r' d) 0) (λ d. eqb (at_source r d) 0) (λ d. 1) zero_was

  pub untried_less : (d : ℕ) → d < 2 * links → at_source r d ≡ 0 → (at_source r' d ≡ 0 → ⊥) → untried_count links r' < untried_count links r
  untried_less d l z n =
      count_less (2 * links) (λ e. eqb (at_source r' e) 0) (λ e. eqb (at_source r e) 0) d zero_was l (ne_eqb (at_source r' d) 0 n) (eq-eqb (at_source r d) 0 z)

-- the sources of a link's directions
module _ (probes links : ℕ) (lows highs costs spares slice : List ℕ) (k : SiteOfLinks probes links lows highs costs spares slice) where
  pub source_from : (i : ℕ) → i < links → source_of slice (2 * i) ≡ item lows i
  source_from i l = ap (target_of slice) (opposite_from i) ∙ (k.targets i l).1

  pub source_back : (i : ℕ) → i < links → source_of slice (2 * i + 1) ≡ item highs i
  source_back i l = ap (target_of slice) (opposite_back i) ∙ (k.targets i l).0

module _ (slice : List ℕ) (fits : SiteInSlice slice) where
  pub opposite_key : (d : ℕ) → d < 2 * links_of slice → key_of slice (opposite d) ≡ key_of slice d
  unfolding key_of
  opposite_key d l = let a = fits.one_cost d l in let b = opposite_half d in omega arith

  -- one key: one link
  one_link : (f g : ℕ) → f < 2 * links_of slice → g < 2 * links_of slice → key_of slice f ≡ key_of slice g → (f ≡ g) ⊎ (f ≡ opposite g)
  unfolding key_of
  one_link f g lf lg e = same_link f g (let a = fits.few in omega arith)

  pub distinct : Distinct (site_of slice)
  distinct =
      record {
        sources = λ f g lf lg e k. source f g lg e (one_link f g lf lg k);
        targets = λ f g lf lg e k. target f g lg e (one_link f g lf lg k);
      }
    where
      source : (f g : ℕ) → g < 2 * links_of slice → source_of slice f ≡ source_of slice g → (f ≡ g) ⊎ (f ≡ opposite g) → f ≡ g
      source f g lg e (inl q) = q
      source f g lg e (inr q) = absurd (fits.apart g lg (sym (opposite_source slice g) ∙ ap (source_of slice) (sym q) ∙ e))

      target : (f g : ℕ) → g < 2 * links_of slice → target_of slice f ≡ target_of slice g → (f ≡ g) ⊎ (f ≡ opposite g) → f ≡ g
      target f g lg e (inl q) = q
      target f g lg e (inr q) = absurd (fits.apart g lg (sym e ∙ ap (target_of slice) q))

  pub source_below : (d : ℕ) → d < 2 * links_of slice → source_of slice d < probes_of slice
  source_below d l = fits.ends (opposite d) (opposite_below (links_of slice) d l)

-- an untried offer would not be taken exactly when its target holds its spare of dearer ones
pub would_refuse : (x r : List ℕ) → OffersReady x r → (d : ℕ) → d < 2 * links_of x → at_source r d ≡ 0
    → WouldRefuse (site_of x) (at_source r) d ↔ (WouldTake (site_of x) (at_source r) d → ⊥)
would_refuse x r ready d l z = (
  not_taken (site_of x) (at_source r) ready.inv.holding d,
  not_taken_count (site_of x) (at_source r) ready.inv.holding d (distinct x ready.fits) l z,
)
