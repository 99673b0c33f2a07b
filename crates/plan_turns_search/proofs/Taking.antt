-- An end takes an offer: document 01's sentence, and the count of dearer ones that it holds, say the same of an untried offer.
use Prim.Native.Nat.{ℕ, ◌≤◌, ◌<◌}
use mathlib.Core.Path.{◌≡◌, sym, ◌∙◌, ap}
use mathlib.Core.Logic.{inl, inr}
use mathlib.Core.Bool.{Bool, true, false, ◌&&◌, true≢false}
use native.Mathlib.Omega.{arith}
use native.Mathlib.Decide.{dec_le, dec_lt}
use lib.Dec.{ltb, eqb}
use borrow.Author.Tests.{ltb-true, ltb-false, lt-ltb, le-ltb, eqb-true, eq-eqb}
use Rattle.range.specs.Choice.{best}
use Rattle.range.proofs.Bools.{and_left, and_right, and_intro}
use Rattle.range.proofs.Choice.{Best, nobody, chosen, best_is}
use Rattle.range.proofs.Counts.{member_outside}
use Rattle.range.proofs.Sums.{weigh_le, count_less}
use Rattle.plan_turns_search.specs.Offers.{Site, holds, dearer_at_target, dearer_held, WouldTake, WouldRefuse}

-- equal source, or target, and equal key: one direction
pub record Distinct (s : Site) : Type 0 where
  pub sources : (f g : ℕ) → f < s.dirs → g < s.dirs → s.source f ≡ s.source g → s.key f ≡ s.key g → f ≡ g
  pub targets : (f g : ℕ) → f < s.dirs → g < s.dirs → s.target f ≡ s.target g → s.key f ≡ s.key g → f ≡ g

-- no end holds more than its spare
module _ (s : Site) (o : ℕ → ℕ) (holding : (v : ℕ) → holds s o v ≤ s.spare v) (d : ℕ) where
  -- held at the target of d, and dearer than d besides
  abbrev held_there : ℕ → Bool
  held_there f = eqb (s.target f) (s.target d) && eqb (o f) 1

  abbrev dearer_there : ℕ → Bool
  dearer_there f = dearer_at_target s d f && eqb (o f) 1

  dearer_held_lem : (f : ℕ) → dearer_there f ≡ true → held_there f ≡ true
  dearer_held_lem f h =
      let at = eqb (s.target f) (s.target d) in
      let more = ltb (s.key d) (s.key f) in
      and_intro (and_left at more (and_left (at && more) (eqb (o f) 1) h)) (and_right (at && more) (eqb (o f) 1) h)

  pub taken_few : WouldTake s o d → dearer_held s o d < s.spare (s.target d)
  taken_few (inl free) = let a = weigh_le s.dirs dearer_there held_there (λ f. 1) (λ f l. dearer_held_lem f) in omega arith
  taken_few (inr (c, low, less)) =
      let at = eq-eqb (s.target c) (s.target d) low.own in
      let a = count_less s.dirs dearer_there held_there c (λ f l. dearer_held_lem f) low.below (rw (at, le-ltb (s.key d) (s.key c) (omega arith))) (and_intro at (eq-eqb (o c) 1 low.held)) in
      let b = holding (s.target d) in
      omega arith

  pub not_taken : WouldRefuse s o d → WouldTake s o d → ⊥
  not_taken many take = let a = taken_few take in omega arith

  module _ (laws : Distinct s) (l : d < s.dirs) (untried : o d ≡ 0) where
    abbrev cheaper_one : ℕ → ℕ → Bool
    cheaper_one f g = ltb (s.key f) (s.key g)

    -- f is held there and not dearer: then the cheapest held is cheaper than d
    dearer_taken : (f : ℕ) → f < s.dirs → held_there f ≡ true → dearer_there f ≡ false → (c : ℕ) → Best cheaper_one held_there s.dirs s.dirs c → WouldTake s o d
    dearer_taken f lf h n c (nobody e none) = absurd (true≢false (sym h ∙ none f lf))
    dearer_taken f lf h n c (chosen lc hc least) =
        inr (c, record { below = lc; own = at c hc; held = byte c hc; least = λ g lg own e. ltb-false (s.key g) (s.key c) (least g lg (and_intro (eq-eqb (s.target g) (s.target d) own) (eq-eqb (o g) 1 e))) }, cheaper)
      where
        at : (g : ℕ) → held_there g ≡ true → s.target g ≡ s.target d
        at g e = eqb-true (s.target g) (s.target d) (and_left (eqb (s.target g) (s.target d)) (eqb (o g) 1) e)

        byte : (g : ℕ) → held_there g ≡ true → o g ≡ 1
        byte g e = eqb-true (o g) 1 (and_right (eqb (s.target g) (s.target d)) (eqb (o g) 1) e)

        not_dearer : s.key f ≤ s.key d
        not_dearer = go (dec_lt (s.key d) (s.key f))
          where
            go : Dec (s.key d < s.key f) → s.key f ≤ s.key d
            go (yes m) =
                absurd (true≢false (sym (and_intro (and_intro (eq-eqb (s.target f) (s.target d) (at f h)) (lt-ltb (s.key d) (s.key f) m)) (eq-eqb (o f) 1 (byte f h))) ∙ n))
            go (no m) = omega arith

        cheaper : s.key c < s.key d
        cheaper = go (dec_lt (s.key f) (s.key d))
          where
            go : Dec (s.key f < s.key d) → s.key c < s.key d
            go (yes m) = let a = ltb-false (s.key f) (s.key c) (least f lf h) in omega arith
            go (no m) =
                let k = not_dearer in
                let q = ap o (laws.targets f d lf l (at f h) (omega arith)) in
                let b = byte f h in
                absurd (omega arith)

    pub few_taken : dearer_held s o d < s.spare (s.target d) → WouldTake s o d
    few_taken few = go (dec_lt (holds s o (s.target d)) (s.spare (s.target d)))
      where
        go : Dec (holds s o (s.target d) < s.spare (s.target d)) → WouldTake s o d
        go (yes free) = inl free
        go (no full) =
            let m = member_outside s.dirs dearer_there held_there (omega arith) in
            dearer_taken m.0 m.1 m.2 m.3 (best cheaper_one held_there s.dirs s.dirs)
            (best_is cheaper_one held_there s.dirs
            (λ i k. le-ltb (s.key i) (s.key i) (omega arith))
            (λ i j k li lj lk a b. let x = ltb-true (s.key i) (s.key j) a in let y = ltb-true (s.key j) (s.key k) b in lt-ltb (s.key i) (s.key k) (omega arith))
            s.dirs (omega arith))

    pub not_taken_count : (WouldTake s o d → ⊥) → WouldRefuse s o d
    not_taken_count n = go (dec_le (s.spare (s.target d)) (dearer_held s o d))
      where
        go : Dec (WouldRefuse s o d) → WouldRefuse s o d
        go (yes many) = many
        go (no few) = absurd (n (few_taken (omega arith)))
