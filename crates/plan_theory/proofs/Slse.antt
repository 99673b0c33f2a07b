-- S-LSE gives the plan: what it does not keep meets the plan's criterion.
use Prim.Native.Nat.{ℕ, ◌+◌, ◌-◌, ◌≤◌, ◌<◌}
use mathlib.Core.Path.{◌≡◌, refl, sym, ◌∙◌, ap}
use mathlib.Core.Logic.{◌⊎◌, inl, inr}
use mathlib.Core.Bool.{Bool, true, false, cond, ◌&&◌, ◌||◌, not, not-not, and-false, true≢false}
use native.Mathlib.Omega.{arith}
use native.Mathlib.Decide.{dec_lt}
use lib.Dec.{ltb}
use borrow.Author.Tests.{ltb-false, lt-ltb, eqb-true, not-true}
use Rattle.range.proofs.Bools.{and_left, and_right, and_intro, or_false_left, or_false_right, decided}
use Rattle.range.proofs.Sums.{sum_same, sum_add, weigh_le, member}
use Rattle.table.specs.Table.{Table, touches, degree, counted_need, dearer, cheaper}
use Rattle.plan_theory.specs.Plan.{links_at, has_more, has_fewer, added, has_more_added, removed, slse, kept}
use Rattle.plan_theory.proofs.Places.{Order, reversed, Side, here, earlier, later, side, three}
use Rattle.plan_theory.proofs.Pass.{Solves, criterion}
use Rattle.plan_theory.proofs.Order.{dearer_order}
use Rattle.table.specs.Legal.{RisingLinks}
use Rattle.plan_theory.proofs.Plan.{at_same, at_end, touches_low, touches_high, both_more, only_by_rule}

-- One link in five sets: at the probe, added, removed, dearer, cheaper.
point : (at a r d u : Bool) → (r ≡ true → a ≡ true) → (a ≡ false → u ≡ not d)
    → cond at 1 0 + cond (at && (d && r)) 1 0 ≡ cond (at && a) 1 0 + (cond (at && (u && not a)) 1 0 + cond (at && (d && not (a && not r))) 1 0)
point false a r d u h k = omega arith
point true true true true u h k = rw (and-false u) (omega arith)
point true true true false u h k = rw (and-false u) (omega arith)
point true true false true u h k = rw (and-false u) (omega arith)
point true true false false u h k = rw (and-false u) (omega arith)
point true false true d u h k = absurd (true≢false (sym (h refl)))
point true false false true u h k = rw (k refl) (omega arith)
point true false false false u h k = rw (k refl) (omega arith)

and_move : (a b c d : Bool) → (c ≡ true → d ≡ true) → (a && (b && c)) ≡ true → (b && (a && d)) ≡ true
and_move true true c d h e = h e
and_move true false c d h e = e
and_move false b c d h e = absurd (true≢false (sym e))

module _ (t : Table) (rises : RisingLinks t) where
  abbrev order : Order t.links (dearer t)
  order = dearer_order t rises

  added_by : Solves t.links (cheaper t) (λ s g. has_fewer t s (t.low g) || has_fewer t s (t.high g)) (added t)
  unfolding added
  added_by =
      criterion t.links (cheaper t) (reversed order) (λ s g. has_fewer t s (t.low g) || has_fewer t s (t.high g))
      (λ r s h i. rw (at_same t r s h (t.low i), at_same t r s h (t.high i)))

  removed_by : Solves t.links (dearer t) (λ r g. added t g && (has_more_added t r (t.low g) && has_more_added t r (t.high g))) (removed t)
  unfolding removed
  removed_by =
      criterion t.links (dearer t) order (λ r g. added t g && (has_more_added t r (t.low g) && has_more_added t r (t.high g)))
      (λ r s h i. rw (at_same t r s h (t.low i), at_same t r s h (t.high i)))

  removed_added : (g : ℕ) → g < t.links → removed t g ≡ true → added t g ≡ true
  removed_added g l e =
      and_left (added t g) (has_more_added t (λ x. dearer t x g && removed t x) (t.low g) && has_more_added t (λ x. dearer t x g && removed t x) (t.high g))
      (sym (removed_by g l) ∙ e)

  -- not kept by S-LSE
  dropped : ℕ → Bool
  dropped g = not (slse t g)

  -- both ends of a link that is not added have as many added links as they need
  unadded : (f v : ℕ) → f < t.links → added t f ≡ false → touches t v f ≡ true → counted_need t v ≤ links_at t (λ g. dearer t f g && added t g) v
  unadded f v l e at =
      let low = has_fewer t (λ g. dearer t f g && added t g) (t.low f) in
      let high = has_fewer t (λ g. dearer t f g && added t g) (t.high f) in
      let none = sym (added_by f l) ∙ e in
      ltb-false (links_at t (λ g. dearer t f g && added t g) v) (counted_need t v)
      (at_end t (λ x. has_fewer t (λ g. dearer t f g && added t g) x ≡ false) v f at (or_false_left low high none) (or_false_right low high none))

  -- The counts at v, an end of e.
  module _ (e v : ℕ) (l : e < t.links) (at : touches t v e ≡ true) where
    abbrev dear_dropped : ℕ
    dear_dropped = links_at t (λ g. dearer t g e && dropped g) v

    abbrev dear_removed : ℕ
    dear_removed = links_at t (λ g. dearer t g e && removed t g) v

    abbrev cheap_added : ℕ
    cheap_added = links_at t (λ g. dearer t e g && added t g) v

    abbrev cheap_left : ℕ
    cheap_left = links_at t (λ g. dearer t e g && not (added t g)) v

    around_added : added t e ≡ true → dear_removed + cheap_added < links_at t (added t) v
    around_added a =
        three t.links (dearer t) order (λ g. touches t v g && added t g) (λ g. touches t v g && (dearer t g e && removed t g))
        (λ g. touches t v g && (dearer t e g && added t g)) e l (and_intro at a)
        (λ g k. and_move (touches t v g) (dearer t g e) (removed t g) (added t g) (removed_added g k))
        (λ g k. and_move (touches t v g) (dearer t e g) (added t g) (added t g) (λ h. h))

    around : dear_dropped + cheap_added < degree t v
    around =
        three t.links (dearer t) order (touches t v) (λ g. touches t v g && (dearer t g e && dropped g))
        (λ g. touches t v g && (dearer t e g && added t g)) e l at
        (λ g k. drop (touches t v g) (dearer t g e) (dropped g)) (λ g k. drop (touches t v g) (dearer t e g) (added t g))
      where
        drop : (a b c : Bool) → (a && (b && c)) ≡ true → (b && a) ≡ true
        drop true true c h = refl
        drop true false c h = h
        drop false b c h = absurd (true≢false (sym h))

    -- the links at v, counted in two ways
    counted : added t e ≡ true → degree t v + dear_removed ≡ links_at t (added t) v + (cheap_left + dear_dropped)
    unfolding dropped
    counted a =
        let all = sum_same t.links (λ g. f₁ g + f₂ g) (λ g. f₃ g + (f₄ g + f₅ g))
        (λ g k. point (touches t v g) (added t g) (removed t g) (dearer t g e) (dearer t e g) (removed_added g k) (λ n. go g n (side t.links (dearer t) order g e k l))) in
        let left = sum_add t.links f₁ f₂ in
        let right = sum_add t.links f₃ (λ g. f₄ g + f₅ g) in
        let inner = sum_add t.links f₄ f₅ in
        omega arith
      where
        f₁ : ℕ → ℕ
        f₁ g = cond (touches t v g) 1 0

        f₂ : ℕ → ℕ
        f₂ g = cond (touches t v g && (dearer t g e && removed t g)) 1 0

        f₃ : ℕ → ℕ
        f₃ g = cond (touches t v g && added t g) 1 0

        f₄ : ℕ → ℕ
        f₄ g = cond (touches t v g && (dearer t e g && not (added t g))) 1 0

        f₅ : ℕ → ℕ
        f₅ g = cond (touches t v g && (dearer t g e && not (added t g && not (removed t g)))) 1 0

        go : (g : ℕ) → added t g ≡ false → Side (dearer t) g e → dearer t e g ≡ not (dearer t g e)
        go g n (here q d u) = absurd (true≢false (sym a ∙ ap (added t) (sym (eqb-true g e q)) ∙ n))
        go g n (earlier q d u) = rw (d, u)
        go g n (later q d u) = rw (d, u)

    -- the two tests agree at v
    agree : added t e ≡ true → has_more_added t (λ g. dearer t g e && removed t g) v ≡ has_more t (λ g. dearer t g e && dropped g) v
    agree a = go (dec_lt 0 cheap_left)
      where
        under : (x b c y : Bool) → (b ≡ true → c ≡ true) → (x && (b && y)) ≡ true → (x && (c && y)) ≡ true
        under true true c y h q = rw (h refl) q
        under true false c y h q = absurd (true≢false (sym q))
        under false b c y h q = q

        go : Dec (0 < cheap_left) → has_more_added t (λ g. dearer t g e && removed t g) v ≡ has_more t (λ g. dearer t g e && dropped g) v
        go (yes some) =
            let m = member t.links (λ g. touches t v g && (dearer t e g && not (added t g))) some in
            let f = m.0 in
            let out = and_right (touches t v f) (dearer t e f && not (added t f)) m.2 in
            let below = and_left (dearer t e f) (not (added t f)) out in
            let many = unadded f v m.1 (not-true (added t f) (and_right (dearer t e f) (not (added t f)) out)) (and_left (touches t v f) (dearer t e f && not (added t f)) m.2) in
            let more = weigh_le t.links (λ g. touches t v g && (dearer t f g && added t g)) (λ g. touches t v g && (dearer t e g && added t g)) (λ g. 1)
            (λ g k. under (touches t v g) (dearer t f g) (dearer t e g) (added t g) (λ h. order.transitive e f g l m.1 k below h)) in
            let whole = counted a in
            let room = around_added a in
            lt-ltb (counted_need t v) (links_at t (added t) v - dear_removed) (omega arith)
            ∙ sym (lt-ltb (counted_need t v) (degree t v - dear_dropped) (omega arith))
        go (no none) =
            let whole = counted a in
            let same : links_at t (added t) v - dear_removed ≡ degree t v - dear_dropped = omega arith in
            ap (ltb (counted_need t v)) same

  dropped_by : Solves t.links (dearer t) (both_more t) dropped
  unfolding dropped
  dropped_by e l = go (decided (added t e))
    where
      free : (v : ℕ) → added t e ≡ false → touches t v e ≡ true → has_more t (λ g. dearer t g e && dropped g) v ≡ true
      free v a at =
          let many = unadded e v l a at in
          let room = around e v l at in
          lt-ltb (counted_need t v) (degree t v - links_at t (λ g. dearer t g e && dropped g) v) (omega arith)

      go : (added t e ≡ true) ⊎ (added t e ≡ false) → dropped e ≡ both_more t (λ g. dearer t g e && dropped g) e
      go (inl a) =
          rw a (not-not (removed t e))
          ∙ removed_by e l
          ∙ rw (a, agree e (t.low e) l (touches_low t e) a, agree e (t.high e) l (touches_high t e) a)
      go (inr a) = rw a (sym (and_intro (free (t.low e) a (touches_low t e)) (free (t.high e) a (touches_high t e))))

  pub slse_is_plan : (i : ℕ) → i < t.links → slse t i ≡ kept t i
  unfolding dropped
  slse_is_plan i l = sym (not-not (slse t i)) ∙ ap not (only_by_rule t rises dropped dropped_by i l)
