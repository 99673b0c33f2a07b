-- The bytes and the plan: at each moment, and at a quiet one.
use Prim.Native.Nat.{ℕ, zero, suc, ◌+◌, ◌≤◌, ◌<◌}
use mathlib.Core.Path.{◌≡◌, sym, ◌∙◌}
use mathlib.Core.Logic.{◌⊎◌, inl, inr}
use mathlib.Core.Bool.{true, false, ◌&&◌, true≢false, and-false}
use native.Mathlib.Omega.{arith}
use native.Mathlib.Decide.{dec_lt, ℕ_discrete}
use lib.Dec.{eqb}
use borrow.Author.Tests.{eqb-true, eqb-false, eq-eqb}
use Rattle.range.proofs.Bools.{and_left, and_right, and_intro, decided}
use Rattle.range.proofs.Counts.{member_outside, other_outside}
use Rattle.table.specs.Table.{Table, touches, spare, dearer}
use Rattle.table.specs.Legal.{Legal, RisingLinks}
use Rattle.plan_theory.specs.Pass.{place}
use Rattle.plan_theory.specs.Plan.{rested}
use Rattle.plan_theory.proofs.Places.{Order, place_lt}
use Rattle.plan_theory.proofs.Order.{dearer_order}
use Rattle.plan_theory.proofs.Plan.{plan_criterion, rested_at}
use Rattle.plan_theory.specs.Criterion.{dearer_at, UnderSpare, Across, up, down}
use Rattle.plan_theory.proofs.Settled.{near, back, both}
use Rattle.fleet_theory.proofs.EndState.{FleetInv, Quiet, four}
use Rattle.table.proofs.LegalLaws.{legal_table}
use Rattle.fleet_theory.proofs.EndBytes.{far}

module _ (t : Table) (legal : Legal t) (F G : ℕ → ℕ → Type 0) (o n : ℕ → ℕ → ℕ) (inv : FleetInv t F G o n) where
  abbrev rises : RisingLinks t
  rises = (legal_table 256 2048 t legal).order

  -- a link that both ends offered is rested
  both_offered : (i p w : ℕ) → i < t.links → Across t i p w → F p i → F w i → rested t i ≡ true
  both_offered i p w l x f g =
      (plan_criterion t rises i l).1
      (both (λ v. UnderSpare t (rested t) i v) x (inv.offer_fits p i l (near x) f) (inv.offer_fits w i l (near (back x)) g))

  -- where the offer of one end on a kept link could be sent, the other end has its spare of rested dearer links
  pub far_full : (i p w : ℕ) → i < t.links → Across t i p w → F p i → rested t i ≡ false → spare t w ≤ dearer_at t (rested t) i w
  far_full i p w l x f kept = go (dec_lt (dearer_at t (rested t) i w) (spare t w))
    where
      go : Dec (UnderSpare t (rested t) i w) → spare t w ≤ dearer_at t (rested t) i w
      go (no y) = omega arith
      go (yes y) =
          let c = (plan_criterion t rises i l).1 (both (λ v. UnderSpare t (rested t) i v) x (inv.offer_fits p i l (near x) f) y) in
          absurd (true≢false (sym c ∙ kept))

  -- an end rests only links that the plan rests
  pub rested_in : (p i : ℕ) → i < t.links → touches t p i ≡ true → o p i ≡ 1 → n p i ≡ 1 → rested t i ≡ true
  rested_in p i l at e f =
      let w = far t p i at in
      both_offered i w.0 p l w.1 (inv.seen i w.0 p w.1 (λ z. omega arith)) (inv.offered p i (λ z. omega arith))

  -- a link refused is kept by the plan
  pub refused_plan : (p i : ℕ) → (o p i ≡ 2) ⊎ (n p i ≡ 2) → rested t i ≡ false
  refused_plan p i (inl e) =
      let a = inv.out_own p i (λ z. omega arith) in
      inv.refused_kept p i a.0 a.1 (inv.learnt p i e)
  refused_plan p i (inr e) =
      let a = inv.in_own p i (λ z. omega arith) in
      let w = far t p i a.1 in
      inv.refused_kept w.0 i a.0 (near w.1) (inv.refused i w.0 p w.1 e)

  -- no byte of a rested link is 2
  out_two : (p i : ℕ) → rested t i ≡ true → o p i ≡ 2 → ⊥
  out_two p i r e = true≢false (sym r ∙ refused_plan p i (inl e))

  in_two : (p i : ℕ) → rested t i ≡ true → n p i ≡ 2 → ⊥
  in_two p i r e = true≢false (sym r ∙ refused_plan p i (inr e))

  module _ (quiet : Quiet t o n) where
    -- where p has not tried a link i that would fit its spare, it has an offer standing on a dearer link that is kept
    standing_kept : (p i : ℕ) → i < t.links → UnderSpare t (rested t) i p → touches t p i ≡ true → o p i ≡ 0
        → (f : ℕ) × (f < t.links) × (touches t p f ≡ true) × (o p f ≡ 1) × (dearer t f i ≡ true) × (rested t f ≡ false)
    standing_kept p i l free at z =
        let many = quiet.opened p i l at z in
        let m = member_outside t.links (λ g. touches t p g && (dearer t g i && rested t g)) (λ g. touches t p g && eqb (o p g) 1) (omega arith) in
        let f = m.0 in
        let a = and_left (touches t p f) (eqb (o p f) 1) m.2 in
        let e = eqb-true (o p f) 1 (and_right (touches t p f) (eqb (o p f) 1) m.2) in
        let d = inv.order p f i m.1 l a at e z in
        (f, m.1, a, e, d, rw (a, d) at m.3)

    -- an end has not tried its rested link h, dearer than f
    abbrev UntriedBefore : ℕ → Type 0
    UntriedBefore f = (h v : ℕ) × (h < t.links) × (touches t v h ≡ true) × (o v h ≡ 0) × (dearer t h f ≡ true) × (rested t h ≡ true)

    -- where p has an offer standing on a kept link f, some end has not tried a rested dearer link
    untried_rested : (p f : ℕ) → f < t.links → touches t p f ≡ true → o p f ≡ 1 → rested t f ≡ false → UntriedBefore f
    untried_rested p f l at e kept = go (far t p f at).0 (back (far t p f at).1)
      where
        go : (w : ℕ) → Across t f p w → UntriedBefore f
        go w x =
            let small = inv.in_small w f in
            let n0 : (n w f ≡ 0 → ⊥) = quiet.heard f p w l x e in
            let n2 : (n w f ≡ 2 → ⊥) = λ y. let a = quiet.told f p w l x y in omega arith in
            let held : n w f ≡ 1 = omega arith in
            let many = far_full f p w l x (inv.offered p f (λ z. omega arith)) kept in
            let few = inv.holding w in
            let m = other_outside t.links (λ g. touches t w g && eqb (n w g) 1) (λ g. touches t w g && (dearer t g f && rested t g)) f (omega arith) l
            (and_intro (near (back x)) (eq-eqb (n w f) 1 held)) (rw ((dearer_order t rises).irreflexive f l) (and-false (touches t w f))) in
            found m.0 m.1 m.2 m.3
          where
            -- h is a rested dearer link of w that w does not hold
            found : (h : ℕ) → h < t.links → (touches t w h && (dearer t h f && rested t h)) ≡ true → (touches t w h && eqb (n w h) 1) ≡ false → UntriedBefore f
            found h lh is not =
                let a = and_left (touches t w h) (dearer t h f && rested t h) is in
                let b = and_right (touches t w h) (dearer t h f && rested t h) is in
                let u = far t w h a in
                maker u.0 u.1 (and_left (dearer t h f) (rested t h) b) (and_right (dearer t h f) (rested t h) b) (eqb-false (n w h) 1 (rw a at not))
              where
                maker : (v : ℕ) → Across t h v w → dearer t h f ≡ true → rested t h ≡ true → (n w h ≡ 1 → ⊥) → UntriedBefore f
                maker v y d r in_one =
                    let a = inv.in_small w h in
                    let b = inv.out_small v h in
                    let c : n w h ≡ 0 = omega (arith, in_two w h r) in
                    let out_one : (o v h ≡ 1 → ⊥) = λ e. quiet.heard h v w lh y e c in
                    (h, v, lh, near y, omega (arith, out_two v h r), d, r)

    -- no end of a rested link has its offer untried; from the dearest link on, by the places
    tried : (b i : ℕ) → i < t.links → place t.links (dearer t) i < b → rested t i ≡ true → (p : ℕ) → touches t p i ≡ true → o p i ≡ 0 → ⊥
    tried zero i l s r p at z = omega arith
    tried (suc b) i l s r p at z =
        let order : Order t.links (dearer t) = dearer_order t rises in
        let (f, lf, af, ef, df, kf) = standing_kept p i l (rested_at t rises i p l r at) at z in
        let (h, v, lh, ah, zh, dh, rh) = untried_rested p f lf af ef kf in
        let less = place_lt t.links (dearer t) order h i lh l (order.transitive h f i lh lf l dh df) in
        tried b h lh (omega arith) rh v ah zh

    stands : (p i : ℕ) → i < t.links → touches t p i ≡ true → rested t i ≡ true → o p i ≡ 1
    stands p i l at r =
        let small = inv.out_small p i in
        let n0 : (o p i ≡ 0 → ⊥) = tried (suc (place t.links (dearer t) i)) i l (omega arith) r p at in
        omega (arith, out_two p i r)

    -- an offer stands only on a link that the plan rests
    pub standing_rested : (p i : ℕ) → i < t.links → touches t p i ≡ true → o p i ≡ 1 → rested t i ≡ true
    standing_rested p i l at e = go (decided (rested t i))
      where
        go : (rested t i ≡ true) ⊎ (rested t i ≡ false) → rested t i ≡ true
        go (inl r) = r
        go (inr kept) =
            let (h, v, lh, ah, zh, dh, rh) = untried_rested p i l at e kept in
            absurd (tried (suc (place t.links (dearer t) h)) h lh (omega arith) rh v ah zh)

    -- an offer that could be sent so far is tried
    pub could_tried : (p i : ℕ) → i < t.links → touches t p i ≡ true → F p i → o p i ≡ 0 → ⊥
    could_tried p i l at f z =
        let (g, lg, ag, eg, dg, kg) = standing_kept p i l (inv.offer_fits p i l at f) at z in
        true≢false (sym (standing_rested p g lg ag eg) ∙ kg)

    -- each end rests every link that the plan rests
    pub finished_plan : (p i : ℕ) → i < t.links → touches t p i ≡ true → rested t i ≡ true → (o p i ≡ 1) × (n p i ≡ 1)
    finished_plan p i l at r =
        let w = far t p i at in
        let small = inv.in_small p i in
        let n0 : (n p i ≡ 0 → ⊥) = quiet.heard i w.0 p l w.1 (stands w.0 i l (near w.1) r) in
        (stands p i l at r, omega (arith, in_two p i r))

-- the two bytes of a link's direction: at most 2 where it is rested, 0 where its maker could send no offer
module _ (t : Table) (legal : Legal t) (F G : ℕ → ℕ → Type 0) (o n : ℕ → ℕ → ℕ) (inv : FleetInv t F G o n) (decides : (p i : ℕ) → Dec (F p i)) where
  rested_two : (i p w : ℕ) → rested t i ≡ true → o p i + n w i ≤ 2
  rested_two i p w r =
      let a = inv.out_small p i in
      let b = inv.in_small w i in
      omega (arith, out_two t legal F G o n inv p i r, in_two t legal F G o n inv w i r)

  never_none : (i p w : ℕ) → Across t i p w → (F p i → ⊥) → o p i + n w i ≡ 0
  never_none i p w x never = go (ℕ_discrete (o p i) 0) (ℕ_discrete (n w i) 0)
    where
      go : Dec (o p i ≡ 0) → Dec (n w i ≡ 0) → o p i + n w i ≡ 0
      go (yes d) (yes e) = omega arith
      go (yes d) (no y) = absurd (never (inv.seen i p w x y))
      go (no y) e = absurd (never (inv.offered p i y))

  any_four : (i p w : ℕ) → o p i + n w i ≤ 4
  any_four i p w =
      let a = inv.out_small p i in
      let b = inv.in_small w i in
      omega arith

  pub four_most : (i : ℕ) → i < t.links → four t o n i ≤ 4
  four_most i l = go (decided (rested t i)) (decides low i) (decides high i)
    where
      low : ℕ
      low = t.low i

      high : ℕ
      high = t.high i

      go : (rested t i ≡ true) ⊎ (rested t i ≡ false) → Dec (F low i) → Dec (F high i) → o low i + n high i + (o high i + n low i) ≤ 4
      go (inl r) d e = let a = rested_two i low high r in let b = rested_two i high low r in omega arith
      go (inr k) (no y) e = let a = never_none i low high up y in let b = any_four i high low in omega arith
      go (inr k) (yes f) (no y) = let a = any_four i low high in let b = never_none i high low down y in omega arith
      go (inr k) (yes f) (yes g) = absurd (true≢false (sym (both_offered t legal F G o n inv i low high l up f g) ∙ k))
