-- A settled state of the bargaining is the plan.
use Prim.Native.Nat.{ℕ, zero, suc, ◌≤◌, ◌<◌}
use mathlib.Core.Path.{◌≡◌, refl, sym, ◌∙◌}
use mathlib.Core.Logic.{◌⊎◌, inl, inr}
use mathlib.Core.Bool.{Bool, true, false, ◌&&◌, and-false}
use native.Mathlib.Omega.{arith}
use Rattle.range.proofs.Bools.{and_intro, and_skip, decided, same_bool}
use Rattle.range.proofs.Sums.{weigh_same, count_less}
use Rattle.table.specs.Table.{Table, touches, spare, dearer}
use Rattle.plan_theory.specs.Pass.{place}
use Rattle.plan_theory.specs.Plan.{links_at, rested}
use Rattle.plan_theory.proofs.Places.{Order, place_lt}
use Rattle.plan_theory.proofs.Order.{dearer_order}
use Rattle.table.specs.Legal.{RisingLinks}
use Rattle.plan_theory.proofs.Plan.{at_end, touches_low, touches_high, plan_criterion, rested_at}
use Rattle.plan_theory.specs.Criterion.{dearer_at, UnderSpare, Settled, Across, up, down}

pub near : {t : Table} {i u w : ℕ} → Across t i u w → touches t u i ≡ true
near {t} {i} up = touches_low t i
near {t} {i} down = touches_high t i

pub back : {t : Table} {i u w : ℕ} → Across t i u w → Across t i w u
back up = down
back down = up

pub both : {t : Table} {i u w : ℕ} (P : ℕ → Type 0) → Across t i u w → P u → P w → P (t.low i) × P (t.high i)
both P up a b = (a, b)
both P down a b = (b, a)

and_same : (a b c d : Bool) → (a ≡ true → b ≡ true → c ≡ d) → (a && (b && c)) ≡ (a && (b && d))
and_same true true c d h = h refl refl
and_same true false c d h = refl
and_same false b c d h = refl

module _ (t : Table) (rises : RisingLinks t) (stand held : ℕ → ℕ → Bool) (settled : Settled t stand held) where
  abbrev order : Order t.links (dearer t)
  order = dearer_order t rises

  -- a link in a set that fits the spare of v has fewer dearer ones before it
  before_it : (r : ℕ → Bool) (i v : ℕ) → i < t.links → touches t v i ≡ true → r i ≡ true → links_at t r v ≤ spare t v → dearer_at t r i v < spare t v
  before_it r i v l at e fits =
      let less = count_less t.links (λ g. touches t v g && (dearer t g i && r g)) (λ g. touches t v g && r g) i
      (λ g k. and_skip (touches t v g) (dearer t g i) (r g)) l (rw (order.irreflexive i l) (and-false (touches t v i))) (and_intro at e) in
      omega arith

  -- the offers on a link are as the plan has it
  abbrev AsPlanned : ℕ → Type 0
  AsPlanned g = (u w : ℕ) → Across t g u w → stand u g ≡ rested t g

  step : (i : ℕ) → i < t.links → ((g : ℕ) → g < t.links → dearer t g i ≡ true → AsPlanned g) → AsPlanned i
  step i l known u w x = same_bool (stand u i) (rested t i) rests stays
    where
      seen : (r : ℕ → Bool) (v : ℕ) → ((g : ℕ) → g < t.links → touches t v g ≡ true → dearer t g i ≡ true → r g ≡ rested t g)
          → dearer_at t r i v ≡ dearer_at t (rested t) i v
      seen r v h =
          weigh_same t.links (λ g. touches t v g && (dearer t g i && r g)) (λ g. touches t v g && (dearer t g i && rested t g)) (λ g. 1)
          (λ g k. and_same (touches t v g) (dearer t g i) (r g) (rested t g) (h g k))

      stand_seen : dearer_at t (stand u) i u ≡ dearer_at t (rested t) i u
      stand_seen = seen (stand u) u (λ g k at d. at_end t (λ v. stand v g ≡ rested t g) u g at (known g k d _ _ up) (known g k d _ _ down))

      held_seen : dearer_at t (held w) i w ≡ dearer_at t (rested t) i w
      held_seen =
          seen (held w) w
          (λ g k at d.
          at_end t (λ v. held v g ≡ rested t g) w g at (sym (settled.same g _ _ k down) ∙ known g k d _ _ down)
          (sym (settled.same g _ _ k up) ∙ known g k d _ _ up))

      rests : stand u i ≡ true → rested t i ≡ true
      rests e =
          let a = before_it (stand u) i u l (near x) e (settled.standing u) in
          let b = before_it (held w) i w l (near (back x)) (sym (settled.same i u w l x) ∙ e) (settled.holding w) in
          let c = stand_seen in
          let d = held_seen in
          (plan_criterion t rises i l).1 (both (λ v. UnderSpare t (rested t) i v) x (omega arith) (omega arith))

      full : rested t i ≡ true → (spare t u ≤ dearer_at t (stand u) i u) ⊎ (spare t w ≤ dearer_at t (held w) i w) → ⊥
      full e (inl a) =
          let c = stand_seen in
          let f = rested_at t rises i u l e (near x) in
          omega arith
      full e (inr a) =
          let c = held_seen in
          let f = rested_at t rises i w l e (near (back x)) in
          omega arith

      stays : rested t i ≡ true → stand u i ≡ true
      stays e = go (decided (stand u i))
        where
          go : (stand u i ≡ true) ⊎ (stand u i ≡ false) → stand u i ≡ true
          go (inl a) = a
          go (inr a) = absurd (full e (settled.explained i u w l x a))

  pub settled_is_plan : (i : ℕ) → i < t.links → (stand (t.low i) i ≡ rested t i) × (stand (t.high i) i ≡ rested t i)
  settled_is_plan i l = let k = go (suc (place t.links (dearer t) i)) i l (omega arith) in (k _ _ up, k _ _ down)
    where
      go : (b i : ℕ) → i < t.links → place t.links (dearer t) i < b → AsPlanned i
      go zero i l s = absurd (omega arith)
      go (suc b) i l s = step i l (λ g k d. let a = place_lt t.links (dearer t) order g i k l d in go b g k (omega arith))
