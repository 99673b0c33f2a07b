-- What holds at each moment is kept by every event, and holds of the same bytes and of equivalent marks.
use Prim.Native.Nat.{ℕ, ◌≤◌, ◌<◌}
use mathlib.Core.Path.{◌≡◌, refl, sym, ◌∙◌}
use mathlib.Core.Logic.{◌↔◌, ◌⊎◌, inl, inr}
use mathlib.Core.Bool.{true, false, ◌&&◌, true≢false}
use native.Mathlib.Omega.{arith}
use lib.Dec.{eqb}
use borrow.Author.Tests.{eqb-true, eq-eqb}
use Rattle.range.proofs.Bools.{and_left, and_right, and_intro, decided}
use Rattle.range.proofs.Sums.{weigh_le}
use Rattle.table.specs.Table.{Table, touches, spare, dearer}
use Rattle.table.specs.Legal.{Legal, LegalTable}
use Rattle.plan_theory.specs.Plan.{rested}
use Rattle.plan_theory.proofs.Places.{Order}
use Rattle.plan_theory.proofs.Order.{dearer_order}
use Rattle.plan_theory.proofs.Plan.{plan_criterion, rested_at}
use Rattle.plan_theory.specs.Criterion.{UnderSpare, Across}
use Rattle.plan_theory.proofs.Settled.{near, back, both}
use Rattle.fleet_theory.proofs.EndState.{ones_at, store, SameBytes, Step, idle, opens, takes, displaces, refuses, learns, FleetInv, EverOffered, Refused}
use Rattle.table.proofs.LegalLaws.{legal_table}
use Rattle.fleet_theory.proofs.EndBytes.{same_bytes, Cell, here, there, cell, before_store, Swap, gone, new, old, swap, far, far_one, WithinSpares, fits_fewer, fits_same, fits_more, fits_swap, swap_many}
use Rattle.fleet_theory.proofs.EndNext.{Out, out_same, out_open, out_learn, In, in_same, in_take, in_refuse, DearestFirst, next}

module _ (t : Table) (s : LegalTable 256 2048 t) (F G : ℕ → ℕ → Type 0) (o n : ℕ → ℕ → ℕ) (inv : FleetInv t F G o n) (o' n' : ℕ → ℕ → ℕ) where
  abbrev After : Type 0
  After = FleetInv t (EverOffered F o') (Refused t G n') o' n'

  abbrev by_dearer : Order t.links (dearer t)
  by_dearer = dearer_order t s.order

  -- of two links the one that the other is not dearer than
  dearer_other : (f g : ℕ) → f < t.links → g < t.links → (f ≡ g → ⊥) → dearer t g f ≡ false → dearer t f g ≡ true
  dearer_other f g lf lg d e = go (by_dearer.total f g lf lg d)
    where
      go : (dearer t f g ≡ true) ⊎ (dearer t g f ≡ true) → dearer t f g ≡ true
      go (inl x) = x
      go (inr x) = absurd (true≢false (sym x ∙ e))

  -- the end across from p made its offer on g
  abbrev Made : ℕ → ℕ → Type 0
  Made p g = (u : ℕ) → Across t g u p → F u g

  -- where p holds its spare of offers, all on links dearer than e, e is kept
  full : (m : ℕ → ℕ → ℕ) (p e : ℕ) → e < t.links → touches t p e ≡ true → spare t p ≤ ones_at t m p
      → ((g : ℕ) → g < t.links → touches t p g ≡ true → m p g ≡ 1 → (dearer t g e ≡ true) × Made p g) → rested t e ≡ false
  full m p e le at many known = go (decided (rested t e))
    where
      -- were e rested, each of them would be
      rests : UnderSpare t (rested t) e p → (g : ℕ) → g < t.links → touches t p g ≡ true → dearer t g e ≡ true → Made p g → rested t g ≡ true
      rests free g l ag d f =
          let w = far t p g ag in
          let few = weigh_le t.links (λ x. touches t p x && (dearer t x g && rested t x)) (λ x. touches t p x && (dearer t x e && rested t x)) (λ x. 1)
          (λ x k h.
          let b = and_right (touches t p x) (dearer t x g && rested t x) h in
          and_intro (and_left (touches t p x) (dearer t x g && rested t x) h)
          (and_intro (by_dearer.transitive x g e k l le (and_left (dearer t x g) (rested t x) b) d) (and_right (dearer t x g) (rested t x) b))) in
          (plan_criterion t s.order g l).1
          (both (λ v. UnderSpare t (rested t) g v) w.1 (inv.offer_fits w.0 g l (near w.1) (f w.0 w.1)) (omega arith))

      go : (rested t e ≡ true) ⊎ (rested t e ≡ false) → rested t e ≡ false
      go (inr d) = d
      go (inl d) =
          let free = rested_at t s.order e p le d at in
          let all = weigh_le t.links (λ g. touches t p g && eqb (m p g) 1) (λ g. touches t p g && (dearer t g e && rested t g)) (λ g. 1)
          (λ g l h.
          let a = and_left (touches t p g) (eqb (m p g) 1) h in
          let k = known g l a (eqb-true (m p g) 1 (and_right (touches t p g) (eqb (m p g) 1) h)) in
          and_intro a (and_intro k.0 (rests free g l a k.0 k.1))) in
          absurd (omega arith)

  -- an event at inbound bytes alone
  next_in : SameBytes o' o → ((q j : ℕ) → In t F n n' q j) → WithinSpares t n' → After
  next_in so ins holding =
      next t F G o n inv o' n' (λ q j. out_same (so q j)) ins (fits_same t o o' so inv.standing) holding
      (λ q f g lf lg af ag ef eg. inv.order q f g lf lg af ag (sym (so q f) ∙ ef) (sym (so q g) ∙ eg))

  -- an event at outbound bytes alone
  next_out : SameBytes n' n → ((q j : ℕ) → Out t G o o' q j) → WithinSpares t o' → DearestFirst t o' → After
  next_out sn outs standing = next t F G o n inv o' n' outs (λ q j. in_same (sn q j)) standing (fits_same t n n' sn inv.holding)

  on_open : (p i : ℕ) → i < t.links → touches t p i ≡ true → ones_at t o p < spare t p
      → ((g : ℕ) → g < t.links → touches t p g ≡ true → o p g ≡ 0 → dearer t g i ≡ false) → SameBytes o' (store o p i 1) → SameBytes n' n → After
  on_open p i l at room first so sn =
      next_out sn (λ q j. out q j (cell o o' p i 1 so q j)) (fits_more t o o' p i l so room inv.standing)
      (λ q f g lf lg af ag ef eg. order q f g lf lg af ag ef eg (cell o o' p i 1 so q f) (cell o o' p i 1 so q g))
    where
      -- a rested dearer link stands
      stands : (g : ℕ) → g < t.links → touches t p g ≡ true → dearer t g i ≡ true → rested t g ≡ true → o p g ≡ 1
      stands g k ag d r =
          let small = inv.out_small p g in
          let n0 : (o p g ≡ 0 → ⊥) = λ e. true≢false (sym d ∙ first g k ag e) in
          let n2 : (o p g ≡ 2 → ⊥) = λ e. true≢false (sym r ∙ inv.refused_kept p g k ag (inv.learnt p g e)) in
          omega arith

      fits : UnderSpare t (rested t) i p
      fits =
          let few = weigh_le t.links (λ g. touches t p g && (dearer t g i && rested t g)) (λ g. touches t p g && eqb (o p g) 1) (λ g. 1)
          (λ g k h.
          let a = and_left (touches t p g) (dearer t g i && rested t g) h in
          let b = and_right (touches t p g) (dearer t g i && rested t g) h in
          and_intro a (eq-eqb (o p g) 1 (stands g k a (and_left (dearer t g i) (rested t g) b) (and_right (dearer t g i) (rested t g) b)))) in
          omega arith

      out : (q j : ℕ) → Cell o o' p i 1 q j → Out t G o o' q j
      out q j (here a b e) = out_open e (rw b l) (rw (a, b) at) (rw (a, b) fits)
      out q j (there d e) = out_same e

      order : (q f g : ℕ) → f < t.links → g < t.links → touches t q f ≡ true → touches t q g ≡ true → o' q f ≡ 1 → o' q g ≡ 0 → Cell o o' p i 1 q f
          → Cell o o' p i 1 q g → dearer t f g ≡ true
      order q f g lf lg af ag ef eg c (here a b e) = absurd (omega arith)
      order q f g lf lg af ag ef eg (there a e) (there b h) = inv.order q f g lf lg af ag (sym e ∙ ef) (sym h ∙ eg)
      order q f g lf lg af ag ef eg (here a b e) (there d h) =
          rw b (dearer_other i g l lg (λ x. d a (sym x)) (first g lg (rw a at ag) (rw a at (sym h ∙ eg))))

  on_learn : (p i : ℕ) → i < t.links → touches t p i ≡ true → G p i → SameBytes o' (store o p i 2) → SameBytes n' n → After
  on_learn p i l at g so sn =
      next_out sn (λ q j. out q j (cell o o' p i 2 so q j)) (fits_fewer t o o' (λ q j. was q j 1 (λ z. omega arith)) inv.standing)
      (λ q f g lf lg af ag ef eg. inv.order q f g lf lg af ag (was q f 1 (λ z. omega arith) ef) (was q g 0 (λ z. omega arith) eg))
    where
      out : (q j : ℕ) → Cell o o' p i 2 q j → Out t G o o' q j
      out q j (here a b e) = out_learn e (rw b l) (rw (a, b) at) (rw (a, b) g)
      out q j (there d e) = out_same e

      was : (q j v : ℕ) → (v ≡ 2 → ⊥) → o' q j ≡ v → o q j ≡ v
      was = before_store o o' p i 2 so

  -- the offer of w on i comes to p
  module _ (p w i : ℕ) (l : i < t.links) (x : Across t i w p) (f : F w i) (so : SameBytes o' o) where
    made : (q j : ℕ) → q ≡ p → j ≡ i → Made q j
    made q j a b u y = rw (b, far_one t s i p u w l (rw (a, b) at y) x) f

    own : (q j : ℕ) → q ≡ p → j ≡ i → touches t q j ≡ true
    own q j a b = rw (a, b) (near (back x))

    on_take : ones_at t n p < spare t p → SameBytes n' (store n p i 1) → After
    on_take room sn = next_in so (λ q j. into q j (cell n n' p i 1 sn q j)) (fits_more t n n' p i l sn room inv.holding)
      where
        into : (q j : ℕ) → Cell n n' p i 1 q j → In t F n n' q j
        into q j (here a b e) = in_take e (rw b l) (own q j a b) (made q j a b)
        into q j (there d e) = in_same e

    on_refuse : spare t p ≤ ones_at t n p → ((g : ℕ) → g < t.links → touches t p g ≡ true → n p g ≡ 1 → dearer t g i ≡ true) → SameBytes n' (store n p i 2) → After
    on_refuse many dear sn =
        next_in so (λ q j. into q j (cell n n' p i 2 sn q j))
        (fits_fewer t n n' (λ q j. before_store n n' p i 2 sn q j 1 (λ z. omega arith)) inv.holding)
      where
        kept : rested t i ≡ false
        kept = full n p i l (near (back x)) many (λ g k a e. (dear g k a e, λ u y. inv.seen g u p y (λ z. omega arith)))

        into : (q j : ℕ) → Cell n n' p i 2 q j → In t F n n' q j
        into q j (here a b e) = in_refuse e (rw b l) (own q j a b) (made q j a b) (rw b kept)
        into q j (there d e) = in_same e

    on_displace : (c : ℕ) → n p i ≡ 0 → spare t p ≤ ones_at t n p → c < t.links → touches t p c ≡ true → n p c ≡ 1 → dearer t i c ≡ true
        → ((g : ℕ) → g < t.links → touches t p g ≡ true → n p g ≡ 1 → dearer t c g ≡ false) → SameBytes n' (store (store n p i 1) p c 2) → After
    on_displace c z many lc at e dear least sn =
        next_in so (λ q j. into q j (swap n n' p i c sn q j)) (fits_swap t n n' p i c l lc at z e sn inv.holding)
      where
        -- what p holds then is dearer than c
        held : (g : ℕ) → g < t.links → touches t p g ≡ true → n' p g ≡ 1 → Swap n n' p i c p g → (dearer t g c ≡ true) × Made p g
        held g k a h (gone _ _ m) = absurd (omega arith)
        held g k a h (new _ b m) = (rw b dear, made p g refl b)
        held g k a h (old d _ m) = (dearer_other g c k lc (d refl) (least g k a (sym m ∙ h)), λ u y. inv.seen g u p y (λ v. omega arith))

        kept : rested t c ≡ false
        kept =
            full n' p c lc at (let a = swap_many t n n' p i c l lc (near (back x)) z e sn in omega arith)
            (λ g k a h. held g k a h (swap n n' p i c sn p g))

        into : (q j : ℕ) → Swap n n' p i c q j → In t F n n' q j
        into q j (gone a b m) =
            let was : n q j ≡ 1 = rw (a, b) e in
            in_refuse m (rw b lc) (rw (a, b) at) (λ u y. inv.seen j u q y (λ v. omega arith)) (rw b kept)
        into q j (new a b m) = in_take m (rw b l) (own q j a b) (made q j a b)
        into q j (old _ _ m) = in_same m

pub inv_step : (t : Table) → Legal t → (F G : ℕ → ℕ → Type 0) (o n o' n' : ℕ → ℕ → ℕ) → FleetInv t F G o n → Step t F G o n o' n'
    → FleetInv t (EverOffered F o') (Refused t G n') o' n'
inv_step t legal F G o n o' n' inv step = go step
  where
    s : LegalTable 256 2048 t
    s = legal_table 256 2048 t legal

    go : Step t F G o n o' n' → FleetInv t (EverOffered F o') (Refused t G n') o' n'
    go (idle so sn) = next_in t s F G o n inv o' n' so (λ q j. in_same (sn q j)) (fits_same t n n' sn inv.holding)
    go (opens p i l at z room first so sn) = on_open t s F G o n inv o' n' p i l at room first so sn
    go (takes p w i l x f z room so sn) = on_take t s F G o n inv o' n' p w i l x f so room sn
    go (displaces p w i c l x f z many lc at e dear least so sn) = on_displace t s F G o n inv o' n' p w i l x f so c z many lc at e dear least sn
    go (refuses p w i l x f z many dear so sn) = on_refuse t s F G o n inv o' n' p w i l x f so many dear sn
    go (learns p i l at g so sn) = on_learn t s F G o n inv o' n' p i l at g so sn

pub inv_same : (t : Table) (F G : ℕ → ℕ → Type 0) (o n o' n' : ℕ → ℕ → ℕ) → SameBytes o' o → SameBytes n' n → FleetInv t F G o n → FleetInv t F G o' n'
inv_same t F G = same_bytes (FleetInv t F G)

-- the marks may be said in other words
pub inv_marks : (t : Table) (F G F' G' : ℕ → ℕ → Type 0) (o n : ℕ → ℕ → ℕ) → ((p i : ℕ) → F p i ↔ F' p i) → ((p i : ℕ) → G p i ↔ G' p i) → FleetInv t F G o n
    → FleetInv t F' G' o n
inv_marks t F G F' G' o n f g inv =
    record {
      out_small = inv.out_small;
      in_small = inv.in_small;
      out_own = inv.out_own;
      in_own = inv.in_own;
      seen = λ i p w x z. (f p i).0 (inv.seen i p w x z);
      learnt = λ p i e. (g p i).0 (inv.learnt p i e);
      offered = λ p i z. (f p i).0 (inv.offered p i z);
      refused = λ i p w x e. (g p i).0 (inv.refused i p w x e);
      refused_offered = λ p i r. (f p i).0 (inv.refused_offered p i ((g p i).1 r));
      standing = inv.standing;
      holding = inv.holding;
      order = inv.order;
      offer_fits = λ p i l at m. inv.offer_fits p i l at ((f p i).1 m);
      refused_kept = λ p i l at r. inv.refused_kept p i l at ((g p i).1 r);
    }
