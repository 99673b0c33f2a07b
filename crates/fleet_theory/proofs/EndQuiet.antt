-- A quiet moment stays quiet under every event, also where an offer or a refusal of long ago comes.
use Prim.Native.Nat.{ℕ, ◌≤◌, ◌<◌}
use mathlib.Core.Path.{◌≡◌, refl, sym, ◌∙◌}
use mathlib.Core.Logic.{◌⊎◌, inl, inr}
use mathlib.Core.Bool.{true, false, ◌&&◌, true≢false}
use native.Mathlib.Omega.{arith}
use lib.Dec.{eqb}
use borrow.Author.Tests.{eq-eqb}
use Rattle.range.proofs.Bools.{and_left, and_right, and_intro, decided}
use Rattle.range.proofs.Sums.{weigh_le}
use Rattle.range.proofs.Counts.{other_outside}
use Rattle.table.specs.Table.{Table, touches, spare, dearer}
use Rattle.table.specs.Legal.{Legal, LegalTable}
use Rattle.table.proofs.LegalLaws.{legal_table}
use Rattle.plan_theory.specs.Plan.{rested}
use Rattle.plan_theory.specs.Criterion.{dearer_at, Across}
use Rattle.plan_theory.proofs.Places.{Order}
use Rattle.plan_theory.proofs.Order.{dearer_order}
use Rattle.plan_theory.proofs.Settled.{near}
use Rattle.fleet_theory.proofs.EndState.{ones_at, store, SameBytes, Step, idle, opens, takes, displaces, refuses, learns, FleetInv, Quiet}
use Rattle.fleet_theory.proofs.EndBytes.{same_bytes, Cell, here, there, cell, before_store, store_same, far_one}
use Rattle.fleet_theory.proofs.EndFinish.{far_full, refused_plan, standing_rested, could_tried, finished_plan}

module _ (t : Table) (legal : Legal t) (F G : ℕ → ℕ → Type 0) (o n : ℕ → ℕ → ℕ) (inv : FleetInv t F G o n) (quiet : Quiet t o n) where
  abbrev laws : LegalTable 256 2048 t
  laws = legal_table 256 2048 t legal

  abbrev by_dearer : Order t.links (dearer t)
  by_dearer = dearer_order t laws.order

  -- p has not seen the offer of w on i, which could be sent so far
  module _ (i w p : ℕ) (l : i < t.links) (x : Across t i w p) (f : F w i) (z : n p i ≡ 0) where
    -- w has learnt its refusal
    unseen_learnt : o w i ≡ 2
    unseen_learnt =
        let small = inv.out_small w i in
        let n0 = could_tried t legal F G o n inv quiet w i l (near x) f in
        let n1 : (o w i ≡ 1 → ⊥) = λ e. quiet.heard i w p l x e z in
        omega arith

    -- p has its spare of rested dearer links
    many : spare t p ≤ dearer_at t (rested t) i p
    many = far_full t legal F G o n inv i w p l x f (refused_plan t legal F G o n inv w i (inl unseen_learnt))

    -- p holds the offers on them
    held : (g : ℕ) → g < t.links → (touches t p g && (dearer t g i && rested t g)) ≡ true → (touches t p g && eqb (n p g) 1) ≡ true
    held g k e =
        let a = and_left (touches t p g) (dearer t g i && rested t g) e in
        let r = and_right (dearer t g i) (rested t g) (and_right (touches t p g) (dearer t g i && rested t g) e) in
        and_intro a (eq-eqb (n p g) 1 (finished_plan t legal F G o n inv quiet p g k a r).1)

    -- p holds its spare of offers
    unseen_full : spare t p ≤ ones_at t n p
    unseen_full =
        let a = many in
        let b = weigh_le t.links (λ g. touches t p g && (dearer t g i && rested t g)) (λ g. touches t p g && eqb (n p g) 1) (λ g. 1) held in
        omega arith

    -- all on dearer links
    unseen_dearer : (g : ℕ) → g < t.links → touches t p g ≡ true → n p g ≡ 1 → dearer t g i ≡ true
    unseen_dearer g k at e = go (decided (dearer t g i))
      where
        go : (dearer t g i ≡ true) ⊎ (dearer t g i ≡ false) → dearer t g i ≡ true
        go (inl d) = d
        go (inr d) =
            let a = many in
            let b = inv.holding p in
            let m = other_outside t.links (λ x. touches t p x && eqb (n p x) 1) (λ x. touches t p x && (dearer t x i && rested t x)) g (omega arith) k
            (and_intro at (eq-eqb (n p g) 1 e)) (rw (at, d)) in
            absurd (unheld m.0 m.1 m.2 m.3)
          where
            unheld : (h : ℕ) → h < t.links → (touches t p h && (dearer t h i && rested t h)) ≡ true → (touches t p h && eqb (n p h) 1) ≡ false → ⊥
            unheld h lh is not = true≢false (sym (held h lh is) ∙ not)

    -- p refuses the offer at last
    on_refuse : (n' : ℕ → ℕ → ℕ) → SameBytes n' (store n p i 2) → Quiet t o n'
    on_refuse n' sn =
        record {
          opened = quiet.opened;
          heard = λ j u v k y e q. quiet.heard j u v k y e (before_store n n' p i 2 sn v j 0 (λ d. omega arith) q);
          told = λ j u v k y e. told j u v k y e (cell n n' p i 2 sn v j);
        }
      where
        told : (j u v : ℕ) → j < t.links → Across t j u v → n' v j ≡ 2 → Cell n n' p i 2 v j → o u j ≡ 2
        told j u v k y e (here a b c) = rw (b, far_one t laws i p u w l (rw (a, b) at y) x) unseen_learnt
        told j u v k y e (there d c) = quiet.told j u v k y (sym c ∙ e)

  -- a refusal that could be sent so far is learnt
  learnt_already : (p i : ℕ) → i < t.links → touches t p i ≡ true → G p i → o p i ≡ 2
  learnt_already p i l at g =
      let small = inv.out_small p i in
      let n0 = could_tried t legal F G o n inv quiet p i l at (inv.refused_offered p i g) in
      let n1 : (o p i ≡ 1 → ⊥) = λ e. true≢false (sym (standing_rested t legal F G o n inv quiet p i l at e) ∙ inv.refused_kept p i l at g) in
      omega arith

  pub quiet_step : (o' n' : ℕ → ℕ → ℕ) → Step t F G o n o' n' → Quiet t o' n'
  quiet_step o' n' step = go step
    where
      go : Step t F G o n o' n' → Quiet t o' n'
      go (idle so sn) = same_bytes (Quiet t) o n o' n' so sn quiet
      go (opens p i l at z room first so sn) = absurd (let a = quiet.opened p i l at z in omega arith)
      go (takes p w i l x f z room so sn) = absurd (let a = unseen_full i w p l x f z in omega arith)
      go (displaces p w i c l x f z many lc at e dear least so sn) =
          absurd (true≢false (sym (by_dearer.transitive c i c lc l lc (unseen_dearer i w p l x f z c lc at e) dear) ∙ by_dearer.irreflexive c lc))
      go (refuses p w i l x f z many dear so sn) =
          same_bytes (Quiet t) o n' o' n' so (λ q j. refl) (on_refuse i w p l x f z n' sn)
      go (learns p i l at g so sn) = same_bytes (Quiet t) o n o' n' (store_same o o' p i 2 so (learnt_already p i l at g)) sn quiet
