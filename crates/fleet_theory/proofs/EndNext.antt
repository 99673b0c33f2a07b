-- What one event may do to each byte, and that what holds at each moment is kept by it.
use Prim.Native.Nat.{ℕ, ◌≤◌, ◌<◌}
use mathlib.Core.Path.{◌≡◌, sym, ◌∙◌}
use mathlib.Core.Logic.{inl, inr}
use mathlib.Core.Bool.{true, false}
use native.Mathlib.Omega.{arith}
use Rattle.table.specs.Table.{Table, touches, dearer}
use Rattle.plan_theory.specs.Plan.{rested}
use Rattle.plan_theory.specs.Criterion.{UnderSpare, Across}
use Rattle.fleet_theory.proofs.EndState.{FleetInv, EverOffered, Refused}
use Rattle.fleet_theory.proofs.EndBytes.{WithinSpares}

-- the outbound byte of q on j after an event: as it was, or its offer is opened, or its refusal is learnt
pub data Out (t : Table) (G : ℕ → ℕ → Type 0) (o o' : ℕ → ℕ → ℕ) (q j : ℕ) : Type 0 where
  out_same : o' q j ≡ o q j → Out t G o o' q j
  out_open : o' q j ≡ 1 → j < t.links → touches t q j ≡ true → UnderSpare t (rested t) j q → Out t G o o' q j
  out_learn : o' q j ≡ 2 → j < t.links → touches t q j ≡ true → G q j → Out t G o o' q j

-- the inbound byte of q on j after an event: as it was, or an offer made is taken, or it is refused
pub data In (t : Table) (F : ℕ → ℕ → Type 0) (n n' : ℕ → ℕ → ℕ) (q j : ℕ) : Type 0 where
  in_same : n' q j ≡ n q j → In t F n n' q j
  in_take : n' q j ≡ 1 → j < t.links → touches t q j ≡ true → ((u : ℕ) → Across t j u q → F u j) → In t F n n' q j
  in_refuse : n' q j ≡ 2 → j < t.links → touches t q j ≡ true → ((u : ℕ) → Across t j u q → F u j) → rested t j ≡ false → In t F n n' q j

-- an offer that stands is on a dearer link than an untried one of the same probe
abbrev pub DearestFirst : Table → (ℕ → ℕ → ℕ) → Type 0
DearestFirst t o =
    (p f g : ℕ) → f < t.links → g < t.links → touches t p f ≡ true → touches t p g ≡ true → o p f ≡ 1 → o p g ≡ 0 → dearer t f g ≡ true

-- an event that alters bytes so
module _ (t : Table) (F G : ℕ → ℕ → Type 0) (o n : ℕ → ℕ → ℕ) (inv : FleetInv t F G o n) (o' n' : ℕ → ℕ → ℕ) (outs : (q j : ℕ) → Out t G o o' q j)
    (ins : (q j : ℕ) → In t F n n' q j) where
  pub next : WithinSpares t o' → WithinSpares t n' → DearestFirst t o' → FleetInv t (EverOffered F o') (Refused t G n') o' n'
  next standing holding order =
      record {
        out_small = λ p i. out_small p i (outs p i);
        in_small = λ p i. in_small p i (ins p i);
        out_own = λ p i z. out_own p i z (outs p i);
        in_own = λ p i z. in_own p i z (ins p i);
        seen = λ i p w x z. seen i p w x z (ins w i);
        learnt = λ p i e. learnt p i e (outs p i);
        offered = λ p i z. offered p i z (outs p i);
        refused = λ i p w x e. inr (w, x, e);
        refused_offered = refused_offered;
        standing = standing;
        holding = holding;
        order = order;
        offer_fits = λ p i l at f. offer_fits p i l at f (outs p i);
        refused_kept = refused_kept;
      }
    where
      out_small : (p i : ℕ) → Out t G o o' p i → o' p i ≤ 2
      out_small p i (out_same e) = let a = inv.out_small p i in omega arith
      out_small p i (out_open e l at f) = omega arith
      out_small p i (out_learn e l at g) = omega arith

      in_small : (p i : ℕ) → In t F n n' p i → n' p i ≤ 2
      in_small p i (in_same e) = let a = inv.in_small p i in omega arith
      in_small p i (in_take e l at f) = omega arith
      in_small p i (in_refuse e l at f k) = omega arith

      out_own : (p i : ℕ) → (o' p i ≡ 0 → ⊥) → Out t G o o' p i → (i < t.links) × (touches t p i ≡ true)
      out_own p i z (out_same e) = inv.out_own p i (λ y. z (e ∙ y))
      out_own p i z (out_open e l at f) = (l, at)
      out_own p i z (out_learn e l at g) = (l, at)

      in_own : (p i : ℕ) → (n' p i ≡ 0 → ⊥) → In t F n n' p i → (i < t.links) × (touches t p i ≡ true)
      in_own p i z (in_same e) = inv.in_own p i (λ y. z (e ∙ y))
      in_own p i z (in_take e l at f) = (l, at)
      in_own p i z (in_refuse e l at f k) = (l, at)

      seen : (i p w : ℕ) → Across t i p w → (n' w i ≡ 0 → ⊥) → In t F n n' w i → EverOffered F o' p i
      seen i p w x z (in_same e) = inl (inv.seen i p w x (λ y. z (e ∙ y)))
      seen i p w x z (in_take e l at f) = inl (f p x)
      seen i p w x z (in_refuse e l at f k) = inl (f p x)

      learnt : (p i : ℕ) → o' p i ≡ 2 → Out t G o o' p i → Refused t G n' p i
      learnt p i e (out_same s) = inl (inv.learnt p i (sym s ∙ e))
      learnt p i e (out_open s l at f) = absurd (omega arith)
      learnt p i e (out_learn s l at g) = inl g

      offered : (p i : ℕ) → (o' p i ≡ 0 → ⊥) → Out t G o o' p i → EverOffered F o' p i
      offered p i z (out_same e) = inl (inv.offered p i (λ y. z (e ∙ y)))
      offered p i z (out_open e l at f) = inr e
      offered p i z (out_learn e l at g) = inl (inv.refused_offered p i g)

      refused_offered : (p i : ℕ) → Refused t G n' p i → EverOffered F o' p i
      refused_offered p i (inl g) = inl (inv.refused_offered p i g)
      refused_offered p i (inr (w, x, e)) = seen i p w x (λ z. omega arith) (ins w i)

      offer_fits : (p i : ℕ) → i < t.links → touches t p i ≡ true → EverOffered F o' p i → Out t G o o' p i → UnderSpare t (rested t) i p
      offer_fits p i l at (inl f) c = inv.offer_fits p i l at f
      offer_fits p i l at (inr e) (out_same s) = inv.offer_fits p i l at (inv.offered p i (λ z. omega arith))
      offer_fits p i l at (inr e) (out_open s k a f) = f
      offer_fits p i l at (inr e) (out_learn s k a g) = absurd (omega arith)

      refused_kept : (p i : ℕ) → i < t.links → touches t p i ≡ true → Refused t G n' p i → rested t i ≡ false
      refused_kept p i l at (inl g) = inv.refused_kept p i l at g
      refused_kept p i l at (inr (w, x, e)) = go (ins w i)
        where
          go : In t F n n' w i → rested t i ≡ false
          go (in_same s) = inv.refused_kept p i l at (inv.refused i p w x (sym s ∙ e))
          go (in_take s k a f) = absurd (omega arith)
          go (in_refuse s k a f d) = d
