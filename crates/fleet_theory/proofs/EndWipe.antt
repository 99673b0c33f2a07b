-- What holds at each moment is kept when a probe loses its bytes.
use Prim.Native.Nat.{ℕ, suc, ◌≤◌}
use mathlib.Core.Path.{◌≡◌, sym, ◌∙◌}
use native.Mathlib.Omega.{arith}
use native.Mathlib.Decide.{ℕ_discrete}
use Rattle.table.specs.Table.{Table}
use Rattle.fleet_theory.proofs.EndState.{FleetInv}
use Rattle.fleet_theory.proofs.EndBytes.{fits_fewer}

-- the bytes of p become 0, the others stay
module _ (p : ℕ) (b b' : ℕ → ℕ → ℕ) (none : (i : ℕ) → b' p i ≡ 0) (others : (q i : ℕ) → (q ≡ p → ⊥) → b' q i ≡ b q i) where
  wipe_le : (q i : ℕ) → b' q i ≤ b q i
  wipe_le q i = go (ℕ_discrete q p)
    where
      go : Dec (q ≡ p) → b' q i ≤ b q i
      go (yes e) = let a : b' q i ≡ 0 = rw e (none i) in omega arith
      go (no d) = let a = others q i d in omega arith

  wipe_was : (q i v : ℕ) → b' q i ≡ suc v → (q ≡ p → ⊥) × (b q i ≡ suc v)
  wipe_was q i v e = go (ℕ_discrete q p)
    where
      go : Dec (q ≡ p) → (q ≡ p → ⊥) × (b q i ≡ suc v)
      go (yes s) = let a : b' q i ≡ 0 = rw s (none i) in absurd (omega arith)
      go (no d) = (d, sym (others q i d) ∙ e)

-- a probe loses its bytes; what could be sent so far stays
pub inv_wipe : (t : Table) (F G : ℕ → ℕ → Type 0) (o n o' n' : ℕ → ℕ → ℕ) (p : ℕ) → FleetInv t F G o n → ((i : ℕ) → o' p i ≡ 0) → ((i : ℕ) → n' p i ≡ 0)
    → ((q i : ℕ) → (q ≡ p → ⊥) → o' q i ≡ o q i) → ((q i : ℕ) → (q ≡ p → ⊥) → n' q i ≡ n q i) → FleetInv t F G o' n'
inv_wipe t F G o n o' n' p inv oz nz so sn =
    record {
      out_small = λ q i. omega (arith, out_le q i, inv.out_small q i);
      in_small = λ q i. omega (arith, in_le q i, inv.in_small q i);
      out_own = λ q i z. inv.out_own q i (λ e. z (omega (arith, out_le q i)));
      in_own = λ q i z. inv.in_own q i (λ e. z (omega (arith, in_le q i)));
      seen = λ i q w x z. inv.seen i q w x (λ e. z (omega (arith, in_le w i)));
      learnt = λ q i e. inv.learnt q i (out_was q i 1 e).1;
      offered = λ q i z. inv.offered q i (λ e. z (omega (arith, out_le q i)));
      refused = λ i q w x e. inv.refused i q w x (in_was w i 1 e).1;
      refused_offered = inv.refused_offered;
      standing = fits_fewer t o o' (λ q j e. (out_was q j 0 e).1) inv.standing;
      holding = fits_fewer t n n' (λ q j e. (in_was q j 0 e).1) inv.holding;
      order = λ q f g lf lg af ag e z.
          let a = out_was q f 0 e in
          inv.order q f g lf lg af ag a.1 (sym (so q g a.0) ∙ z);
      offer_fits = inv.offer_fits;
      refused_kept = inv.refused_kept;
    }
  where
    out_le : (q i : ℕ) → o' q i ≤ o q i
    out_le = wipe_le p o o' oz so

    in_le : (q i : ℕ) → n' q i ≤ n q i
    in_le = wipe_le p n n' nz sn

    out_was : (q i v : ℕ) → o' q i ≡ suc v → (q ≡ p → ⊥) × (o q i ≡ suc v)
    out_was = wipe_was p o o' oz so

    in_was : (q i v : ℕ) → n' q i ≡ suc v → (q ≡ p → ⊥) × (n q i ≡ suc v)
    in_was = wipe_was p n n' nz sn
