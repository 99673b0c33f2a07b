-- Some opening or frame that may be sent would alter a byte, or none would.
use Prim.Native.Nat.{ℕ, ◌≤◌, ◌<◌}
use mathlib.Core.Path.{◌≡◌}
use mathlib.Core.Logic.{◌⊎◌, inl, inr}
use native.Mathlib.Omega.{arith}
use native.Mathlib.Decide.{dec_lt, ℕ_discrete}
use Rattle.range.proofs.Counts.{or_each}
use Rattle.table.specs.Table.{Table, spare}
use Rattle.plan_theory.proofs.Settled.{near, back}
use Rattle.plan_theory.specs.Criterion.{Across, up, down}
use Rattle.fleet_theory.proofs.EndState.{ones_at, Quiet, Live, may_open_lem, may_hear, may_learn}
use Rattle.fleet_theory.proofs.EndBytes.{far}

and_quiet : {L A B : Type 0} → L ⊎ A → L ⊎ B → L ⊎ (A × B)
and_quiet (inl a) y = inl a
and_quiet (inr a) (inl b) = inl b
and_quiet (inr a) (inr b) = inr (a, b)

-- nothing would alter a byte of the offer of p to w on i
record QuietAt (t : Table) (o n : ℕ → ℕ → ℕ) (i p w : ℕ) : Type 0 where
  opened : o p i ≡ 0 → spare t p ≤ ones_at t o p
  heard : o p i ≡ 1 → n w i ≡ 0 → ⊥
  told : n w i ≡ 2 → o p i ≡ 2

module _ (t : Table) (o n : ℕ → ℕ → ℕ) where
  quiet_at : (i p w : ℕ) → i < t.links → Across t i p w → Live t o n ⊎ QuietAt t o n i p w
  quiet_at i p w l x =
      all (and_quiet (opened (ℕ_discrete (o p i) 0) (dec_lt (ones_at t o p) (spare t p)))
      (and_quiet (heard (ℕ_discrete (o p i) 1) (ℕ_discrete (n w i) 0)) (told (ℕ_discrete (n w i) 2) (ℕ_discrete (o p i) 2))))
    where
      opened : Dec (o p i ≡ 0) → Dec (ones_at t o p < spare t p) → Live t o n ⊎ (o p i ≡ 0 → spare t p ≤ ones_at t o p)
      opened (yes z) (yes r) = inl (may_open_lem p i l (near x) z r)
      opened (yes z) (no d) = inr (λ y. omega arith)
      opened (no d) r = inr (λ z. absurd (d z))

      heard : Dec (o p i ≡ 1) → Dec (n w i ≡ 0) → Live t o n ⊎ (o p i ≡ 1 → n w i ≡ 0 → ⊥)
      heard (yes e) (yes z) = inl (may_hear i p w l x e z)
      heard (yes e) (no d) = inr (λ y z. d z)
      heard (no d) z = inr (λ e y. d e)

      told : Dec (n w i ≡ 2) → Dec (o p i ≡ 2) → Live t o n ⊎ (n w i ≡ 2 → o p i ≡ 2)
      told (yes e) (no d) = inl (may_learn i p w l x e d)
      told (yes e) (yes f) = inr (λ y. f)
      told (no d) e = inr (λ y. absurd (d y))

      all : Live t o n ⊎ ((o p i ≡ 0 → spare t p ≤ ones_at t o p) × ((o p i ≡ 1 → n w i ≡ 0 → ⊥) × (n w i ≡ 2 → o p i ≡ 2))) → Live t o n ⊎ QuietAt t o n i p w
      all (inl a) = inl a
      all (inr a) = inr (record { opened = a.0; heard = a.1.0; told = a.1.1 })

  pub live_or_quiet : Live t o n ⊎ Quiet t o n
  live_or_quiet =
      go (or_each t.links (Live t o n) (λ i. QuietAt t o n i (t.low i) (t.high i) × QuietAt t o n i (t.high i) (t.low i))
      (λ i l. and_quiet (quiet_at i (t.low i) (t.high i) l up) (quiet_at i (t.high i) (t.low i) l down)))
    where
      go : Live t o n ⊎ ((i : ℕ) → i < t.links → QuietAt t o n i (t.low i) (t.high i) × QuietAt t o n i (t.high i) (t.low i)) → Live t o n ⊎ Quiet t o n
      go (inl a) = inl a
      go (inr a) =
          inr (record {
            opened = λ p i l at. let w = far t p i at in (at_ends i l (back w.1)).opened;
            heard = λ i p w l x. (at_ends i l x).heard;
            told = λ i p w l x. (at_ends i l x).told;
          })
        where
          at_ends : (i : ℕ) → i < t.links → {p w : ℕ} → Across t i p w → QuietAt t o n i p w
          at_ends i l up = (a i l).0
          at_ends i l down = (a i l).1
