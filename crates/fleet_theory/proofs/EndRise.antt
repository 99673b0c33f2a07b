-- An event lets no byte fall, and the sum of all bytes has a bound; at the start all bytes are 0.
use Prim.Native.Nat.{ℕ, ◌+◌, ◌*◌, ◌≤◌, ◌<◌}
use mathlib.Core.Path.{◌≡◌, refl}
use mathlib.Core.Logic.{◌⊎◌, inl, inr}
use mathlib.Core.Bool.{true, ◌&&◌}
use native.Mathlib.Omega.{arith}
use native.Mathlib.Decide.{ℕ_discrete}
use lib.Dec.{eqb}
use borrow.Author.Tests.{eqb-true}
use Rattle.range.proofs.Bools.{and_right, or_cases}
use Rattle.range.proofs.Sums.{sum_less, none_count}
use Rattle.range.proofs.Counts.{sum_most}
use Rattle.table.specs.Table.{Table, touches, spare}
use Rattle.plan_theory.proofs.Settled.{near, back}
use Rattle.fleet_theory.proofs.EndState.{ones_at, store, SameBytes, Step, idle, opens, takes, displaces, refuses, learns, FleetInv, four, total}
use Rattle.fleet_theory.proofs.EndBytes.{Cell, here, there, cell, stored_byte, store_same, Swap, gone, new, old, swap}

-- a byte stored that is at least what it was
store_rises : (b b' : ℕ → ℕ → ℕ) (p i v : ℕ) → SameBytes b' (store b p i v) → b p i ≤ v → (q j : ℕ) → b q j ≤ b' q j
store_rises b b' p i v s h q j = go (cell b b' p i v s q j)
  where
    go : Cell b b' p i v q j → b q j ≤ b' q j
    go (here x y e) = let k : b q j ≡ b p i = rw (x, y) in omega arith
    go (there d e) = omega arith

swap_rises : (b b' : ℕ → ℕ → ℕ) (p i c : ℕ) → SameBytes b' (store (store b p i 1) p c 2) → b p i ≡ 0 → b p c ≡ 1 → (q j : ℕ) → b q j ≤ b' q j
swap_rises b b' p i c s z e q j = go (swap b b' p i c s q j)
  where
    go : Swap b b' p i c q j → b q j ≤ b' q j
    go (gone x y f) = let k : b q j ≡ b p c = rw (x, y) in omega arith
    go (new x y f) = let k : b q j ≡ b p i = rw (x, y) in omega arith
    go (old _ _ f) = omega arith

-- all bytes are 0, and nothing could be sent so far
pub fresh_inv : (t : Table) (F G : ℕ → ℕ → Type 0) → ((p i : ℕ) → F p i → ⊥) → ((p i : ℕ) → G p i → ⊥) → FleetInv t F G (λ p i. 0) (λ p i. 0)
fresh_inv t F G unsent unrefused =
    record {
      out_small = λ p i. omega arith;
      in_small = λ p i. omega arith;
      out_own = λ p i z. absurd (z refl);
      in_own = λ p i z. absurd (z refl);
      seen = λ i p w x z. absurd (z refl);
      learnt = λ p i e. absurd (omega arith);
      offered = λ p i z. absurd (z refl);
      refused = λ i p w x e. absurd (omega arith);
      refused_offered = λ p i g. absurd (unrefused p i g);
      standing = none;
      holding = none;
      order = λ p f g lf lg af ag e z. absurd (omega arith);
      offer_fits = λ p i l at f. absurd (unsent p i f);
      refused_kept = λ p i l at g. absurd (unrefused p i g);
    }
  where
    none : (p : ℕ) → ones_at t (λ q i. 0) p ≤ spare t p
    none p =
        let a = none_count t.links (λ i. touches t p i && eqb 0 1)
        (λ i l e. let b = eqb-true 0 1 (and_right (touches t p i) (eqb 0 1) e) in omega arith) in
        omega arith

-- one event
module _ (t : Table) (F G : ℕ → ℕ → Type 0) (o n o' n' : ℕ → ℕ → ℕ) (inv : FleetInv t F G o n) (step : Step t F G o n o' n') where
  pub out_rises : (p i : ℕ) → o p i ≤ o' p i
  out_rises p i = go step
    where
      same : SameBytes o' o → o p i ≤ o' p i
      same so = let e = so p i in omega arith

      go : Step t F G o n o' n' → o p i ≤ o' p i
      go (idle so sn) = same so
      go (opens q j l at z room first so sn) = store_rises o o' q j 1 so (omega arith) p i
      go (takes q w j l x f z room so sn) = same so
      go (displaces q w j c l x f z many lc at e dear least so sn) = same so
      go (refuses q w j l x f z many dear so sn) = same so
      go (learns q j l at g so sn) = store_rises o o' q j 2 so (inv.out_small q j) p i

  pub in_rises : (p i : ℕ) → n p i ≤ n' p i
  in_rises p i = go step
    where
      same : SameBytes n' n → n p i ≤ n' p i
      same sn = let e = sn p i in omega arith

      go : Step t F G o n o' n' → n p i ≤ n' p i
      go (idle so sn) = same sn
      go (opens q j l at z room first so sn) = same sn
      go (takes q w j l x f z room so sn) = store_rises n n' q j 1 sn (omega arith) p i
      go (displaces q w j c l x f z many lc at e dear least so sn) = swap_rises n n' q j c sn z e p i
      go (refuses q w j l x f z many dear so sn) = store_rises n n' q j 2 sn (omega arith) p i
      go (learns q j l at g so sn) = same sn

  -- a byte of p on i rises
  more : (p i : ℕ) → i < t.links → touches t p i ≡ true → o p i + n p i < o' p i + n' p i → total t o n < total t o' n'
  more p i l at r =
      sum_less t.links (four t o n) (four t o' n') i (λ j k. each j) l (go (or_cases (eqb p (t.low i)) (eqb p (t.high i)) at))
    where
      each : (j : ℕ) → four t o n j ≤ four t o' n' j
      each j =
          let a = out_rises (t.low j) j in
          let b = in_rises (t.high j) j in
          let c = out_rises (t.high j) j in
          let d = in_rises (t.low j) j in
          omega arith

      go : (eqb p (t.low i) ≡ true) ⊎ (eqb p (t.high i) ≡ true) → four t o n i < four t o' n' i
      go (inl e) =
          let k = rw (eqb-true p (t.low i) e) at r in
          let b = in_rises (t.high i) i in
          let c = out_rises (t.high i) i in
          omega arith
      go (inr e) =
          let k = rw (eqb-true p (t.high i) e) at r in
          let b = in_rises (t.low i) i in
          let c = out_rises (t.low i) i in
          omega arith

  -- an event alters no byte, or the sum of all bytes grows
  pub grows : (SameBytes o' o × SameBytes n' n) ⊎ (total t o n < total t o' n')
  grows = go step
    where
      go : Step t F G o n o' n' → (SameBytes o' o × SameBytes n' n) ⊎ (total t o n < total t o' n')
      go (idle so sn) = inl (so, sn)
      go (opens p i l at z room first so sn) =
          inr (more p i l at (let a = stored_byte o o' p i 1 so in let b = sn p i in omega arith))
      go (takes p w i l x f z room so sn) =
          inr (more p i l (near (back x)) (let a = stored_byte n n' p i 1 sn in let b = so p i in omega arith))
      go (displaces p w i c l x f z many lc at e dear least so sn) =
          inr (more p c lc at (let a = stored_byte (store n p i 1) n' p c 2 sn in let b = so p c in omega arith))
      go (refuses p w i l x f z many dear so sn) =
          inr (more p i l (near (back x)) (let a = stored_byte n n' p i 2 sn in let b = so p i in omega arith))
      go (learns p i l at g so sn) = again (ℕ_discrete (o p i) 2)
        where
          again : Dec (o p i ≡ 2) → (SameBytes o' o × SameBytes n' n) ⊎ (total t o n < total t o' n')
          again (yes e) = inl (store_same o o' p i 2 so e, sn)
          again (no d) = inr (more p i l at (let a = stored_byte o o' p i 2 so in let b = sn p i in let c = inv.out_small p i in omega arith))

pub total_most : (t : Table) (F G : ℕ → ℕ → Type 0) (o n : ℕ → ℕ → ℕ) → FleetInv t F G o n → total t o n ≤ 8 * t.links
total_most t F G o n inv =
    sum_most t.links (four t o n) 8
    (λ i l.
    let a = inv.out_small (t.low i) i in
    let b = inv.in_small (t.high i) i in
    let c = inv.out_small (t.high i) i in
    let d = inv.in_small (t.low i) i in
    omega arith)
