-- A restart: the own bytes of a probe become 0; its marks and all bytes of other probes stay. By induction over the links.
use Prim.Native.Nat.{ℕ, zero, suc, ◌*◌, ◌≤◌, ◌<◌}
use mathlib.Core.Path.{◌≡◌, refl, sym, ◌∙◌}
use mathlib.Core.Logic.{◌⊎◌, inl, inr}
use mathlib.Core.Bool.{Bool, true, false, cond, true≢false}
use mathlib.Core.List.{List, []}
use native.Mathlib.Omega.{arith}
use native.Mathlib.Decide.{dec_lt, ℕ_discrete}
use lib.ListN.{length, set, length-set}
use Rattle.range.proofs.Bools.{decided}
use Rattle.table.specs.Table.{Table, of_slices, touches}
use Rattle.probe_rules.specs.Within.{OwnLink}
use Rattle.fleet_theory.proofs.EndState.{store, SameBytes}
use Rattle.fleet_theory.proofs.EndBytes.{Cell, here, there, cell}
use Rattle.fleet_theory.specs.Fleet.{out_at, cleared_at, wiped_to, wiped}
use Rattle.fleet_theory.proofs.Own.{out_of, in_of, out_mark, in_mark, ReadsAt, out_reads, in_reads, out_mark_reads, in_mark_reads, distinct, set_other}
use Rattle.fleet_theory.proofs.Bytes.{out_set, out_in_set, in_set, in_out_set, same_stored}

module _ (t : Table) (p : ℕ) where
  wiped_length : (n : ℕ) (r : List ℕ) → length (wiped_to t p n r) ≡ length r
  unfolding wiped_to
  wiped_length zero r = refl
  wiped_length (suc n) r = go (touches t p n) (wiped_length n r)
    where
      w : List ℕ
      w = wiped_to t p n r

      go : (b : Bool) → length w ≡ length r → length (cond b (cleared_at t p n w) w) ≡ length r
      go true e = length-set (set w (out_at t p n) 0) _ 0 ∙ length-set w (out_at t p n) 0 ∙ e
      go false e = e

  -- a kind of bytes of which the wipe touches none
  wiped_other : {k m : ℕ} {at : ℕ → ℕ → ℕ} {byte : List ℕ → ℕ → ℕ → ℕ} → ReadsAt t k m at byte → distinct k m 0 2 ≡ true → distinct k m 3 1 ≡ true
      → (n : ℕ) → n ≤ t.links → (r : List ℕ) → SameBytes (byte (wiped_to t p n r)) (byte r)
  unfolding wiped_to
  wiped_other reads a b zero l r = λ q j. refl
  wiped_other {byte = byte} reads a b (suc n) l r = λ q j. go q j (decided (touches t p n)) (wiped_other reads a b n (omega arith) r q j)
    where
      w : List ℕ
      w = wiped_to t p n r

      go : (q j : ℕ) → (touches t p n ≡ true) ⊎ (touches t p n ≡ false) → byte w q j ≡ byte r q j → byte (cond (touches t p n) (cleared_at t p n w) w) q j ≡ byte r q j
      go q j (inl e) same =
          rw e (set_other t reads (in_reads t) b (set w (out_at t p n) 0) p n 0 (omega arith, e) q j ∙ set_other t reads (out_reads t) a w p n 0 (omega arith, e) q j ∙ same)
      go q j (inr e) same = rw e same

  -- a kind of bytes whose own byte on a link is stored as 0 with that link
  module _ {k m : ℕ} {at : ℕ → ℕ → ℕ} {byte : List ℕ → ℕ → ℕ → ℕ} (reads : ReadsAt t k m at byte)
      (clears : (w : List ℕ) (n : ℕ) → length w ≡ 8 * t.links → OwnLink t p n → SameBytes (byte (cleared_at t p n w)) (store (byte w) p n 0)) where
    wiped_own : (n : ℕ) → n ≤ t.links → (r : List ℕ) → length r ≡ 8 * t.links → (j : ℕ) → j < n → byte (wiped_to t p n r) p j ≡ 0
    unfolding wiped_to
    wiped_own zero l r long j m = absurd (omega arith)
    wiped_own (suc n) l r long j m = go (decided (touches t p n)) (wiped_own n (omega arith) r long j)
      where
        w : List ℕ
        w = wiped_to t p n r

        stored : Cell (byte w) (store (byte w) p n 0) p n 0 p j → (j < n → byte w p j ≡ 0) → store (byte w) p n 0 p j ≡ 0
        stored (here e f s) before = s
        stored (there d s) before = s ∙ before (omega (arith, d refl))

        none : (touches t p n ≡ false) → (j < n → byte w p j ≡ 0) → Dec (j ≡ n) → byte w p j ≡ 0
        none e before (yes s) = reads.no_byte w p j (λ a. true≢false (sym (rw s at a.1) ∙ e))
        none e before (no d) = before (omega arith)

        go : (touches t p n ≡ true) ⊎ (touches t p n ≡ false) → (j < n → byte w p j ≡ 0) → byte (cond (touches t p n) (cleared_at t p n w) w) p j ≡ 0
        go (inl e) before =
            rw e (clears w n (wiped_length n r ∙ long) (omega arith, e) p j ∙ stored (cell (byte w) (store (byte w) p n 0) p n 0 (λ x y. refl) p j) before)
        go (inr e) before = rw e (none e before (ℕ_discrete j n))

    wiped_else : (n : ℕ) → n ≤ t.links → (r : List ℕ) → length r ≡ 8 * t.links → (q j : ℕ) → (q ≡ p → ⊥) → byte (wiped_to t p n r) q j ≡ byte r q j
    unfolding wiped_to
    wiped_else zero l r long q j d = refl
    wiped_else (suc n) l r long q j d = go (decided (touches t p n)) (wiped_else n (omega arith) r long q j d)
      where
        w : List ℕ
        w = wiped_to t p n r

        stored : Cell (byte w) (store (byte w) p n 0) p n 0 q j → store (byte w) p n 0 q j ≡ byte w q j
        stored (here e f s) = absurd (d e)
        stored (there e s) = s

        go : (touches t p n ≡ true) ⊎ (touches t p n ≡ false) → byte w q j ≡ byte r q j → byte (cond (touches t p n) (cleared_at t p n w) w) q j ≡ byte r q j
        go (inl e) same =
            rw e (clears w n (wiped_length n r ∙ long) (omega arith, e) q j ∙ stored (cell (byte w) (store (byte w) p n 0) p n 0 (λ x y. refl) q j) ∙ same)
        go (inr e) same = rw e same

    wiped_all : (r : List ℕ) → length r ≡ 8 * t.links → (j : ℕ) → byte (wiped t p r) p j ≡ 0
    wiped_all r long j = go (dec_lt j t.links)
      where
        go : Dec (j < t.links) → byte (wiped t p r) p j ≡ 0
        go (yes l) = wiped_own t.links (omega arith) r long j l
        go (no d) = reads.no_byte (wiped t p r) p j (λ a. d a.0)

  out_clears : (w : List ℕ) (n : ℕ) → length w ≡ 8 * t.links → OwnLink t p n → SameBytes (out_of t (cleared_at t p n w)) (store (out_of t w) p n 0)
  out_clears w n long a q j = out_in_set t p (set w (out_at t p n) 0) n 0 a q j ∙ out_set t p w n 0 long a q j

  in_clears : (w : List ℕ) (n : ℕ) → length w ≡ 8 * t.links → OwnLink t p n → SameBytes (in_of t (cleared_at t p n w)) (store (in_of t w) p n 0)
  in_clears w n long a q j =
      in_set t p (set w (out_at t p n) 0) n 0 (length-set w (out_at t p n) 0 ∙ long) a q j ∙ same_stored p n 0 (in_out_set t p w n 0 a) q j

  pub length_wiped : (r : List ℕ) → length (wiped t p r) ≡ length r
  length_wiped = wiped_length t.links

  module _ (r : List ℕ) (long : length r ≡ 8 * t.links) where
    pub wiped_out : (i : ℕ) → out_of t (wiped t p r) p i ≡ 0
    wiped_out = wiped_all (out_reads t) out_clears r long

    pub wiped_in : (i : ℕ) → in_of t (wiped t p r) p i ≡ 0
    wiped_in = wiped_all (in_reads t) in_clears r long

    pub wiped_out_else : (q i : ℕ) → (q ≡ p → ⊥) → out_of t (wiped t p r) q i ≡ out_of t r q i
    wiped_out_else = wiped_else (out_reads t) out_clears t.links (omega arith) r long

    pub wiped_in_else : (q i : ℕ) → (q ≡ p → ⊥) → in_of t (wiped t p r) q i ≡ in_of t r q i
    wiped_in_else = wiped_else (in_reads t) in_clears t.links (omega arith) r long

  pub wiped_out_mark : (r : List ℕ) → SameBytes (out_mark t (wiped t p r)) (out_mark t r)
  wiped_out_mark = wiped_other (out_mark_reads t) refl refl t.links (omega arith)

  pub wiped_in_mark : (r : List ℕ) → SameBytes (in_mark t (wiped t p r)) (in_mark t r)
  wiped_in_mark = wiped_other (in_mark_reads t) refl refl t.links (omega arith)

-- what a restart takes from the table: the ends of its links
pub wiped_by_ends : (t u : Table) (p n : ℕ) → ((i : ℕ) → i < n → t.low i ≡ u.low i) → ((i : ℕ) → i < n → t.high i ≡ u.high i) → (r : List ℕ)
    → wiped_to t p n r ≡ wiped_to u p n r
unfolding wiped_to
wiped_by_ends t u p zero low high r = refl
wiped_by_ends t u p (suc n) low high r =
    rw (wiped_by_ends t u p n (λ i l. low i (omega arith)) (λ i l. high i (omega arith)) r, low n (omega arith), high n (omega arith))

pub wiped_same : (number probes links : ℕ) (needs lows highs costs : List ℕ) (p : ℕ) (r : List ℕ)
    → wiped (of_slices 0 0 links [] lows highs []) p r ≡ wiped (of_slices number probes links needs lows highs costs) p r
wiped_same number probes links needs lows highs costs p r =
    wiped_by_ends (of_slices 0 0 links [] lows highs []) (of_slices number probes links needs lows highs costs) p links (λ i l. refl) (λ i l. refl) r
