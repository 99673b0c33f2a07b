-- The changes of a link: what its four bytes rise by, so at most four.
use Prim.Native.Nat.{ℕ, ◌+◌, ◌*◌, ◌≤◌, ◌<◌}
use mathlib.Core.Path.{◌≡◌, refl, sym, ◌∙◌, ap, subst}
use mathlib.Core.Bool.{Bool, true, false, cond, true≢false}
use mathlib.Core.Logic.{◌⊎◌, inl, inr}
use mathlib.Core.List.{List, [], ◌∷◌}
use native.Mathlib.Nat.{add-zero}
use native.Mathlib.Omega.{arith}
use native.Mathlib.Decide.{ℕ_discrete}
use lib.ListN.{length}
use borrow.Author.Tests.{eqb-true, eq-eqb, ne_eqb}
use Rattle.range.proofs.Bools.{decided}
use Rattle.range.specs.Sum.{sum}
use Rattle.range.proofs.Sums.{sum_same, none_count}
use Rattle.table.specs.Table.{Table, item, touches}
use Rattle.table.specs.Legal.{Legal}
use Rattle.plan_theory.proofs.Plan.{touches_low, touches_high}
use Rattle.probe_frame.specs.Frame.{Frame, frame_of}
use Rattle.wake_log.specs.declared.Entry.{Entry}
use Rattle.wake_log.specs.declared.Answer.TheVariants.{Logged}
use Rattle.fleet_theory.proofs.EndState.{FleetInv, four}
use Rattle.table.proofs.LegalLaws.{legal_table}
use Rattle.fleet_theory.proofs.EndRise.{out_rises, in_rises}
use Rattle.fleet_theory.proofs.EndFinish.{four_most}
use Rattle.fleet_theory.specs.Fleet.{restarts, wiped, entry_by, State, answer_to, next, run, differs, link_changes, frame_changes, changes}
use Rattle.table.specs.Slices.{Slices, table_of, slices_fault}
use Rattle.fleet_theory.specs.Words.{IsRestart}
use Rattle.fleet_theory.specs.ClaimsOfRun.{NoRestart}
use Rattle.fleet_theory.proofs.Own.{out_of, in_of, out_mark}
use Rattle.fleet_theory.proofs.Bytes.{first_byte, second_byte, third_byte, fourth_byte}
use Rattle.fleet_theory.proofs.Wipe.{wiped_out_else, wiped_in_else}
use Rattle.fleet_theory.proofs.Connect.{OfferMarked, RefusalMarked, Steps}
use Rattle.fleet_theory.proofs.Run.{slices_legal, HoldsAfter, Passed, passed_fault, next_holds, wipes_or_steps, run_holds}

-- none where no byte is altered
pub no_changes : (r : List ℕ) (n : ℕ) → sum n (link_changes r r) ≡ 0
no_changes r n = sum_same n (link_changes r r) (λ i. cond false 1 0) (λ i l. link i) ∙ none_count n (λ i. false) (λ i l e. true≢false (sym e))
  where
    link : (i : ℕ) → link_changes r r i ≡ 0
    link i =
        sum_same 4 (λ k. differs r r (8 * i + k)) (λ k. cond false 1 0) (λ k l. rw (eq-eqb (item r (8 * i + k)) (item r (8 * i + k)) refl))
        ∙ none_count 4 (λ k. false) (λ k l e. true≢false (sym e))

pub no_frame_changes : (f : Frame) (r : List ℕ) (n : ℕ) → sum n (frame_changes f r r) ≡ 0
no_frame_changes f r n = go (restarts f)
  where
    go : (b : Bool) → sum n (λ i. cond b 0 (link_changes r r i)) ≡ 0
    go true = none_count n (λ i. false) (λ i l e. true≢false (sym e))
    go false = no_changes r n

-- the four bytes of a link in a record
abbrev four_of : Table → List ℕ → ℕ → ℕ
four_of t r i = four t (out_of t r) (in_of t r) i

-- a byte that rises
differs_rises : (r r' : List ℕ) (j a b : ℕ) → item r j ≡ a → item r' j ≡ b → a ≤ b → differs r r' j + a ≤ b
differs_rises r r' j a b e f l = go (ℕ_discrete (item r j) (item r' j))
  where
    go : Dec (item r j ≡ item r' j) → differs r r' j + a ≤ b
    go (yes s) = rw (eq-eqb (item r j) (item r' j) s) (omega arith)
    go (no s) = rw (ne_eqb (item r j) (item r' j) s) (omega arith)

step_changes : (t : Table) → Legal t → (r r' : List ℕ) → FleetInv t (OfferMarked t r) (RefusalMarked t r) (out_of t r) (in_of t r) → Steps t r r' → (i : ℕ) → i < t.links
    → link_changes r r' i + four_of t r i ≤ four_of t r' i
unfolding sum
step_changes t legal r r' good step i l =
    let s = legal_table 256 2048 t legal in
    let rise = out_rises t (OfferMarked t r) (RefusalMarked t r) (out_of t r) (in_of t r) (out_of t r') (in_of t r') good step in
    let grow = in_rises t (OfferMarked t r) (RefusalMarked t r) (out_of t r) (in_of t r) (out_of t r') (in_of t r') good step in
    let a = differs_rises r r' (8 * i + 0) (out_of t r (t.low i) i) (out_of t r' (t.low i) i) (ap (item r) (add-zero (8 * i)) ∙ first_byte t s r i l)
    (ap (item r') (add-zero (8 * i)) ∙ first_byte t s r' i l) (rise (t.low i) i) in
    let b = differs_rises r r' (8 * i + 1) (in_of t r (t.high i) i) (in_of t r' (t.high i) i) (second_byte t s r i l) (second_byte t s r' i l) (grow (t.high i) i) in
    let c = differs_rises r r' (8 * i + 2) (out_of t r (t.high i) i) (out_of t r' (t.high i) i) (third_byte t s r i l) (third_byte t s r' i l) (rise (t.high i) i) in
    let d = differs_rises r r' (8 * i + 3) (in_of t r (t.low i) i) (in_of t r' (t.low i) i) (fourth_byte t s r i l) (fourth_byte t s r' i l) (grow (t.low i) i) in
    omega arith

-- a line has no more changes than its bytes
frame_changes_lem : (f : Frame) (r r' : List ℕ) (i : ℕ) → frame_changes f r r' i ≤ link_changes r r' i
frame_changes_lem f r r' i = go (restarts f)
  where
    go : (b : Bool) → cond b 0 (link_changes r r' i) ≤ link_changes r r' i
    go true = omega arith
    go false = omega arith

-- a restart of a probe that is no end of the link leaves its four bytes
wipe_four : (t : Table) (r : List ℕ) → length r ≡ 8 * t.links → (p i : ℕ) → touches t p i ≡ false → four_of t (wiped t p r) i ≡ four_of t r i
wipe_four t r long p i away =
    rw (wiped_out_else t p r long (t.low i) i low, wiped_in_else t p r long (t.low i) i low, wiped_out_else t p r long (t.high i) i high, wiped_in_else t p r long (t.high i) i high)
  where
    low : t.low i ≡ p → ⊥
    low e = true≢false (sym (subst (λ q. touches t q i ≡ true) e (touches_low t i)) ∙ away)

    high : t.high i ≡ p → ⊥
    high e = true≢false (sym (subst (λ q. touches t q i ≡ true) e (touches_high t i)) ∙ away)

module _ (x : Slices) (fine : slices_fault x ≡ 0) (room : ℕ) where
  abbrev t : Table
  t = table_of x

  line_rises : (s : State) → HoldsAfter t s → (l : List ℕ) (i : ℕ) → i < x.links
      → (IsRestart t l → touches t (frame_of l).to i ≡ true → (e : Entry) → answer_to x room s l ≡ Logged e → ⊥)
      → (let r' = (next x room s l).bytes in frame_changes (frame_of l) s.bytes r' i + four_of t s.bytes i ≤ four_of t r' i)
  line_rises s h l i li none = go (wipes_or_steps x fine s h room l)
    where
      r : List ℕ
      r = s.bytes

      r' : List ℕ
      r' = (next x room s l).bytes

      p : ℕ
      p = (frame_of l).to

      go : ((restarts (frame_of l) ≡ true) × Passed x room s l × (r' ≡ wiped t p r)) ⊎ Steps t r r' → frame_changes (frame_of l) r r' i + four_of t r i ≤ four_of t r' i
      go (inr step) =
          let a = step_changes t (slices_legal x fine) r r' h.good step i li in
          let b = frame_changes_lem (frame_of l) r r' i in
          omega arith
      go (inl (is, passed, e)) = away (decided (touches t p i))
        where
          away : (touches t p i ≡ true) ⊎ (touches t p i ≡ false) → frame_changes (frame_of l) r r' i + four_of t r i ≤ four_of t r' i
          away (inl at) =
              absurd (none (passed.line, eqb-true (frame_of l).kind 3 is) at (entry_by t r (frame_of l)) (rw (passed_fault x fine s h room l passed) refl))
          away (inr at) =
              let a = wipe_four t r h.long p i at in
              let b : four_of t r' i ≡ four_of t (wiped t p r) i = ap (λ y. four_of t y i) e in
              let c : frame_changes (frame_of l) r r' i ≡ 0 = rw is in
              omega arith

  changes_rise : (s : State) → HoldsAfter t s → (ls : List (List ℕ)) (i : ℕ) → i < x.links → NoRestart x room (λ p. touches t p i) s ls
      → changes x room s ls i + four_of t s.bytes i ≤ four_of t (run x room s ls).bytes i
  unfolding changes run
  changes_rise s h [] i l none = omega arith
  changes_rise s h (m ∷ ls) i l none =
      let a = line_rises s h m i l none.0 in
      let b = changes_rise (next x room s m) (next_holds x fine s h room m) ls i l none.1 in
      omega arith

  pub changes_four : (s : State) → HoldsAfter t s → (ls : List (List ℕ)) (i : ℕ) → i < x.links → NoRestart x room (λ p. touches t p i) s ls → changes x room s ls i ≤ 4
  changes_four s h ls i l none =
      let a = changes_rise s h ls i l none in
      let r = (run x room s ls).bytes in
      let b = four_most t (slices_legal x fine) (OfferMarked t r) (RefusalMarked t r) (out_of t r) (in_of t r) (run_holds x fine room s h ls).good
      (λ p j. ℕ_discrete (out_mark t r p j) 1) i l in
      omega arith
