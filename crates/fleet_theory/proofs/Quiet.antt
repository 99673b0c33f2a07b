-- Finished: nothing would alter a byte.
use Prim.Native.Nat.{ℕ, ◌≤◌, ◌<◌}
use mathlib.Core.Path.{◌≡◌, refl, sym, ◌∙◌}
use mathlib.Core.Logic.{◌⊎◌, inl, inr}
use mathlib.Core.Bool.{Bool, true, false, ◌&&◌, ◌||◌, not, true≢false}
use mathlib.Core.List.{List}
use native.Mathlib.Omega.{arith}
use native.Mathlib.Decide.{dec_lt}
use lib.Dec.{ltb, eqb}
use borrow.Author.Tests.{ltb-true, lt-ltb, eqb-true, eq-eqb, ne_eqb, not-true, not-false, eqb-false}
use Rattle.range.specs.Sum.{count}
use Rattle.range.proofs.Bools.{and_left, and_right, and_intro, or_cases, or_false_left, or_false_right}
use Rattle.range.proofs.Choice.{Best, nobody, chosen}
use Rattle.range.proofs.Sums.{count_none, none_count}
use Rattle.table.specs.Table.{Table, touches, spare, dearer}
use Rattle.table.specs.Legal.{Legal}
use Rattle.plan_theory.proofs.Plan.{at_end}
use Rattle.plan_theory.proofs.Settled.{back}
use Rattle.plan_theory.specs.Criterion.{Across, up, down}
use Rattle.probe_record.specs.Record.{outbound, own_with, standing, dearest_untried}
use Rattle.probe_record.proofs.SearchLaws.{dearest}
use Rattle.probe_rules.specs.declared.Event.TheVariants.{Opening}
use Rattle.probe_rules.specs.declared.Outcome.{Outcome}
use Rattle.probe_rules.proofs.Befalls.{Befell, opened, enough, all_tried, befell}
use Rattle.probe_frame.specs.Frame.{Frame, frame_of}
use Rattle.fleet_theory.proofs.EndState.{ones_at, Quiet}
use Rattle.table.proofs.LegalLaws.{legal_table}
use Rattle.fleet_theory.specs.Fleet.{own, event_line_fault, alter_fleet, altered_by, would_open, alters, finished}
use Rattle.fleet_theory.specs.Words.{MaySend}
use Rattle.fleet_theory.proofs.Own.{out_of, in_of}
use Rattle.fleet_theory.proofs.Events.{Says, an_opening, a_restart, an_offer, a_refusal, says, may_offer, may_refuse, altered_event}

module _ (t : Table) (legal : Legal t) (r : List ℕ) where
  abbrev BothQuiet : Type 0
  BothQuiet = Quiet t (out_of t r) (in_of t r)

  abbrev altering : ℕ → Bool
  altering i = alters t r (t.low i) (t.high i) i || alters t r (t.high i) (t.low i) i

  quiet_opens : BothQuiet → (p : ℕ) → would_open t r p ≡ true → ⊥
  quiet_opens quiet p e = go (dearest t (legal_table 256 2048 t legal).order p (own t p r))
    where
      i : ℕ
      i = dearest_untried t p (own t p r)

      room : Bool
      room = ltb (standing t p (own t p r)) (spare t p)

      go : Best (dearer t) (own_with t p (outbound (own t p r)) 0) t.links t.links i → ⊥
      go (nobody y h) =
          let l = ltb-true i t.links (and_right room (ltb i t.links) e) in
          omega arith
      go (chosen l y h) =
          let a = and_left (touches t p i) (eqb (out_of t r p i) 0) y in
          let z = eqb-true (out_of t r p i) 0 (and_right (touches t p i) (eqb (out_of t r p i) 0) y) in
          let m = quiet.opened p i l a z in
          let k = ltb-true (standing t p (own t p r)) (spare t p) (and_left room (ltb i t.links) e) in
          omega arith

  quiet_alters : BothQuiet → (i p w : ℕ) → i < t.links → Across t i p w → alters t r p w i ≡ true → ⊥
  quiet_alters quiet i p w l x e = go (or_cases (eqb o 1 && eqb n 0) (eqb n 2 && not (eqb o 2)) e)
    where
      o : ℕ
      o = out_of t r p i

      n : ℕ
      n = in_of t r w i

      go : ((eqb o 1 && eqb n 0) ≡ true) ⊎ ((eqb n 2 && not (eqb o 2)) ≡ true) → ⊥
      go (inl a) = quiet.heard i p w l x (eqb-true o 1 (and_left (eqb o 1) (eqb n 0) a)) (eqb-true n 0 (and_right (eqb o 1) (eqb n 0) a))
      go (inr a) =
          eqb-false o 2 (not-true (eqb o 2) (and_right (eqb n 2) (not (eqb o 2)) a))
          (quiet.told i p w l x (eqb-true n 2 (and_left (eqb n 2) (not (eqb o 2)) a)))

  pub quiet_finished : BothQuiet → finished t r ≡ true
  unfolding finished
  quiet_finished quiet =
      and_intro (eq-eqb (count t.probes (would_open t r)) 0 (none_count t.probes (would_open t r) (λ p l. quiet_opens quiet p)))
      (eq-eqb (count t.links altering) 0 (none_count t.links altering (λ i l e. go i l (or_cases (alters t r (t.low i) (t.high i) i) (alters t r (t.high i) (t.low i) i) e))))
    where
      go : (i : ℕ) → i < t.links → (alters t r (t.low i) (t.high i) i ≡ true) ⊎ (alters t r (t.high i) (t.low i) i ≡ true) → ⊥
      go i l (inl e) = quiet_alters quiet i (t.low i) (t.high i) l up e
      go i l (inr e) = quiet_alters quiet i (t.high i) (t.low i) l down e

  pub finished_quiet : finished t r ≡ true → BothQuiet
  unfolding finished
  finished_quiet e =
      record {
        opened = λ p i l at z. full_at p i l at z (dec_lt (standing t p (own t p r)) (spare t p)) (dearest t (legal_table 256 2048 t legal).order p (own t p r));
        heard = λ i p w l x a b. heard i p w a b (still i p w l x);
        told = λ i p w l x a. told i p w a (still i p w l x);
      }
    where
      no_opens : Bool
      no_opens = eqb (count t.probes (would_open t r)) 0

      no_alters : Bool
      no_alters = eqb (count t.links altering) 0

      below : (p i : ℕ) → i < t.links → touches t p i ≡ true → p < t.probes
      below p i l at = let a = (legal_table 256 2048 t legal).ends i l in at_end t (λ v. v < t.probes) p i at (omega arith) a.below

      full_at : (p i : ℕ) → i < t.links → touches t p i ≡ true → out_of t r p i ≡ 0 → Dec (standing t p (own t p r) < spare t p)
          → Best (dearer t) (own_with t p (outbound (own t p r)) 0) t.links t.links (dearest_untried t p (own t p r)) → spare t p ≤ ones_at t (out_of t r) p
      full_at p i l at z (no d) b = omega arith
      full_at p i l at z (yes m) (nobody y h) = absurd (true≢false (sym (and_intro at (eq-eqb (out_of t r p i) 0 z)) ∙ h i l))
      full_at p i l at z (yes m) (chosen k y h) =
          absurd (true≢false
          (sym (and_intro (lt-ltb (standing t p (own t p r)) (spare t p) m) (lt-ltb (dearest_untried t p (own t p r)) t.links k))
          ∙ count_none t.probes (would_open t r) (eqb-true (count t.probes (would_open t r)) 0 (and_left no_opens no_alters e)) p (below p i l at)))

      none : (i : ℕ) → i < t.links → altering i ≡ false
      none = count_none t.links altering (eqb-true (count t.links altering) 0 (and_right no_opens no_alters e))

      still : (i p w : ℕ) → i < t.links → Across t i p w → alters t r p w i ≡ false
      still i _ _ l up = or_false_left (alters t r (t.low i) (t.high i) i) (alters t r (t.high i) (t.low i) i) (none i l)
      still i _ _ l down = or_false_right (alters t r (t.low i) (t.high i) i) (alters t r (t.high i) (t.low i) i) (none i l)

      heard : (i p w : ℕ) → out_of t r p i ≡ 1 → in_of t r w i ≡ 0 → alters t r p w i ≡ false → ⊥
      heard i p w a b f =
          let o = out_of t r p i in
          let n = in_of t r w i in
          true≢false (sym (and_intro (eq-eqb o 1 a) (eq-eqb n 0 b)) ∙ or_false_left (eqb o 1 && eqb n 0) (eqb n 2 && not (eqb o 2)) f)

      told : (i p w : ℕ) → in_of t r w i ≡ 2 → alters t r p w i ≡ false → out_of t r p i ≡ 2
      told i p w a f =
          let o = out_of t r p i in
          let n = in_of t r w i in
          eqb-true o 2 (not-false (eqb o 2) (rw (eq-eqb n 2 a) at (or_false_right (eqb o 1 && eqb n 0) (eqb n 2 && not (eqb o 2)) f)))

  -- then no opening and no frame that may be sent alters a byte
  pub quiet_stays : BothQuiet → (l : List ℕ) → event_line_fault t l ≡ 0 → ((frame_of l).kind ≡ 0) ⊎ MaySend t r (frame_of l) → altered_by t r (frame_of l) ≡ r
  quiet_stays quiet l e u = go (says t l e) u
    where
      f : Frame
      f = frame_of l

      go : Says t f → (f.kind ≡ 0) ⊎ MaySend t r f → altered_by t r f ≡ r
      go (an_opening k b v) u =
          altered_event t r f (rw k) ∙ rw v (stays (befell t legal f.to (own t f.to r) Opening tt))
        where
          stays : {o : Outcome} → Befell t f.to (own t f.to r) Opening o → alter_fleet t f.to o r ≡ r
          stays (opened i a z m h) = let full = quiet.opened f.to i a.0 a.1 z in absurd (omega arith)
          stays (enough m) = refl
          stays (all_tried m h) = refl
      go (a_restart k b v) (inl z) = absurd (omega arith)
      go (a_restart k b v) (inr ((number, inl z), m)) = absurd (omega arith)
      go (a_restart k b v) (inr ((number, inr z), m)) = absurd (omega arith)
      go (an_offer i k b x v is) (inl z) = absurd (omega arith)
      go (an_offer i k b x v is) (inr m) =
          altered_event t r f (rw k) ∙ rw (v, ne_eqb (in_of t r f.to i) 0 (quiet.heard i f.from f.to b x ((may_offer t f i is r).0 m)))
      go (a_refusal i k b x v is) (inl z) = absurd (omega arith)
      go (a_refusal i k b x v is) (inr m) =
          altered_event t r f (rw k) ∙ rw (v, eq-eqb (out_of t r f.to i) 2 (quiet.told i f.to f.from b (back x) ((may_refuse t f i is r).0 m)))
