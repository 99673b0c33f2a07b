-- Where something would alter a byte, the line of an opening or of a frame that may be sent alters one.
use Prim.Native.Nat.{ℕ, ◌*◌, ◌<◌}
use mathlib.Core.Path.{◌≡◌, refl, sym, ◌∙◌, subst}
use mathlib.Core.Logic.{◌⊎◌, inl, inr}
use mathlib.Core.Bool.{Bool, true, false, ◌&&◌, true≢false}
use mathlib.Core.List.{List}
use native.Mathlib.Omega.{arith}
use lib.Dec.{ltb, eqb}
use lib.ListN.{length}
use borrow.Author.Tests.{lt-ltb, eqb-true, eq-eqb, ne_eqb}
use Rattle.range.proofs.Bools.{and_left, and_right, and_intro, decided}
use Rattle.range.proofs.Choice.{Best, nobody, chosen}
use Rattle.table.specs.Table.{Table, touches, spare, dearer}
use Rattle.table.specs.Legal.{Legal}
use Rattle.plan_theory.proofs.Plan.{at_end}
use Rattle.plan_theory.proofs.Settled.{near, back}
use Rattle.plan_theory.specs.Criterion.{Across}
use Rattle.probe_record.specs.Record.{outbound, own_with, standing, held, dearest_untried, cheapest_held}
use Rattle.probe_record.proofs.SearchLaws.{dearest}
use Rattle.probe_frame.specs.Frame.{Frame, frame_of, frame_line}
use Rattle.probe_rules.specs.declared.Event.{Event}
use Rattle.probe_rules.specs.declared.Event.TheVariants.{Opening, Offer, Refusal}
use Rattle.probe_rules.specs.declared.Outcome.TheVariants.{Opened, RefusalLearnt}
use Rattle.probe_rules.specs.Rules.{offer, befalls}
use Rattle.fleet_theory.proofs.EndState.{ones_at, store, SameBytes, Live, may_open_lem, may_hear, may_learn}
use Rattle.table.proofs.LegalLaws.{legal_table}
use Rattle.fleet_theory.proofs.EndBytes.{stored_byte, Swap, gone, new, old, swap}
use Rattle.fleet_theory.specs.Fleet.{own, restarts, event_line_fault, outcome_of, alter_fleet, altered_by}
use Rattle.fleet_theory.specs.Words.{MaySend}
use Rattle.fleet_theory.proofs.Own.{out_of, in_of}
use Rattle.fleet_theory.proofs.Bytes.{stored_in, altered_out, altered_in}
use Rattle.fleet_theory.proofs.Marked.{MarkedBytes}
use Rattle.fleet_theory.proofs.Lines.{opening_line_lem, frame_line_lem}
use Rattle.fleet_theory.proofs.Connect.{OfferMarked, befalls_step}
use Rattle.fleet_theory.proofs.Events.{Says, an_opening, a_restart, an_offer, a_refusal, says, may_offer, may_refuse, NotUnsent, altered_event}

-- an opening, or a frame that may be sent
abbrev pub UsableNow : Table → List ℕ → Frame → Type 0
UsableNow t r f = (f.kind ≡ 0) ⊎ MaySend t r f

-- neither is a restart
pub usable_event : (t : Table) (r : List ℕ) (f : Frame) → UsableNow t r f → restarts f ≡ false
usable_event t r f (inl z) = rw z
usable_event t r f (inr ((number, inl k), m)) = rw k
usable_event t r f (inr ((number, inr k), m)) = rw k

-- 27 turns down none of them
pub usable_sent : (t : Table) (r l : List ℕ) → MarkedBytes t r → event_line_fault t l ≡ 0 → UsableNow t r (frame_of l) → NotUnsent t r (frame_of l)
usable_sent t r l marked e u = go (says t l e) u
  where
    f : Frame
    f = frame_of l

    go : Says t f → UsableNow t r f → NotUnsent t r f
    go (an_opening k b v) u = rw v refl
    go (a_restart k b v) u = rw v refl
    go (an_offer i k b x v is) (inl z) = absurd (omega arith)
    go (an_offer i k b x v is) (inr m) = rw (v, (marked.outs f.from i).marked ((may_offer t f i is r).0 m))
    go (a_refusal i k b x v is) (inl z) = absurd (omega arith)
    go (a_refusal i k b x v is) (inr m) = rw (v, (marked.ins f.from i).marked ((may_refuse t f i is r).0 m))

-- some byte differs
abbrev Differ : Table → List ℕ → List ℕ → Type 0
Differ t r r' = SameBytes (out_of t r') (out_of t r) → SameBytes (in_of t r') (in_of t r) → ⊥

pub record Altering (t : Table) (r l : List ℕ) : Type 0 where
  pub line : event_line_fault t l ≡ 0
  pub usable : UsableNow t r (frame_of l)
  pub alters : Differ t r (altered_by t r (frame_of l))

module _ (t : Table) (legal : Legal t) (r : List ℕ) (long : length r ≡ 8 * t.links) where
  -- the bytes after an event
  abbrev after : ℕ → Event → List ℕ
  after p v = alter_fleet t p (befalls t p v (own t p r)) r

  opening_alters : (p i : ℕ) → i < t.links → touches t p i ≡ true → out_of t r p i ≡ 0 → ones_at t (out_of t r) p < spare t p → Differ t r (after p Opening)
  opening_alters p i l at z room same _ = go (dearest t (legal_table 256 2048 t legal).order p (own t p r))
    where
      d : ℕ
      d = dearest_untried t p (own t p r)

      go : Best (dearer t) (own_with t p (outbound (own t p r)) 0) t.links t.links d → ⊥
      go (nobody y h) = true≢false (sym (and_intro at (eq-eqb (out_of t r p i) 0 z)) ∙ h i l)
      go (chosen k y h) =
          let a = and_left (touches t p d) (eqb (out_of t r p d) 0) y in
          let b = eqb-true (out_of t r p d) 0 (and_right (touches t p d) (eqb (out_of t r p d) 0) y) in
          let c = altered_out t p r long (Opened d) (k, a) p d in
          let e = stored_byte (out_of t r) (store (out_of t r) p d 1) p d 1 (λ q j. refl) in
          let f = rw (lt-ltb (standing t p (own t p r)) (spare t p) room, lt-ltb d t.links k) at (same p d) in
          omega arith

  -- an offer heard first is no longer unseen
  offer_alters : (i p w : ℕ) → i < t.links → Across t i p w → OfferMarked t r p i → in_of t r w i ≡ 0 → Differ t r (after w (Offer i))
  offer_alters i p w l x s z _ same =
      let own_links = (befalls_step t legal r long w (Offer i) (p, l, x, s)).own_links in
      let c = altered_in t w r long (befalls t w (Offer i) e) own_links w i in
      let d = same w i in
      let f = sym c ∙ d ∙ z in
      seen (decided room) (decided (some && dear)) (rw (eq-eqb (in_of t r w i) 0 z) at f)
    where
      n : ℕ → ℕ → ℕ
      n = in_of t r

      e : List ℕ
      e = own t w r

      c : ℕ
      c = cheapest_held t w e

      room : Bool
      room = ltb (held t w e) (spare t w)

      some : Bool
      some = ltb c t.links

      dear : Bool
      dear = dearer t i c

      swapped : Swap n (store (store n w i 1) w c 2) w i c w i → store (store n w i 1) w c 2 w i ≡ 0 → ⊥
      swapped (gone a b f) y = omega arith
      swapped (new a b f) y = omega arith
      swapped (old a b f) y = b refl refl

      seen : (room ≡ true) ⊎ (room ≡ false) → ((some && dear) ≡ true) ⊎ ((some && dear) ≡ false) → stored_in w (offer t w e i) n w i ≡ 0 → ⊥
      seen (inl a) b = rw a (λ y. let f = stored_byte n (store n w i 1) w i 1 (λ q j. refl) in omega arith)
      seen (inr a) (inl b) = rw (a, b) (swapped (swap n (store (store n w i 1) w c 2) w i c (λ q j. refl) w i))
      seen (inr a) (inr b) = rw (a, b) (λ y. let f = stored_byte n (store n w i 2) w i 2 (λ q j. refl) in omega arith)

  refusal_alters : (i p : ℕ) → i < t.links → touches t p i ≡ true → (out_of t r p i ≡ 2 → ⊥) → Differ t r (after p (Refusal i))
  refusal_alters i p l at d same _ =
      let a = altered_out t p r long (RefusalLearnt i) (l, at) p i in
      let b = stored_byte (out_of t r) (store (out_of t r) p i 2) p i 2 (λ q j. refl) in
      let c = rw (ne_eqb (out_of t r p i) 2 d) at (same p i) in
      d (sym c ∙ a ∙ b)

  altering : (f : Frame) → event_line_fault t (frame_line f) ≡ 0 → frame_of (frame_line f) ≡ f → UsableNow t r f → Differ t r (alter_fleet t f.to (outcome_of t r f) r)
      → (l : List ℕ) × Altering t r l
  altering f e is u d = (
    frame_line f,
    record {
      line = e;
      usable = subst (UsableNow t r) (sym is) u;
      alters = subst (λ g. Differ t r (altered_by t r g)) (sym is) (subst (Differ t r) (sym (altered_event t r f (usable_event t r f u))) d);
    },
  )

  pub live_line : MarkedBytes t r → t.number < 65536 → Live t (out_of t r) (in_of t r) → (l : List ℕ) × Altering t r l
  live_line marked digits (may_open_lem p i l at z room) =
      let ends = (legal_table 256 2048 t legal).ends i l in
      let a = opening_line_lem t legal digits p (at_end t (λ v. v < t.probes) p i at (omega arith) ends.below) in
      altering (record { kind = 0; number = t.number; from = p; to = p }) a.0 a.1 (inl refl) (opening_alters p i l at z room)
  live_line marked digits (may_hear i p w l x e z) =
      let a = frame_line_lem t legal digits 1 i p w (inl refl) l x in
      altering (record { kind = 1; number = t.number; from = p; to = w }) a.0 a.1 (inr ((refl, inl refl), rw a.2 (eq-eqb (out_of t r p i) 1 e)))
      (rw a.2 (offer_alters i p w l x ((marked.outs p i).marked e) z))
  live_line marked digits (may_learn i p w l x e d) =
      let a = frame_line_lem t legal digits 2 i w p (inr refl) l (back x) in
      altering (record { kind = 2; number = t.number; from = w; to = p }) a.0 a.1 (inr ((refl, inr refl), rw a.2 (eq-eqb (in_of t r w i) 2 e)))
      (rw a.2 (refusal_alters i p l (near x) d))
