-- What may befall an end: a case for each outcome, with what the rule has found.
use Prim.Native.Nat.{ℕ, ◌≤◌, ◌<◌}
use mathlib.Core.Path.{◌≡◌, sym, ◌∙◌}
use mathlib.Core.Logic.{◌⊎◌, inl, inr}
use mathlib.Core.Bool.{Bool, true, false, ◌&&◌, true≢false}
use mathlib.Core.List.{List}
use native.Mathlib.Omega.{arith}
use lib.Dec.{ltb, eqb}
use borrow.Author.Tests.{ltb-true, ltb-false, lt-ltb, eqb-true, eqb-false, eq-eqb}
use Rattle.range.proofs.Bools.{and_left, and_right, and_intro, decided}
use Rattle.range.proofs.Choice.{Best, nobody, chosen}
use Rattle.table.specs.Table.{Table, touches, spare, dearer, cheaper}
use Rattle.table.specs.Legal.{Legal, RisingLinks}
use Rattle.plan_theory.proofs.Places.{Order, Side, here, earlier, later, side}
use Rattle.plan_theory.proofs.Order.{dearer_order}
use Rattle.table.proofs.LegalLaws.{legal_table}
use Rattle.probe_record.specs.Record.{outbound, inbound, own_with, standing, held, dearest_untried, cheapest_held}
use Rattle.probe_record.proofs.SearchLaws.{dearest, cheapest}
use Rattle.probe_rules.specs.declared.Event.{Event}
use Rattle.probe_rules.specs.declared.Event.TheVariants.{Opening, Offer, Refusal}
use Rattle.probe_rules.specs.declared.Outcome.{Outcome}
use Rattle.probe_rules.specs.declared.Outcome.TheVariants.{Opened, Enough, Taken, TakenDisplacing, Refused, RefusalLearnt, NoChange, AllTried}
use Rattle.probe_rules.specs.Rules.{opening, offer, befalls}
use Rattle.probe_rules.specs.Within.{OwnLink, OwnEvent, OwnOutcome, EventWithin}

pub data Befell (t : Table) (p : ℕ) (e : List ℕ) : Event → Outcome → Type 0 where
  opened : (i : ℕ) → OwnLink t p i → outbound e i ≡ 0 → standing t p e < spare t p
      → ((g : ℕ) → OwnLink t p g → outbound e g ≡ 0 → dearer t g i ≡ false) → Befell t p e Opening (Opened i)
  enough : spare t p ≤ standing t p e → Befell t p e Opening Enough
  all_tried : standing t p e < spare t p → ((g : ℕ) → OwnLink t p g → outbound e g ≡ 0 → ⊥) → Befell t p e Opening AllTried
  taken : (i : ℕ) → inbound e i ≡ 0 → held t p e < spare t p → Befell t p e (Offer i) (Taken i)
  displacing : (i c : ℕ) → inbound e i ≡ 0 → spare t p ≤ held t p e → OwnLink t p c → inbound e c ≡ 1 → dearer t i c ≡ true
      → ((g : ℕ) → OwnLink t p g → inbound e g ≡ 1 → dearer t c g ≡ false) → Befell t p e (Offer i) (TakenDisplacing i c)
  refused : (i : ℕ) → inbound e i ≡ 0 → spare t p ≤ held t p e → ((g : ℕ) → OwnLink t p g → inbound e g ≡ 1 → dearer t g i ≡ true)
      → Befell t p e (Offer i) (Refused i)
  seen : (i : ℕ) → (inbound e i ≡ 0 → ⊥) → Befell t p e (Offer i) (NoChange i)
  learnt : (i : ℕ) → (outbound e i ≡ 2 → ⊥) → Befell t p e (Refusal i) (RefusalLearnt i)
  known : (i : ℕ) → outbound e i ≡ 2 → Befell t p e (Refusal i) (NoChange i)

module _ (t : Table) (rises : RisingLinks t) (p : ℕ) (e : List ℕ) where
  abbrev order : Order t.links (dearer t)
  order = dearer_order t rises

  befell_opening : Befell t p e Opening (opening t p e)
  befell_opening = go (decided room) (decided some) (dearest t rises p e)
    where
      i : ℕ
      i = dearest_untried t p e

      room : Bool
      room = ltb (standing t p e) (spare t p)

      some : Bool
      some = ltb i t.links

      -- i is the dearest untried own link, or there is none
      IsDearest : Type 0
      IsDearest = Best (dearer t) (own_with t p (outbound e) 0) t.links t.links i

      opens : room ≡ true → some ≡ true → IsDearest → Befell t p e Opening (Opened i)
      opens a s (nobody x h) = let l = ltb-true i t.links s in absurd (omega arith)
      opens a s (chosen l f h) =
          opened i (l, and_left (touches t p i) (eqb (outbound e i) 0) f) (eqb-true (outbound e i) 0 (and_right (touches t p i) (eqb (outbound e i) 0) f))
          (ltb-true (standing t p e) (spare t p) a) (λ g o z. h g o.0 (and_intro o.1 (eq-eqb (outbound e g) 0 z)))

      tried : some ≡ false → IsDearest → (g : ℕ) → OwnLink t p g → outbound e g ≡ 0 → ⊥
      tried s (nobody x h) g o z = true≢false (sym (and_intro o.1 (eq-eqb (outbound e g) 0 z)) ∙ h g o.0)
      tried s (chosen l f h) g o z = let k = ltb-false i t.links s in omega arith

      go : (room ≡ true) ⊎ (room ≡ false) → (some ≡ true) ⊎ (some ≡ false) → IsDearest → Befell t p e Opening (opening t p e)
      go (inl a) (inl s) b = rw (a, s) (opens a s b)
      go (inl a) (inr s) b = rw (a, s) (all_tried (ltb-true (standing t p e) (spare t p) a) (tried s b))
      go (inr a) s b = rw a (enough (ltb-false (standing t p e) (spare t p) a))

  befell_offer : (i : ℕ) → i < t.links → inbound e i ≡ 0 → Befell t p e (Offer i) (offer t p e i)
  befell_offer i l z = go (decided room) (decided (some && dear)) (cheapest t rises p e)
    where
      c : ℕ
      c = cheapest_held t p e

      room : Bool
      room = ltb (held t p e) (spare t p)

      some : Bool
      some = ltb c t.links

      dear : Bool
      dear = dearer t i c

      -- what is found cheapest
      IsCheapest : Type 0
      IsCheapest = Best (cheaper t) (own_with t p (inbound e) 1) t.links t.links c

      displaced : room ≡ false → some ≡ true → dear ≡ true → IsCheapest → Befell t p e (Offer i) (TakenDisplacing i c)
      displaced a s d (nobody y h) = let k = ltb-true c t.links s in absurd (omega arith)
      displaced a s d (chosen k y h) =
          displacing i c z (ltb-false (held t p e) (spare t p) a) (k, and_left (touches t p c) (eqb (inbound e c) 1) y)
          (eqb-true (inbound e c) 1 (and_right (touches t p c) (eqb (inbound e c) 1) y)) d (λ g o q. h g o.0 (and_intro o.1 (eq-eqb (inbound e g) 1 q)))

      -- all that p holds is dearer
      all_dearer : (some && dear) ≡ false → IsCheapest → (g : ℕ) → OwnLink t p g → inbound e g ≡ 1 → dearer t g i ≡ true
      all_dearer d (nobody y h) g o q = absurd (true≢false (sym (and_intro o.1 (eq-eqb (inbound e g) 1 q)) ∙ h g o.0))
      all_dearer d (chosen k y h) g o q =
          by (side t.links (dearer t) order c i k l) (side t.links (dearer t) order g c o.0 k)
          (h g o.0 (and_intro o.1 (eq-eqb (inbound e g) 1 q))) (rw (lt-ltb c t.links k) at d)
        where
          one : inbound e c ≡ 1
          one = eqb-true (inbound e c) 1 (and_right (touches t p c) (eqb (inbound e c) 1) y)

          apart : c ≡ i → ⊥
          apart s = let b : inbound e i ≡ 1 = rw (← s) one in omega arith

          by : Side (dearer t) c i → Side (dearer t) g c → dearer t c g ≡ false → dear ≡ false → dearer t g i ≡ true
          by (here f _ _) s least m = absurd (apart (eqb-true c i f))
          by (later _ _ f) s least m = absurd (true≢false (sym f ∙ m))
          by (earlier _ f _) (here s _ _) least m = rw (eqb-true g c s) f
          by (earlier _ f _) (earlier _ s _) least m = order.transitive g c i o.0 k l s f
          by (earlier _ f _) (later _ _ s) least m = absurd (true≢false (sym s ∙ least))

      go : (room ≡ true) ⊎ (room ≡ false) → ((some && dear) ≡ true) ⊎ ((some && dear) ≡ false) → IsCheapest → Befell t p e (Offer i) (offer t p e i)
      go (inl a) d b = rw a (taken i z (ltb-true (held t p e) (spare t p) a))
      go (inr a) (inl d) b = rw (a, d) (displaced a (and_left some dear d) (and_right some dear d) b)
      go (inr a) (inr d) b = rw (a, d) (refused i z (ltb-false (held t p e) (spare t p) a) (all_dearer d b))

  pub befell_rising : (v : Event) → EventWithin t.links v → Befell t p e v (befalls t p v e)
  befell_rising Opening w = befell_opening
  befell_rising (Offer i) w = go (decided (eqb (inbound e i) 0))
    where
      go : (eqb (inbound e i) 0 ≡ true) ⊎ (eqb (inbound e i) 0 ≡ false) → Befell t p e (Offer i) (befalls t p (Offer i) e)
      go (inl a) = rw a (befell_offer i w (eqb-true (inbound e i) 0 a))
      go (inr a) = rw a (seen i (eqb-false (inbound e i) 0 a))
  befell_rising (Refusal i) w = go (decided (eqb (outbound e i) 2))
    where
      go : (eqb (outbound e i) 2 ≡ true) ⊎ (eqb (outbound e i) 2 ≡ false) → Befell t p e (Refusal i) (befalls t p (Refusal i) e)
      go (inl a) = rw a (known i (eqb-true (outbound e i) 2 a))
      go (inr a) = rw a (learnt i (eqb-false (outbound e i) 2 a))

pub befell : (t : Table) → Legal t → (p : ℕ) (e : List ℕ) (v : Event) → EventWithin t.links v → Befell t p e v (befalls t p v e)
befell t legal = befell_rising t (legal_table 256 2048 t legal).order

pub own_within : (t : Table) (p : ℕ) (v : Event) → OwnEvent t p v → EventWithin t.links v
own_within t p Opening o = tt
own_within t p (Offer i) o = o.0
own_within t p (Refusal i) o = o.0

-- an event on an own link has an outcome on own links
pub befell_own : {t : Table} {p : ℕ} {e : List ℕ} {v : Event} {o : Outcome} → Befell t p e v o → OwnEvent t p v → OwnOutcome t p o
befell_own (opened i a z m h) w = a
befell_own (enough m) w = tt
befell_own (all_tried m h) w = tt
befell_own (taken i z m) w = w
befell_own (displacing i c z m a y d h) w = (w, a)
befell_own (refused i z m h) w = w
befell_own (seen i d) w = tt
befell_own (learnt i d) w = w
befell_own (known i y) w = tt
