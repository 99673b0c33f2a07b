-- What an outcome names is within the table.
use Prim.Native.Nat.{ℕ, ◌≤◌}
use mathlib.Core.Path.{◌≡◌, refl}
use mathlib.Core.Logic.{◌⊎◌, inl, inr}
use mathlib.Core.Bool.{Bool, true, false, cond, ◌&&◌}
use mathlib.Core.List.{List, []}
use native.Mathlib.Omega.{arith}
use lib.Dec.{ltb, eqb}
use borrow.Author.Tests.{ltb-true}
use Rattle.range.proofs.Bools.{and_left, decided}
use Rattle.table.specs.Table.{Table, of_slices, spare, dearer}
use Rattle.probe_record.specs.Record.{outbound, inbound, standing, held, dearest_untried, cheapest_held}
use Rattle.probe_rules.specs.declared.Event.{Event}
use Rattle.probe_rules.specs.declared.Event.TheVariants.{Opening, Offer, Refusal}
use Rattle.probe_rules.specs.declared.Outcome.{Outcome}
use Rattle.probe_rules.specs.declared.Outcome.TheVariants.{Opened, Enough, Taken, TakenDisplacing, Refused, RefusalLearnt, NoChange, AllTried}
use Rattle.probe_rules.specs.Rules.{befalls, offer, entry_of}
use Rattle.probe_rules.specs.Within.{EventWithin, Within}

-- both arms are within
either : (n : ℕ) (b : Bool) (x y : Outcome) → (b ≡ true → Within n x) → Within n y → Within n (cond b x y)
either n b x y f g = go (decided b)
  where
    go : (b ≡ true) ⊎ (b ≡ false) → Within n (cond b x y)
    go (inl e) = rw e (f e)
    go (inr e) = rw e g

pub befalls_within : (t : Table) (p : ℕ) (event : Event) (e : List ℕ) → EventWithin t.links event → Within t.links (befalls t p event e)
befalls_within t p Opening e w =
    let i = dearest_untried t p e in
    either t.links (ltb (standing t p e) (spare t p)) _ _ (λ f. either t.links (ltb i t.links) _ _ (ltb-true i t.links) tt) tt
befalls_within t p (Offer i) e w = either t.links (eqb (inbound e i) 0) (offer t p e i) (NoChange i) (λ f. heard) w
  where
    c : ℕ
    c = cheapest_held t p e

    heard : Within t.links (offer t p e i)
    heard =
        either t.links (ltb (held t p e) (spare t p)) (Taken i) _ (λ f. w)
        (either t.links (ltb c t.links && dearer t i c) (TakenDisplacing i c) (Refused i)
        (λ f. (w, ltb-true c t.links (and_left (ltb c t.links) (dearer t i c) f))) w)
befalls_within t p (Refusal i) e w = either t.links (eqb (outbound e i) 2) (NoChange i) (RefusalLearnt i) (λ f. w) w

pub within_wider : (n m : ℕ) (o : Outcome) → n ≤ m → Within n o → Within m o
within_wider n m (Opened i) l w = omega arith
within_wider n m Enough l w = tt
within_wider n m (Taken i) l w = omega arith
within_wider n m (TakenDisplacing i c) l w = (omega (arith, w.0), omega (arith, w.1))
within_wider n m (Refused i) l w = omega arith
within_wider n m (RefusalLearnt i) l w = omega arith
within_wider n m (NoChange i) l w = omega arith
within_wider n m AllTried l w = tt

pub event_wider : (n m : ℕ) (v : Event) → n ≤ m → EventWithin n v → EventWithin m v
event_wider n m Opening l w = tt
event_wider n m (Offer i) l w = omega arith
event_wider n m (Refusal i) l w = omega arith

-- what the entry and the outcome take from the table
module _ (number probes links : ℕ) (needs lows highs costs : List ℕ) (p : ℕ) where
  abbrev table : Table
  table = of_slices number probes links needs lows highs costs

  pub entry_same : (o : Outcome) → entry_of (of_slices 0 0 0 [] lows highs []) p o ≡ entry_of table p o
  entry_same (Opened i) = refl
  entry_same Enough = refl
  entry_same (Taken i) = refl
  entry_same (TakenDisplacing i c) = refl
  entry_same (Refused i) = refl
  entry_same (RefusalLearnt i) = refl
  entry_same (NoChange i) = refl
  entry_same AllTried = refl

  pub befalls_same : (event : Event) (e : List ℕ) → befalls (of_slices 0 0 links needs lows highs costs) p event e ≡ befalls table p event e
  unfolding dearer
  befalls_same Opening e = refl
  befalls_same (Offer i) e = refl
  befalls_same (Refusal i) e = refl
