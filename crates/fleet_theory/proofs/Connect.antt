-- What befalls an end is a step of the bargaining.
use Prim.Native.Nat.{ℕ, ◌*◌, ◌<◌}
use mathlib.Core.Path.{◌≡◌, refl}
use mathlib.Core.List.{List}
use lib.ListN.{length}
use Rattle.table.specs.Table.{Table}
use Rattle.table.specs.Legal.{Legal}
use Rattle.plan_theory.proofs.Settled.{near, back}
use Rattle.plan_theory.specs.Criterion.{Across}
use Rattle.probe_rules.specs.declared.Event.{Event}
use Rattle.probe_rules.specs.declared.Event.TheVariants.{Opening, Offer, Refusal}
use Rattle.probe_rules.specs.declared.Outcome.{Outcome}
use Rattle.probe_rules.specs.declared.Outcome.TheVariants.{Opened, Taken, TakenDisplacing, Refused, RefusalLearnt}
use Rattle.probe_rules.specs.Rules.{befalls}
use Rattle.probe_rules.specs.Within.{OwnEvent, OwnOutcome}
use Rattle.probe_rules.proofs.Befalls.{Befell, opened, enough, all_tried, taken, displacing, refused, seen, learnt, known, befell, befell_own, own_within}
use Rattle.fleet_theory.proofs.EndState.{Step, idle, opens, takes, displaces, refuses, learns}
use Rattle.fleet_theory.specs.Fleet.{own, alter_fleet}
use Rattle.fleet_theory.proofs.Own.{out_of, in_of, out_mark, in_mark}
use Rattle.fleet_theory.proofs.Bytes.{altered_out, altered_in}

-- by the marks: the offer of p on i could be sent so far, and the refusal of that offer
abbrev pub OfferMarked : Table → List ℕ → ℕ → ℕ → Type 0
OfferMarked t r p i = out_mark t r p i ≡ 1

abbrev pub RefusalMarked : Table → List ℕ → ℕ → ℕ → Type 0
RefusalMarked t r p i = (w : ℕ) × Across t i p w × (in_mark t r w i ≡ 1)

-- a step from one record to another
abbrev pub Steps : Table → List ℕ → List ℕ → Type 0
Steps t r r' = Step t (OfferMarked t r) (RefusalMarked t r) (out_of t r) (in_of t r) (out_of t r') (in_of t r')

-- an event of the probe p, whose frame could be sent so far
abbrev pub Came : Table → List ℕ → ℕ → Event → Type 0
Came t r p Opening = Unit
Came t r p (Offer i) = (w : ℕ) × (i < t.links) × Across t i w p × OfferMarked t r w i
Came t r p (Refusal i) = (w : ℕ) × (i < t.links) × Across t i w p × (in_mark t r w i ≡ 1)

came_own : (t : Table) (r : List ℕ) (p : ℕ) (v : Event) → Came t r p v → OwnEvent t p v
came_own t r p Opening x = tt
came_own t r p (Offer i) (w, l, x, f) = (l, near (back x))
came_own t r p (Refusal i) (w, l, x, f) = (l, near (back x))

-- an outcome of p on its own links, and a step
pub record StepBy (t : Table) (r : List ℕ) (p : ℕ) (o : Outcome) : Type 0 where
  pub own_links : OwnOutcome t p o
  pub step : Steps t r (alter_fleet t p o r)

module _ (t : Table) (r : List ℕ) (long : length r ≡ 8 * t.links) (p : ℕ) where
  befell_step : {v : Event} {o : Outcome} → Befell t p (own t p r) v o → Came t r p v → OwnOutcome t p o → Steps t r (alter_fleet t p o r)
  befell_step (opened i a z m h) x own_links =
      opens p i a.0 a.1 z m (λ g l at. h g (l, at)) (altered_out t p r long (Opened i) own_links) (altered_in t p r long (Opened i) own_links)
  befell_step (enough m) x own_links = idle (λ q j. refl) (λ q j. refl)
  befell_step (all_tried m h) x own_links = idle (λ q j. refl) (λ q j. refl)
  befell_step (taken i z m) (w, l, x, f) own_links =
      takes p w i l x f z m (altered_out t p r long (Taken i) own_links) (altered_in t p r long (Taken i) own_links)
  befell_step (displacing i c z m a y d h) (w, l, x, f) own_links =
      displaces p w i c l x f z m a.0 a.1 y d (λ g k at. h g (k, at)) (altered_out t p r long (TakenDisplacing i c) own_links)
      (altered_in t p r long (TakenDisplacing i c) own_links)
  befell_step (refused i z m h) (w, l, x, f) own_links =
      refuses p w i l x f z m (λ g k at. h g (k, at)) (altered_out t p r long (Refused i) own_links) (altered_in t p r long (Refused i) own_links)
  befell_step (seen i d) x own_links = idle (λ q j. refl) (λ q j. refl)
  befell_step (learnt i d) (w, l, x, f) own_links =
      learns p i l (near (back x)) (w, back x, f) (altered_out t p r long (RefusalLearnt i) own_links) (altered_in t p r long (RefusalLearnt i) own_links)
  befell_step (known i y) x own_links = idle (λ q j. refl) (λ q j. refl)

pub befalls_step : (t : Table) → Legal t → (r : List ℕ) → length r ≡ 8 * t.links → (p : ℕ) (v : Event) → Came t r p v → StepBy t r p (befalls t p v (own t p r))
befalls_step t legal r long p v x =
    let o = came_own t r p v x in
    let b = befell t legal p (own t p r) v (own_within t p v o) in
    record { own_links = befell_own b o; step = befell_step t r long p b x (befell_own b o) }
