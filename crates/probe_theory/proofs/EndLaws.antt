-- The laws of one end.
use Prim.Native.Nat.{ℕ}
use mathlib.Core.Path.{◌≡◌}
use mathlib.Core.Logic.{◌⊎◌, inl, inr}
use mathlib.Core.Bool.{true, false}
use mathlib.Core.List.{List}
use lib.Dec.{eqb}
use Rattle.range.proofs.Bools.{decided}
use Rattle.table.specs.Table.{Table, between}
use Rattle.table.specs.Legal.{Legal}
use Rattle.plan_theory.proofs.Settled.{near, back}
use Rattle.probe_frame.specs.Frame.{Frame, frame_of}
use Rattle.probe_record.specs.Record.{fresh}
use Rattle.probe_record.proofs.Bytes.{good_record, record_passes}
use Rattle.probe_rules.specs.declared.Event.{Event}
use Rattle.probe_rules.specs.Rules.{befalls}
use Rattle.probe_rules.specs.Frames.{heard_of}
use Rattle.probe_rules.specs.Within.{OwnLink, OwnEvent, OwnOutcome}
use Rattle.probe_rules.proofs.Frames.{between_across}
use Rattle.probe_rules.proofs.Befalls.{Befell, befell, befell_own, own_within}
use Rattle.probe_maps.proofs.Faults.{turns_back, fresh_maps_lem}
use Rattle.probe_checks.specs.Checks.{heard_fault, link_call_fault}
use Rattle.probe_checks.proofs.Accepted.{heard_link, heard_to}
use Rattle.probe_theory.specs.EndLaws.{EndLaws, record_after}
use Rattle.probe_theory.proofs.Changes.{outcome_few, outcome_own}
use Rattle.probe_theory.proofs.Usable.{fresh_good, befell_good}
use Rattle.probe_theory.proofs.OpensNothing.{opens_nothing}
use Rattle.probe_theory.proofs.Asking.{asks_again, asked_says, asked_passes, asked_heard}

pub heard_own : (t : Table) (p : ℕ) (l : List ℕ) → heard_fault t p l ≡ 0 → OwnEvent t p (heard_of t (frame_of l))
heard_own t p l e = go (decided (eqb f.kind 1))
  where
    f : Frame
    f = frame_of l

    own_link : OwnLink t p (between t f.from f.to)
    own_link = (heard_link t p l e, rw (← heard_to t p l e) (near (back (between_across t f.from f.to (heard_link t p l e)))))

    go : (eqb f.kind 1 ≡ true) ⊎ (eqb f.kind 1 ≡ false) → OwnEvent t p (heard_of t f)
    go (inl k) = rw k own_link
    go (inr k) = rw k own_link

pub end_laws : (t : Table) → Legal t → (p : ℕ) → EndLaws t p
end_laws t legal p =
    record {
      heard_own = heard_own t p;
      changes_own = λ v e a. outcome_own t p e (befalls t p v e) (own_links v e a);
      changes_few = λ v e a. outcome_few t p e (befalls t p v e) (own_links v e a);
      fresh_usable = record_passes t p (fresh t) (fresh_good t p);
      stays_usable = λ v e f a. record_passes t p (record_after t p v e) (befell_good t p e (good_record t p e f) (is v e a) a);
      fresh_maps_lem = fresh_maps_lem t;
      fresh_maps_usable = (turns_back t p).bytes_there (fresh t) (record_passes t p (fresh t) (fresh_good t p));
      opens_nothing = opens_nothing t legal p;
      asked_again = λ k i state e. asks_again t p k i e (link_call_fault state t p i);
      line_says = λ digits k i a. asked_says t legal digits p i a k;
      line_passes = λ digits k i a. asked_passes t legal digits p i a k;
      line_heard = λ digits k i a. asked_heard t legal digits p i a k;
    }
  where
    is : (v : Event) (e : List ℕ) → OwnEvent t p v → Befell t p e v (befalls t p v e)
    is v e a = befell t legal p e v (own_within t p v a)

    own_links : (v : Event) (e : List ℕ) → OwnEvent t p v → OwnOutcome t p (befalls t p v e)
    own_links v e a = befell_own (is v e a) a
