-- What a line past the checks before 27 says, and that it is a step.
use Prim.Native.Nat.{ℕ, ◌*◌, ◌<◌}
use mathlib.Core.Path.{◌≡◌, ◌∙◌}
use mathlib.Core.Logic.{inl, inr}
use mathlib.Core.Bool.{true, false, ◌&&◌}
use mathlib.Core.List.{List, [], ◌∷◌}
use native.Mathlib.Omega.{arith}
use native.Mathlib.Decide.{dec_lt, ℕ_discrete}
use lib.Dec.{ltb, eqb}
use lib.ListN.{length}
use borrow.Author.Tests.{ltb-true, lt-ltb, eqb-true, eq-eqb, ne_eqb}
use Rattle.range.specs.First.{or_else}
use Rattle.range.proofs.Bools.{and_right, unless_none}
use Rattle.range.proofs.Faults.{or_left, or_right, or_none}
use Rattle.table.specs.Table.{Table, between}
use Rattle.table.specs.Legal.{Legal}
use Rattle.plan_theory.specs.Criterion.{Across}
use Rattle.probe_frame.specs.Frame.{Frame, frame_of, frame_fault}
use Rattle.probe_rules.specs.declared.Event.TheVariants.{Opening, Offer, Refusal}
use Rattle.wake_log.specs.declared.What.TheVariants as what
use Rattle.probe_rules.specs.Rules.{entry_of}
use Rattle.probe_rules.specs.Frames.{number_fault, heard_of}
use Rattle.probe_rules.proofs.Frames.{between_across}
use Rattle.fleet_theory.specs.Fleet.{marks, restarts, of_one_probe, event_kind_fault, event_ends_fault, event_line_fault, event_of, unsent_fault, outcome_of, alter_fleet, wiped, altered_by, entry_by}
use Rattle.fleet_theory.specs.Words.{IsFrame, FrameOfTable, MaySend, TrulySent}
use Rattle.fleet_theory.proofs.Lines.{frame_checks, not_of_one_probe, frame_checks_lem}
use Rattle.fleet_theory.proofs.Own.{out_of, in_of, out_mark, in_mark, out_reads, in_reads}
use Rattle.fleet_theory.proofs.Connect.{Came, StepBy, befalls_step}

-- an opening or a restart of a probe, or an offer or a refusal from one end of a link to the other
pub data Says (t : Table) (f : Frame) : Type 0 where
  an_opening : f.kind ≡ 0 → f.to < t.probes → event_of t f ≡ Opening → Says t f
  a_restart : f.kind ≡ 3 → f.to < t.probes → event_of t f ≡ Opening → Says t f
  an_offer : (i : ℕ) → f.kind ≡ 1 → i < t.links → Across t i f.from f.to → event_of t f ≡ Offer i → heard_of t f ≡ Offer i → Says t f
  a_refusal : (i : ℕ) → f.kind ≡ 2 → i < t.links → Across t i f.from f.to → event_of t f ≡ Refusal i → heard_of t f ≡ Refusal i → Says t f

pub says : (t : Table) (l : List ℕ) → event_line_fault t l ≡ 0 → Says t (frame_of l)
says t l e = go (ℕ_discrete f.kind 0) (ℕ_discrete f.kind 3) (ℕ_discrete f.kind 1)
  where
    f : Frame
    f = frame_of l

    i : ℕ
    i = between t f.from f.to

    rest : frame_checks t f ≡ 0
    rest = or_right (frame_fault l) (frame_checks t f) e

    few : f.kind < 4
    few = ltb-true f.kind 4 (unless_none (ltb f.kind 4) 8 (or_left (event_kind_fault f) (or_else (number_fault t f) (event_ends_fault t f)) rest))

    ends : event_ends_fault t f ≡ 0
    ends = or_right (number_fault t f) (event_ends_fault t f) (or_right (event_kind_fault f) (or_else (number_fault t f) (event_ends_fault t f)) rest)

    probe : of_one_probe f.kind ≡ true → f.to < t.probes
    probe one =
        ltb-true f.to t.probes
        (and_right (eqb f.from f.to) (ltb f.to t.probes) (unless_none (eqb f.from f.to && ltb f.to t.probes) 23 (rw one at ends)))

    within : of_one_probe f.kind ≡ false → i < t.links
    within two = ltb-true i t.links (unless_none (ltb i t.links) 23 (rw two at ends))

    go : Dec (f.kind ≡ 0) → Dec (f.kind ≡ 3) → Dec (f.kind ≡ 1) → Says t f
    go (yes z) w d = let one : of_one_probe f.kind ≡ true = rw z in an_opening z (probe one) (rw one)
    go (no z) (yes w) d = let one : of_one_probe f.kind ≡ true = rw w in a_restart w (probe one) (rw one)
    go (no z) (no w) (yes o) =
        let two = not_of_one_probe f (inl o) in
        an_offer i o (within two) (between_across t f.from f.to (within two)) (rw (two, eq-eqb f.kind 1 o)) (rw (eq-eqb f.kind 1 o))
    go (no z) (no w) (no o) =
        let k : f.kind ≡ 2 = omega (arith, few) in
        let two = not_of_one_probe f (inr k) in
        a_refusal i k (within two) (between_across t f.from f.to (within two)) (rw (two, ne_eqb f.kind 1 o)) (rw (ne_eqb f.kind 1 o))

-- the byte by which a frame of the table may be sent
module _ (t : Table) (f : Frame) (i : ℕ) where
  pub may_offer : heard_of t f ≡ Offer i → (r : List ℕ)
      → (MaySend t r f → out_of t r f.from i ≡ 1) × (FrameOfTable t f → out_of t r f.from i ≡ 1 → MaySend t r f)
  may_offer is r = (λ m. eqb-true (out_of t r f.from i) 1 (rw is at m.1), λ frame e. (frame, rw (is, e)))

  pub may_refuse : heard_of t f ≡ Refusal i → (r : List ℕ)
      → (MaySend t r f → in_of t r f.from i ≡ 2) × (FrameOfTable t f → in_of t r f.from i ≡ 2 → MaySend t r f)
  may_refuse is r = (λ m. eqb-true (in_of t r f.from i) 2 (rw is at m.1), λ frame e. (frame, rw (is, e)))

-- a frame that may be sent at some moment passes the checks before 27
module _ (t : Table) (l : List ℕ) (digits : frame_fault l ≡ 0) where
  abbrev f : Frame
  f = frame_of l

  abbrev i : ℕ
  i = between t f.from f.to

  frame_passes : f.number ≡ t.number → IsFrame f → f.kind < 4 → i < t.links → event_line_fault t l ≡ 0
  frame_passes number frame few within =
      or_none (frame_fault l) (frame_checks t f) digits
      ∙ frame_checks_lem t f number few (rw (not_of_one_probe f frame, lt-ltb i t.links within))

  may_send_passes : (r : List ℕ) → MaySend t r f → event_line_fault t l ≡ 0
  may_send_passes r ((number, inl k), m) = frame_passes number (inl k) (omega arith) (go (dec_lt i t.links))
    where
      go : Dec (i < t.links) → i < t.links
      go (yes b) = b
      go (no b) =
          let one = eqb-true (out_of t r f.from i) 1 (rw (eq-eqb f.kind 1 k) at m) in
          let none = (out_reads t).no_byte r f.from i (λ own. b own.0) in
          absurd (omega arith)
  may_send_passes r ((number, inr k), m) = frame_passes number (inr k) (omega arith) (go (dec_lt i t.links))
    where
      go : Dec (i < t.links) → i < t.links
      go (yes b) = b
      go (no b) =
          let two = eqb-true (in_of t r f.from i) 2 (rw (ne_eqb f.kind 1 (λ z. omega arith)) at m) in
          let none = (in_reads t).no_byte r f.from i (λ own. b own.0) in
          absurd (omega arith)

  pub truly_sent_passes : (so_far : List (List ℕ)) → TrulySent t f so_far → event_line_fault t l ≡ 0
  truly_sent_passes [] m = absurd m
  truly_sent_passes (r ∷ so_far) (inl m) = may_send_passes r m
  truly_sent_passes (r ∷ so_far) (inr m) = truly_sent_passes so_far m

module _ (t : Table) (r : List ℕ) (f : Frame) where
  -- 27, and that it does not turn the frame down
  abbrev pub unsent_of : ℕ
  unsent_of = unsent_fault (event_of t f) (marks t f.from r)

  abbrev pub NotUnsent : Type 0
  NotUnsent = unsent_of ≡ 0

  came : Says t f → NotUnsent → Came t r f.to (event_of t f)
  came (an_opening k l v) u = rw v tt
  came (a_restart k l v) u = rw v tt
  came (an_offer i k l x v h) u =
      rw v (f.from, l, x, eqb-true (out_mark t r f.from i) 1 (unless_none (eqb (out_mark t r f.from i) 1) 26 (rw v at u)))
  came (a_refusal i k l x v h) u =
      rw v (f.from, l, x, eqb-true (in_mark t r f.from i) 1 (unless_none (eqb (in_mark t r f.from i) 1) 26 (rw v at u)))

pub line_step : (t : Table) → Legal t → (r : List ℕ) → length r ≡ 8 * t.links → (l : List ℕ) → event_line_fault t l ≡ 0 → NotUnsent t r (frame_of l)
    → StepBy t r (frame_of l).to (outcome_of t r (frame_of l))
line_step t legal r long l e u =
    let f = frame_of l in
    befalls_step t legal r long f.to (event_of t f) (came t r f (says t l e) u)

-- what a line alters and logs: a restart, and any other
module _ (t : Table) (r : List ℕ) (f : Frame) where
  pub altered_restart : restarts f ≡ true → altered_by t r f ≡ wiped t f.to r
  altered_restart e = rw e

  pub entry_restart : restarts f ≡ true → entry_by t r f ≡ record { probe = f.to; what = what.Restarted }
  entry_restart e = rw e

  pub altered_event : restarts f ≡ false → altered_by t r f ≡ alter_fleet t f.to (outcome_of t r f) r
  altered_event e = rw e

  pub entry_event : restarts f ≡ false → entry_by t r f ≡ entry_of t f.to (outcome_of t r f)
  entry_event e = rw e
