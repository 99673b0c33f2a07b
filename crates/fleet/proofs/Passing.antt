-- What an accepted line has passed; a fleet's record that 20, 21 and 22 let pass stays one.
use Prim.Native.Nat.{ℕ, ◌*◌, ◌<◌}
use mathlib.Core.Path.{◌≡◌, sym, ◌∙◌, subst}
use mathlib.Core.Logic.{◌⊎◌, inl, inr}
use mathlib.Core.Bool.{true, false, cond}
use mathlib.Core.List.{List}
use native.Mathlib.Omega.{arith}
use native.Mathlib.Decide.{ℕ_discrete}
use lib.Dec.{eqb, ltb}
use lib.ListN.{length}
use borrow.Author.Tests.{eq-eqb}
use Rattle.range.specs.First.{or_else, first}
use Rattle.range.proofs.Bools.{decided}
use Rattle.range.proofs.Faults.{or_left, or_right, or_none, first_all, none_first}
use Rattle.table.specs.Table.{Table}
use Rattle.table.proofs.LegalLaws.{legal_table}
use Rattle.plan_theory.proofs.Settled.{near, back}
use Rattle.probe_frame.specs.Frame.{Frame, frame_of}
use Rattle.probe_record.specs.Record.{fresh, record_length_fault, byte_fault, spare_fault, record_fault}
use Rattle.probe_rules.specs.declared.Outcome.{Outcome}
use Rattle.probe_rules.specs.Rules.{alter}
use Rattle.probe_rules.specs.Within.{OwnEvent, OwnOutcome}
use Rattle.probe_theory.proofs.EndLaws.{end_laws}
use Rattle.fleet_theory.specs.Fleet.{own, link_bytes_fault, fleet_fault, restarts, event_line_fault, event_fault, event_of, outcome_of, alter_fleet, wiped, altered_by}
use Rattle.table.specs.Slices.{Slices, table_of, slices_fault}
use Rattle.fleet_theory.proofs.Own.{length_own}
use Rattle.fleet_theory.proofs.Bytes.{length_altered}
use Rattle.fleet_theory.proofs.Wipe.{length_wiped}
use Rattle.fleet_theory.proofs.Marked.{MarkedBytes, passes_marked, marked_passes, MarksAfter, marks_fit, marks_altered, marks_wiped}
use Rattle.fleet_theory.proofs.Events.{Says, an_opening, a_restart, an_offer, a_refusal, says, unsent_of, NotUnsent, line_step, altered_restart, altered_event}
use Rattle.fleet_theory.proofs.Run.{slices_legal}
use Rattle.fleet_theory.proofs.Alone.{own_altered, own_else, own_wiped, own_wiped_else}
use Rattle.fleet_state.proofs.CheckLaws.{fleet_good, own_passes}

-- an accepted line
module _ (x : Slices) (r : List ℕ) (used room : ℕ) (l : List ℕ) (e : event_fault x r used room l ≡ 0) where
  abbrev full : ℕ
  full = cond (ltb used room) 0 26

  abbrev unsent : ℕ
  unsent = unsent_of (table_of x) r (frame_of l)

  abbrev rest : ℕ
  rest = or_else (event_line_fault (table_of x) l) (or_else unsent full)

  pub passed_slices : slices_fault x ≡ 0
  passed_slices = or_left (slices_fault x) (or_else (fleet_fault (table_of x) r) rest) e

  past_slices : or_else (fleet_fault (table_of x) r) rest ≡ 0
  past_slices = or_right (slices_fault x) (or_else (fleet_fault (table_of x) r) rest) e

  -- 20, 21 and 22
  pub passed_record : fleet_fault (table_of x) r ≡ 0
  passed_record = or_left (fleet_fault (table_of x) r) rest past_slices

  -- the checks before 27, and 27
  pub passed_line : (event_line_fault (table_of x) l ≡ 0) × NotUnsent (table_of x) r (frame_of l)
  passed_line =
      let a = or_right (fleet_fault (table_of x) r) rest past_slices in
      (or_left (event_line_fault (table_of x) l) (or_else unsent full) a, or_left unsent full (or_right (event_line_fault (table_of x) l) (or_else unsent full) a))

module _ (x : Slices) (fine : slices_fault x ≡ 0) (r : List ℕ) (good : fleet_fault (table_of x) r ≡ 0) where
  abbrev t : Table
  t = table_of x

  abbrev spares : List ℕ → ℕ
  spares r = first (λ p. spare_fault t p (own t p r)) t.probes

  abbrev bytes : List ℕ → ℕ
  bytes r = first (link_bytes_fault r) t.links

  abbrev size : List ℕ → ℕ
  size r = cond (eqb (length r) (8 * t.links)) 0 20

  long : length r ≡ 8 * t.links
  long = (fleet_good t r good).0

  spares_pass : (p : ℕ) → p < t.probes → spare_fault t p (own t p r) ≡ 0
  spares_pass p l = first_all (λ q. spare_fault t q (own t q r)) t.probes p (or_right (bytes r) (spares r) (or_right (size r) (or_else (bytes r) (spares r)) good)) l

  marked : MarkedBytes t r
  marked = passes_marked t r (fleet_good t r good).1

  -- so does an end's own part of it
  pub own_fault : (p : ℕ) → p < t.probes → record_fault t p (own t p r) ≡ 0
  own_fault p l =
      let e = own t p r in
      or_none (record_length_fault t e) (or_else (first (byte_fault t p e) t.links) (spare_fault t p e)) (rw (eq-eqb (length e) (2 * t.links) (length_own t p r)))
      ∙ or_none (first (byte_fault t p e) t.links) (spare_fault t p e) (own_passes t p r (fleet_good t r good).1)
      ∙ spares_pass p l

  module _ (l : List ℕ) (line : event_line_fault t l ≡ 0) (sent : NotUnsent t r (frame_of l)) where
    abbrev f : Frame
    f = frame_of l

    abbrev p : ℕ
    p = f.to

    abbrev o : Outcome
    o = outcome_of t r f

    own_event : OwnEvent t p (event_of t f)
    own_event = go (says t l line)
      where
        go : Says t f → OwnEvent t p (event_of t f)
        go (an_opening k b v) = rw v tt
        go (a_restart k b v) = rw v tt
        go (an_offer i k b c v is) = rw v (b, near (back c))
        go (a_refusal i k b c v is) = rw v (b, near (back c))

    own_links : OwnOutcome t p o
    own_links = (line_step t (slices_legal x fine) r long l line sent).own_links

    spare_of_lem : (e : List ℕ) → record_fault t p e ≡ 0 → spare_fault t p e ≡ 0
    spare_of_lem e fault =
        or_right (first (byte_fault t p e) t.links) (spare_fault t p e)
        (or_right (record_length_fault t e) (or_else (first (byte_fault t p e) t.links) (spare_fault t p e)) fault)

    event_spares : (q : ℕ) → q < t.probes → spare_fault t q (own t q (alter_fleet t p o r)) ≡ 0
    event_spares q b = go (ℕ_discrete q p)
      where
        go : Dec (q ≡ p) → spare_fault t q (own t q (alter_fleet t p o r)) ≡ 0
        go (yes e) =
            rw (e, own_altered t p r long o own_links)
            (spare_of_lem (alter o (own t p r)) ((end_laws t (slices_legal x fine) p).stays_usable (event_of t f) (own t p r) (own_fault p (omega arith)) own_event))
        go (no d) = rw (own_else t p r long o own_links q d) (spares_pass q b)

    restart_spares : (q : ℕ) → q < t.probes → spare_fault t q (own t q (wiped t p r)) ≡ 0
    restart_spares q b = go (ℕ_discrete q p)
      where
        go : Dec (q ≡ p) → spare_fault t q (own t q (wiped t p r)) ≡ 0
        go (yes e) = rw (e, own_wiped t p r long) (spare_of_lem (fresh t) (end_laws t (slices_legal x fine) p).fresh_usable)
        go (no d) = rw (own_wiped_else t p r long q d) (spares_pass q b)

    stays : (r' : List ℕ) → length r' ≡ length r → MarksAfter t r r' → ((q : ℕ) → q < t.probes → spare_fault t q (own t q r') ≡ 0) → fleet_fault t r' ≡ 0
    stays r' same marks spare =
        or_none (size r') (or_else (bytes r') (spares r')) (rw (eq-eqb (length r') (8 * t.links) (same ∙ long)))
        ∙ or_none (bytes r') (spares r') (marked_passes t r' (legal_table 256 2048 t (slices_legal x fine)) (marks_fit marks))
        ∙ none_first (λ q. spare_fault t q (own t q r')) t.probes spare

    pub record_stays : fleet_fault t (altered_by t r f) ≡ 0
    record_stays = go (decided (restarts f))
      where
        go : (restarts f ≡ true) ⊎ (restarts f ≡ false) → fleet_fault t (altered_by t r f) ≡ 0
        go (inl e) =
            subst (λ y. fleet_fault t y ≡ 0) (sym (altered_restart t r f e)) (stays (wiped t p r) (length_wiped t p r) (marks_wiped t r marked long p) restart_spares)
        go (inr e) =
            subst (λ y. fleet_fault t y ≡ 0) (sym (altered_event t r f e))
            (stays (alter_fleet t p o r) (length_altered t p o r) (marks_altered t r marked long p o own_links) event_spares)
