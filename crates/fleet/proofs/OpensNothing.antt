-- What an opening of a fleet says that opens nothing: its own end's law, on the end's own bytes.
use Prim.Native.Nat.{ℕ, ◌*◌}
use mathlib.Core.Path.{◌≡◌, sym, ◌∙◌, ap, subst}
use mathlib.Core.Bool.{false}
use mathlib.Core.List.{List}
use native.Mathlib.Omega.{arith}
use lib.ListN.{length}
use Rattle.table.specs.Table.{Table}
use Rattle.table.specs.Slices.{Slices, table_of, slices_fault}
use Rattle.probe_frame.specs.Frame.{Frame, frame_of}
use Rattle.probe_record.proofs.Bytes.{good_record}
use Rattle.wake_log.specs.declared.Entry.{Entry}
use Rattle.wake_log.specs.declared.Answer.TheVariants.{Logged}
use Rattle.wake_log.proofs.Answers.{logged_is}
use Rattle.probe_rules.specs.declared.Event.TheVariants.{Opening}
use Rattle.probe_rules.specs.declared.Outcome.{Outcome}
use Rattle.probe_rules.specs.Rules.{alter, entry_of}
use Rattle.probe_rules.proofs.Befalls.{befell}
use Rattle.probe_theory.specs.EndLaws.{OpensNothing}
use Rattle.probe_theory.proofs.OpensNothing.{unaltered_says}
use Rattle.fleet_theory.specs.Fleet.{own, fleet_fault, restarts, event_line_fault, event_fault, outcome_of, entry_by}
use Rattle.fleet_theory.proofs.Alone.{own_altered}
use Rattle.fleet_theory.proofs.Events.{Says, an_opening, a_restart, an_offer, a_refusal, says, NotUnsent, line_step, altered_event, entry_event}
use Rattle.fleet_theory.proofs.Run.{slices_legal}
use Rattle.fleet_state.proofs.CheckLaws.{fleet_good}
use Rattle.fleet.specs.Answers.{Handled}
use Rattle.fleet.proofs.Calls.{handled_answer}
use Rattle.fleet.proofs.Passing.{passed_slices, passed_record, passed_line, own_fault}

module _ (x : Slices) (used room : ℕ) (r l : List ℕ) where
  abbrev t : Table
  t = table_of x

  abbrev f : Frame
  f = frame_of l

  -- the end that opens, and its own bytes
  abbrev p : ℕ
  p = f.to

  abbrev e : List ℕ
  e = own t p r

  abbrev o : Outcome
  o = outcome_of t r f

  -- an opening that is logged and leaves the record as it was
  pub line_opens_nothing : (entry : Entry) → Handled x used room l (Logged entry) r r → f.kind ≡ 0 → OpensNothing t p e entry.what
  line_opens_nothing entry h kind = go (logged_is (event_fault x r used room l) (entry_by t r f) entry (sym (handled_answer h)))
    where
      event : restarts f ≡ false
      event = rw kind

      go : (event_fault x r used room l ≡ 0) × (entry_by t r f ≡ entry) → OpensNothing t p e entry.what
      go (none, s) = subst (λ y. OpensNothing t p e y.what) (sym (entry_event t r f event) ∙ s) (opens (says t l line.0))
        where
          fine : slices_fault x ≡ 0
          fine = passed_slices x r used room l none

          good : fleet_fault t r ≡ 0
          good = passed_record x r used room l none

          line : (event_line_fault t l ≡ 0) × NotUnsent t r f
          line = passed_line x r used room l none

          long : length r ≡ 8 * t.links
          long = (fleet_good t r good).0

          unaltered : alter o e ≡ e
          unaltered =
              sym (own_altered t p r long o (line_step t (slices_legal x fine) r long l line.0 line.1).own_links) ∙ ap (own t p) (sym (altered_event t r f event) ∙ sym (rw none at h.record_after_lem))

          opens : Says t f → OpensNothing t p e (entry_of t p o).what
          opens (an_opening k b v) =
              rw v (unaltered_says t p e (good_record t p e (own_fault x fine r good p b)) (befell t (slices_legal x fine) p e Opening tt) (rw v at unaltered))
          opens (a_restart k b v) = absurd (omega arith)
          opens (an_offer i k b c v is) = absurd (omega arith)
          opens (a_refusal i k b c v is) = absurd (omega arith)
