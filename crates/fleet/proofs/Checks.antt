-- What the checks of a line give.
use Prim.Native.Nat.{ℕ, ◌<◌}
use mathlib.Core.Path.{◌≡◌, sym, ◌∙◌, ap}
use mathlib.Core.List.{List}
use native.Mathlib.Omega.{arith}
use Rattle.std.specs.Prelude.{Ok, Err}
use Rattle.range.proofs.Faults.{or_none}
use Rattle.refusals.specs.Refusals.{number_of}
use Rattle.refusals.specs.declared.Refusal.{Refusal}
use Rattle.refusals.proofs.Laws.{or_refused}
use Rattle.table.specs.Table.{Table}
use Rattle.table.specs.Legal.{Legal}
use Rattle.table.proofs.LegalLaws.{legal_table}
use Rattle.plan_theory.specs.Criterion.{Across, up, down}
use Rattle.probe_frame.specs.Frame.{Frame, frame_of, frame_fault, frame_read, ReadsFrame}
use Rattle.probe_frame.specs.declared.FrameLine.{FrameLine}
use Rattle.probe_rules.specs.Within.{EventWithin}
use Rattle.fleet_theory.specs.Fleet.{event_line_fault, event_of}
pub use Rattle.fleet_theory.proofs.Lines.{line_frame}
use Rattle.fleet_theory.proofs.Lines.{frame_checks}
use Rattle.fleet_theory.proofs.Events.{Says, an_opening, a_restart, an_offer, a_refusal, says}

-- a line by what was read of it
module _ (t : Table) (l : List ℕ) where
  -- 1 or 2
  pub line_turned : (e : Refusal) → ReadsFrame l (Err e) → number_of e ≡ event_line_fault t l
  line_turned e reads = or_refused e (frame_fault l) (frame_checks t (frame_of l)) reads.0

  module _ (r : FrameLine) (reads : ReadsFrame l (Ok r)) where
    -- 9, 23, 24, or none
    pub line_checked : (n : ℕ) → n ≡ frame_checks t (frame_read r) → n ≡ event_line_fault t l
    line_checked n e = e ∙ ap (frame_checks t) reads.1 ∙ sym (or_none (frame_fault l) (frame_checks t (frame_of l)) (sym reads.0))

-- a line past the checks before 27
module _ (t : Table) (l : List ℕ) (e : event_line_fault t l ≡ 0) where
  abbrev f : Frame
  f = frame_of l

  pub line_within : EventWithin t.links (event_of t f)
  line_within = go (says t l e)
    where
      go : Says t f → EventWithin t.links (event_of t f)
      go (an_opening k b v) = rw v tt
      go (a_restart k b v) = rw v tt
      go (an_offer i k b x v h) = rw v b
      go (a_refusal i k b x v h) = rw v b

  pub line_to : Legal t → f.to < t.probes
  line_to legal = go (says t l e)
    where
      far : {i a b : ℕ} → i < t.links → Across t i a b → b < t.probes
      far {i} k up = ((legal_table 256 2048 t legal).ends i k).below
      far {i} k down =
          let g = (legal_table 256 2048 t legal).ends i k in
          let m = g.rises in
          let n = g.below in
          omega arith

      go : Says t f → f.to < t.probes
      go (an_opening k b v) = b
      go (a_restart k b v) = b
      go (an_offer i k b x v h) = far b x
      go (a_refusal i k b x v h) = far b x
