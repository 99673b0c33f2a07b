-- The lines of openings and frames: each passes the checks before 27 and says its frame.
use Prim.Native.Nat.{ℕ, ◌<◌}
use mathlib.Core.Path.{◌≡◌, refl, ◌∙◌, ap}
use mathlib.Core.Logic.{◌⊎◌, inl, inr}
use mathlib.Core.Bool.{false}
use mathlib.Core.List.{List}
use native.Mathlib.Omega.{arith}
use lib.Dec.{eqb}
use borrow.Author.Tests.{lt-ltb, eqb-true, eq-eqb}
use Rattle.range.specs.First.{or_else}
use Rattle.range.proofs.Bools.{unless_none}
use Rattle.range.proofs.Faults.{or_left, or_right, or_none}
use Rattle.table.specs.Table.{Table, between}
use Rattle.table.specs.Legal.{Legal}
use Rattle.plan_theory.specs.Criterion.{Across}
use Rattle.probe_frame.specs.Frame.{Frame, frame_line, frame_of, frame_fault}
use Rattle.probe_frame.proofs.Laws.{Writable, line_passes, line_says}
use Rattle.probe_rules.specs.Frames.{number_fault}
use Rattle.probe_rules.proofs.Frames.{between_is, ends_below_lem, writable}
use Rattle.fleet_theory.specs.Fleet.{of_one_probe, event_kind_fault, event_ends_fault, event_line_fault}

-- the checks of a line after 1 and 2 are those of its frame
abbrev pub frame_checks : Table → Frame → ℕ
frame_checks t f = or_else (event_kind_fault f) (or_else (number_fault t f) (event_ends_fault t f))

-- a frame is of two probes
pub not_of_one_probe : (f : Frame) → (f.kind ≡ 1) ⊎ (f.kind ≡ 2) → of_one_probe f.kind ≡ false
not_of_one_probe f (inl e) = rw e
not_of_one_probe f (inr e) = rw e

pub frame_checks_lem : (t : Table) (f : Frame) → f.number ≡ t.number → f.kind < 4 → event_ends_fault t f ≡ 0 → frame_checks t f ≡ 0
frame_checks_lem t f number kind ends =
    or_none (event_kind_fault f) (or_else (number_fault t f) (event_ends_fault t f)) (rw (lt-ltb f.kind 4 kind))
    ∙ or_none (number_fault t f) (event_ends_fault t f) (rw (eq-eqb f.number t.number number))
    ∙ ends

-- what a line past these checks gives
module _ (t : Table) (l : List ℕ) (e : event_line_fault t l ≡ 0) where
  pub line_frame : frame_fault l ≡ 0
  line_frame = or_left (frame_fault l) (frame_checks t (frame_of l)) e

  pub line_number : (frame_of l).number ≡ t.number
  line_number =
      let f = frame_of l in
      let rest = or_right (event_kind_fault f) (or_else (number_fault t f) (event_ends_fault t f)) (or_right (frame_fault l) (frame_checks t f) e) in
      eqb-true f.number t.number (unless_none (eqb f.number t.number) 22 (or_left (number_fault t f) (event_ends_fault t f) rest))

line_fault_lem : (t : Table) (f : Frame) → Writable f → f.number ≡ t.number → f.kind < 4 → event_ends_fault t f ≡ 0 → event_line_fault t (frame_line f) ≡ 0
line_fault_lem t f w number kind ends =
    or_none (frame_fault (frame_line f)) (frame_checks t (frame_of (frame_line f))) (line_passes f w)
    ∙ ap (frame_checks t) (line_says f w)
    ∙ frame_checks_lem t f number kind ends

module _ (t : Table) (legal : Legal t) (digits : t.number < 65536) where
  pub opening_line_lem : (p : ℕ) → p < t.probes
      → let f : Frame = record { kind = 0; number = t.number; from = p; to = p } in
      (event_line_fault t (frame_line f) ≡ 0) × (frame_of (frame_line f) ≡ f)
  opening_line_lem p l =
      let f : Frame = record { kind = 0; number = t.number; from = p; to = p } in
      let w = writable t legal digits 0 p p (omega arith) l l in
      (line_fault_lem t f w refl (omega arith) (rw (eq-eqb p p refl, lt-ltb p t.probes l)), line_says f w)

  pub frame_line_lem : (kind i p w : ℕ) → (kind ≡ 1) ⊎ (kind ≡ 2) → i < t.links → Across t i p w
      → let f : Frame = record { kind = kind; number = t.number; from = p; to = w } in
      (event_line_fault t (frame_line f) ≡ 0) × (frame_of (frame_line f) ≡ f) × (between t p w ≡ i)
  frame_line_lem kind i p w k l a =
      let f : Frame = record { kind = kind; number = t.number; from = p; to = w } in
      let b = ends_below_lem t legal i p w l a in
      let n = kinds k in
      let g = writable t legal digits kind p w n b.0 b.1 in
      let e = between_is t legal i p w l a in
      (line_fault_lem t f g refl (omega (arith, n)) (rw (not_of_one_probe f k, e, lt-ltb i t.links l)), line_says f g, e)
    where
      kinds : (kind ≡ 1) ⊎ (kind ≡ 2) → kind < 3
      kinds (inl e) = omega arith
      kinds (inr e) = omega arith
