-- What it means that a call of an end has no fault.
use Prim.Native.Nat.{ℕ, ◌≤◌, ◌<◌}
use mathlib.Core.Path.{◌≡◌, sym, ◌∙◌, ap}
use mathlib.Core.Logic.{◌⊎◌, inl, inr}
use mathlib.Core.Bool.{true, false, ◌&&◌, ◌||◌}
use mathlib.Core.List.{List}
use lib.Dec.{ltb, eqb}
use native.Mathlib.Omega.{arith}
use native.Mathlib.Decide.{ℕ_discrete}
use borrow.Author.Tests.{ltb-true, eqb-true, eq-eqb, ne_eqb}
use Rattle.range.specs.First.{or_else}
use Rattle.range.proofs.Bools.{and_left, and_right, unless_none, decided}
use Rattle.range.proofs.Faults.{or_none, or_left, or_right}
use Rattle.table.specs.Table.{Table, touches, between}
use Rattle.table.specs.Slices.{Slices, table_of, slices_fault}
use Rattle.std.specs.Prelude.{Result, Ok, Err, IfOk, ⊤}
use Rattle.std.proofs.lemmas.Result.{IfOk-at_ok}
use Rattle.refusals.specs.Refusals.{number_of, fault_of}
use Rattle.refusals.specs.declared.Refusal.{Refusal}
use Rattle.refusals.proofs.Laws.{number_some, or_refused}
use Rattle.probe_frame.specs.Frame.{Frame, frame_of, frame_fault, frame_read, ReadsFrame}
use Rattle.probe_frame.specs.declared.FrameLine.{FrameLine}
use Rattle.probe_rules.specs.Frames.{number_fault, heard_of}
use Rattle.probe_rules.specs.Within.{EventWithin}
use Rattle.probe_maps.specs.Maps.{Maps, maps_fault, state_fault}
use Rattle.probe_checks.specs.Checks.{frame_kind_fault, to_fault, probe_fault, own_link_fault, full_fault, heard_fault, hear_fault, open_fault, link_call_fault}

-- a check that found nothing, and what it says then
pub passed : {Q : Type 0} {fault : ℕ} {r : Result ⊤ Refusal} {u : ⊤} → r ≡ Ok u → (fault_of r ≡ fault) × IfOk r (λ v. Q) → (fault ≡ 0) × Q
passed {Q} is h = (sym h.0 ∙ ap fault_of is, IfOk-at_ok (λ v. Q) is h.1)

-- the same of a check that the call's other checks are given
pub not_refused : {Q : Type 0} {fault : ℕ} (r : Result ⊤ Refusal) → fault_of r ≡ 0 → (fault_of r ≡ fault) × IfOk r (λ v. Q) → (fault ≡ 0) × Q
not_refused (Ok u) none h = (sym h.0, h.1)
not_refused (Err e) none h = absurd (number_some e none)

-- 9, 23, 24 of a frame
abbrev pub heard_checks : Table → ℕ → Frame → ℕ
heard_checks t p f = or_else (frame_kind_fault f) (or_else (number_fault t f) (to_fault t p f))

module _ (t : Table) (p : ℕ) (l : List ℕ) (e : heard_fault t p l ≡ 0) where
  abbrev f : Frame
  f = frame_of l

  to_passes : (eqb f.to p && ltb (between t f.from f.to) t.links) ≡ true
  unfolding heard_fault
  to_passes =
      let a = or_right (frame_fault l) (heard_checks t p f) e in
      let b = or_right (frame_kind_fault f) (or_else (number_fault t f) (to_fault t p f)) a in
      let c = or_right (number_fault t f) (to_fault t p f) b in
      unless_none (eqb f.to p && ltb (between t f.from f.to) t.links) 23 c

  pub heard_to : f.to ≡ p
  heard_to = eqb-true f.to p (and_left (eqb f.to p) (ltb (between t f.from f.to) t.links) to_passes)

  -- the link is one of the table's
  pub heard_link : between t f.from f.to < t.links
  heard_link =
      let i = between t f.from f.to in
      ltb-true i t.links (and_right (eqb f.to p) (ltb i t.links) to_passes)

  pub heard_within : EventWithin t.links (heard_of t f)
  heard_within = go (decided (eqb f.kind 1))
    where
      go : (eqb f.kind 1 ≡ true) ⊎ (eqb f.kind 1 ≡ false) → EventWithin t.links (heard_of t f)
      go (inl k) = rw k heard_link
      go (inr k) = rw k heard_link

-- table and record
pub state_parts : (x : Slices) (p : ℕ) (m : Maps) → state_fault x p m ≡ 0 → (slices_fault x ≡ 0) × (maps_fault (table_of x) p m ≡ 0)
state_parts x p m f = (or_left (slices_fault x) (maps_fault (table_of x) p m) f, or_right (slices_fault x) (maps_fault (table_of x) p m) f)

-- each stage of a call
module _ (state : ℕ) (t : Table) (p : ℕ) where
  pub hear_parts : (l : List ℕ) (free : ℕ) → hear_fault state t p l free ≡ 0 → (state ≡ 0) × (heard_fault t p l ≡ 0)
  unfolding hear_fault
  hear_parts l free f =
      let last = or_else (heard_fault t p l) (full_fault free) in
      (or_left state last f, or_left (heard_fault t p l) (full_fault free) (or_right state last f))

  pub open_parts : (free : ℕ) → open_fault state t p free ≡ 0 → (state ≡ 0) × (probe_fault t p ≡ 0)
  unfolding open_fault
  open_parts free f =
      let last = or_else (probe_fault t p) (full_fault free) in
      (or_left state last f, or_left (probe_fault t p) (full_fault free) (or_right state last f))

  pub link_parts : (i : ℕ) → link_call_fault state t p i ≡ 0 → (state ≡ 0) × (i < t.links)
  unfolding link_call_fault
  link_parts i f =
      let own = unless_none (ltb i t.links && touches t p i) 23 (or_right state (own_link_fault t p i) f) in
      (or_left state (own_link_fault t p i) f, ltb-true i t.links (and_left (ltb i t.links) (touches t p i) own))

-- A frame as the code reads it.

module _ (t : Table) (p : ℕ) (l : List ℕ) where
  -- 1 or 2
  pub heard_turned : (e : Refusal) → ReadsFrame l (Err e) → number_of e ≡ heard_fault t p l
  unfolding heard_fault
  heard_turned e reads = or_refused e (frame_fault l) (heard_checks t p (frame_of l)) reads.0

  -- 9, 23, 24 or none
  pub of_frame : (r : FrameLine) → ReadsFrame l (Ok r) → (n : ℕ) → n ≡ heard_checks t p (frame_read r) → n ≡ heard_fault t p l
  unfolding heard_fault
  of_frame r reads n e = e ∙ ap (heard_checks t p) reads.1 ∙ sym (or_none (frame_fault l) (heard_checks t p (frame_of l)) (sym reads.0))

-- the code's tests of the kind
pub no_kind : (k : ℕ) → k ≡ 0 → (eqb k 1 || eqb k 2) ≡ false
no_kind k z = rw z

pub known_kind : (k : ℕ) → (k ≡ 0 → ⊥) → k ≤ 2 → (eqb k 1 || eqb k 2) ≡ true
known_kind k n l = go (ℕ_discrete k 1)
  where
    go : Dec (k ≡ 1) → (eqb k 1 || eqb k 2) ≡ true
    go (yes e) = rw e
    go (no e) = let two : k ≡ 2 = omega arith in rw two

pub other_kind : (k : ℕ) → 2 < k → (eqb k 1 || eqb k 2) ≡ false
other_kind k l = rw (ne_eqb k 1 (omega arith), ne_eqb k 2 (omega arith))

-- of a kind that an end knows, and of this table, a frame can only be turned down by 24
pub only_to : (t : Table) (p : ℕ) (f : Frame) → (f.kind ≡ 0 → ⊥) → f.kind ≤ 2 → f.number ≡ t.number → heard_checks t p f ≡ to_fault t p f
only_to t p f n l e = rw (known_kind f.kind n l, eq-eqb f.number t.number e)
