-- How the code's answers come to what is promised.
use Prim.Native.Nat.{ℕ, ◌+◌, ◌≤◌, ◌<◌}
use mathlib.Core.Path.{◌≡◌, sym, ◌∙◌, ap}
use mathlib.Core.Bool.{Bool, true, false, cond}
use mathlib.Core.List.{List, ◌++◌}
use native.Mathlib.Omega.{arith}
use native.Mathlib.Decide.{dec_lt}
use lib.Dec.{eqb, ltb}
use lib.ListN.{length, take, drop}
use lib.Seq.{take-take, take_all, length-take-le}
use borrow.Author.Tests.{eq-eqb, ne_eqb, lt-ltb, le-ltb, ltb-false}
use Rattle.range.specs.First.{or_else}
use Rattle.range.specs.Reply.{refusal, values}
use Rattle.range.proofs.Bools.{when_none}
use Rattle.range.proofs.Faults.{or_left, or_right, or_here, or_next}
use Rattle.range.proofs.Sets.{sets_start}
use Rattle.output.specs.Output.{output_fault}
use Rattle.output.proofs.Printing.{filled_within, long_enough}
use Rattle.fleet_theory.specs.Fleet.{fleet_fault}
use Rattle.table.specs.Legal.{lent_fault}
use Rattle.table.specs.Slices.{Slices, table_of, slices_fault}
use Rattle.script_lines.proofs.Fitting.{capped_below}
use Rattle.script_theory.specs.Script.{Script, after_piece}
use Rattle.script_steps.specs.declared.Progress.{Progress}
use Rattle.script_steps.specs.declared.Place.{Place}
use Rattle.script_steps.specs.Within.{under_way, Buffered}
use Rattle.script_output.specs.declared.Handling.{Handling}
use Rattle.script_output.specs.declared.Handling.TheVariants as handling
use Rattle.script_output.specs.Handling.{site_fault, piece_fault, before, handling_reply, piece_values, Handles, piece_call_fault}

pub unhandled : (fault n : ℕ) (q : Script) (rec line out : List ℕ) → n ≡ fault → (n ≡ 0 → ⊥) → Handles fault q (handling.Refused n) rec rec line line out out
unhandled fault n q rec line out e some =
    let f = ne_eqb fault 0 (λ z. some (e ∙ z)) in
    record { answer = rw f (ap refusal e); record_after_lem = rw f; line_after = rw f; out_after_lem = rw f }

pub handled_all : (fault : ℕ) (q : Script) (r : Place) (rec rec' line line' out out' : List ℕ) → fault ≡ 0 → Buffered q 0 r rec' line' out out'
    → line' ≡ q.held ++ drop (length q.held) line → length q.out ≤ length out → length out < 9223372036854775808
    → Handles fault q (handling.Printed r.at r.progress) rec rec' line line' out out'
handled_all fault q r rec rec' line line' out out' f b s fits most =
    let none = eq-eqb fault 0 f in
    let e = b.at ∙ capped_below (0 + length q.out) (omega arith) in
    let z : r.at ≡ length q.out = omega arith in
    record {
      answer = rw (none, b.used, b.held, b.changed, z);
      record_after_lem = rw none b.bytes;
      line_after = rw none s;
      out_after_lem = rw none (b.printed (omega arith) ∙ sets_start out q.out fits);
    }

-- of an unfinished line at most 16 bytes are held
abbrev pub most : ℕ → ℕ
most h = cond (ltb h 16) h 16

pub most_few : (h : ℕ) → most h ≤ 16
most_few h = go (dec_lt h 16)
  where
    go : Dec (h < 16) → most h ≤ 16
    go (yes l) = rw (lt-ltb h 16 l) (omega arith)
    go (no d) = rw (le-ltb h 16 (omega arith)) (omega arith)

held_part : (line : List ℕ) (h : ℕ) → 16 ≤ length line → take (most h) line ≡ take h (take 16 line)
held_part line h long = go (dec_lt h 16)
  where
    go : Dec (h < 16) → take (most h) line ≡ take h (take 16 line)
    go (yes l) = rw (lt-ltb h 16 l) (sym (take-take h 16 line (omega arith)))
    go (no d) =
        let n = length-take-le 16 line long in
        rw (le-ltb h 16 (omega arith)) (sym (take_all h (take 16 line) (omega arith)))

-- the progress that a piece goes on from holds the same bytes
pub begun_same : (b p : Progress) (rec line : List ℕ) → (b.used ≡ p.used) × (b.held ≡ most p.held) × (b.changed ≡ p.changed) → 16 ≤ length line
    → under_way b rec line ≡ before p rec line
begun_same b p rec line e long = rw (e.0, e.1, e.2, held_part line p.held long)

-- The faults of a piece, one after the other.
module _ (x : Slices) (p : Script) (piece : List ℕ) (line room state : ℕ) (long : 16 ≤ line) (f : state ≡ site_fault x p.bytes) where
  abbrev printed : List ℕ
  printed = (after_piece x 1024 p piece).out

  pub fault_site : (state ≡ 0 → ⊥) → state ≡ piece_fault x p piece line room
  fault_site some = rw (le-ltb line 16 long) (or_here state (site_fault x p.bytes) (output_fault room printed) f some)

  pub fault_short : (n : ℕ) → state ≡ 0 → n ≡ output_fault room printed → n ≡ piece_fault x p piece line room
  fault_short n none e = rw (le-ltb line 16 long) (or_next state (site_fault x p.bytes) (output_fault room printed) n f none e)

-- what a piece's call has found, where it found no fault
pub record Given (x : Slices) (q : Script) (rec line : List ℕ) (held room : ℕ) : Type 0 where
  pub few : held ≤ 16
  pub long : 16 ≤ length line
  pub fine : slices_fault x ≡ 0
  pub good : fleet_fault (table_of x) rec ≡ 0
  pub fits : length q.out ≤ room

-- The fault of a piece's call, as the code finds it.
module _ (x : Slices) (b p : Progress) (piece rec line : List ℕ) (room fault : ℕ)
    (e : (b.used ≡ p.used) × (b.held ≡ most p.held) × (b.changed ≡ p.changed))
    (f : fault ≡ piece_fault x (under_way b rec line) piece (length line) room) where
  pub call_is : fault ≡ piece_fault x (before p rec line) piece (length line) room
  call_is = f ∙ go (dec_lt (length line) 16)
    where
      go : Dec (length line < 16) → piece_fault x (under_way b rec line) piece (length line) room ≡ piece_fault x (before p rec line) piece (length line) room
      go (yes l) = rw (lt-ltb (length line) 16 l)
      go (no d) = ap (λ (q : Script). piece_fault x q piece (length line) room) (begun_same b p rec line e (omega arith))

  pub call_given : fault ≡ 0 → Given x (after_piece x 1024 (before p rec line) piece) rec line b.held room
  call_given none =
      let printed = (after_piece x 1024 (before p rec line) piece).out in
      let short = lent_fault (length line) 16 in
      let state = or_else (slices_fault x) (fleet_fault (table_of x) rec) in
      let last = output_fault room printed in
      let z = sym call_is ∙ none in
      let rest = or_right short (or_else state last) z in
      let good = or_left state last rest in
      record {
        few = (let k = e.1 in let few = most_few p.held in omega arith);
        long = ltb-false (length line) 16 (when_none (ltb (length line) 16) 7 (or_left short (or_else state last) z));
        fine = or_left (slices_fault x) (fleet_fault (table_of x) rec) good;
        good = or_right (slices_fault x) (fleet_fault (table_of x) rec) good;
        fits = ltb-false room (length printed) (when_none (ltb room (length printed)) 7 (or_right state last rest));
      }

-- a call that is not refused
pub call_passes : (x : Slices) (p : Progress) (piece rec line out : List ℕ) → slices_fault x ≡ 0 → fleet_fault (table_of x) rec ≡ 0 → 16 ≤ length line
    → length (after_piece x 1024 (before p rec line) piece).out ≤ length out → piece_call_fault x p piece rec line out ≡ 0
call_passes x p piece rec line out fine good long fits =
    rw (le-ltb (length line) 16 long, fine, good) (long_enough (length out) (after_piece x 1024 (before p rec line) piece).out fits)

-- how far the script q has come
abbrev pub progress_after : Script → Progress
progress_after q = record { used = q.used; held = length q.held; changed = q.changed }

-- the answer, by the fault found
pub handles_answer : {fault : ℕ} {q : Script} {r : Handling} {rec rec' line line' out out' : List ℕ} → Handles fault q r rec rec' line line' out out'
    → r ≡ cond (eqb fault 0) (handling.Printed (length q.out) (progress_after q)) (handling.Refused fault)
handles_answer {fault} {q} {r} h = go r (eqb fault 0) h.answer
  where
    go : (r : Handling) (none : Bool) → handling_reply r ≡ cond none (values (piece_values q)) (refusal fault)
        → r ≡ cond none (handling.Printed (length q.out) (progress_after q)) (handling.Refused fault)
    go (handling.Printed n p) true e =
        let long : n ≡ length q.out = cc in
        let used : p.used ≡ q.used = cc in
        let held : p.held ≡ length q.held = cc in
        let changed : p.changed ≡ q.changed = cc in
        ap (λ (m : ℕ). handling.Printed m p) long
        ∙ ap (λ (u : ℕ). handling.Printed (length q.out) (record { used = u; held = p.held; changed = p.changed })) used
        ∙ ap (λ (k : ℕ). handling.Printed (length q.out) (record { used = q.used; held = k; changed = p.changed })) held
        ∙ ap (λ (k : ℕ). handling.Printed (length q.out) (record { used = q.used; held = length q.held; changed = k })) changed
    go (handling.Printed n p) false e = let z : ◌≡◌ {A = ℕ} 0 1 = cc in absurd (omega arith)
    go (handling.Refused n) true e = let z : ◌≡◌ {A = ℕ} 0 1 = cc in absurd (omega arith)
    go (handling.Refused n) false e = cc

-- What is answered as printed stands within the lent slice.
pub handled_within : (fault n : ℕ) (p : Progress) (q : Script) (r : Handling) (rec rec' line line' out out' : List ℕ) → Handles fault q r rec rec' line line' out out'
    → r ≡ handling.Printed n p → length out' ≡ length out → n ≤ length out
handled_within fault n p q r rec rec' line line' out out' h e l = go (eqb fault 0) (sym e ∙ handles_answer h) h.out_after_lem
  where
    go : (b : Bool) → handling.Printed n p ≡ cond b (handling.Printed (length q.out) (progress_after q)) (handling.Refused fault)
        → out' ≡ cond b (q.out ++ drop (length q.out) out) out → n ≤ length out
    go true a o = let k = filled_within q.out out out' o l in let m : n ≡ length q.out = cc in omega arith
    go false a o = let z : ◌≡◌ {A = ℕ} 0 1 = cc in absurd (omega arith)
