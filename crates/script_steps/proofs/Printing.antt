-- What a line handled prints and adds.
use Prim.Native.Nat.{ℕ, ◌+◌, ◌*◌, ◌%◌, ◌≤◌, ◌<◌}
use mathlib.Core.Path.{◌≡◌, refl, sym, ◌∙◌, ap}
use mathlib.Core.Bool.{Bool, true, false, cond}
use mathlib.Core.List.{List, []}
use native.Mathlib.Omega.{arith}
use native.Mathlib.Decide.{ℕ_discrete}
use lib.Dec.{eqb, ltb}
use lib.ListN.{length, take}
use borrow.Author.Tests.{ne_eqb, ltb-true}
use Rattle.range.specs.Sum.{sum}
use Rattle.range.specs.First.{or_else}
use Rattle.range.proofs.Bools.{unless_none}
use Rattle.range.proofs.Faults.{or_right}
use Rattle.table.specs.Table.{Table}
use Rattle.probe_frame.specs.Frame.{frame_of}
use Rattle.probe_frame.proofs.Laws.{frame_good}
use Rattle.wake_log.specs.declared.Entry.{Entry}
use Rattle.wake_log.specs.declared.Answer.{Answer}
use Rattle.wake_log.specs.declared.Answer.TheVariants.{Logged, Refused}
use Rattle.wake_log.specs.Entry.{answer_of, accepted_by}
use Rattle.fleet_theory.specs.Fleet.{fleet_fault, event_line_fault, event_fault, entry_by, frame_changes}
use Rattle.table.specs.Slices.{Slices, table_of, slices_fault}
use Rattle.fleet_theory.proofs.Events.{unsent_of}
use Rattle.fleet.specs.Answers.{Handled, changes_by}
use Rattle.fleet.proofs.Checks.{line_frame}
use Rattle.fleet.proofs.Passing.{passed_line}
use Rattle.fleet.proofs.Calls.{refused_call, handled_answer}
use Rattle.fleet.proofs.Changes.{line_changes}
use Rattle.output.specs.Output.{refusal_line}
use Rattle.script_lines.specs.Fitting.{capped, stored_within}
use Rattle.script_lines.proofs.Lines.{length_entry}
use Rattle.script_lines.proofs.Fitting.{stored_fits}
use Rattle.script_theory.specs.Script.{answer_line, answered, after_line}
use Rattle.script_theory.proofs.Lines.{wrong_length}
use Rattle.script_steps.specs.Within.{under_way, Buffered}
use Rattle.script_steps.specs.declared.Progress.{Progress}
use Rattle.script_steps.specs.declared.Place.{Place}

-- What an answer prints and adds, of a line handled.
module _ (x : Slices) (used room : ℕ) (l r : List ℕ) where
  abbrev entry : Entry
  entry = entry_by (table_of x) r (frame_of l)

  -- five bytes for each byte of the line are enough
  pub answer_short : 5 ≤ 5 * length l → length (answer_line (answer_of (event_fault x r used room l) entry)) ≤ 5 * length l
  answer_short some = go (ℕ_discrete (event_fault x r used room l) 0)
    where
      go : Dec (event_fault x r used room l ≡ 0) → length (answer_line (answer_of (event_fault x r used room l) entry)) ≤ 5 * length l
      go (yes e) =
          let p = passed_line x r used room l e in
          let g = (frame_good l (line_frame (table_of x) l p.0)).length_is in
          let n = length_entry entry in
          rw e (omega arith)
      go (no d) = rw (ne_eqb (event_fault x r used room l) 0 d) some

  -- an entry is taken while one is free
  pub used_within : used ≤ 4294967295 → room ≤ 4294967295 → used + accepted_by (answer_of (event_fault x r used room l) entry) ≤ 4294967295
  used_within u b = go (ℕ_discrete (event_fault x r used room l) 0)
    where
      t : Table
      t = table_of x

      full : ℕ
      full = cond (ltb used room) 0 26

      last : ℕ
      last = or_else (unsent_of t r (frame_of l)) full

      go : Dec (event_fault x r used room l ≡ 0) → used + accepted_by (answer_of (event_fault x r used room l) entry) ≤ 4294967295
      go (yes e) =
          let a = or_right (fleet_fault t r) (or_else (event_line_fault t l) last) (or_right (slices_fault x) (or_else (fleet_fault t r) (or_else (event_line_fault t l) last)) e) in
          let none = or_right (unsent_of t r (frame_of l)) full (or_right (event_line_fault t l) last a) in
          let free = ltb-true used room (unless_none (ltb used room) 25 none) in
          rw e (omega arith)
      go (no d) = rw (ne_eqb (event_fault x r used room l) 0 d) (omega arith)

  taken : accepted_by (answer_of (event_fault x r used room l) entry) ≡ cond (eqb (event_fault x r used room l) 0) 1 0
  taken = go (eqb (event_fault x r used room l) 0)
    where
      go : (b : Bool) → accepted_by (cond b (Logged entry) (Refused (event_fault x r used room l))) ≡ cond b 1 0
      go true = refl
      go false = refl

-- a line handled and its answer printed
module _ (x : Slices) (fine : slices_fault x ≡ 0) (p : Progress) (room at : ℕ) (l rec rec' out out' : List ℕ) (good : fleet_fault (table_of x) rec ≡ 0) where
  pub line_buffered : (answer : Answer) (next used changed : ℕ) → Handled x p.used room l answer rec rec' → out' ≡ stored_within out at (answer_line answer)
      → next ≡ capped (at + length (answer_line answer)) → used ≡ p.used + accepted_by answer → changed ≡ (p.changed + changes_by answer) % 4294967296
      → Buffered (after_line x room (under_way p rec []) l) at (record { at = next; progress = record { used = used; held = 0; changed = changed } }) rec' [] out out'
  line_buffered answer next used changed h o n u c =
      record {
        bytes = h.record_after_lem;
        used = u ∙ ap (λ (a : Answer). p.used + accepted_by a) (handled_answer h) ∙ ap (λ (k : ℕ). p.used + k) (taken x p.used room l rec);
        changed = c ∙ ap (λ (k : ℕ). (p.changed + k) % 4294967296)
            (sym (line_changes x fine room rec good p.used l answer rec' h) ∙ ap (λ (r : List ℕ). sum x.links (frame_changes (frame_of l) rec r)) h.record_after_lem);
        held = refl;
        kept = refl;
        at = n ∙ ap (λ (a : Answer). capped (at + length (answer_line a))) (handled_answer h);
        printed = λ fits. o ∙ ap (λ (a : Answer). stored_within out at (answer_line a)) (handled_answer h) ∙ stored_fits out at (answer_line (answered x room (under_way p rec []) l)) fits;
      }

  -- a line that is not of a frame's length
  pub refused_buffered : (r : Place) → (length l ≡ 15 → ⊥) → p.changed < 4294967296 → rec' ≡ rec → out' ≡ stored_within out at (refusal_line 1) → r.at ≡ capped (at + 5)
      → r.progress ≡ record { used = p.used; held = 0; changed = p.changed } → Buffered (after_line x room (under_way p rec []) l) at r rec' [] out out'
  refused_buffered r n small same o a e =
      let fault : 1 ≡ event_fault x rec p.used room l = rw (fine, good, wrong_length l n) in
      let h = refused_call x p.used room l rec 1 fault (λ z. omega arith) in
      let b = line_buffered (Refused 1) r.at p.used p.changed (rw same h) o a (omega arith) (omega arith) in
      record {
        bytes = b.bytes;
        used = ap (λ (q : Progress). q.used) e ∙ b.used;
        changed = ap (λ (q : Progress). q.changed) e ∙ b.changed;
        held = ap (λ (q : Progress). q.held) e;
        kept = ap (λ (q : Progress). take q.held []) e;
        at = b.at;
        printed = b.printed;
      }
