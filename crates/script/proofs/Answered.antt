-- The pieces were handled by calls, and then the end has printed.
use Prim.Native.Nat.{ℕ, ◌≤◌}
use mathlib.Core.Path.{◌≡◌, sym, ap, subst}
use mathlib.Core.Bool.{Bool, true, false, cond}
use mathlib.Core.List.{List, ◌++◌}
use native.Mathlib.Omega.{arith}
use lib.Dec.{eqb}
use lib.ListN.{length, drop, length-append}
use Rattle.table.specs.Slices.{Slices}
use Rattle.output.specs.Output.{Prints}
use Rattle.output.specs.declared.Output.TheVariants.{Length, Refused as Unprinted}
use Rattle.output.proofs.Printing.{prints_answer}
use Rattle.script_theory.specs.Script.{end_text}
use Rattle.script_steps.specs.declared.Progress.{Progress}
use Rattle.script_output.specs.Handling.{end_call_fault}
use Rattle.script_calls.specs.Calls.{PieceLeft}
use Rattle.std.specs.Prelude.{Option}
use Rattle.script_reads.specs.Handled.{HandledBy, HandlesInput}
use Rattle.script_reads.specs.declared.Stop.TheVariants.{AtEnd}
use Rattle.script_reads.proofs.Chain.{left_of}
use Rattle.script.specs.Writing.{Answered, AnswersScript, AnswersInput, left_to_write}
use Rattle.script.specs.declared.Ending.{Ending}
use Rattle.script.specs.declared.Ending.TheVariants as ending

pub answered_by : (x : Slices) (line₀ : List ℕ) → 16 ≤ length line₀ → (p : Progress) (rec line out out' : List ℕ) (n : ℕ) → HandledBy x line₀ (left_of p rec line)
    → (let printed = end_text x rec p.held p.changed in Prints (end_call_fault x rec printed out) printed (Length n) out out') → Answered x n out'
answered_by x line₀ long p rec line out out' n h end =
    let Ends : PieceLeft → Type 0 = λ b.
    let printed = end_text x b.bytes b.progress.held b.progress.changed in
    Prints (end_call_fault x b.bytes printed out) printed (Length n) out out' in
    record { line = line₀; long = long; calls = h.calls; kept = h.kept; out = out; end = subst Ends (sym h.left) end }

-- the same pieces were read, and what they printed written
pub answers_input : (x : Slices) (line₀ : List ℕ) → 16 ≤ length line₀ → (p : Progress) (rec line out out' : List ℕ) (n room : ℕ) (unread unread' written written' : Option (List ℕ))
    → HandlesInput x (AtEnd p) line₀ rec line room unread unread' written written'
    → (let printed = end_text x rec p.held p.changed in Prints (end_call_fault x rec printed out) printed (Length n) out out')
    → AnswersInput x (ending.Printed n) out' room unread unread' written written'
unfolding answered_by
answers_input x line₀ long p rec line out out' n room unread unread' written written' h end =
    record { answers = answered_by x line₀ long p rec line out out' n h.handled end; moved = h.moved }

-- what it has printed stands within its slice
answered_within : {x : Slices} {n : ℕ} {out' : List ℕ} → Answered x n out' → n ≤ length out'
answered_within {x} {n} {out'} a = within _ _ n a.out out' a.end
  where
    within : (fault : ℕ) (printed : List ℕ) (n : ℕ) (out out' : List ℕ) → Prints fault printed (Length n) out out' → n ≤ length out'
    within fault printed n out out' h = go (eqb fault 0) (prints_answer h) h.out
      where
        go : (b : Bool) → Length n ≡ cond b (Length (length printed)) (Unprinted fault) → out' ≡ cond b (printed ++ drop (length printed) out) out → n ≤ length out'
        go true e o =
            let m : n ≡ length printed = cc in
            let k = ap length o in
            let l = length-append printed (drop (length printed) out) in
            omega arith
        go false e o = let z : ◌≡◌ {A = ℕ} 0 1 = cc in absurd (omega arith)

pub answers_within : (x : Slices) (e : Ending) (out' : List ℕ) → AnswersScript x e out' → left_to_write e ≤ length out'
unfolding left_to_write
answers_within x (ending.Printed n) out' a = answered_within a
answers_within x ending.Failed out' a = omega arith
