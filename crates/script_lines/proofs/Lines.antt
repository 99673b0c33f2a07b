-- The lines' lengths, and how the code comes to them.
use Prim.Native.Nat.{ℕ, ◌+◌}
use mathlib.Core.Path.{◌≡◌, refl}
use mathlib.Core.Bool.{Bool, cond}
use mathlib.Core.List.{List, [], ◌∷◌, ◌++◌}
use native.Mathlib.Omega.{arith}
use lib.ListN.{length, set, length-append}
use lib.Seq.{sets}
use Rattle.range.proofs.Sets.{sets_then}
use Rattle.hex_digits.specs.Digits.{digits}
use Rattle.hex_digits.proofs.Laws.{length_digits}
use Rattle.wake_log.specs.declared.Entry.{Entry}
use Rattle.wake_log.specs.Entry.{code_of, link_of, displaced_of}
use Rattle.script_theory.specs.Script.{entry_line, last_line}

pub length_entry : (e : Entry) → length (entry_line e) ≡ 15
length_entry e =
    simp length-append
    (let a = length_digits 4 e.probe in
    let b = length_digits 2 (code_of e.what) in
    let c = length_digits 4 (link_of e.what) in
    let d = length_digits 4 (displaced_of e.what) in
    omega arith)

-- the entry's numbers and its line feed, stored in turn
pub entry_then : (e : Entry) (l l₁ l₂ l₃ l₄ : List ℕ) (at code link displaced : ℕ) → l₁ ≡ sets l at (digits 4 e.probe)
    → code ≡ code_of e.what → l₂ ≡ sets l₁ (at + 4) (digits 2 code) → link ≡ link_of e.what → l₃ ≡ sets l₂ (at + 6) (digits 4 link)
    → displaced ≡ displaced_of e.what → l₄ ≡ sets l₃ (at + 10) (digits 4 displaced) → set l₄ (at + 14) 10 ≡ sets l at (entry_line e)
entry_then e l l₁ l₂ l₃ l₄ at code link displaced s₁ c s₂ i s₃ d s₄ =
    let a₁ = length_digits 4 e.probe in
    let a₂ = length_digits 2 code in
    let a₃ = length_digits 4 link in
    let a₄ = length_digits 4 displaced in
    let r = set l₄ (at + 14) 10 in
    rw (← c, ← i, ← d)
    (sets_then l l₁ r at (at + 4) (digits 4 e.probe) (digits 2 code ++ (digits 4 link ++ (digits 4 displaced ++ (10 ∷ [])))) s₁ (omega arith)
    (sets_then l₁ l₂ r (at + 4) (at + 6) (digits 2 code) (digits 4 link ++ (digits 4 displaced ++ (10 ∷ []))) s₂ (omega arith)
    (sets_then l₂ l₃ r (at + 6) (at + 10) (digits 4 link) (digits 4 displaced ++ (10 ∷ [])) s₃ (omega arith)
    (sets_then l₃ l₄ r (at + 10) (at + 14) (digits 4 displaced) (10 ∷ []) s₄ (omega arith) refl))))

pub length_last : (done : Bool) (changed : ℕ) → length (last_line done changed) ≡ 11
length_last done changed = simp length-append (let a = length_digits 2 (cond done 1 0) in let b = length_digits 8 changed in omega arith)

-- the flag, the changes and the line feed, stored in turn
pub last_then : (done : Bool) (changed flag at : ℕ) (l l₁ l₂ : List ℕ) → flag ≡ cond done 1 0 → l₁ ≡ sets l at (digits 2 flag) → l₂ ≡ sets l₁ (at + 2) (digits 8 changed)
    → set l₂ (at + 10) 10 ≡ sets l at (last_line done changed)
last_then done changed flag at l l₁ l₂ f s₁ s₂ =
    let a = length_digits 2 flag in
    let b = length_digits 8 changed in
    let r = set l₂ (at + 10) 10 in
    rw (← f)
    (sets_then l l₁ r at (at + 2) (digits 2 flag) (digits 8 changed ++ (10 ∷ [])) s₁ (omega arith)
    (sets_then l₁ l₂ r (at + 2) (at + 10) (digits 8 changed) (10 ∷ []) s₂ (omega arith) refl))
