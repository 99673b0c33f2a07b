-- How code comes to what is printed, and what its answer tells.
use Prim.Native.Nat.{ℕ, suc, ◌+◌, ◌≤◌, ◌<◌}
use mathlib.Core.Path.{◌≡◌, sym, ◌∙◌, ap}
use mathlib.Core.Bool.{Bool, true, false, cond}
use mathlib.Core.List.{List, [], ◌∷◌, ◌++◌}
use native.Mathlib.Omega.{arith}
use lib.Dec.{eqb}
use lib.ListN.{length, drop, set, length-append}
use lib.Seq.{sets}
use borrow.Author.Tests.{eq-eqb, ne_eqb, lt-ltb, le-ltb}
use Rattle.range.specs.Reply.{refusal, values}
use Rattle.range.proofs.Sets.{sets_start}
use Rattle.output.specs.Output.{output_fault, output_reply, Prints}
use Rattle.output.specs.declared.Output.{Output}
use Rattle.output.specs.declared.Output.TheVariants.{Length, Refused}

pub prints_refused : (fault n : ℕ) (printed out : List ℕ) → n ≡ fault → (n ≡ 0 → ⊥) → Prints fault printed (Refused n) out out
prints_refused fault n printed out e some = let f = ne_eqb fault 0 (λ z. some (e ∙ z)) in record { answer = rw f (ap refusal e); out = rw f }

pub prints_done : (fault n : ℕ) (printed out out' : List ℕ) → fault ≡ 0 → n ≡ length printed → n ≤ length out → out' ≡ sets out 0 printed → Prints fault printed (Length n) out out'
prints_done fault n printed out out' f e l w =
    let none = eq-eqb fault 0 f in
    record { answer = rw (none, e); out = rw none (w ∙ sets_start out printed (omega arith)) }

pub too_short : (room : ℕ) (printed : List ℕ) → room < length printed → 8 ≡ output_fault room printed
too_short room printed l = rw (lt-ltb room (length printed) l)

pub long_enough : (room : ℕ) (printed : List ℕ) → length printed ≤ room → output_fault room printed ≡ 0
long_enough room printed l = rw (le-ltb room (length printed) l)

-- what a lent slice is filled with stands within it
pub filled_within : (printed out out' : List ℕ) → out' ≡ printed ++ drop (length printed) out → length out' ≡ length out → length printed ≤ length out
filled_within printed out out' e l =
    let a = ap length e in
    let n = length-append printed (drop (length printed) out) in
    omega arith

-- the answer, by the fault found
pub prints_answer : {fault : ℕ} {printed : List ℕ} {r : Output} {out out' : List ℕ} → Prints fault printed r out out' → r ≡ cond (eqb fault 0) (Length (length printed)) (Refused fault)
prints_answer {fault} {printed} {r} p = go r (eqb fault 0) p.answer
  where
    go : (r : Output) (none : Bool) → output_reply r ≡ cond none (values (length printed ∷ [])) (refusal fault) → r ≡ cond none (Length (length printed)) (Refused fault)
    go (Length n) true e = cc
    go (Length n) false e = let z : ◌≡◌ {A = ℕ} 0 1 = cc in absurd (omega arith)
    go (Refused n) true e = let z : ◌≡◌ {A = ℕ} 0 1 = cc in absurd (omega arith)
    go (Refused n) false e = cc

-- a length that is answered is that of what is printed, which the lent slice holds
pub printed_within : (fault n : ℕ) (printed : List ℕ) (r : Output) (out out' : List ℕ) → Prints fault printed r out out' → r ≡ Length n → length out' ≡ length out
    → (n ≡ length printed) × (n ≤ length out)
printed_within fault n printed r out out' p e l = go (eqb fault 0) (sym e ∙ prints_answer p) p.out
  where
    go : (b : Bool) → Length n ≡ cond b (Length (length printed)) (Refused fault) → out' ≡ cond b (printed ++ drop (length printed) out) out
        → (n ≡ length printed) × (n ≤ length out)
    go true a o = let k = filled_within printed out out' o l in let m : n ≡ length printed = cc in (m, omega arith)
    go false a o = let z : ◌≡◌ {A = ℕ} 0 1 = cc in absurd (omega arith)

-- five bytes, stored one by one
pub five_stored : (l : List ℕ) (at a b c d e : ℕ) → set (set (set (set (set l at a) (at + 1) b) (at + 2) c) (at + 3) d) (at + 4) e ≡ sets l at (a ∷ b ∷ c ∷ d ∷ e ∷ [])
five_stored l at a b c d e =
    let one : at + 1 ≡ suc at = omega arith in
    let two : at + 2 ≡ suc (suc at) = omega arith in
    let three : at + 3 ≡ suc (suc (suc at)) = omega arith in
    let four : at + 4 ≡ suc (suc (suc (suc at))) = omega arith in
    rw (one, two, three, four)
