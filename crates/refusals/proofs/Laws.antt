-- Laws of refusals' numbers, and how the code comes to a fault by answers of `Ok` or a refusal.
use Prim.Native.Nat.{ℕ, zero, suc, ◌<◌}
use mathlib.Core.Path.{◌≡◌, refl, sym, ◌∙◌, ap}
use mathlib.Core.Bool.{Bool, true, false, cond}
use mathlib.Core.List.{List}
use native.Mathlib.Omega.{arith}
use lib.Dec.{eqb}
use borrow.Author.Tests.{eq-eqb, ne_eqb}
use Rattle.std.specs.Prelude.{Result, Ok, Err, IsErrAnd, IfOk}
use Rattle.std.proofs.lemmas.Result.{err_from_is_err_and}
use Rattle.range.specs.First.{or_else, first}
use Rattle.range.proofs.Faults.{first_some}
use Rattle.range.specs.Reply.{refusal, values, reply_of}
use Rattle.refusals.specs.Refusals.{number_of, fault_of, reply_in}
use Rattle.refusals.specs.declared.Refusal.{Refusal}
use Rattle.refusals.specs.declared.Refusal.TheVariants.{Line, Digit, Size, Ends, Order, Closing, Slice, Kind, RecordLength, RecordByte, OverSpare, OtherTable, NotThere, LogFull, NeverSent, BagSize}

-- a refusal's number is not that of no fault
pub number_some : (e : Refusal) → number_of e ≡ 0 → ⊥
number_some Line z = omega arith
number_some Digit z = omega arith
number_some Size z = omega arith
number_some Ends z = omega arith
number_some Order z = omega arith
number_some Closing z = omega arith
number_some Slice z = omega arith
number_some Kind z = omega arith
number_some RecordLength z = omega arith
number_some RecordByte z = omega arith
number_some OverSpare z = omega arith
number_some OtherTable z = omega arith
number_some NotThere z = omega arith
number_some LogFull z = omega arith
number_some NeverSent z = omega arith
number_some BagSize z = omega arith

-- the refusal of a number
pub refusal_of : ℕ → Refusal
refusal_of n =
    cond (eqb n 1) Line
    (cond (eqb n 2) Digit
    (cond (eqb n 3) Size
    (cond (eqb n 4) Ends
    (cond (eqb n 5) Order
    (cond (eqb n 6) Closing
    (cond (eqb n 8) Slice
    (cond (eqb n 9) Kind
    (cond (eqb n 20) RecordLength
    (cond (eqb n 21) RecordByte
    (cond (eqb n 22) OverSpare
    (cond (eqb n 23) OtherTable
    (cond (eqb n 24) NotThere
    (cond (eqb n 26) LogFull
    (cond (eqb n 27) NeverSent BagSize))))))))))))))

pub of_its_number : (e : Refusal) → refusal_of (number_of e) ≡ e
unfolding refusal_of
of_its_number Line = refl
of_its_number Digit = refl
of_its_number Size = refl
of_its_number Ends = refl
of_its_number Order = refl
of_its_number Closing = refl
of_its_number Slice = refl
of_its_number Kind = refl
of_its_number RecordLength = refl
of_its_number RecordByte = refl
of_its_number OverSpare = refl
of_its_number OtherTable = refl
of_its_number NotThere = refl
of_its_number LogFull = refl
of_its_number NeverSent = refl
of_its_number BagSize = refl

-- no two refusals have the same number
pub same_number : (d e : Refusal) → number_of d ≡ number_of e → d ≡ e
same_number d e n = sym (of_its_number d) ∙ ap refusal_of n ∙ of_its_number e

-- past a `?`: what was found first is found of the whole
pub or_refused : (e : Refusal) (a b : ℕ) → number_of e ≡ a → number_of e ≡ or_else a b
or_refused e zero b f = absurd (number_some e f)
or_refused e (suc a) b f = f

-- nothing was found first, and q is found then
pub or_passed : (a b q : ℕ) → 0 ≡ a → q ≡ b → q ≡ or_else a b
or_passed zero b q z f = f
or_passed (suc a) b q z f = absurd (omega arith)

-- the reply of an answer, by its fault and, where there is none, its values
pub reply_is : {A : Type 0} (f : A → List ℕ) (r : Result A Refusal) (fault : ℕ) (vs : List ℕ) → fault_of r ≡ fault → ((x : A) → r ≡ Ok x → f x ≡ vs) → reply_in f r ≡ reply_of fault vs
reply_is f (Ok x) fault vs e v = rw (eq-eqb fault 0 (sym e)) (ap values (v x refl))
reply_is f (Err d) fault vs e v = rw (← e, ne_eqb (number_of d) 0 (number_some d))

-- a loop's step is refused, and no step before it had a fault
pub first_refused : (f : ℕ → ℕ) (n i : ℕ) (e : Refusal) → first f i ≡ 0 → i < n → number_of e ≡ f i → number_of e ≡ first f n
first_refused f n i e none l h = h ∙ sym (first_some f n i none l (λ z. number_some e (h ∙ z)))

-- at the exit of a `?`, that answers r
pub at_exit : {A : Type 0} (r : Result A Refusal) (e : Refusal) (fault : ℕ) → IsErrAnd r (λ y. y ≡ e) → number_of e ≡ fault → fault_of r ≡ fault
at_exit r e fault x f = let p = err_from_is_err_and r x in rw (p.1, p.2) f

-- the same where an `Ok` would say more
pub at_exit_if : {A : Type 0} (P : A → Type 0) (r : Result A Refusal) (e : Refusal) (fault : ℕ) → IsErrAnd r (λ y. y ≡ e) → number_of e ≡ fault → (fault_of r ≡ fault) × IfOk r P
at_exit_if P r e fault x f = let p = err_from_is_err_and r x in rw (p.1, p.2) (f, tt)

-- the answer that a reply says, by the fault found; f x are the values where there is none
pub answer_is : {A : Type 0} (f : A → List ℕ) (x : A) (r : Result A Refusal) (fault : ℕ) → ((y : A) → f y ≡ f x → y ≡ x)
    → reply_in f r ≡ reply_of fault (f x) → r ≡ cond (eqb fault 0) (Ok x) (Err (refusal_of fault))
answer_is {A = A} f x r fault same e = go r (eqb fault 0) e
  where
    go : (r : Result A Refusal) (none : Bool) → reply_in f r ≡ cond none (values (f x)) (refusal fault) → r ≡ cond none (Ok x) (Err (refusal_of fault))
    go (Ok y) true e = let v : f y ≡ f x = cc in ap Ok (same y v)
    go (Ok y) false e = let z : ◌≡◌ {A = ℕ} 0 1 = cc in absurd (omega arith)
    go (Err d) true e = let z : ◌≡◌ {A = ℕ} 0 1 = cc in absurd (omega arith)
    go (Err d) false e = let n : number_of d ≡ fault = cc in ap Err (sym (of_its_number d) ∙ ap refusal_of n)
