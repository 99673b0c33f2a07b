-- An answer and its values: the values of an entry tell the entry.
use Prim.Native.Nat.{ℕ}
use mathlib.Core.Path.{◌≡◌, refl, sym, ◌∙◌, ap}
use mathlib.Core.Logic.{◌⊎◌, inl, inr}
use mathlib.Core.Bool.{Bool, true, false, cond}
use native.Mathlib.Omega.{arith}
use lib.Dec.{eqb}
use borrow.Author.Tests.{eqb-true}
use Rattle.range.proofs.Bools.{decided}
use Rattle.range.specs.Reply.{refusal, values, reply_of}
use Rattle.wake_log.specs.declared.Entry.{Entry}
use Rattle.wake_log.specs.declared.What.{What}
use Rattle.wake_log.specs.declared.What.TheVariants as what
use Rattle.wake_log.specs.declared.Answer.{Answer}
use Rattle.wake_log.specs.declared.Answer.TheVariants.{Logged, Refused}
use Rattle.wake_log.specs.Entry.{code_of, link_of, displaced_of, entry_values, answer_reply, answer_of, accepted_by}

-- what befell, by its code, link and displaced probe
abbrev from_code : ℕ → ℕ → ℕ → What
from_code code link displaced =
    cond (eqb code 0) (what.Opened link)
    (cond (eqb code 1) what.Enough
    (cond (eqb code 2) (what.Taken link)
    (cond (eqb code 3) (what.TakenDisplacing link displaced)
    (cond (eqb code 4) (what.Refused link)
    (cond (eqb code 5) (what.RefusalLearnt link) (cond (eqb code 6) (what.NoChange link) (cond (eqb code 7) what.AllTried what.Restarted)))))))

what_is : (w : What) → from_code (code_of w) (link_of w) (displaced_of w) ≡ w
what_is (what.Opened link) = refl
what_is what.Enough = refl
what_is (what.Taken link) = refl
what_is (what.TakenDisplacing link displaced) = refl
what_is (what.Refused link) = refl
what_is (what.RefusalLearnt link) = refl
what_is (what.NoChange link) = refl
what_is what.AllTried = refl
what_is what.Restarted = refl

pub entry_is : (e e' : Entry) → entry_values e ≡ entry_values e' → e ≡ e'
entry_is e e' s =
    let probe : e.probe ≡ e'.probe = cc in
    let code : code_of e.what ≡ code_of e'.what = cc in
    let link : link_of e.what ≡ link_of e'.what = cc in
    let displaced : displaced_of e.what ≡ displaced_of e'.what = cc in
    let befell : e.what ≡ e'.what = sym (what_is e.what) ∙ rw (code, link, displaced) (what_is e'.what) in
    ap (λ (p : ℕ). record { probe = p; what = e.what }) probe ∙ ap (λ (w : What). record { probe = e'.probe; what = w }) befell

-- the answer, by the fault found
pub answer_is : (r : Answer) (fault : ℕ) (e : Entry) → answer_reply r ≡ reply_of fault (entry_values e) → r ≡ answer_of fault e
answer_is r fault e s = go r (eqb fault 0) s
  where
    go : (r : Answer) (none : Bool) → answer_reply r ≡ cond none (values (entry_values e)) (refusal fault) → r ≡ cond none (Logged e) (Refused fault)
    go (Logged d) true s = ap Logged (entry_is d e (cc))
    go (Logged d) false s = let z : ◌≡◌ {A = ℕ} 0 1 = cc in absurd (omega arith)
    go (Refused n) true s = let z : ◌≡◌ {A = ℕ} 0 1 = cc in absurd (omega arith)
    go (Refused n) false s = cc

-- and back
pub answer_reply_lem : (r : Answer) (fault : ℕ) (e : Entry) → r ≡ answer_of fault e → answer_reply r ≡ reply_of fault (entry_values e)
answer_reply_lem r fault e is = ap answer_reply is ∙ go (eqb fault 0)
  where
    go : (none : Bool) → answer_reply (cond none (Logged e) (Refused fault)) ≡ cond none (values (entry_values e)) (refusal fault)
    go true = refl
    go false = refl

-- an answer that is logged is of no fault, and is the entry promised
pub logged_is : (fault : ℕ) (e e' : Entry) → answer_of fault e ≡ Logged e' → (fault ≡ 0) × (e ≡ e')
logged_is fault e e' is = go (decided (eqb fault 0))
  where
    go : (eqb fault 0 ≡ true) ⊎ (eqb fault 0 ≡ false) → (fault ≡ 0) × (e ≡ e')
    go (inl z) = let logged = rw z at is in (eqb-true fault 0 z, cc)
    go (inr z) = let none = ap accepted_by (rw z at is) in absurd (omega arith)
