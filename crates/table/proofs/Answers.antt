-- What the answer of a check is.
use Prim.Native.Nat.{ℕ}
use mathlib.Core.Path.{◌≡◌, refl}
use mathlib.Core.Bool.{cond}
use mathlib.Core.List.{[]}
use lib.Dec.{eqb}
use Rattle.std.specs.Prelude.{Result, Ok, Err, ⊤}
use Rattle.range.specs.Reply.{reply_of}
use Rattle.refusals.specs.declared.Refusal.{Refusal}
use Rattle.refusals.proofs.Laws.{refusal_of, answer_is}
use Rattle.table.specs.Checking.{checking_reply}

-- the answer, by the fault found
pub checking_is : (r : Result ⊤ Refusal) (fault : ℕ) → checking_reply r ≡ reply_of fault [] → r ≡ cond (eqb fault 0) (Ok tt) (Err (refusal_of fault))
checking_is r fault = answer_is (λ u. []) tt r fault (λ u e. refl)
