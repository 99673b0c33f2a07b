-- The entry stored, or past the log's end nothing.
use Prim.Native.Nat.{ℕ}
use mathlib.Core.Path.{◌≡◌, refl, ◌∙◌, ap}
use mathlib.Core.Bool.{Bool, true, false, cond}
use mathlib.Core.List.{List}
use lib.Dec.{eqb}
use lib.ListN.{set}
use Rattle.wake_log.specs.declared.Entry.{Entry}
use Rattle.wake_log.specs.declared.Answer.{Answer}
use Rattle.wake_log.specs.declared.Answer.TheVariants.{Logged, Refused}
use Rattle.wake_log.specs.Entry.{answer_of}
use Rattle.wake_log.specs.Log.{log_with}

pub entry_stored : (fault used : ℕ) (e : Entry) (r : Answer) (log log' : List Entry) → r ≡ answer_of fault e → log' ≡ log_with used r log
    → log' ≡ cond (eqb fault 0) (set log used e) log
entry_stored fault used e r log log' is s = s ∙ ap (λ (x : Answer). log_with used x log) is ∙ go (eqb fault 0)
  where
    go : (b : Bool) → log_with used (cond b (Logged e) (Refused fault)) log ≡ cond b (set log used e) log
    go true = refl
    go false = refl
