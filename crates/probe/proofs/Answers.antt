-- What the answers of an end are, by the fault found.
use Prim.Native.Nat.{ℕ}
use mathlib.Core.Path.{◌≡◌, refl}
use mathlib.Core.Bool.{Bool, true, false, cond}
use mathlib.Core.List.{List, [], ◌∷◌}
use native.Mathlib.Omega.{arith}
use lib.Dec.{eqb}
use Rattle.range.specs.Reply.{refusal, values, reply_of}
use Rattle.table.specs.Table.{Table}
use Rattle.wake_log.specs.declared.Answer.{Answer}
use Rattle.wake_log.specs.Entry.{answer_of}
use Rattle.wake_log.proofs.Answers.{answer_is}
use Rattle.probe_rules.specs.declared.Event.{Event}
use Rattle.probe_rules.specs.Rules.{entry_of, sendable}
use Rattle.probe_maps.specs.Maps.{Maps}
use Rattle.probe_maps.specs.MapRules.{befalls_maps}
use Rattle.probe.specs.declared.Kind.{Kind}
use Rattle.probe.specs.declared.Asked.{Asked}
use Rattle.probe.specs.declared.Asked.TheVariants as asked
use Rattle.probe.specs.declared.Resting.{Resting}
use Rattle.probe.specs.declared.Resting.TheVariants as resting
use Rattle.probe.specs.Answers.{Befallen, asked_event, asked_reply, Asks, resting_reply}

pub befallen_answer : {fault : ℕ} {t : Table} {p : ℕ} {event : Event} {r : Answer} {before after : Maps} → Befallen fault t p event r before after
    → r ≡ answer_of fault (entry_of t p (befalls_maps t p event before))
befallen_answer {fault} {t} {p} {event} {r} {before} b = answer_is r fault (entry_of t p (befalls_maps t p event before)) b.answer

pub asks_answer : {fault : ℕ} {t : Table} {p : ℕ} {k : Kind} {i : ℕ} {e : List ℕ} {r : Asked} {before after : List ℕ} → Asks fault t p k i e r before after
    → r ≡ cond (eqb fault 0) (cond (sendable (asked_event k i) e) asked.Written asked.NotNow) (asked.Refused fault)
asks_answer {fault} {k = k} {i = i} {e = e} {r = r} a = go r (eqb fault 0) (sendable (asked_event k i) e) a.answer
  where
    go : (r : Asked) (none may : Bool) → asked_reply r ≡ cond none (values (cond may 1 0 ∷ [])) (refusal fault)
        → r ≡ cond none (cond may asked.Written asked.NotNow) (asked.Refused fault)
    go asked.Written true true e = refl
    go asked.Written true false e = let z : ◌≡◌ {A = ℕ} 0 1 = cc in absurd (omega arith)
    go asked.Written false may e = let z : ◌≡◌ {A = ℕ} 0 1 = cc in absurd (omega arith)
    go asked.NotNow true true e = let z : ◌≡◌ {A = ℕ} 0 1 = cc in absurd (omega arith)
    go asked.NotNow true false e = refl
    go asked.NotNow false may e = let z : ◌≡◌ {A = ℕ} 0 1 = cc in absurd (omega arith)
    go (asked.Refused n) true may e = let z : ◌≡◌ {A = ℕ} 0 1 = cc in absurd (omega arith)
    go (asked.Refused n) false may e = cc

pub resting_is : (r : Resting) (fault : ℕ) (b : Bool) → resting_reply r ≡ reply_of fault (cond b 1 0 ∷ []) → r ≡ cond (eqb fault 0) (resting.Rests b) (resting.Refused fault)
resting_is r fault b e = go r (eqb fault 0) b e
  where
    go : (r : Resting) (none b : Bool) → resting_reply r ≡ cond none (values (cond b 1 0 ∷ [])) (refusal fault) → r ≡ cond none (resting.Rests b) (resting.Refused fault)
    go (resting.Rests true) true true e = refl
    go (resting.Rests true) true false e = let z : ◌≡◌ {A = ℕ} 0 1 = cc in absurd (omega arith)
    go (resting.Rests false) true true e = let z : ◌≡◌ {A = ℕ} 0 1 = cc in absurd (omega arith)
    go (resting.Rests false) true false e = refl
    go (resting.Rests a) false b e = let z : ◌≡◌ {A = ℕ} 0 1 = cc in absurd (omega arith)
    go (resting.Refused n) true b e = let z : ◌≡◌ {A = ℕ} 0 1 = cc in absurd (omega arith)
    go (resting.Refused n) false b e = cc
