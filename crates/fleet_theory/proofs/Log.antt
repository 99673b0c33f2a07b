-- The entries that say a refusal, against the marks of inbound bytes.
use Prim.Native.Nat.{ℕ, ◌<◌}
use mathlib.Core.Path.{◌≡◌, refl, sym, ◌∙◌}
use mathlib.Core.Logic.{◌⊎◌, inl, inr}
use mathlib.Core.List.{List, [], ◌∷◌, ◌++◌}
use Rattle.table.specs.Table.{Table, other}
use Rattle.table.specs.Legal.{Legal}
use Rattle.wake_log.specs.declared.Entry.{Entry}
use Rattle.probe_rules.specs.declared.Outcome.{Outcome}
use Rattle.probe_rules.specs.declared.Outcome.TheVariants.{Opened, Enough, Taken, TakenDisplacing, Refused, RefusalLearnt, NoChange, AllTried}
use Rattle.probe_rules.specs.Rules.{what_of}
use Rattle.probe_rules.specs.Within.{OwnOutcome}
use Rattle.probe_rules.proofs.Frames.{joins_across, across_joins, other_across, one_link}
use Rattle.fleet_theory.proofs.EndState.{store}
use Rattle.fleet_theory.proofs.EndBytes.{Cell, here, there, cell, stored_byte}
use Rattle.fleet_theory.specs.Words.{Refuses, RefusedIn}
use Rattle.fleet_theory.proofs.Bytes.{marked_in}

-- an entry more
module _ (t : Table) (i : ℕ) (e : Entry) where
  pub in_before : (es : List Entry) → RefusedIn t i es → RefusedIn t i (es ++ (e ∷ []))
  in_before [] x' = elim x' [ ]
  in_before (d ∷ es) (inl a) = inl a
  in_before (d ∷ es) (inr a) = inr (in_before es a)

  pub in_new : (es : List Entry) → Refuses t i e.probe e.what → RefusedIn t i (es ++ (e ∷ []))
  in_new [] a = inl a
  in_new (d ∷ es) a = inr (in_new es a)

  pub before_or_new : (es : List Entry) → RefusedIn t i (es ++ (e ∷ [])) → RefusedIn t i es ⊎ Refuses t i e.probe e.what
  before_or_new [] (inl a) = inr a
  before_or_new [] (inr a) = elim a [ ]
  before_or_new (d ∷ es) (inl a) = inl (inl a)
  before_or_new (d ∷ es) (inr a) = go (before_or_new es a)
    where
      go : RefusedIn t i es ⊎ Refuses t i e.probe e.what → RefusedIn t i (d ∷ es) ⊎ Refuses t i e.probe e.what
      go (inl b) = inl (inr b)
      go (inr b) = inr b

module _ (t : Table) (p : ℕ) (a : ℕ → ℕ → ℕ) where
  -- a mark was there before, or the entry says it
  pub mark_new : (o : Outcome) → OwnOutcome t p o → (q j : ℕ) → marked_in p o a q j ≡ 1 → (a q j ≡ 1) ⊎ Refuses t j p (what_of t p o)
  mark_new (Opened i) own q j e = inl e
  mark_new Enough own q j e = inl e
  mark_new (Taken i) own q j e = inl e
  mark_new (TakenDisplacing i c) own q j e = go (cell a (store a p c 1) p c 1 (λ x y. refl) q j)
    where
      go : Cell a (store a p c 1) p c 1 q j → (a q j ≡ 1) ⊎ Refuses t j p (what_of t p (TakenDisplacing i c))
      go (here x y f) = inr (rw y (across_joins (other_across t p c own.1.1)))
      go (there d f) = inl (sym f ∙ e)
  mark_new (Refused i) own q j e = go (cell a (store a p i 1) p i 1 (λ x y. refl) q j)
    where
      go : Cell a (store a p i 1) p i 1 q j → (a q j ≡ 1) ⊎ Refuses t j p (what_of t p (Refused i))
      go (here x y f) = inr (sym y)
      go (there d f) = inl (sym f ∙ e)
  mark_new (RefusalLearnt i) own q j e = inl e
  mark_new (NoChange i) own q j e = inl e
  mark_new AllTried own q j e = inl e

  -- what the entry says has a mark
  pub new_mark : Legal t → (o : Outcome) → OwnOutcome t p o → (j : ℕ) → j < t.links → Refuses t j p (what_of t p o) → marked_in p o a p j ≡ 1
  new_mark legal (Opened i) own j l e = elim e [ ]
  new_mark legal Enough own j l e = elim e [ ]
  new_mark legal (Taken i) own j l e = elim e [ ]
  new_mark legal (RefusalLearnt i) own j l e = elim e [ ]
  new_mark legal (NoChange i) own j l e = elim e [ ]
  new_mark legal AllTried own j l e = elim e [ ]
  new_mark legal (TakenDisplacing i c) own j l e =
      let one = one_link t legal j c p (other t p c) l own.1.0 (joins_across t p (other t p c) j e) (other_across t p c own.1.1) in
      rw one (stored_byte a (store a p c 1) p c 1 (λ x y. refl))
  new_mark legal (Refused i) own j l e = rw (← e) (stored_byte a (store a p i 1) p i 1 (λ x y. refl))
