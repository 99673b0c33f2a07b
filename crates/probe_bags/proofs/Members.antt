-- Which frames are in a bag decides which links they offer and refuse, and whether all of them pass.
use Prim.Native.Nat.{ℕ}
use mathlib.Core.Path.{◌≡◌, refl, sym, ◌∙◌}
use mathlib.Core.Logic.{◌↔◌, ◌⊎◌, inl, inr, ∥∥₁_elim}
use mathlib.Core.Bool.{Bool, true, true≢false, Bool-set}
use mathlib.Core.List.{List, [], ◌∷◌, Mem, Memᴰ}
use native.Mathlib.Nat.{ℕ_set}
use Rattle.range.proofs.Bools.{or_intro_left, or_intro_right, or_cases, same_bool}
use Rattle.table.specs.Table.{Table}
use Rattle.probe_frame.specs.Frame.{frame_of}
use Rattle.probe_rules.specs.declared.Event.{Event}
use Rattle.probe_rules.specs.Frames.{heard_of}
use Rattle.probe_checks.specs.Checks.{heard_fault}
use Rattle.probe_bags.specs.Bag.{events_of, frames_fault}
use Rattle.probe_bags.proofs.Steps.{good_first, frames_parts}
use Rattle.probe_bags.proofs.Settled.{some}

-- every frame of the one bag is in the other
abbrev pub AllIn : List (List ℕ) → List (List ℕ) → Type 0
AllIn ls ms = (l : List ℕ) → Mem l ls → Mem l ms

module _ (t : Table) (says : Event → ℕ → Bool) (i : ℕ) where
  abbrev says_it : List ℕ → Bool
  says_it l = says (heard_of t (frame_of l)) i

  abbrev some_says : List (List ℕ) → Bool
  some_says ls = some says (events_of t ls) i

  who_says : (ls : List (List ℕ)) → some_says ls ≡ true → (l : List ℕ) × Memᴰ l ls × (says_it l ≡ true)
  unfolding events_of
  who_says [] e = absurd (true≢false (sym e))
  who_says (l ∷ ls) e = go (λ h. who_says ls h) (or_cases (says_it l) (some_says ls) e)
    where
      go : (some_says ls ≡ true → (k : List ℕ) × Memᴰ k ls × (says_it k ≡ true)) → (says_it l ≡ true) ⊎ (some_says ls ≡ true)
          → (k : List ℕ) × Memᴰ k (l ∷ ls) × (says_it k ≡ true)
      go behind (inl h) = (l, Memᴰ.head refl, h)
      go behind (inr h) = let w = behind h in (w.0, Memᴰ.tail w.1, w.2)

  says_some : {l : List ℕ} {ls : List (List ℕ)} → Memᴰ l ls → says_it l ≡ true → some_says ls ≡ true
  unfolding events_of
  says_some (Memᴰ.head {x} {xs} same) e = or_intro_left (says_it x) (some_says xs) (rw same at e)
  says_some (Memᴰ.tail {x} {xs} there) e = or_intro_right (says_it x) (some_says xs) (says_some there e)

  some_within : (ls ms : List (List ℕ)) → AllIn ls ms → some_says ls ≡ true → some_says ms ≡ true
  some_within ls ms within e =
      let w = who_says ls e in
      ∥∥₁_elim (within w.0 ∣ w.1 ∣₁) (Bool-set (some_says ms) true) (λ d. says_some d w.2)

  pub some_same : (ls ms : List (List ℕ)) → ((l : List ℕ) → Mem l ls ↔ Mem l ms) → some says (events_of t ls) i ≡ some says (events_of t ms) i
  some_same ls ms same = same_bool (some_says ls) (some_says ms) (some_within ls ms (λ l. (same l).0)) (some_within ms ls (λ l. (same l).1))

module _ (t : Table) (p : ℕ) where
  frame_passes : {l : List ℕ} {ls : List (List ℕ)} → Memᴰ l ls → frames_fault t p ls ≡ 0 → heard_fault t p l ≡ 0
  frame_passes (Memᴰ.head {x} {xs} same) z = rw same (frames_parts t p x xs z).0
  frame_passes (Memᴰ.tail {x} {xs} there) z = frame_passes there (frames_parts t p x xs z).1

  frames_pass : (ls : List (List ℕ)) → ((l : List ℕ) → Memᴰ l ls → heard_fault t p l ≡ 0) → frames_fault t p ls ≡ 0
  unfolding frames_fault
  frames_pass [] h = refl
  frames_pass (l ∷ ls) h = good_first t p l ls (h l (Memᴰ.head refl)) ∙ frames_pass ls (λ k d. h k (Memᴰ.tail d))

  pub passes_within : (ls ms : List (List ℕ)) → AllIn ms ls → frames_fault t p ls ≡ 0 → frames_fault t p ms ≡ 0
  passes_within ls ms within z =
      frames_pass ms (λ l d. ∥∥₁_elim (within l ∣ d ∣₁) (ℕ_set (heard_fault t p l) 0) (λ there. frame_passes there z))
