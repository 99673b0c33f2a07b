-- What an event may alter.
use Prim.Native.Nat.{ℕ, ◌+◌, ◌*◌, ◌/◌, ◌≤◌, ◌<◌}
use mathlib.Core.Path.{◌≡◌, refl, sym, ◌∙◌}
use mathlib.Core.Logic.{inl, inr}
use mathlib.Core.Bool.{Bool, true, false, true≢false}
use mathlib.Core.List.{List}
use native.Mathlib.Nat.{div-add-mod}
use native.Mathlib.Omega.{arith}
use native.Mathlib.Decide.{ℕ_discrete}
use lib.Dec.{eqb}
use lib.ListN.{set}
use lib.Seq.{get_or-set_other}
use borrow.Author.Tests.{eq-eqb, ne_eqb}
use Rattle.range.specs.Sum.{count}
use Rattle.range.proofs.Sums.{none_count}
use Rattle.range.proofs.Counts.{count_except}
use Rattle.table.specs.Table.{Table, item}
use Rattle.probe_record.specs.Record.{outbound, inbound}
use Rattle.probe_rules.specs.declared.Outcome.{Outcome}
use Rattle.probe_rules.specs.declared.Outcome.TheVariants.{Opened, Enough, Taken, TakenDisplacing, Refused, RefusalLearnt, NoChange, AllTried}
use Rattle.probe_rules.specs.Rules.{alter}
use Rattle.probe_rules.specs.Within.{OwnLink, OwnOutcome}
use Rattle.probe_theory.specs.EndLaws.{byte_changed, FewChanges}
use Rattle.probe_theory.proofs.Stores.{out_else, out_kept, in_else, in_kept}

-- at most one member, and at most two
count_one : (n : ℕ) (p : ℕ → Bool) (a : ℕ) → a < n → ((i : ℕ) → i < n → (i ≡ a → ⊥) → p i ≡ false) → count n p ≤ 1
count_one n p a l h =
    let x = count_except n p (λ i. false) a l (λ i k d e. absurd (true≢false (sym e ∙ h i k d))) in
    let y = none_count n (λ i. false) (λ i k e. true≢false (sym e)) in
    omega arith

count_two : (n : ℕ) (p : ℕ → Bool) (a b : ℕ) → a < n → b < n → ((i : ℕ) → i < n → (i ≡ a → ⊥) → (i ≡ b → ⊥) → p i ≡ false) → count n p ≤ 2
count_two n p a b la lb h =
    let x = count_except n p (λ i. eqb i b) a la (λ i k d e. go i k d e (ℕ_discrete i b)) in
    let y = count_one n (λ i. eqb i b) b lb (λ i k d. ne_eqb i b d) in
    omega arith
  where
    go : (i : ℕ) → i < n → (i ≡ a → ⊥) → p i ≡ true → Dec (i ≡ b) → eqb i b ≡ true
    go i k d e (yes s) = eq-eqb i b s
    go i k d e (no s) = absurd (true≢false (sym e ∙ h i k d s))

module _ (n : ℕ) (e e' : List ℕ) where
  same : (byte : List ℕ → ℕ → ℕ) (j : ℕ) → byte e' j ≡ byte e j → byte_changed byte e e' j ≡ false
  same byte j s = rw (s, eq-eqb (byte e j) (byte e j) refl)

  none : (byte : List ℕ → ℕ → ℕ) → ((j : ℕ) → byte e' j ≡ byte e j) → count n (byte_changed byte e e') ≡ 0
  none byte h = none_count n (byte_changed byte e e') (λ j k c. true≢false (sym c ∙ same byte j (h j)))

  few_none : ((j : ℕ) → outbound e' j ≡ outbound e j) → ((j : ℕ) → inbound e' j ≡ inbound e j) → FewChanges n e e'
  few_none outs ins =
      let a = none outbound outs in
      let b = none inbound ins in
      record { out_one = omega arith; in_two = omega arith; one_side = inl a }

  few_out : (i : ℕ) → i < n → ((j : ℕ) → (j ≡ i → ⊥) → outbound e' j ≡ outbound e j) → ((j : ℕ) → inbound e' j ≡ inbound e j) → FewChanges n e e'
  few_out i l outs ins =
      let b = none inbound ins in
      record {
        out_one = count_one n (byte_changed outbound e e') i l (λ j k d. same outbound j (outs j d));
        in_two = omega arith;
        one_side = inr b;
      }

  few_in : (i c : ℕ) → i < n → c < n → ((j : ℕ) → outbound e' j ≡ outbound e j) → ((j : ℕ) → (j ≡ i → ⊥) → (j ≡ c → ⊥) → inbound e' j ≡ inbound e j)
      → FewChanges n e e'
  few_in i c li lc outs ins =
      let a = none outbound outs in
      record {
        out_one = omega arith;
        in_two = count_two n (byte_changed inbound e e') i c li lc (λ j k d f. same inbound j (ins j d f));
        one_side = inl a;
      }

module _ (t : Table) (p : ℕ) (e : List ℕ) where
  pub outcome_few : (o : Outcome) → OwnOutcome t p o → FewChanges t.links e (alter o e)
  outcome_few (Opened i) a = few_out t.links e (set e (2 * i) 1) i a.0 (out_else e i 1) (in_kept e i 1)
  outcome_few Enough a = few_none t.links e e (λ j. refl) (λ j. refl)
  outcome_few (Taken i) a = few_in t.links e (set e (2 * i + 1) 1) i i a.0 a.0 (out_kept e i 1) (λ j d f. in_else e i 1 j d)
  outcome_few (TakenDisplacing i c) a =
      let m = set e (2 * i + 1) 1 in
      few_in t.links e (set m (2 * c + 1) 2) i c a.0.0 a.1.0 (λ j. out_kept m c 2 j ∙ out_kept e i 1 j) (λ j d f. in_else m c 2 j f ∙ in_else e i 1 j d)
  outcome_few (Refused i) a = few_in t.links e (set e (2 * i + 1) 2) i i a.0 a.0 (out_kept e i 2) (λ j d f. in_else e i 2 j d)
  outcome_few (RefusalLearnt i) a = few_out t.links e (set e (2 * i) 2) i a.0 (out_else e i 2) (in_kept e i 2)
  outcome_few (NoChange i) a = few_none t.links e e (λ j. refl) (λ j. refl)
  outcome_few AllTried a = few_none t.links e e (λ j. refl) (λ j. refl)

  -- a byte that differs is the one stored
  stored_own : (l : List ℕ) (i k v j : ℕ) → OwnLink t p i → k / 2 ≡ i → (item (set l k v) j ≡ item l j → ⊥) → OwnLink t p (j / 2)
  stored_own l i k v j a h d = go (ℕ_discrete j k)
    where
      go : Dec (j ≡ k) → OwnLink t p (j / 2)
      go (yes s) = rw (s, h) a
      go (no s) = absurd (d (get_or-set_other l k j v 0 s))

  half : (i : ℕ) → 2 * i / 2 ≡ i
  half i = let a = div-add-mod (2 * i) 2 in omega arith

  half_odd : (i : ℕ) → (2 * i + 1) / 2 ≡ i
  half_odd i = let a = div-add-mod (2 * i + 1) 2 in omega arith

  pub outcome_own : (o : Outcome) → OwnOutcome t p o → (j : ℕ) → (item (alter o e) j ≡ item e j → ⊥) → OwnLink t p (j / 2)
  outcome_own (Opened i) a j d = stored_own e i (2 * i) 1 j a (half i) d
  outcome_own Enough a j d = absurd (d refl)
  outcome_own (Taken i) a j d = stored_own e i (2 * i + 1) 1 j a (half_odd i) d
  outcome_own (TakenDisplacing i c) a j d = go (ℕ_discrete j (2 * c + 1))
    where
      m : List ℕ
      m = set e (2 * i + 1) 1

      go : Dec (j ≡ 2 * c + 1) → OwnLink t p (j / 2)
      go (yes s) = rw (s, half_odd c) a.1
      go (no s) = stored_own e i (2 * i + 1) 1 j a.0 (half_odd i) (λ f. d (get_or-set_other m (2 * c + 1) j 2 0 s ∙ f))
  outcome_own (Refused i) a j d = stored_own e i (2 * i + 1) 2 j a (half_odd i) d
  outcome_own (RefusalLearnt i) a j d = stored_own e i (2 * i) 2 j a (half i) d
  outcome_own (NoChange i) a j d = absurd (d refl)
  outcome_own AllTried a j d = absurd (d refl)
