-- How the code comes to a packed answer.
use Prim.Native.Nat.{ℕ, ◌+◌, ◌^◌, ◌≤◌, ◌<◌}
use mathlib.Core.Path.{◌≡◌, refl, sym, ◌∙◌, ap}
use mathlib.Core.Bool.{true, false, cond}
use mathlib.Core.Logic.{◌⊎◌, inl, inr}
use mathlib.Core.List.{List, [], ◌∷◌, ◌++◌}
use native.Mathlib.Omega.{arith}
use lib.Dec.{eqb, ltb}
use lib.ListN.{length, drop, set}
use borrow.Author.Tests.{lt-ltb, eqb-true, eqb-false, eq-eqb, ne_eqb}
use Rattle.range.specs.First.{or_else}
use Rattle.range.proofs.Bools.{decided}
use Rattle.range.proofs.Sets.{sets_start}
use Rattle.script_theory.specs.Script.{Script}
use Rattle.script_steps.specs.declared.Progress.{Progress}
use Rattle.script_output.specs.declared.Handling.{Handling}
use Rattle.script_output.specs.declared.Handling.TheVariants as handling
use Rattle.script_output.specs.Handling.{Handles}
use Rattle.script_output.proofs.Answers.{progress_after, handles_answer}
use Rattle.script_exports.specs.Packed.{PiecePacked}

-- A piece: refused before the call, refused by it, or handled.
pub piece_unhandled : (fault : ℕ) (q : Script) (rec line numbers out : List ℕ) → length numbers < 3
    → PiecePacked (or_else (cond (ltb (length numbers) 3) 8 0) fault) q 8 rec rec line line numbers numbers out out
piece_unhandled fault q rec line numbers out l =
    rw (lt-ltb (length numbers) 3 l) record { answer = refl; numbers_after = refl; record_after_lem = refl; line_after = refl; out_after_lem = refl }

module _ (fault : ℕ) (q : Script) (a : Handling) (rec rec' line line' out out' : List ℕ) (h : Handles fault q a rec rec' line line' out out') where
  -- the call's refusal
  refused_is : (n : ℕ) → a ≡ handling.Refused n → (n ≡ fault) × (fault ≡ 0 → ⊥) × (rec' ≡ rec) × (line' ≡ line) × (out' ≡ out)
  refused_is n e = go (decided (eqb fault 0)) (sym e ∙ handles_answer h) h.record_after_lem h.line_after h.out_after_lem
    where
      go : (eqb fault 0 ≡ true) ⊎ (eqb fault 0 ≡ false)
          → handling.Refused n ≡ cond (eqb fault 0) (handling.Printed (length q.out) (progress_after q)) (handling.Refused fault)
          → rec' ≡ cond (eqb fault 0) q.bytes rec → line' ≡ cond (eqb fault 0) (q.held ++ drop (length q.held) line) line
          → out' ≡ cond (eqb fault 0) (q.out ++ drop (length q.out) out) out → (n ≡ fault) × (fault ≡ 0 → ⊥) × (rec' ≡ rec) × (line' ≡ line) × (out' ≡ out)
      go (inl f) s r l o = let w = rw f at s in let z : ◌≡◌ {A = ℕ} 0 1 = cc in absurd (omega arith)
      go (inr f) s r l o = let w = rw f at s in let m : n ≡ fault = cc in (m, eqb-false fault 0 f, rw f at r, rw f at l, rw f at o)

  pub piece_refused : (n : ℕ) (numbers : List ℕ) → a ≡ handling.Refused n → PiecePacked fault q n rec rec' line line' numbers numbers out out'
  piece_refused n numbers e =
      let i = refused_is n e in
      let f = ne_eqb fault 0 i.1 in
      record { answer = rw f i.0; numbers_after = rw f; record_after_lem = rw f i.2; line_after = rw f i.3; out_after_lem = rw f i.4 }

  printed_is : (n : ℕ) (p : Progress) → a ≡ handling.Printed n p → (fault ≡ 0) × (n ≡ length q.out) × (p.used ≡ q.used) × (p.held ≡ length q.held) × (p.changed ≡ q.changed)
  printed_is n p e = go (decided (eqb fault 0)) (sym e ∙ handles_answer h)
    where
      go : (eqb fault 0 ≡ true) ⊎ (eqb fault 0 ≡ false)
          → handling.Printed n p ≡ cond (eqb fault 0) (handling.Printed (length q.out) (progress_after q)) (handling.Refused fault)
          → (fault ≡ 0) × (n ≡ length q.out) × (p.used ≡ q.used) × (p.held ≡ length q.held) × (p.changed ≡ q.changed)
      go (inl f) s =
          let w = rw f at s in
          let m : n ≡ length q.out = cc in
          let is : p ≡ progress_after q = cc in
          (eqb-true fault 0 f, m, ap (λ (x : Progress). x.used) is, ap (λ (x : Progress). x.held) is, ap (λ (x : Progress). x.changed) is)
      go (inr f) s = let w = rw f at s in let z : ◌≡◌ {A = ℕ} 0 1 = cc in absurd (omega arith)

  pub piece_handled : (n r : ℕ) (p : Progress) (numbers numbers' : List ℕ) → a ≡ handling.Printed n p → 3 ≤ length numbers → r ≡ n + 2 ^ 48
      → numbers' ≡ set (set (set numbers 0 p.used) 1 p.held) 2 p.changed → PiecePacked fault q r rec rec' line line' numbers numbers' out out'
  piece_handled n r p numbers numbers' e l k s =
      let i = printed_is n p e in
      let f = eq-eqb fault 0 i.0 in
      record {
        answer = rw f (let m = i.1 in omega arith);
        numbers_after = rw f (s ∙ rw (i.2, i.3, i.4) (sets_start numbers (q.used ∷ length q.held ∷ q.changed ∷ []) l));
        record_after_lem = h.record_after_lem;
        line_after = h.line_after;
        out_after_lem = h.out_after_lem;
      }
