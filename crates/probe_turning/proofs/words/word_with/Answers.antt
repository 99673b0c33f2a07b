use Prim.Native.Nat.{ℕ, ◌+◌, ◌*◌, ◌^◌, ◌<◌, ◌≤◌}
use mathlib.Core.Path.{◌≡◌, sym, ◌∙◌}
use mathlib.Core.Bool.{Bool, false}
use native.Mathlib.Omega.{arith}
use borrow.Author.Tests.{eq-eqb, ne_eqb}
use Rattle.range.proofs.Sums.{weigh_rest}
use Rattle.bit_maps.proofs.Words.{bit_hit, bit_miss, bit_fits}
use Rattle.probe_turning.proofs.Laws.{has_value, past_none}
use Rattle.probe_turning.proofs.words.word_with.Goals as goal
use Rattle.probe_turning.proofs.words.word_with.Goals.{else-rec-i-2, then-rec-i-2}

pub returns-then-rec-i : goal.returns-then-rec-i
returns-then-rec-i c =
    let l = c.loop-k in
    let a = c.args in
    let p : ℕ → Bool = λ j. has_value a.rec.now a.at a.value (64 * a.w + j) in
    let none : (j : ℕ) → l.k ≤ j → j < 64 → p j ≡ false = λ j n m. past_none a.rec.now a.at a.value (64 * a.w + j) c.requires.1 (omega (arith, c.if-rec-i.true)) in
    l.invariant ∙ sym (weigh_rest p (λ j. 2 ^ j) l.k 64 (omega arith) none)

pub overflow_add-word : goal.overflow_add-word
overflow_add-word c =
    let l = c.loop-k in
    let a = c.args in
    let f = bit_fits (λ j. has_value a.rec.now a.at a.value (64 * a.w + j)) l.k l.word c.loop-k-test.true l.invariant (eq-eqb _ _ c.if-rec-i-2.true) in
    omega arith

pub loop-k-preserved : goal.loop-k-preserved
loop-k-preserved c =
    let l = c.loop-k in
    let a = c.args in
    let p : ℕ → Bool = λ j. has_value a.rec.now a.at a.value (64 * a.w + j) in
    elim c.if-rec-i-2.branch [ then-rec-i-2 w ↦ w.word-is ∙ bit_hit p l.k l.word c.loop-k-test.true l.invariant (eq-eqb _ _ w.if-rec-i-2.true) | else-rec-i-2 w ↦ w.word-is ∙ bit_miss p l.k l.word l.invariant (ne_eqb _ _ w.if-rec-i-2.false) ]
