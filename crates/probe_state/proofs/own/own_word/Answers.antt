use Prim.Native.Nat.{ℕ, ◌+◌, ◌*◌, ◌-◌, ◌<◌}
use mathlib.Core.Path.{◌≡◌, sym, ◌∙◌}
use mathlib.Core.Bool.{Bool}
use mathlib.Core.List.{[]}
use native.Mathlib.Omega.{arith}
use Rattle.table.specs.Table.{Table, of_slices}
use Rattle.probe_maps.specs.Maps.{is_own}
use Rattle.bit_maps.proofs.Words.{bit_hit, bit_miss, bit_fits}
use Rattle.probe_state.proofs.OwnLaws.{own_in, word_made, word_none}
use Rattle.probe_state.proofs.own.own_word.Goals as goal
use Rattle.probe_state.proofs.own.own_word.Goals.{then-touches, else-touches}

pub returns-then-not-has_own : goal.returns-then-not-has_own
returns-then-not-has_own c =
    let a = c.args in
    word_none (of_slices 0 0 a.links [] a.lows.now a.highs.now []) a.probe a.w c.min-end.result (c.has_own.ensures c.if-not-has_own.true) (λ i short l. omega arith)

pub overflow_add-word : goal.overflow_add-word
overflow_add-word c =
    let a = c.args in
    let l = c.loop-i in
    let t : Table = of_slices 0 0 a.links [] a.lows.now a.highs.now [] in
    let own : ℕ → Bool = λ j. is_own t a.probe (64 * a.w + j) in
    let e : 64 * a.w + (l.i - 64 * a.w) ≡ l.i = omega arith in
    let f = bit_fits own (l.i - 64 * a.w) l.word (omega arith) l.invariant.1 (rw e (own_in t a.probe l.i (omega arith)) ∙ sym c.touches.ensures ∙ c.if-touches.true) in
    omega arith

pub loop-i-preserved : goal.loop-i-preserved
loop-i-preserved c =
    let a = c.args in
    let l = c.loop-i in
    let t : Table = of_slices 0 0 a.links [] a.lows.now a.highs.now [] in
    let own : ℕ → Bool = λ j. is_own t a.probe (64 * a.w + j) in
    let e : 64 * a.w + (l.i - 64 * a.w) ≡ l.i = omega arith in
    let n : l.i + 1 - 64 * a.w ≡ l.i - 64 * a.w + 1 = omega arith in
    let short : l.i - 64 * a.w < 64 = omega arith in
    let is : own (l.i - 64 * a.w) ≡ c.touches.result = rw e (own_in t a.probe l.i (omega arith)) ∙ sym c.touches.ensures in
    (omega arith, rw n (elim c.if-touches.branch [ then-touches w ↦ w.word-is ∙ bit_hit own (l.i - 64 * a.w) l.word short l.invariant.1 (is ∙ w.if-touches.true) | else-touches w ↦ w.word-is ∙ bit_miss own (l.i - 64 * a.w) l.word l.invariant.1 (is ∙ w.if-touches.false) ]))

pub returns : goal.returns
returns c =
    let a = c.args in
    let l = c.loop-i in
    word_made (of_slices 0 0 a.links [] a.lows.now a.highs.now []) a.probe a.w (l.i - 64 * a.w) l.word (omega arith) l.invariant.1 (λ short. omega arith)
