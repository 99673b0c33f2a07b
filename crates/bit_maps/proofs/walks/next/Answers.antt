use native.Mathlib.Omega.{arith}
use Rattle.bit_maps.proofs.Maps.{clear_to, is_next_bit, word_clear, rest_clear, word_next, rest_next}
use Rattle.bit_maps.proofs.walks.next.Goals as goal

pub returns-then-map-k : goal.returns-then-map-k
returns-then-map-k c = is_next_bit _ _ _ (omega arith) (omega arith) (λ l. absurd (omega (arith, c.if-map-k.true))) (λ j l m. absurd (omega arith))

pub returns-then-first-ne0 : goal.returns-then-first-ne0
returns-then-first-ne0 c = rest_next _ _ (λ k. (c.type_inv.map k).fits) (omega arith) c.if-first-ne0.true

pub loop-k-init : goal.loop-k-init
loop-k-init c = rest_clear _ _ c.if-first-ne0.false

pub returns-then-word-ne0 : goal.returns-then-word-ne0
returns-then-word-ne0 c = word_next _ _ _ (λ k. (c.type_inv.map k).fits) (omega arith) (omega arith) c.loop-k.invariant c.if-word-ne0.true

pub loop-k-preserved : goal.loop-k-preserved
loop-k-preserved c = clear_to _ _ _ c.loop-k.invariant (word_clear _ _ c.if-word-ne0.false)

pub returns : goal.returns
returns c =
    is_next_bit _ _ _ (omega arith) (omega arith) (λ s. absurd (omega arith)) (λ j l m. c.loop-k.invariant j l (omega arith))
