-- Invariant: the word has the bits of the links before k, among its 64.
use Prim.Native.Nat.{◌+◌, ◌*◌, ◌^◌}
use mathlib.Core.Path.{◌≡◌}
use Rattle.range.specs.Sum.{weigh}
use Rattle.probe_turning.proofs.Laws.{has_value}
use Rattle.probe_turning.proofs.words.word_with.Given as goal

abbrev pub invariant-loop-k : goal.invariant-loop-k
invariant-loop-k l = l.word ≡ weigh l.k (λ j. has_value l.rec l.at l.value (64 * l.w + j)) (λ j. 2 ^ j)
