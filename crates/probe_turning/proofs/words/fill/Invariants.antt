-- Invariant: the words before w are stored, and the others are as they were.
use mathlib.Core.Path.{◌≡◌}
use Rattle.range.specs.Lists.{stored}
use Rattle.bit_maps.specs.BitMap.{word_of}
use Rattle.probe_turning.proofs.Laws.{has_value}
use Rattle.probe_turning.proofs.words.fill.Given as goal

abbrev pub invariant-loop-w : goal.invariant-loop-w
invariant-loop-w l = l.map ≡ stored (word_of (has_value l.rec l.at l.value)) l.w l.initial.map
