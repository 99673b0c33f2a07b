-- Invariant: the words before w are made.
use mathlib.Core.Path.{◌≡◌}
use mathlib.Core.List.{[]}
use Rattle.range.specs.Lists.{stored}
use Rattle.bit_maps.specs.BitMap.{word_of}
use Rattle.table.specs.Table.{of_slices}
use Rattle.probe_maps.specs.Maps.{is_own}
use Rattle.probe_state.proofs.own.own_map.Given as goal

abbrev pub invariant-loop-w : goal.invariant-loop-w
invariant-loop-w l = l.own ≡ stored (word_of (is_own (of_slices 0 0 l.links [] l.lows l.highs []) l.probe)) l.w l.initial.own
