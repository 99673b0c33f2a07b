-- Invariant: the word has the own links before i among its 64.
use Prim.Native.Nat.{◌+◌, ◌*◌, ◌-◌, ◌^◌, ◌≤◌}
use mathlib.Core.Path.{◌≡◌}
use mathlib.Core.List.{[]}
use Rattle.range.specs.Sum.{weigh}
use Rattle.table.specs.Table.{of_slices}
use Rattle.probe_maps.specs.Maps.{is_own}
use Rattle.probe_state.proofs.own.own_word.Given as goal

abbrev pub invariant-loop-i : goal.invariant-loop-i
invariant-loop-i l = (l.i ≤ l.start + 64) × (l.word ≡ weigh (l.i - l.start) (λ j. is_own (of_slices 0 0 l.links [] l.lows l.highs []) l.probe (64 * l.w + j)) (λ j. 2 ^ j))
