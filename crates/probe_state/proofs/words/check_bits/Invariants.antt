-- Invariant: no link of the words before w is wrong.
use Prim.Native.Nat.{◌*◌}
use mathlib.Core.Path.{◌≡◌}
use Rattle.range.specs.First.{first}
use Rattle.probe_maps.specs.Maps.{rows}
use Rattle.probe_state.specs.OwnWords.{own_bit_fault}
use Rattle.probe_state.proofs.words.check_bits.Given as goal

abbrev pub invariant-loop-w : goal.invariant-loop-w
invariant-loop-w l = first (own_bit_fault (rows l.standing l.refused_out l.held l.refused_in) l.own) (64 * l.w) ≡ 0
