-- Invariant: number is what the first i digits write, and sum is what their values add up to.
use mathlib.Core.Path.{◌≡◌}
use Rattle.hex_digits.specs.Digits.{number_at}
use Rattle.hex_digits.proofs.Laws.{value_sum}
use Rattle.hex_digits.proofs.fields.read_by.Given as goal

abbrev pub invariant-loop-i : goal.invariant-loop-i
invariant-loop-i l = (l.number ≡ number_at l.text l.at l.i) × (l.sum ≡ value_sum l.text l.at l.i)
