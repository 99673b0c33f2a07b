-- Invariant: storing the i digits of v that are left gives what is promised.
use mathlib.Core.Path.{◌≡◌}
use lib.Seq.{sets}
use Rattle.hex_digits.specs.Digits.{digits}
use Rattle.hex_digits.proofs.fields.put_number.Given as goal

abbrev pub invariant-loop-i : goal.invariant-loop-i
invariant-loop-i l = sets l.out l.at (digits l.i l.v) ≡ sets l.initial.out l.at (digits l.width l.number)
