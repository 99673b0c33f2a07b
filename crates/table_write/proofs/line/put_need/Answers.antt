use Prim.Native.Nat.{◌+◌}
use mathlib.Core.Path.{refl}
use mathlib.Core.List.{[], ◌∷◌}
use native.Mathlib.Omega.{arith}
use Rattle.hex_digits.specs.Digits.{digits}
use Rattle.hex_digits.proofs.Laws.{length_digits}
use Rattle.range.proofs.Sets.{sets_then}
use Rattle.table_write.proofs.line.put_need.Goals as goal

pub returns : goal.returns
returns c =
    let a = c.args in
    sets_then a.out.now _ _ a.at (a.at + 4) (digits 4 a.need) (10 ∷ []) c.put_number.ensures (omega (arith, length_digits 4 a.need)) refl
