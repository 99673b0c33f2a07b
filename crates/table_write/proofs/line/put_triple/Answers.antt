use Prim.Native.Nat.{◌+◌}
use mathlib.Core.Path.{refl, ◌∙◌}
use mathlib.Core.List.{[], ◌∷◌, ◌++◌}
use native.Mathlib.Omega.{arith}
use lib.ListN.{length-set}
use Rattle.hex_digits.specs.Digits.{digits}
use Rattle.hex_digits.proofs.Laws.{length_digits}
use Rattle.range.proofs.Sets.{sets_then}
use Rattle.table_write.proofs.line.put_triple.Goals as goal

pub shape_of-out : goal.shape_of-out
shape_of-out c =
    simp length-set (c.put_number-3.auto.out ∙ c.put_number-2.auto.out ∙ c.put_number.auto.out)

pub returns : goal.returns
returns c =
    let a = c.args in
    sets_then a.out.now _ _ a.at (a.at + 4) (digits 4 a.a) (digits 4 a.b ++ (digits 4 a.c ++ (10 ∷ []))) c.put_number.ensures (omega (arith, length_digits 4 a.a))
    (sets_then _ _ _ (a.at + 4) (a.at + 8) (digits 4 a.b) (digits 4 a.c ++ (10 ∷ [])) c.put_number-2.ensures (omega (arith, length_digits 4 a.b))
    (sets_then _ _ _ (a.at + 8) (a.at + 12) (digits 4 a.c) (10 ∷ []) c.put_number-3.ensures (omega (arith, length_digits 4 a.c)) refl))
