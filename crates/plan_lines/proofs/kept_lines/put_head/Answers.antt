use mathlib.Core.Path.{refl, ◌∙◌}
use mathlib.Core.List.{[], ◌∷◌, ◌++◌}
use native.Mathlib.Omega.{arith}
use lib.ListN.{length-set}
use Rattle.hex_digits.specs.Digits.{digits}
use Rattle.hex_digits.proofs.Laws.{length_digits}
use Rattle.range.proofs.Sets.{sets_then}
use Rattle.plan_lines.proofs.kept_lines.put_head.Goals as goal

pub shape_of-out : goal.shape_of-out
shape_of-out c =
    simp length-set (c.put_number-3.auto.out ∙ c.put_number-2.auto.out ∙ c.put_number.auto.out)

pub returns : goal.returns
returns c =
    let a = c.args in
    sets_then a.out.now _ _ 0 4 (digits 4 a.number) (digits 4 a.kept ++ (digits 8 a.cost ++ (10 ∷ []))) c.put_number.ensures (omega (arith, length_digits 4 a.number))
    (sets_then _ _ _ 4 8 (digits 4 a.kept) (digits 8 a.cost ++ (10 ∷ [])) c.put_number-2.ensures (omega (arith, length_digits 4 a.kept))
    (sets_then _ _ _ 8 16 (digits 8 a.cost) (10 ∷ []) c.put_number-3.ensures (omega (arith, length_digits 8 a.cost)) refl))
