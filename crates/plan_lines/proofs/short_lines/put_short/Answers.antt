use Prim.Native.Nat.{◌+◌, ◌-◌}
use mathlib.Core.Path.{refl, sym, ◌∙◌}
use mathlib.Core.Bool.{true}
use mathlib.Core.List.{[], ◌∷◌, ◌++◌}
use native.Mathlib.Omega.{arith}
use lib.ListN.{length, length-set}
use borrow.Author.Tests.{ltb-true, not-true, not-false}
use Rattle.hex_digits.specs.Digits.{digits}
use Rattle.hex_digits.proofs.Laws.{length_digits}
use Rattle.range.proofs.Sets.{sets_then}
use Rattle.plan_lines.proofs.Lengths.{length_short_line, short_room}
use Rattle.plan_lines.proofs.short_lines.put_short.Goals as goal

pub returns-then-not-is_short : goal.returns-then-not-is_short
returns-then-not-is_short c =
    let e = sym c.is_short.ensures ∙ not-true _ c.if-not-is_short.true-raw in
    (rw e, rw e (omega arith))

pub put_number-requires : goal.put_number-requires
put_number-requires c =
    let a = c.args in
    let e = sym c.is_short.ensures ∙ not-false _ c.if-not-is_short.false-raw in
    let r = short_room a.at a.degree a.need a.probe (length a.out.now) e c.requires in
    omega arith

pub overflow_sub-need : goal.overflow_sub-need
overflow_sub-need c =
    let a = c.args in
    let l = ltb-true a.degree a.need (sym c.is_short.ensures ∙ not-false _ c.if-not-is_short.false-raw) in
    omega arith

pub put_number-requires-2 : goal.put_number-requires-2
put_number-requires-2 c =
    let a = c.args in
    let e = sym c.is_short.ensures ∙ not-false _ c.if-not-is_short.false-raw in
    let r = short_room a.at a.degree a.need a.probe (length a.out.now) e c.requires in
    omega (arith, c.put_number.auto.out)

pub bounds-out-at : goal.bounds-out-at
bounds-out-at c =
    let a = c.args in
    let e = sym c.is_short.ensures ∙ not-false _ c.if-not-is_short.false-raw in
    let r = short_room a.at a.degree a.need a.probe (length a.out.now) e c.requires in
    omega (arith, c.put_number.auto.out, c.put_number-2.auto.out)

pub shape_of-out : goal.shape_of-out
shape_of-out c = simp length-set (c.put_number-2.auto.out ∙ c.put_number.auto.out)

pub returns : goal.returns
returns c =
    let a = c.args in
    let missing = a.need - a.degree in
    let e = sym c.is_short.ensures ∙ not-false _ c.if-not-is_short.false-raw in
    let l = length_short_line true a.probe missing in
    let first = length_digits 4 a.probe in
    let second = length_digits 4 missing in
    let line = sets_then a.out.now _ _ a.at (a.at + 4) (digits 4 a.probe) (digits 4 missing ++ (10 ∷ [])) c.put_number.ensures (omega arith)
    (sets_then _ _ _ (a.at + 4) (a.at + 8) (digits 4 missing) (10 ∷ []) c.put_number-2.ensures (omega arith) refl) in
    (rw e line, rw e (omega arith))
