use mathlib.Core.Path.{◌≡◌, refl, sym, ◌∙◌}
use mathlib.Core.List.{List}
use Prim.Native.Nat.{ℕ, ◌≤◌, ◌<◌}
use native.Mathlib.Omega.{arith}
use lib.ListN.{get_or}
use borrow.Author.Tests.{lt-ltb, le-ltb}
use Rattle.hex_digits.specs.Digits.{value_of, number_at}
use Rattle.hex_digits.proofs.Laws.{number_next, number_bound, sum_next, sum_bound, good_by_sum, value_le, value_sum}
use Rattle.hex_digits.proofs.fields.read_by.Goals as goal

-- what the table says of a byte
looked_up : (values : List ℕ) {w r b : ℕ} → ((b : ℕ) → b < 256 → get_or values b 0 ≡ value_of b) → b < 256 → w ≡ b → r ≡ get_or values w 0 → (r ≡ value_of b) × (r ≤ 255)
looked_up values {b = b} rule small e f = let v = value_le b in let g = rule b small in let h = rw e at f in (cc, omega arith)

pub loop-i-init : goal.loop-i-init
unfolding number_at
loop-i-init c = (refl, refl)

pub overflow_mul-number : goal.overflow_mul-number
overflow_mul-number c = omega (arith, number_bound)

pub overflow_add-number : goal.overflow_add-number
overflow_add-number c =
    let v = looked_up _ c.requires.0 (c.type_inv.text _).fits c.wide.ensures c.wide-value.ensures in
    omega (arith, number_bound)

pub overflow_add-sum : goal.overflow_add-sum
overflow_add-sum c =
    let v = looked_up _ c.requires.0 (c.type_inv.text _).fits c.wide.ensures c.wide-value.ensures in
    omega (arith, sum_bound)

pub loop-i-preserved : goal.loop-i-preserved
loop-i-preserved c =
    let v = looked_up _ c.requires.0 (c.type_inv.text _).fits c.wide.ensures c.wide-value.ensures in
    (omega (arith, number_next), omega (arith, sum_next))

pub returns-then-good : goal.returns-then-good
returns-then-good c =
    let a = c.args in
    let l = c.loop-i in
    let e : l.i ≡ a.width = omega arith in
    let v : l.sum ≡ value_sum a.text.now a.at a.width = rw (← e) l.invariant.1 in
    let good = sym (good_by_sum a.text.now a.at a.width (omega arith)) ∙ lt-ltb _ 255 (omega arith) in
    rw (good, ← e, l.invariant.0)

pub returns-else-good : goal.returns-else-good
returns-else-good c =
    let a = c.args in
    let l = c.loop-i in
    let e : l.i ≡ a.width = omega arith in
    let v : l.sum ≡ value_sum a.text.now a.at a.width = rw (← e) l.invariant.1 in
    let bad = sym (good_by_sum a.text.now a.at a.width (omega arith)) ∙ le-ltb _ 255 (omega arith) in
    rw (bad, ← e, l.invariant.0)
