-- How the code comes to the closing line's fault.
use Prim.Native.Nat.{ℕ, zero, suc, ◌+◌, ◌<◌}
use mathlib.Core.Path.{◌≡◌, refl, ◌∙◌, ap}
use mathlib.Core.Bool.{Bool, true, false}
use mathlib.Core.List.{List}
use native.Mathlib.Omega.{arith}
use lib.Dec.{leb}
use lib.ListN.{length, get_or, drop, length-take, length-drop}
use borrow.Author.Tests.{leb-true, leb-false, eq-eqb, ne_eqb}
use Rattle.hex_digits.specs.Digits.{value_of}
use Rattle.lines.specs.Line.{line_at}
use Rattle.lines.proofs.Lines.{GoodLine, good_next}
use Rattle.lines.proofs.Parts.{part, part_at}
use Rattle.table.specs.Text.{begins, closing_line, closing_fault}
use Rattle.table_text.proofs.Begins.{begins_take}

f_value : value_of 102 ≡ 15
unfolding value_of
f_value = refl

closing_digit : (j : ℕ) → j < 4 → get_or closing_line j 0 ≡ 102
closing_digit zero l = refl
closing_digit (suc zero) l = refl
closing_digit (suc (suc zero)) l = refl
closing_digit (suc (suc (suc zero))) l = refl
closing_digit (suc (suc (suc (suc j)))) l = absurd (omega arith)

-- the closing line is a line of four digits
closing_good : (s : List ℕ) (at : ℕ) → begins (drop at s) closing_line ≡ true → GoodLine s at 4
closing_good s at e =
    let p : part s at 5 ≡ closing_line = begins_take (drop at s) closing_line e in
    let n = ap length p in
    let k = length-take 5 (drop at s) in
    let d = length-drop at s in
    record {
      within = omega arith;
      feed = part_at s closing_line at 5 4 p (omega arith);
      digits = λ j l. let v = ap value_of (part_at s closing_line at 5 j p (omega arith) ∙ closing_digit j l) ∙ f_value in omega arith;
    }

module _ (more : Bool) (s : List ℕ) (at : ℕ) where
  pub closing_absent : begins (drop at s) closing_line ≡ false → 6 ≡ closing_fault more s at
  closing_absent e = rw e

  pub closing_more : begins (drop at s) closing_line ≡ true → more ≡ true → 0 ≡ closing_fault more s at
  closing_more e m = rw (e, m)

  pub closing_followed : begins (drop at s) closing_line ≡ true → more ≡ false → leb (length s) (line_at s at).next ≡ false → 6 ≡ closing_fault more s at
  closing_followed e m l =
      let n = good_next s at 4 (closing_good s at e) in
      let behind = leb-false (length s) (line_at s at).next l in
      let k : length s ≡ at + 5 → ⊥ = λ z. omega arith in
      rw (e, m, ne_eqb (length s) (at + 5) k)

  pub closing_last : begins (drop at s) closing_line ≡ true → more ≡ false → leb (length s) (line_at s at).next ≡ true → 0 ≡ closing_fault more s at
  closing_last e m l =
      let g = closing_good s at e in
      let n = good_next s at 4 g in
      let w = g.within in
      let ends = leb-true (length s) (line_at s at).next l in
      let k : length s ≡ at + 5 = omega arith in
      rw (e, m, eq-eqb (length s) (at + 5) k)
