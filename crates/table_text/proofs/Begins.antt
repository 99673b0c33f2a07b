-- What a comparison of bytes that held says.
use Prim.Native.Nat.{ℕ}
use mathlib.Core.Path.{◌≡◌, refl, sym}
use mathlib.Core.Bool.{true, true≢false}
use mathlib.Core.List.{List, [], ◌∷◌}
use lib.Dec.{eqb}
use lib.ListN.{length, take}
use borrow.Author.Tests.{eqb-true}
use Rattle.range.proofs.Bools.{and_left, and_right}
use Rattle.table.specs.Text.{begins}

pub begins_take : (s xs : List ℕ) → begins s xs ≡ true → take (length xs) s ≡ xs
unfolding begins
begins_take s [] e = refl
begins_take [] (x ∷ xs) e = absurd (true≢false (sym e))
begins_take (b ∷ s) (x ∷ xs) e = rw (eqb-true b x (and_left (eqb b x) (begins s xs) e), begins_take s xs (and_right (eqb b x) (begins s xs) e))
