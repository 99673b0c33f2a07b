use mathlib.Core.Path.{◌≡◌, refl, ◌∙◌, ap}
use mathlib.Core.Bool.{◌&&◌}
use mathlib.Core.List.{List, [], ◌∷◌}
use Prim.Native.Nat.{ℕ, ◌-◌}
use Rattle.std.proofs.lemmas.Bool.Decides.{nat_tests}
use native.Mathlib.Omega.{arith}
use lib.Dec.{eqb}
use lib.ListN.{length, drop, length-drop}
use Rattle.std.proofs.lemmas.List.{take_all}
use Rattle.std.specs.List.{starts_with}
use Rattle.table.specs.Text.{begins}
use Rattle.table_text.proofs.line_checks.stands_at.Goals as goal

turned : (a b : ℕ) → eqb a b ≡ eqb b a
turned a b = grind (arith, nat_tests)

-- the library's word
same : (s what : List ℕ) → starts_with eqb s what ≡ begins s what
unfolding begins
same s [] = refl
same [] (x ∷ xs) = refl
same (b ∷ s) (x ∷ xs) = rw (turned x b) (ap (λ r. eqb b x && r) (same s xs))

pub returns : goal.returns
returns c =
    let a = c.args in
    c.starts_with.ensures.value ∙ rw (take_all (length a.text.now - a.at) (drop a.at a.text.now) (simp length-drop (omega arith))) (same (drop a.at a.text.now) a.what.now)
