-- The numbers of a line of three, in its order.
use Rattle.std.specs.Prelude.{ℕ, List, [], ◌∷◌}
use Rattle.reader.specs.declared.numbers.Triple.{Triple}

abbrev pub numbers_of : Triple → List ℕ
numbers_of t = t.first ∷ t.second ∷ t.third ∷ []
