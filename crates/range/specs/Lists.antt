-- Lists made of f 0, f 1, .. f (n - 1).
use Rattle.std.specs.Prelude.{ℕ, zero, suc, List, [], ◌++◌, set, get_or}

-- the lists f 0, f 1, .. f (n - 1), one after the other
unfoldable pub joined : (ℕ → List ℕ) → ℕ → List ℕ
joined f zero = []
joined f (suc n) = joined f n ++ f n

-- d with its first n entries stored anew, entry i as f i; the others stay
unfoldable pub stored : (ℕ → ℕ) → ℕ → List ℕ → List ℕ
stored f zero d = d
stored f (suc n) d = set (stored f n d) n (f n)

-- d with the entry at v changed by f
abbrev pub changed_at : (ℕ → ℕ) → List ℕ → ℕ → List ℕ
changed_at f d v = set d v (f (get_or d v 0))
