-- Maps: a set of numbers as a row of 64-bit words. The words quoted are those of document 02, No. 9.
use Rattle.std.specs.Prelude.{ℕ, ◌+◌, ◌*◌, ◌-◌, ◌/◌, ◌%◌, ◌^◌, ◌<◌, Bool, ◌&&◌, ◌||◌, not, List, [], ◌∷◌, eqb, length, get_or}
use Rattle.range.specs.Sum.{weigh, count}
use Rattle.range.specs.Lists.{joined}
use Rattle.range.specs.Choice.{lowest}

-- "64-bit words"
abbrev pub Words : List ℕ → Type 0
Words m = (k : ℕ) → get_or m k 0 < 2 ^ 64

-- "one for every 64 links begun"
abbrev pub words_for : ℕ → ℕ
words_for links = (links + 63) / 64

-- "lowest bit first": the bit k of a word
unfoldable pub word_bit : ℕ → ℕ → Bool
word_bit w k = eqb (w / 2 ^ k % 2) 1

-- the bit i of a map
unfoldable pub bit : List ℕ → ℕ → Bool
bit m i = word_bit (get_or m (i / 64) 0) (i % 64)

-- the map of a set, in so many words, word by word
abbrev pub word_of : (ℕ → Bool) → ℕ → ℕ
word_of p w = weigh 64 (λ k. p (64 * w + k)) (λ k. 2 ^ k)

unfoldable pub map_of : (ℕ → Bool) → ℕ → List ℕ
map_of p words = joined (λ w. word_of p w ∷ []) words

-- "counting the ones"
abbrev pub ones_of : List ℕ → ℕ
ones_of m = count (64 * length m) (bit m)

-- a map with the bit i, and without it
abbrev pub with_bit : List ℕ → ℕ → List ℕ
with_bit m i = map_of (λ j. eqb j i || bit m j) (length m)

abbrev pub without_bit : List ℕ → ℕ → List ℕ
without_bit m i = map_of (λ j. not (eqb j i) && bit m j) (length m)

-- the first bit from a place on that is set, or the place behind the last
abbrev pub next_bit : List ℕ → ℕ → ℕ
next_bit m from = from + lowest (λ k. bit m (from + k)) (64 * length m - from)
