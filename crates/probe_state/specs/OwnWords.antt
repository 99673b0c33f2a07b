-- 21 word by word, with the own links as a map.
use Rattle.std.specs.Prelude.{ℕ, cond, List}
use Rattle.range.specs.First.{first}
use Rattle.bit_maps.specs.BitMap.{word_bit, bit}
use Rattle.probe_maps.specs.Maps.{Maps, wrong_bits}

-- of the 64 links of one word of each map
abbrev pub word_fault : ℕ → ℕ → ℕ → ℕ → ℕ → ℕ
word_fault standing refused_out held refused_in own =
    first (λ k. cond (wrong_bits (word_bit standing k) (word_bit refused_out k) (word_bit held k) (word_bit refused_in k) (word_bit own k)) 21 0) 64

-- of the link i
abbrev pub own_bit_fault : Maps → List ℕ → ℕ → ℕ
own_bit_fault m own i = cond (wrong_bits (bit m.standing i) (bit m.refused_out i) (bit m.held i) (bit m.refused_in i) (bit own i)) 21 0
