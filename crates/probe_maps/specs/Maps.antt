-- The record of an end as four maps over the links, with refusals 20, 21 and 22. The sentences are those of document 02, No. 9.
use Rattle.std.specs.Prelude.{ℕ, ◌*◌, Bool, cond, ◌&&◌, ◌||◌, not, List, [], ◌∷◌, ltb, eqb, length}
use Rattle.std.proofs.lemmas.List.Edits.{sets}
use Rattle.range.specs.First.{or_else, first}
use Rattle.range.specs.Lists.{joined}
use Rattle.bit_maps.specs.BitMap.{Words, words_for, bit, map_of, ones_of}
use Rattle.table.specs.Table.{Table, touches, spare}
use Rattle.table.specs.Slices.{Slices, table_of, slices_fault}
use Rattle.probe_record.specs.Record.{outbound, inbound}

-- "A single end's record becomes four maps over the links: standing, refused out, held, refused in. Each map is its own row of 64-bit words"
pub record Maps : Type 0 where
  pub standing : List ℕ
  pub refused_out : List ℕ
  pub held : List ℕ
  pub refused_in : List ℕ

-- by their rows
abbrev pub rows : List ℕ → List ℕ → List ℕ → List ℕ → Maps
rows standing refused_out held refused_in = record { standing = standing; refused_out = refused_out; held = held; refused_in = refused_in }

-- in slices of 64-bit words
pub record AllWords (m : Maps) : Type 0 where
  pub standing : Words m.standing
  pub refused_out_lem : Words m.refused_out
  pub held : Words m.held
  pub refused_in_lem : Words m.refused_in

-- "turning one into the other and back": the byte of a direction, by its two maps, and the bytes of all links
abbrev pub byte_of : List ℕ → List ℕ → ℕ → ℕ
byte_of one two i = cond (bit one i) 1 (cond (bit two i) 2 0)

unfoldable pub bytes_of : ℕ → Maps → List ℕ
bytes_of links m = joined (λ i. byte_of m.standing m.refused_out i ∷ byte_of m.held m.refused_in i ∷ []) links

-- the maps of the bytes, "one [word] for every 64 links begun"
abbrev pub maps_of : ℕ → List ℕ → Maps
maps_of links e =
    let words = words_for links in
    rows (map_of (λ i. eqb (outbound e i) 1) words) (map_of (λ i. eqb (outbound e i) 2) words) (map_of (λ i. eqb (inbound e i) 1) words)
    (map_of (λ i. eqb (inbound e i) 2) words)

-- "Refusal 20 now wants exactly these words in each map"
abbrev pub has_words : ℕ → List ℕ → Bool
has_words links m = eqb (length m) (words_for links)

abbrev pub maps_length_fault : Table → Maps → ℕ
maps_length_fault t m =
    cond (has_words t.links m.standing && (has_words t.links m.refused_out && (has_words t.links m.held && has_words t.links m.refused_in))) 0 20

-- "21 covers a link set in both maps of a direction, a foreign link or a bit past the last": by the link's four bits, and whether it is the probe's own
abbrev pub wrong_bits : Bool → Bool → Bool → Bool → Bool → Bool
wrong_bits standing refused_out held refused_in own =
    (standing && refused_out) || ((held && refused_in) || (not own && (standing || (refused_out || (held || refused_in)))))

abbrev pub is_own : Table → ℕ → ℕ → Bool
is_own t p i = ltb i t.links && touches t p i

abbrev pub bit_fault : Table → ℕ → Maps → ℕ → ℕ
bit_fault t p m i =
    cond (wrong_bits (bit m.standing i) (bit m.refused_out i) (bit m.held i) (bit m.refused_in i) (is_own t p i)) 21 0

-- 22: "A probe with more standing or more held than its spare." "Offers standing and offers held are found by counting the ones."
abbrev pub ones_fault : Table → ℕ → Maps → ℕ
ones_fault t p m = cond (ltb (spare t p) (ones_of m.standing) || ltb (spare t p) (ones_of m.held)) 22 0

-- "20, 21, 22"
abbrev pub maps_fault : Table → ℕ → Maps → ℕ
maps_fault t p m = or_else (maps_length_fault t m) (or_else (first (bit_fault t p m) (64 * words_for t.links)) (ones_fault t p m))

-- "These come after the table's checks"
abbrev pub state_fault : Slices → ℕ → Maps → ℕ
state_fault x p m = or_else (slices_fault x) (maps_fault (table_of x) p m)

-- rows at the start of longer ones: "a longer output's rest stays"
abbrev pub stored_in : Maps → Maps → Maps
stored_in out m =
    rows (sets out.standing 0 m.standing) (sets out.refused_out 0 m.refused_out) (sets out.held 0 m.held)
    (sets out.refused_in 0 m.refused_in)
