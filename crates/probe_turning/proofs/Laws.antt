-- Laws of words made bit by bit, and of runs of stores.
use Prim.Native.Nat.{ℕ, zero, suc, ◌+◌, ◌*◌, ◌≤◌, ◌<◌}
use mathlib.Core.Path.{◌≡◌, refl, sym, ◌∙◌, ap}
use mathlib.Core.Bool.{Bool, false}
use mathlib.Core.List.{List, [], ◌∷◌}
use native.Mathlib.Nat.{add-zero}
use native.Mathlib.Omega.{arith}
use native.Mathlib.Numerals.{add-one}
use lib.Dec.{eqb}
use lib.ListN.{length, set, get_or-eq_default}
use lib.Seq.{sets}
use borrow.Author.Tests.{ne_eqb}
use Rattle.range.specs.Lists.{joined, stored}
use Rattle.range.proofs.Lists.{joined_next, length_joined}
use Rattle.range.proofs.Sets.{sets_append}
use Rattle.bit_maps.specs.BitMap.{words_for, word_of, map_of}
use Rattle.bit_maps.proofs.Maps.{map_of_same}
use Rattle.table.specs.Table.{item}
use Rattle.probe_record.specs.Record.{outbound, inbound}
use Rattle.probe_maps.specs.Maps.{Maps, byte_of, bytes_of}

-- whether the byte of a link has the value, outbound or inbound
abbrev pub has_value : List ℕ → ℕ → ℕ → ℕ → Bool
has_value e at value i = eqb (item e (2 * i + at)) value

pub past_none : (e : List ℕ) (at value i : ℕ) → 0 < value → length e ≤ 2 * i + at → has_value e at value i ≡ false
past_none e at value i some far = rw (get_or-eq_default e 0 far) (ne_eqb 0 value (λ z. omega arith))

pub stored_sets : (f : ℕ → ℕ) (n : ℕ) (d : List ℕ) → stored f n d ≡ sets d 0 (joined (λ i. f i ∷ []) n)
unfolding stored joined
stored_sets f zero d = refl
stored_sets f (suc n) d =
    let k = length_joined (λ i. f i ∷ []) 1 n (λ i. refl) in
    let e : 0 + length (joined (λ i. f i ∷ []) n) ≡ n = omega arith in
    rw (stored_sets f n d) (sym (sets_append (joined (λ i. f i ∷ []) n) (f n ∷ []) d 0 ∙ ap (λ (j : ℕ). set (sets d 0 (joined (λ i. f i ∷ []) n)) j (f n)) e))

pub stored_map : (p : ℕ → Bool) (words : ℕ) (d : List ℕ) → stored (word_of p) words d ≡ sets d 0 (map_of p words)
unfolding map_of
stored_map p words d = stored_sets (word_of p) words d

-- the rows of the bytes
pub out_filled : (e : List ℕ) (value links : ℕ) (d after : List ℕ) → after ≡ stored (word_of (has_value e 0 value)) (words_for links) d
    → after ≡ sets d 0 (map_of (λ i. eqb (outbound e i) value) (words_for links))
out_filled e value links d after q =
    q ∙ stored_map (has_value e 0 value) (words_for links) d
    ∙ ap (sets d 0) (map_of_same (has_value e 0 value) (λ i. eqb (outbound e i) value) (words_for links) (λ i l. ap (λ (k : ℕ). eqb (item e k) value) (add-zero (2 * i))))

pub in_filled : (e : List ℕ) (value links : ℕ) (d after : List ℕ) → after ≡ stored (word_of (has_value e 1 value)) (words_for links) d
    → after ≡ sets d 0 (map_of (λ i. eqb (inbound e i) value) (words_for links))
in_filled e value links d after q = q ∙ stored_map (has_value e 1 value) (words_for links) d

pub no_bytes : (m : Maps) → bytes_of 0 m ≡ []
unfolding bytes_of joined
no_bytes m = refl

-- the two bytes of one link more
pub bytes_next : (m : Maps) (i : ℕ) (d : List ℕ) (a b : ℕ) → a ≡ byte_of m.standing m.refused_out i → b ≡ byte_of m.held m.refused_in i
    → set (set (sets d 0 (bytes_of i m)) (2 * i) a) (2 * i + 1) b ≡ sets d 0 (bytes_of (i + 1) m)
unfolding bytes_of
bytes_next m i d a b out into =
    let f : ℕ → List ℕ = λ j. byte_of m.standing m.refused_out j ∷ byte_of m.held m.refused_in j ∷ [] in
    let e : 0 + length (joined f i) ≡ 2 * i = ap (λ (k : ℕ). 0 + k) (length_joined f 2 i (λ j. refl)) ∙ omega arith in
    rw (out, into, add-one (2 * i)) (sym (ap (sets d 0) (joined_next f i) ∙ sets_append (joined f i) (f i) d 0 ∙ ap (λ (k : ℕ). sets (sets d 0 (joined f i)) k (f i)) e))
