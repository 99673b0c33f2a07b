-- Laws of maps: the bits of a row of words, and rows compared by their bits.
use Prim.Native.Nat.{ℕ, ◌+◌, ◌*◌, ◌-◌, ◌/◌, ◌%◌, ◌^◌, ◌≤◌, ◌<◌}
use mathlib.Core.Path.{◌≡◌, refl, sym, ap, ap₂, ◌∙◌}
use mathlib.Core.Bool.{Bool, true, false, ◌&&◌, ◌||◌, not, true≢false}
use mathlib.Core.List.{List, [], ◌∷◌}
use native.Mathlib.Omega.{arith}
use native.Mathlib.Decide.{dec_lt, ℕ_discrete}
use lib.Dec.{eqb}
use lib.ListN.{length, get_or, set, length-set, get_or-eq_default}
use lib.Seq.{get_or-set_same, get_or-set_other, ext_get_or}
use lib.Pow.{pow-lt, shr_le}
use lib.Bits.{bit_and, bit_or, bit_xor, and_lt, or_lt, xor_lt}
use lib.Count.{ones, count_trailing_zeros}
use borrow.Author.Tests.{eq-eqb, ne_eqb}
use Rattle.range.specs.Sum.{count}
use Rattle.range.specs.Lists.{joined}
use Rattle.range.proofs.Sums.{weigh_same, count_parts}
use Rattle.range.proofs.Lists.{joined_same, length_joined, joined_at}
use Rattle.range.proofs.Choice.{is_lowest}
use Rattle.bit_maps.specs.BitMap.{Words, word_bit, bit, word_of, map_of, with_bit, without_bit, next_bit}
use Rattle.bit_maps.proofs.Words.{wordbit_or, wordbit_and, wordbit_xor, wordbit_zero, wordbit_shift, wordbit_past, word_same, made_small, made_bit, pow_bit, ones_bits, trailing_none, trailing_here, trailing_some}

-- the bits of the word w
pub word_bit_lem : (m : List ℕ) (w k : ℕ) → k < 64 → bit m (64 * w + k) ≡ word_bit (get_or m w 0) k
unfolding bit
word_bit_lem m w k l =
    let e : (64 * w + k) / 64 ≡ w = omega arith in
    let f : (64 * w + k) % 64 ≡ k = omega arith in
    rw (e, f)

pub small_word : (p : ℕ → Bool) (w : ℕ) → word_of p w < 2 ^ 64
small_word p w = made_small (λ k. p (64 * w + k)) 64

pub bit_past : (m : List ℕ) (i : ℕ) → 64 * length m ≤ i → bit m i ≡ false
unfolding bit
bit_past m i l =
    ap (λ (x : ℕ). word_bit x (i % 64)) (get_or-eq_default m 0 (let h : length m ≤ i / 64 = omega arith in h)) ∙ wordbit_zero (i % 64)

pub length_map_of : (p : ℕ → Bool) (words : ℕ) → length (map_of p words) ≡ words
unfolding map_of
length_map_of p words = let a = length_joined (λ w. word_of p w ∷ []) 1 words (λ i. refl) in omega arith

pub map_of_at : (p : ℕ → Bool) (words w : ℕ) → w < words → get_or (map_of p words) w 0 ≡ word_of p w
unfolding map_of
map_of_at p words w l =
    let e : w ≡ 1 * w + 0 = omega arith in
    ap (λ (x : ℕ). get_or (joined (λ v. word_of p v ∷ []) words) x 0) e ∙ joined_at (λ v. word_of p v ∷ []) 1 words w 0 (λ k. refl) l (omega arith)

pub words_map_of : (p : ℕ → Bool) (words : ℕ) → Words (map_of p words)
words_map_of p words w = go (dec_lt w words)
  where
    go : Dec (w < words) → get_or (map_of p words) w 0 < 2 ^ 64
    go (yes l) = rw (map_of_at p words w l) (small_word p w)
    go (no l) = rw (get_or-eq_default (map_of p words) 0 {n = w} (let a = length_map_of p words in omega arith)) (omega arith)

pub bit_map_of : (p : ℕ → Bool) (words i : ℕ) → i < 64 * words → bit (map_of p words) i ≡ p i
unfolding bit
bit_map_of p words i l =
    let e : 64 * (i / 64) + i % 64 ≡ i = omega arith in
    ap (λ (x : ℕ). word_bit x (i % 64)) (map_of_at p words (i / 64) (omega arith)) ∙ made_bit (λ k. p (64 * (i / 64) + k)) 64 (i % 64) (omega arith) ∙ ap p e

-- maps of one length with the same bits
pub map_same : (m n : List ℕ) → length m ≡ length n → Words m → Words n → ((i : ℕ) → i < 64 * length m → bit m i ≡ bit n i) → m ≡ n
map_same m n long a b h =
    ext_get_or 0 m n long (λ w l. word_same (get_or m w 0) (get_or n w 0) (a w) (b w) (λ k s. sym (word_bit_lem m w k s) ∙ h (64 * w + k) (omega arith) ∙ word_bit_lem n w k s))

pub map_of_same : (p q : ℕ → Bool) (words : ℕ) → ((i : ℕ) → i < 64 * words → p i ≡ q i) → map_of p words ≡ map_of q words
unfolding map_of
map_of_same p q words h =
    joined_same (λ w. word_of p w ∷ []) (λ w. word_of q w ∷ []) words
    (λ w l. ap (λ (x : ℕ). x ∷ []) (weigh_same 64 (λ k. p (64 * w + k)) (λ k. q (64 * w + k)) (λ k. 2 ^ k) (λ k s. h (64 * w + k) (omega arith))))

pub map_is : (m : List ℕ) → Words m → m ≡ map_of (bit m) (length m)
map_is m a = map_same m (map_of (bit m) (length m)) (sym (length_map_of (bit m) (length m))) a (words_map_of (bit m) (length m)) (λ i l. sym (bit_map_of (bit m) (length m) i l))

-- one word more is counted
pub count_word : (m : List ℕ) (w : ℕ) → Words m → count (64 * w) (bit m) + ones (get_or m w 0) ≡ count (64 * (w + 1)) (bit m)
count_word m w a =
    let e : 64 * (w + 1) ≡ 64 * w + 64 = omega arith in
    let b = count_parts (bit m) (64 * w) 64 in
    let d = ones_bits (get_or m w 0) 64 (a w) in
    let h = weigh_same 64 (λ k. bit m (64 * w + k)) (word_bit (get_or m w 0)) (λ k. 1) (λ k l. word_bit_lem m w k l) in
    rw e (omega arith)

-- a map with one word stored anew is the map of q when the word has q's bits, and the others have them already
stored_word : (m : List ℕ) (w v : ℕ) (q : ℕ → Bool) → Words m → w < length m → v < 2 ^ 64 → ((k : ℕ) → k < 64 → word_bit v k ≡ q (64 * w + k))
    → ((j : ℕ) → (j / 64 ≡ w → ⊥) → bit m j ≡ q j) → set m w v ≡ map_of q (length m)
unfolding bit
stored_word m w v q a l small here others =
    map_same (set m w v) (map_of q (length m)) (length-set m w v ∙ sym (length_map_of q (length m))) (λ k. each k (ℕ_discrete k w)) (words_map_of q (length m))
    (λ j s. at j (let b = length-set m w v in omega arith) (ℕ_discrete (j / 64) w))
  where
    each : (k : ℕ) → Dec (k ≡ w) → get_or (set m w v) k 0 < 2 ^ 64
    each k (yes e) = rw (e, get_or-set_same m w v 0 l) small
    each k (no e) = rw (get_or-set_other m w k v 0 e) (a k)

    at : (j : ℕ) → j < 64 * length m → Dec (j / 64 ≡ w) → bit (set m w v) j ≡ bit (map_of q (length m)) j
    at j s (yes e) =
        let f : 64 * w + j % 64 ≡ j = omega arith in
        ap (λ (x : ℕ). word_bit (get_or (set m w v) x 0) (j % 64)) e ∙ ap (λ (x : ℕ). word_bit x (j % 64)) (get_or-set_same m w v 0 l)
        ∙ here (j % 64) (omega arith) ∙ ap q f ∙ sym (bit_map_of q (length m) j s)
    at j s (no e) =
        ap (λ (x : ℕ). word_bit x (j % 64)) (get_or-set_other m w (j / 64) v 0 e) ∙ others j e ∙ sym (bit_map_of q (length m) j s)

-- the place i as a bit of its word
place_in_word : (i k : ℕ) → k < 64 → eqb (64 * (i / 64) + k) i ≡ eqb k (i % 64)
place_in_word i k l = go (ℕ_discrete k (i % 64))
  where
    go : Dec (k ≡ i % 64) → eqb (64 * (i / 64) + k) i ≡ eqb k (i % 64)
    go (yes e) = eq-eqb (64 * (i / 64) + k) i (omega arith) ∙ sym (eq-eqb k (i % 64) e)
    go (no e) = ne_eqb (64 * (i / 64) + k) i (λ (f : 64 * (i / 64) + k ≡ i). e (omega arith)) ∙ sym (ne_eqb k (i % 64) e)

pub bit_added : (m : List ℕ) (i : ℕ) → Words m → i < 64 * length m → set m (i / 64) (bit_or (get_or m (i / 64) 0) (2 ^ (i % 64))) ≡ with_bit m i
bit_added m i a l =
    stored_word m (i / 64) (bit_or (get_or m (i / 64) 0) (2 ^ (i % 64))) (λ j. eqb j i || bit m j) a (omega arith)
    (or_lt 64 (get_or m (i / 64) 0) (2 ^ (i % 64)) (a (i / 64)) (pow-lt (let s : i % 64 < 64 = omega arith in s)))
    (λ k s.
    wordbit_or (get_or m (i / 64) 0) (2 ^ (i % 64)) k
    ∙ ap (λ (x : Bool). word_bit (get_or m (i / 64) 0) k || x) (pow_bit (i % 64) k)
    ∙ table (word_bit (get_or m (i / 64) 0) k) (eqb k (i % 64))
    ∙ ap₂ (λ (x y : Bool). x || y) (sym (place_in_word i k s)) (sym (word_bit_lem m (i / 64) k s)))
    (λ j d. rw (ne_eqb j i (λ (e : j ≡ i). d (ap (λ (x : ℕ). x / 64) e))))
  where
    table : (x y : Bool) → (x || y) ≡ (y || x)
    table true true = refl
    table true false = refl
    table false true = refl
    table false false = refl

pub bit_removed : (m : List ℕ) (i : ℕ) → Words m → i < 64 * length m
    → set m (i / 64) (bit_xor (get_or m (i / 64) 0) (bit_and (get_or m (i / 64) 0) (2 ^ (i % 64)))) ≡ without_bit m i
bit_removed m i a l =
    let w : ℕ = get_or m (i / 64) 0 in
    stored_word m (i / 64) (bit_xor w (bit_and w (2 ^ (i % 64)))) (λ j. not (eqb j i) && bit m j) a (omega arith)
    (xor_lt 64 w (bit_and w (2 ^ (i % 64))) (a (i / 64)) (and_lt 64 w (2 ^ (i % 64)) (a (i / 64)) (pow-lt (let s : i % 64 < 64 = omega arith in s))))
    (λ k s.
    wordbit_xor w (bit_and w (2 ^ (i % 64))) k
    ∙ ap (λ (x : Bool). (word_bit w k && not x) || (not (word_bit w k) && x))
    (wordbit_and w (2 ^ (i % 64)) k ∙ ap (λ (x : Bool). word_bit w k && x) (pow_bit (i % 64) k))
    ∙ table (word_bit w k) (eqb k (i % 64))
    ∙ ap₂ (λ (x y : Bool). not x && y) (sym (place_in_word i k s)) (sym (word_bit_lem m (i / 64) k s)))
    (λ j d. rw (ne_eqb j i (λ (e : j ≡ i). d (ap (λ (x : ℕ). x / 64) e))))
  where
    table : (x y : Bool) → ((x && not (x && y)) || (not x && (x && y))) ≡ (not y && x)
    table true true = refl
    table true false = refl
    table false true = refl
    table false false = refl

-- the first bit set from a place on
pub is_next_bit : (m : List ℕ) (from r : ℕ) → from ≤ r → r ≤ 64 * length m → (r < 64 * length m → bit m r ≡ true)
    → ((j : ℕ) → from ≤ j → j < r → bit m j ≡ false) → r ≡ next_bit m from
is_next_bit m from r behind within inside before =
    let e : from + (r - from) ≡ r = omega arith in
    let a = is_lowest (λ k. bit m (from + k)) (64 * length m - from) (r - from)
    (record {
      within = omega arith;
      inside = λ l. ap (bit m) e ∙ inside (omega arith);
      before = λ j l. before (from + j) (omega arith) (omega arith);
    }) in
    omega arith

-- the bits of a word, by their places in the map
word_at : (m : List ℕ) (k j : ℕ) → 64 * k ≤ j → j < 64 * (k + 1) → bit m j ≡ word_bit (get_or m k 0) (j - 64 * k)
word_at m k j l s =
    let e : j ≡ 64 * k + (j - 64 * k) = omega arith in
    ap (bit m) e ∙ word_bit_lem m k (j - 64 * k) (omega arith)

-- the same from a place on, in the word shifted down to it
rest_at : (m : List ℕ) (from j : ℕ) → from ≤ j → j < 64 * (from / 64 + 1) → bit m j ≡ word_bit (get_or m (from / 64) 0 / 2 ^ (from % 64)) (j - from)
rest_at m from j l s =
    let e : j - 64 * (from / 64) ≡ from % 64 + (j - from) = omega arith in
    word_at m (from / 64) j (omega arith) s ∙ ap (word_bit (get_or m (from / 64) 0)) e ∙ sym (wordbit_shift (get_or m (from / 64) 0) (from % 64) (j - from))

-- a word of zeros
pub word_clear : (m : List ℕ) (k : ℕ) → get_or m k 0 ≡ 0 → (j : ℕ) → 64 * k ≤ j → j < 64 * (k + 1) → bit m j ≡ false
word_clear m k z j l s = word_at m k j l s ∙ ap (λ (x : ℕ). word_bit x (j - 64 * k)) z ∙ wordbit_zero (j - 64 * k)

pub rest_clear : (m : List ℕ) (from : ℕ) → get_or m (from / 64) 0 / 2 ^ (from % 64) ≡ 0 → (j : ℕ) → from ≤ j → j < 64 * (from / 64 + 1) → bit m j ≡ false
rest_clear m from z j l s = rest_at m from j l s ∙ ap (λ (x : ℕ). word_bit x (j - from)) z ∙ wordbit_zero (j - from)

-- none up to the word k, and none in it
pub clear_to : (p : ℕ → Bool) (from k : ℕ) → ((j : ℕ) → from ≤ j → j < 64 * k → p j ≡ false) → ((j : ℕ) → 64 * k ≤ j → j < 64 * (k + 1) → p j ≡ false)
    → (j : ℕ) → from ≤ j → j < 64 * (k + 1) → p j ≡ false
clear_to p from k before here j l m = go (dec_lt j (64 * k))
  where
    go : Dec (j < 64 * k) → p j ≡ false
    go (yes d) = before j l d
    go (no d) = here j (omega arith) m

-- the first bit set is in the word k
pub word_next : (m : List ℕ) (from k : ℕ) → Words m → k < length m → from ≤ 64 * k → ((j : ℕ) → from ≤ j → j < 64 * k → bit m j ≡ false) → (get_or m k 0 ≡ 0 → ⊥)
    → 64 * k + count_trailing_zeros 64 (get_or m k 0) ≡ next_bit m from
word_next m from k a l behind before some =
    let t = trailing_some 64 (get_or m k 0) (a k) some in
    is_next_bit m from (64 * k + count_trailing_zeros 64 (get_or m k 0)) (omega arith) (omega arith)
    (λ s. word_bit_lem m k (count_trailing_zeros 64 (get_or m k 0)) t ∙ trailing_here 64 (get_or m k 0) t) (λ j s d. each j s d (dec_lt j (64 * k)))
  where
    each : (j : ℕ) → from ≤ j → j < 64 * k + count_trailing_zeros 64 (get_or m k 0) → Dec (j < 64 * k) → bit m j ≡ false
    each j s d (yes h) = before j s h
    each j s d (no h) =
        let t = trailing_some 64 (get_or m k 0) (a k) some in
        word_at m k j (omega arith) (omega arith) ∙ trailing_none 64 (get_or m k 0) (j - 64 * k) (omega arith)

-- the first bit set is in the place's own word
pub rest_next : (m : List ℕ) (from : ℕ) → Words m → from / 64 < length m → (get_or m (from / 64) 0 / 2 ^ (from % 64) ≡ 0 → ⊥)
    → from + count_trailing_zeros 64 (get_or m (from / 64) 0 / 2 ^ (from % 64)) ≡ next_bit m from
rest_next m from a l some = go (get_or m (from / 64) 0 / 2 ^ (from % 64)) refl some
  where
    own : (t : ℕ) → word_bit (get_or m (from / 64) 0) (from % 64 + t) ≡ true → Dec (from % 64 + t < 64) → from + t < 64 * (from / 64 + 1)
    own t h (yes d) = omega arith
    own t h (no d) = absurd (true≢false (sym h ∙ wordbit_past (get_or m (from / 64) 0) 64 (from % 64 + t) (a (from / 64)) (omega arith)))

    go : (v : ℕ) → v ≡ get_or m (from / 64) 0 / 2 ^ (from % 64) → (v ≡ 0 → ⊥) → from + count_trailing_zeros 64 v ≡ next_bit m from
    go v e some =
        let s = shr_le (get_or m (from / 64) 0) (from % 64) in
        let b = a (from / 64) in
        let small : v < 2 ^ 64 = omega arith in
        let t : ℕ = count_trailing_zeros 64 v in
        let here : word_bit v t ≡ true = trailing_here 64 v (trailing_some 64 v small some) in
        let inside : word_bit (get_or m (from / 64) 0) (from % 64 + t) ≡ true
        = sym (wordbit_shift (get_or m (from / 64) 0) (from % 64) t) ∙ ap (λ (x : ℕ). word_bit x t) (sym e) ∙ here in
        let w : from + t < 64 * (from / 64 + 1) = own t inside (dec_lt (from % 64 + t) 64) in
        let f : from + t - from ≡ t = omega arith in
        let at : (j : ℕ) → from ≤ j → j < 64 * (from / 64 + 1) → bit m j ≡ word_bit v (j - from)
        = λ j c d. rest_at m from j c d ∙ ap (λ (x : ℕ). word_bit x (j - from)) (sym e) in
        is_next_bit m from (from + t) (omega arith) (omega arith) (λ c. at (from + t) (omega arith) w ∙ ap (word_bit v) f ∙ here)
        (λ j c d. at j c (omega arith) ∙ trailing_none 64 v (j - from) (omega arith))
