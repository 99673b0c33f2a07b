-- Laws of the searches over a map: words cleared one by one, and the best among the ones walked through.
use Prim.Native.Nat.{ℕ, zero, suc, ◌+◌, ◌*◌, ◌-◌, ◌/◌, ◌%◌, ◌^◌, ◌≤◌, ◌<◌}
use mathlib.Core.Path.{◌≡◌, refl, sym, ap, ◌∙◌}
use mathlib.Core.Bool.{Bool, true, false, cond, ◌&&◌, ◌||◌, not}
use mathlib.Core.List.{List}
use native.Mathlib.Nat.{add-zero}
use native.Mathlib.Omega.{arith}
use native.Mathlib.Decide.{dec_lt, ℕ_discrete}
use lib.Dec.{ltb, leb}
use lib.ListN.{length, get_or, set, length-set}
use lib.Seq.{get_or-set_same, get_or-set_other}
use lib.Bits.{bit_and, bit_or, bit_xor, and_lt, or_lt, xor_lt}
use borrow.Author.Tests.{lt-ltb, le-ltb, lt-leb, leb-false}
use Rattle.range.proofs.Bools.{or_false_left, or_false_right}
use Rattle.range.proofs.Choice.{lowest_is, Found, found_skip, found_new, found_old}
use Rattle.bit_maps.specs.BitMap.{Words, word_bit, bit, map_of, next_bit}
use Rattle.bit_maps.proofs.Words.{wordbit_or, wordbit_and, wordbit_xor}
use Rattle.bit_maps.proofs.Maps.{bit_past, length_map_of, words_map_of, bit_map_of, map_same}

-- the own links that are in neither of two maps
abbrev pub neither : List ℕ → List ℕ → List ℕ → ℕ → Bool
neither own one two i = bit own i && not (bit one i || bit two i)

-- a word without the bits of two others
abbrev pub word_left : ℕ → ℕ → ℕ → ℕ
word_left own one two = bit_xor own (bit_and own (bit_or one two))

word_left_lem : (own one two k : ℕ) → word_bit (word_left own one two) k ≡ (word_bit own k && not (word_bit one k || word_bit two k))
word_left_lem own one two k =
    wordbit_xor own (bit_and own (bit_or one two)) k
    ∙ ap (λ (x : Bool). (word_bit own k && not x) || (not (word_bit own k) && x))
    (wordbit_and own (bit_or one two) k ∙ ap (λ (x : Bool). word_bit own k && x) (wordbit_or one two k))
    ∙ table (word_bit own k) (word_bit one k || word_bit two k)
  where
    table : (x y : Bool) → ((x && not (x && y)) || (not x && (x && y))) ≡ (x && not y)
    table true true = refl
    table true false = refl
    table false true = refl
    table false false = refl

-- the words before w are cleared, the others are as they were
pub record Cleared (own one two left : List ℕ) (w : ℕ) : Type 0 where
  pub size : length left ≡ length own
  pub words : Words left
  pub done : (i : ℕ) → i < 64 * w → bit left i ≡ neither own one two i
  pub rest : (i : ℕ) → 64 * w ≤ i → bit left i ≡ bit own i

module _ (own one two : List ℕ) where
  pub one_cleared : (left : List ℕ) (w : ℕ) → Words one → Words two → w < length own → Cleared own one two left w
      → Cleared own one two (set left w (word_left (get_or left w 0) (get_or one w 0) (get_or two w 0))) (w + 1)
  unfolding bit
  one_cleared left w a b l c =
      record {
        size = length-set left w v ∙ c.size;
        words = λ k. each k (ℕ_discrete k w);
        done = λ i m. here i m (ℕ_discrete (i / 64) w);
        rest = λ i m. ap (λ (x : ℕ). word_bit x (i % 64)) (get_or-set_other left w (i / 64) v 0 (λ e. omega arith)) ∙ c.rest i (omega arith);
      }
    where
      v : ℕ
      v = word_left (get_or left w 0) (get_or one w 0) (get_or two w 0)

      inside : w < length left
      inside = let s = c.size in omega arith

      small : v < 2 ^ 64
      small =
          let x : ℕ = get_or left w 0 in
          let y : ℕ = bit_or (get_or one w 0) (get_or two w 0) in
          xor_lt 64 x (bit_and x y) (c.words w) (and_lt 64 x y (c.words w) (or_lt 64 (get_or one w 0) (get_or two w 0) (a w) (b w)))

      each : (k : ℕ) → Dec (k ≡ w) → get_or (set left w v) k 0 < 2 ^ 64
      each k (yes e) = rw (e, get_or-set_same left w v 0 inside) small
      each k (no e) = rw (get_or-set_other left w k v 0 e) (c.words k)

      here : (i : ℕ) → i < 64 * (w + 1) → Dec (i / 64 ≡ w) → bit (set left w v) i ≡ neither own one two i
      here i m (yes e) =
          ap (λ (x : ℕ). word_bit x (i % 64)) (ap (λ (x : ℕ). get_or (set left w v) x 0) e ∙ get_or-set_same left w v 0 inside)
          ∙ word_left_lem (get_or left w 0) (get_or one w 0) (get_or two w 0) (i % 64)
          ∙ ap (λ (x : ℕ). word_bit (get_or left x 0) (i % 64) && not (word_bit (get_or one x 0) (i % 64) || word_bit (get_or two x 0) (i % 64))) (sym e)
          ∙ ap (λ (x : Bool). x && not (bit one i || bit two i)) (c.rest i (omega arith))
      here i m (no e) = ap (λ (x : ℕ). word_bit x (i % 64)) (get_or-set_other left w (i / 64) v 0 e) ∙ c.done i (omega arith)

  pub all_cleared : (left : List ℕ) (w : ℕ) → length one ≤ w → length two ≤ w → Cleared own one two left w → left ≡ map_of (neither own one two) (length own)
  all_cleared left w l m c =
      map_same left (map_of (neither own one two) (length own)) (c.size ∙ sym (length_map_of (neither own one two) (length own))) c.words (words_map_of (neither own one two) (length own))
      (λ i s. go i (dec_lt i (64 * w)) ∙ sym (bit_map_of (neither own one two) (length own) i (let z = c.size in omega arith)))
    where
      table : (x : Bool) → x ≡ (x && not (false || false))
      table true = refl
      table false = refl

      go : (i : ℕ) → Dec (i < 64 * w) → bit left i ≡ neither own one two i
      go i (yes s) = c.done i s
      go i (no s) = rw (bit_past one i (omega arith), bit_past two i (omega arith)) (c.rest i (omega arith) ∙ table (bit own i))

-- the first bit set from a place on, as a search meets it
pub record Next (m : List ℕ) (from r : ℕ) : Type 0 where
  pub after : from ≤ r
  pub within : r ≤ 64 * length m
  pub here : r < 64 * length m → bit m r ≡ true
  pub between : (j : ℕ) → from ≤ j → j < r → bit m j ≡ false

pub next_is : (m : List ℕ) (from : ℕ) → from ≤ 64 * length m → Next m from (next_bit m from)
next_is m from l =
    let h = lowest_is (λ k. bit m (from + k)) (64 * length m - from) in
    let w = h.within in
    record {
      after = omega arith;
      within = omega arith;
      here = λ s. h.inside (omega arith);
      between = λ j s d. ap (bit m) (let e : j ≡ from + (j - from) = omega arith in e) ∙ h.before (j - from) (omega arith);
    }

-- as far as the links go
abbrev pub lesser : ℕ → ℕ → ℕ
lesser i n = cond (ltb i n) i n

module _ (better : ℕ → ℕ → Bool) (p : ℕ → Bool) (n₀ : ℕ) where
  -- nothing is found where none is in the set
  found_by : (n k b : ℕ) → ((j : ℕ) → n ≤ j → j < n + k → p j ≡ false) → Found better p n₀ n b → Found better p n₀ (n + k) b
  found_by n zero b none f = rw (add-zero n) f
  found_by n (suc k) b none f =
      let e : n + suc k ≡ n + k + 1 = omega arith in
      rw e (found_skip better p n₀ (n + k) b (none (n + k) (omega arith) (omega arith)) (found_by n k b (λ j l m. none j l (omega arith)) f))

  pub found_to : (n r b : ℕ) → n ≤ n₀ → n ≤ r → ((j : ℕ) → n ≤ j → j < r → p j ≡ false) → Found better p n₀ n b → Found better p n₀ (lesser r n₀) b
  found_to n r b l m none f = go (dec_lt r n₀)
    where
      go : Dec (r < n₀) → Found better p n₀ (lesser r n₀) b
      go (yes s) =
          let e : r ≡ n + (r - n) = omega arith in
          rw (lt-ltb r n₀ s, e) (found_by n (r - n) b (λ j c d. none j c (omega arith)) f)
      go (no s) =
          let e : n₀ ≡ n + (n₀ - n) = omega arith in
          rw (le-ltb r n₀ (omega arith)) (ap_found e (found_by n (n₀ - n) b (λ j c d. none j c (omega arith)) f))
        where
          ap_found : {x y : ℕ} → x ≡ y → Found better p n₀ y b → Found better p n₀ x b
          ap_found q h = rw q h

  -- one more, that goes before the best so far or does not
  pub found_before : (n b : ℕ) → n < n₀ → p n ≡ true → (leb n₀ b || better n b) ≡ true → Found better p n₀ n b → Found better p n₀ (n + 1) n
  found_before n b l e h f =
      found_new better p n₀ n b l e (λ m. rw (lt-leb n₀ b (let s : b < n₀ = omega arith in s)) at h) f

  pub found_behind : (n b : ℕ) → p n ≡ true → (leb n₀ b || better n b) ≡ false → Found better p n₀ n b → Found better p n₀ (n + 1) b
  found_behind n b e h f =
      found_old better p n₀ n b e (leb-false n₀ b (or_false_left (leb n₀ b) (better n b) h)) (or_false_right (leb n₀ b) (better n b) h) f
