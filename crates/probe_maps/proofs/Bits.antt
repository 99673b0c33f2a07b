-- The four bits of a link, and the ones of a map.
use Prim.Native.Nat.{ℕ, ◌+◌, ◌*◌, ◌-◌, ◌/◌, ◌%◌, ◌≤◌, ◌<◌}
use mathlib.Core.Path.{◌≡◌, refl, sym, ◌∙◌, ap}
use mathlib.Core.Logic.{◌⊎◌, inl, inr}
use mathlib.Core.Bool.{Bool, true, false, ◌&&◌, ◌||◌, not, true≢false, and-false}
use mathlib.Core.List.{List}
use native.Mathlib.Omega.{arith}
use lib.Dec.{ltb, eqb}
use lib.ListN.{length, replicate, length-replicate}
use borrow.Author.Tests.{ltb-true, eq-eqb}
use Rattle.range.specs.First.{first}
use Rattle.range.specs.Sum.{count}
use Rattle.range.proofs.Bools.{and_left, and_right, or_false_left, or_false_right, when_none, decided}
use Rattle.range.proofs.Faults.{first_all}
use Rattle.range.proofs.Lists.{zeros_at}
use Rattle.range.proofs.Sums.{weigh_same, none_count, count_parts}
use Rattle.bit_maps.specs.BitMap.{Words, words_for, word_bit, bit, map_of, ones_of}
use Rattle.bit_maps.proofs.Words.{wordbit_zero}
use Rattle.bit_maps.proofs.Maps.{length_map_of, words_map_of, bit_map_of, map_same}
use Rattle.table.specs.Table.{Table, touches}
use Rattle.probe_record.specs.Record.{own_with}
use Rattle.probe_maps.specs.Maps.{Maps, has_words, wrong_bits, is_own, bit_fault}
use Rattle.probe_maps.specs.GoodMaps.{Row}

pub all_four : (a b c d : Bool) → (a && (b && (c && d))) ≡ true → (a ≡ true) × (b ≡ true) × (c ≡ true) × (d ≡ true)
all_four true true true true e = (refl, refl, refl, refl)
all_four true true true false e = absurd (true≢false (sym e))
all_four true true false d e = absurd (true≢false (sym e))
all_four true false c d e = absurd (true≢false (sym e))
all_four false b c d e = absurd (true≢false (sym e))

-- the four bits of a link that 21 lets pass
pub record Right (a b c d own : Bool) : Type 0 where
  pub out_apart : a ≡ true → b ≡ false
  pub in_apart : c ≡ true → d ≡ false
  pub own_a : a ≡ true → own ≡ true
  pub own_b : b ≡ true → own ≡ true
  pub own_c : c ≡ true → own ≡ true
  pub own_d : d ≡ true → own ≡ true

pub none_right : (a b c d own : Bool) → wrong_bits a b c d own ≡ false → Right a b c d own
none_right a b c d own e =
    record {
      out_apart = apart a b (or_false_left (a && b) _ e);
      in_apart = apart c d (or_false_left (c && d) (not own && (a || (b || (c || d)))) rest);
      own_a = λ h. go own (λ z. or_false_left a (b || (c || d)) (any z)) h;
      own_b = λ h. go own (λ z. or_false_left b (c || d) (or_false_right a (b || (c || d)) (any z))) h;
      own_c = λ h. go own (λ z. or_false_left c d (or_false_right b (c || d) (or_false_right a (b || (c || d)) (any z)))) h;
      own_d = λ h. go own (λ z. or_false_right c d (or_false_right b (c || d) (or_false_right a (b || (c || d)) (any z)))) h;
    }
  where
    rest : ((c && d) || (not own && (a || (b || (c || d))))) ≡ false
    rest = or_false_right (a && b) ((c && d) || (not own && (a || (b || (c || d))))) e

    any : own ≡ false → (a || (b || (c || d))) ≡ false
    any z = rw z at (or_false_right (c && d) (not own && (a || (b || (c || d)))) rest)

    apart : (x y : Bool) → (x && y) ≡ false → x ≡ true → y ≡ false
    apart x y f h = rw h at f

    go : {x : Bool} (o : Bool) → (o ≡ false → x ≡ false) → x ≡ true → o ≡ true
    go true f h = refl
    go false f h = absurd (true≢false (sym h ∙ f refl))

pub right_none : (a b c d own : Bool) → Right a b c d own → wrong_bits a b c d own ≡ false
right_none a b c d true r = rw (apart a b r.out_apart, apart c d r.in_apart)
  where
    apart : (x y : Bool) → (x ≡ true → y ≡ false) → (x && y) ≡ false
    apart true y h = h refl
    apart false y h = refl
right_none a b c d false r = rw (none a r.own_a, none b r.own_b, none c r.own_c, none d r.own_d)
  where
    none : (x : Bool) → (x ≡ true → false ≡ true) → x ≡ false
    none true h = sym (h refl)
    none false h = refl

module _ (t : Table) (p : ℕ) (m : Maps) where
  abbrev pub RightAt : ℕ → Type 0
  RightAt i = Right (bit m.standing i) (bit m.refused_out i) (bit m.held i) (bit m.refused_in i) (is_own t p i)

  abbrev pub bits_fault : ℕ
  bits_fault = first (bit_fault t p m) (64 * words_for t.links)

  pub bits_right : bits_fault ≡ 0 → (i : ℕ) → i < 64 * words_for t.links → RightAt i
  bits_right none i l =
      none_right (bit m.standing i) (bit m.refused_out i) (bit m.held i) (bit m.refused_in i) (is_own t p i)
      (when_none (wrong_bits (bit m.standing i) (bit m.refused_out i) (bit m.held i) (bit m.refused_in i) (is_own t p i)) 20
      (first_all (bit_fault t p m) (64 * words_for t.links) i none l))

pub has_words_lem : (links : ℕ) (row : List ℕ) → Row links row → has_words links row ≡ true
has_words_lem links row r = eq-eqb (length row) (words_for links) r.size

-- the own links of a probe are below the number of links
pub own_below : (t : Table) (p i : ℕ) → is_own t p i ≡ true → i < t.links
own_below t p i e = ltb-true i t.links (and_left (ltb i t.links) (touches t p i) e)

pub own_touches : (t : Table) (p i : ℕ) → is_own t p i ≡ true → touches t p i ≡ true
own_touches t p i e = and_right (ltb i t.links) (touches t p i) e

pub own_row : (t : Table) (p : ℕ) (row : List ℕ) → length row ≡ words_for t.links → Words row → ((i : ℕ) → bit row i ≡ true → is_own t p i ≡ true) → Row t.links row
own_row t p row size words own = record { size = size; words = words; past = λ i l. go i l (decided (bit row i)) }
  where
    go : (i : ℕ) → t.links ≤ i → (bit row i ≡ true) ⊎ (bit row i ≡ false) → bit row i ≡ false
    go i l (inl e) = let k = own_below t p i (own i e) in absurd (omega arith)
    go i l (inr e) = e

-- "Offers standing and offers held are found by counting the ones."
count_links : (links : ℕ) (row : List ℕ) → Row links row → ones_of row ≡ count links (bit row)
count_links links row r =
    let s = r.size in
    let k : 64 * length row ≡ links + (64 * length row - links) = omega arith in
    ap (λ n. count n (bit row)) k ∙ count_parts (bit row) links (64 * length row - links)
    ∙ (let z = none_count (64 * length row - links) (λ j. bit row (links + j)) (λ j l e. true≢false (sym e ∙ r.past (links + j) (omega arith))) in
    omega arith)

module _ (t : Table) (p : ℕ) (row : List ℕ) (byte : ℕ → ℕ) (own : (i : ℕ) → bit row i ≡ true → is_own t p i ≡ true)
    (is : (i : ℕ) → eqb (byte i) 1 ≡ bit row i) where
  -- every 1 stands on an own link
  pub own_bit : (i : ℕ) → bit row i ≡ own_with t p byte 1 i
  own_bit i = rw (is i) (go (decided (bit row i)))
    where
      go : (bit row i ≡ true) ⊎ (bit row i ≡ false) → bit row i ≡ (touches t p i && bit row i)
      go (inl e) = rw (own_touches t p i (own i e))
      go (inr e) = rw e (sym (and-false (touches t p i)))

  pub ones_own : Row t.links row → ones_of row ≡ count t.links (own_with t p byte 1)
  ones_own r = count_links t.links row r ∙ weigh_same t.links (bit row) (own_with t p byte 1) (λ i. 1) (λ i l. own_bit i)

-- words that are 0
bit_zeros : (n i : ℕ) → bit (replicate n 0) i ≡ false
unfolding bit
bit_zeros n i = ap (λ w. word_bit w (i % 64)) (zeros_at n (i / 64)) ∙ wordbit_zero (i % 64)

pub no_bits : (n : ℕ) (q : ℕ → Bool) → ((i : ℕ) → q i ≡ false) → map_of q n ≡ replicate n 0
no_bits n q none =
    map_same (map_of q n) (replicate n 0) (length_map_of q n ∙ sym (length-replicate n 0)) (words_map_of q n)
    (λ k. rw (zeros_at n k) (omega arith))
    (λ i l. bit_map_of q n i (let k = length_map_of q n in omega arith) ∙ none i ∙ sym (bit_zeros n i))
