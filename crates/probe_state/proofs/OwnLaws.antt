-- Laws of a probe's own links as a map.
use Prim.Native.Nat.{ℕ, ◌+◌, ◌*◌, ◌-◌, ◌^◌, ◌≤◌, ◌<◌}
use mathlib.Core.Path.{◌≡◌, refl, sym, ap, ◌∙◌}
use mathlib.Core.Bool.{Bool, false}
use mathlib.Core.List.{List}
use native.Mathlib.Omega.{arith}
use native.Mathlib.Decide.{dec_lt}
use lib.ListN.{length}
use lib.Seq.{ext_get_or}
use borrow.Author.Tests.{lt-ltb, le-ltb}
use Rattle.range.specs.Sum.{sum, weigh, count}
use Rattle.range.specs.Lists.{stored}
use Rattle.range.proofs.Sums.{weigh_same, weigh_rest}
use Rattle.range.proofs.Lists.{length_stored, stored_at}
use Rattle.bit_maps.specs.BitMap.{bit, word_of, map_of, ones_of}
use Rattle.bit_maps.proofs.Maps.{length_map_of, map_of_at, bit_map_of}
use Rattle.table.specs.Table.{Table, item, touches, degree, spare}
use Rattle.table.proofs.Needs.{spare_given}
use Rattle.probe_maps.specs.Maps.{is_own}

-- a link of the table is own when it touches the probe; no link past the last is
pub own_in : (t : Table) (p i : ℕ) → i < t.links → is_own t p i ≡ touches t p i
own_in t p i l = rw (lt-ltb i t.links l)

pub own_past : (t : Table) (p i : ℕ) → t.links ≤ i → is_own t p i ≡ false
own_past t p i l = rw (le-ltb i t.links l)

weigh_none : (p : ℕ → Bool) (c : ℕ → ℕ) → 0 ≡ weigh 0 p c
unfolding sum
weigh_none p c = refl

-- a word whose links up to the 64th, or to the last of the table, are made
pub word_made : (t : Table) (p w k word : ℕ) → k ≤ 64 → word ≡ weigh k (λ j. is_own t p (64 * w + j)) (λ j. 2 ^ j) → (k < 64 → t.links ≤ 64 * w + k)
    → word ≡ word_of (is_own t p) w
word_made t p w k word l e past =
    e ∙ sym (weigh_rest (λ j. is_own t p (64 * w + j)) (λ j. 2 ^ j) k 64 l (λ j m n. let h = past (omega arith) in own_past t p (64 * w + j) (omega arith)))

-- a word without own links: none below `end`, and no link from there on
pub word_none : (t : Table) (p w end : ℕ) → ((i : ℕ) → 64 * w ≤ i → i < end → touches t p i ≡ false) → ((i : ℕ) → i < 64 * w + 64 → i < t.links → i < end)
    → 0 ≡ word_of (is_own t p) w
word_none t p w end none in_end =
    weigh_none (λ j. is_own t p (64 * w + j)) (λ j. 2 ^ j)
    ∙ sym (weigh_rest (λ j. is_own t p (64 * w + j)) (λ j. 2 ^ j) 0 64 (omega arith) (λ j m n. each j n (dec_lt (64 * w + j) t.links)))
  where
    each : (j : ℕ) → j < 64 → Dec (64 * w + j < t.links) → is_own t p (64 * w + j) ≡ false
    each j n (yes l) = own_in t p (64 * w + j) l ∙ none (64 * w + j) (omega arith) (in_end (64 * w + j) (omega arith) l)
    each j n (no l) = own_past t p (64 * w + j) (omega arith)

-- a row with every word stored is the map
pub map_stored : (p : ℕ → Bool) (words : ℕ) (d : List ℕ) → length d ≡ words → stored (word_of p) words d ≡ map_of p words
map_stored p words d long =
    ext_get_or 0 (stored (word_of p) words d) (map_of p words) (length_stored (word_of p) words d ∙ long ∙ sym (length_map_of p words))
    (λ i s. let a = length_stored (word_of p) words d in stored_at (word_of p) words d i (omega arith) (omega arith) ∙ sym (map_of_at p words i (omega arith)))

-- "counting the ones": the own links are as many as the probe has links
pub own_ones : (t : Table) (p words : ℕ) → t.links ≤ 64 * words → ones_of (map_of (is_own t p) words) ≡ degree t p
own_ones t p words l =
    ap (λ (n : ℕ). count (64 * n) (bit (map_of (is_own t p) words))) (length_map_of (is_own t p) words)
    ∙ weigh_same (64 * words) (bit (map_of (is_own t p) words)) (is_own t p) (λ i. 1) (λ i m. bit_map_of (is_own t p) words i m)
    ∙ weigh_rest (is_own t p) (λ i. 1) t.links (64 * words) l (λ i m n. own_past t p i m)
    ∙ weigh_same t.links (is_own t p) (touches t p) (λ i. 1) (λ i m. own_in t p i m)

-- the spare by the own links and the need
pub spare_by_ones : (t : Table) (p words n r : ℕ) (own needs : List ℕ) → t.links ≤ 64 * words → t.need p ≡ item needs p → own ≡ map_of (is_own t p) words
    → n ≡ ones_of own → r ≡ n - item needs p → r ≡ spare t p
spare_by_ones t p words n r own needs l need is counted left =
    let a = own_ones t p words l in
    let b : n ≡ degree t p = counted ∙ ap (λ (m : List ℕ). ones_of m) is ∙ a in
    let d = spare_given t p in
    left ∙ rw (← need) (rw b (sym d))
