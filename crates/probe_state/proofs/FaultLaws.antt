-- Laws of 20, 21 and 22 of an end's maps.
use Prim.Native.Nat.{ℕ, zero, suc, ◌+◌, ◌*◌, ◌-◌, ◌^◌, ◌≤◌, ◌<◌}
use mathlib.Core.Path.{◌≡◌, refl, sym, ap, ap₂, ◌∙◌}
use mathlib.Core.Logic.{◌⊎◌, inl, inr}
use mathlib.Core.Bool.{Bool, true, false, cond, ◌&&◌, ◌||◌, not}
use mathlib.Core.List.{List}
use native.Mathlib.Omega.{arith}
use lib.Dec.{ltb, eqb}
use lib.ListN.{length, get_or}
use lib.Bits.{bit_and, bit_or, and_lt, or_lt}
use borrow.Author.Tests.{lt-ltb, le-ltb, eqb-true}
use Rattle.range.specs.First.{or_else, first}
use Rattle.range.proofs.Bools.{and_left, and_right, or_false_right, unless_none, when_none}
use Rattle.range.proofs.Faults.{or_none, or_some, first_same, first_all, none_first, first_parts}
use Rattle.bit_maps.specs.BitMap.{words_for, word_bit, map_of}
use Rattle.bit_maps.proofs.Words.{wordbit_or, wordbit_and, wordbit_zero, word_same, word_zero}
use Rattle.bit_maps.proofs.Maps.{word_bit_lem, length_map_of, bit_map_of}
use Rattle.table.specs.Table.{Table}
use Rattle.probe_maps.specs.Maps.{Maps, wrong_bits, is_own, bit_fault}
use Rattle.probe_state.specs.OwnWords.{word_fault, own_bit_fault}

-- the first of flags is 0 or 21
flags : (p : ℕ → Bool) (n : ℕ) → (first (λ k. cond (p k) 21 0) n ≡ 0) ⊎ (first (λ k. cond (p k) 21 0) n ≡ 21)
unfolding first
flags p zero = inl refl
flags p (suc n) = go (first (λ k. cond (p k) 21 0) n) (p n) (flags p n)
  where
    go : (x : ℕ) (b : Bool) → (x ≡ 0) ⊎ (x ≡ 21) → (or_else x (cond b 21 0) ≡ 0) ⊎ (or_else x (cond b 21 0) ≡ 21)
    go x true (inl e) = inr (rw e)
    go x false (inl e) = inl (rw e)
    go x b (inr e) = inr (rw e)

-- it is 21 where not all are clear
some_flag : (p : ℕ → Bool) (n : ℕ) → (((k : ℕ) → k < n → p k ≡ false) → ⊥) → 21 ≡ first (λ k. cond (p k) 21 0) n
some_flag p n h = go (flags p n)
  where
    go : (first (λ k. cond (p k) 21 0) n ≡ 0) ⊎ (first (λ k. cond (p k) 21 0) n ≡ 21) → 21 ≡ first (λ k. cond (p k) 21 0) n
    go (inl e) = absurd (h (λ k l. when_none (p k) 20 (first_all (λ j. cond (p j) 21 0) n k e l)))
    go (inr e) = sym e

no_flag : (p : ℕ → Bool) (n : ℕ) → ((k : ℕ) → k < n → p k ≡ false) → 0 ≡ first (λ k. cond (p k) 21 0) n
no_flag p n h = sym (none_first (λ k. cond (p k) 21 0) n (λ k l. rw (h k l)))

-- wrong bits as the code finds them: two maps of a direction that meet, and bits outside the own
meet_of : (x y z : Bool) → (x || (y || z)) ≡ false → (x || y) ≡ false
meet_of true y z e = e
meet_of false true z e = e
meet_of false false z e = refl

wrong_of : (x y z : Bool) → (x || y) ≡ false → z ≡ false → (x || (y || z)) ≡ false
wrong_of true y z e f = e
wrong_of false true z e f = e
wrong_of false false z e f = f

own_of : (s o h i w : Bool) → (not w && (s || (o || (h || i)))) ≡ false → (((s || o) || (h || i)) || w) ≡ w
own_of true o h i true e = refl
own_of true o h i false e = e
own_of false true h i true e = refl
own_of false true h i false e = e
own_of false false true i true e = refl
own_of false false true i false e = e
own_of false false false true true e = refl
own_of false false false true false e = e
own_of false false false false w e = refl

foreign_of : (s o h i w : Bool) → (((s || o) || (h || i)) || w) ≡ w → (not w && (s || (o || (h || i)))) ≡ false
foreign_of s o h i true e = refl
foreign_of true o h i false e = e
foreign_of false true h i false e = e
foreign_of false false true i false e = e
foreign_of false false false true false e = e
foreign_of false false false false false e = refl

-- the words that the code makes, bit by bit
meets_bit : (s o h i k : ℕ) → word_bit (bit_or (bit_and s o) (bit_and h i)) k ≡ ((word_bit s k && word_bit o k) || (word_bit h k && word_bit i k))
meets_bit s o h i k = wordbit_or (bit_and s o) (bit_and h i) k ∙ ap₂ (λ (x y : Bool). x || y) (wordbit_and s o k) (wordbit_and h i k)

used_bit : (s o h i w k : ℕ) → word_bit (bit_or (bit_or (bit_or s o) (bit_or h i)) w) k ≡ (((word_bit s k || word_bit o k) || (word_bit h k || word_bit i k)) || word_bit w k)
used_bit s o h i w k =
    wordbit_or (bit_or (bit_or s o) (bit_or h i)) w k
    ∙ ap (λ (x : Bool). x || word_bit w k) (wordbit_or (bit_or s o) (bit_or h i) k ∙ ap₂ (λ (x y : Bool). x || y) (wordbit_or s o k) (wordbit_or h i k))

abbrev wrong_at : ℕ → ℕ → ℕ → ℕ → ℕ → ℕ → Bool
wrong_at s o h i w k = wrong_bits (word_bit s k) (word_bit o k) (word_bit h k) (word_bit i k) (word_bit w k)

-- 21 of one word, as the code finds it: two maps of a direction meet, a bit is outside the own, or neither
pub word_meets : (s o h i w : ℕ) → s < 2 ^ 64 → o < 2 ^ 64 → h < 2 ^ 64 → i < 2 ^ 64 → (bit_or (bit_and s o) (bit_and h i) ≡ 0 → ⊥) → 21 ≡ word_fault s o h i w
word_meets s o h i w a b c d n =
    some_flag (wrong_at s o h i w) 64
    (λ clear.
    n (word_zero (bit_or (bit_and s o) (bit_and h i)) (or_lt 64 (bit_and s o) (bit_and h i) (and_lt 64 s o a b) (and_lt 64 h i c d))
    (λ k l.
    meets_bit s o h i k
    ∙ meet_of (word_bit s k && word_bit o k) (word_bit h k && word_bit i k)
    (not (word_bit w k) && (word_bit s k || (word_bit o k || (word_bit h k || word_bit i k)))) (clear k l))))

pub word_foreign : (s o h i w : ℕ) → s < 2 ^ 64 → o < 2 ^ 64 → h < 2 ^ 64 → i < 2 ^ 64 → w < 2 ^ 64 → (bit_or (bit_or (bit_or s o) (bit_or h i)) w ≡ w → ⊥)
    → 21 ≡ word_fault s o h i w
word_foreign s o h i w a b c d e n =
    some_flag (wrong_at s o h i w) 64
    (λ clear.
    n (word_same (bit_or (bit_or (bit_or s o) (bit_or h i)) w) w
    (or_lt 64 (bit_or (bit_or s o) (bit_or h i)) w (or_lt 64 (bit_or s o) (bit_or h i) (or_lt 64 s o a b) (or_lt 64 h i c d)) e) e
    (λ k l.
    used_bit s o h i w k
    ∙ own_of (word_bit s k) (word_bit o k) (word_bit h k) (word_bit i k) (word_bit w k)
    (or_false_right (word_bit h k && word_bit i k) (not (word_bit w k) && (word_bit s k || (word_bit o k || (word_bit h k || word_bit i k))))
    (or_false_right (word_bit s k && word_bit o k)
    ((word_bit h k && word_bit i k) || (not (word_bit w k) && (word_bit s k || (word_bit o k || (word_bit h k || word_bit i k))))) (clear k l))))))

pub word_right : (s o h i w : ℕ) → bit_or (bit_and s o) (bit_and h i) ≡ 0 → bit_or (bit_or (bit_or s o) (bit_or h i)) w ≡ w → 0 ≡ word_fault s o h i w
word_right s o h i w e f =
    no_flag (wrong_at s o h i w) 64
    (λ k l.
    wrong_of (word_bit s k && word_bit o k) (word_bit h k && word_bit i k) (not (word_bit w k) && (word_bit s k || (word_bit o k || (word_bit h k || word_bit i k))))
    (sym (meets_bit s o h i k) ∙ ap (λ (x : ℕ). word_bit x k) e ∙ wordbit_zero k)
    (foreign_of (word_bit s k) (word_bit o k) (word_bit h k) (word_bit i k) (word_bit w k) (sym (used_bit s o h i w k) ∙ ap (λ (x : ℕ). word_bit x k) f)))

-- the fault of a word is that of its 64 links
pub word_part : (m : Maps) (own : List ℕ) (w : ℕ)
    → word_fault (get_or m.standing w 0) (get_or m.refused_out w 0) (get_or m.held w 0) (get_or m.refused_in w 0) (get_or own w 0)
    ≡ first (λ k. own_bit_fault m own (64 * w + k)) 64
word_part m own w =
    first_same (λ k. cond (wrong_at (get_or m.standing w 0) (get_or m.refused_out w 0) (get_or m.held w 0) (get_or m.refused_in w 0) (get_or own w 0) k) 21 0)
    (λ k. own_bit_fault m own (64 * w + k)) 64
    (λ k l. rw (word_bit_lem m.standing w k l, word_bit_lem m.refused_out w k l, word_bit_lem m.held w k l, word_bit_lem m.refused_in w k l, word_bit_lem own w k l))

-- word by word: none up to the next word, or the first in this one
pub none_to_next : (f : ℕ → ℕ) (w r : ℕ) → first f (64 * w) ≡ 0 → r ≡ first (λ k. f (64 * w + k)) 64 → r ≡ 0 → first f (64 * (w + 1)) ≡ 0
none_to_next f w r none e z =
    let n : 64 * (w + 1) ≡ 64 * w + 64 = omega arith in
    ap (first f) n ∙ first_parts f (64 * w) 64 ∙ or_none (first f (64 * w)) (first (λ k. f (64 * w + k)) 64) none ∙ sym e ∙ z

pub first_in_word : (f : ℕ → ℕ) (w words r : ℕ) → first f (64 * w) ≡ 0 → r ≡ first (λ k. f (64 * w + k)) 64 → (r ≡ 0 → ⊥) → w < words → r ≡ first f (64 * words)
first_in_word f w words r none e some l =
    let n : 64 * words ≡ 64 * w + 64 + (64 * words - 64 * (w + 1)) = omega arith in
    let here : first f (64 * w + 64) ≡ r = first_parts f (64 * w) 64 ∙ or_none (first f (64 * w)) (first (λ k. f (64 * w + k)) 64) none ∙ sym e in
    sym (ap (first f) n ∙ first_parts f (64 * w + 64) (64 * words - 64 * (w + 1))
    ∙ or_some (first f (64 * w + 64)) (first (λ k. f (64 * w + 64 + k)) (64 * words - 64 * (w + 1))) (λ z. some (sym here ∙ z)) ∙ here)

-- 20 passed: the lengths
pub lengths_passed : (a b c d n r : ℕ) → r ≡ cond (eqb a n && (eqb b n && (eqb c n && eqb d n))) 0 20 → r ≡ 0 → (a ≡ n) × (b ≡ n) × (c ≡ n) × (d ≡ n)
lengths_passed a b c d n r e z =
    let all = unless_none (eqb a n && (eqb b n && (eqb c n && eqb d n))) 19 (sym e ∙ z) in
    let rest = and_right (eqb a n) (eqb b n && (eqb c n && eqb d n)) all in
    let last = and_right (eqb b n) (eqb c n && eqb d n) rest in (
      eqb-true a n (and_left (eqb a n) (eqb b n && (eqb c n && eqb d n)) all),
      eqb-true b n (and_left (eqb b n) (eqb c n && eqb d n) rest),
      eqb-true c n (and_left (eqb c n) (eqb d n) last),
      eqb-true d n (and_right (eqb c n) (eqb d n) last),
    )

-- 21 by the map of the own links
pub own_bits : (t : Table) (p words : ℕ) (m : Maps) (own : List ℕ) (n r : ℕ) → own ≡ map_of (is_own t p) words → n ≡ words_for t.links → t.links ≤ 64 * words
    → r ≡ first (own_bit_fault m own) (64 * n) → r ≡ first (bit_fault t p m) (64 * words_for t.links)
own_bits t p words m own n r is long l e =
    e ∙ ap (λ (x : ℕ). first (own_bit_fault m own) (64 * x)) long
    ∙ first_same (own_bit_fault m own) (bit_fault t p m) (64 * words_for t.links)
    (λ i s. rw (is, bit_map_of (is_own t p) words i (omega arith)))

pub length_own : (t : Table) (p words : ℕ) (own : List ℕ) → own ≡ map_of (is_own t p) words → length own ≡ words
length_own t p words own is = ap (λ (m : List ℕ). length m) is ∙ length_map_of (is_own t p) words

-- 22, by a spare and two counts
abbrev over_fault : ℕ → ℕ → ℕ → ℕ
over_fault spare standing held = cond (ltb spare standing || ltb spare held) 22 0

-- 22 by the spare that was found
pub ones_by_spare : (s found a b r : ℕ) → found ≡ s → r ≡ over_fault found a b → r ≡ over_fault s a b
ones_by_spare s found a b r is e = e ∙ ap (λ (x : ℕ). over_fault x a b) is

-- 22 by the ones counted: too many standing, too many held, or neither
pub standing_over : (s a b n : ℕ) → n ≡ a → s < n → 22 ≡ over_fault s a b
standing_over s a b n e l = rw (← e, lt-ltb s n l)

pub held_over : (s a b n k : ℕ) → n ≡ a → k ≡ b → n ≤ s → s < k → 22 ≡ over_fault s a b
held_over s a b n k e f l m = rw (← e, ← f, le-ltb s n l, lt-ltb s k m)

pub none_over : (s a b n k : ℕ) → n ≡ a → k ≡ b → n ≤ s → k ≤ s → 0 ≡ over_fault s a b
none_over s a b n k e f l m = rw (← e, ← f, le-ltb s n l, le-ltb s k m)
