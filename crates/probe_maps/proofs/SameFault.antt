-- Maps and bytes of the same record have the same fault: what is refused is the same in both forms.
use Prim.Native.Nat.{ℕ, zero, suc, ◌*◌, ◌≤◌, ◌<◌}
use mathlib.Core.Path.{◌≡◌, refl, sym, ◌∙◌, ap}
use mathlib.Core.Bool.{Bool, true, false, cond, ◌&&◌, ◌||◌, not, true≢false}
use mathlib.Core.List.{List}
use native.Mathlib.Omega.{arith}
use native.Mathlib.Decide.{dec_lt, dec_le}
use lib.Dec.{ltb, eqb}
use borrow.Author.Tests.{lt-ltb, eq-eqb}
use Rattle.range.specs.First.{or_else, first}
use Rattle.range.proofs.Faults.{or_none, first_same}
use Rattle.bit_maps.specs.BitMap.{words_for, bit, ones_of}
use Rattle.table.specs.Table.{Table, touches}
use Rattle.probe_record.specs.Record.{outbound, inbound, standing, held, record_length_fault, byte_fault, spare_fault, record_fault}
use Rattle.probe_maps.specs.Maps.{Maps, bytes_of, maps_length_fault, wrong_bits, is_own, bit_fault, ones_fault, maps_fault}
use Rattle.probe_maps.specs.GoodMaps.{Row, Sound}
use Rattle.probe_maps.specs.SameRecords.{SameRecord}
use Rattle.probe_maps.proofs.Rounds.{length_bytes_of, out_is, in_is, is_standing, is_held, sound_maps}
use Rattle.probe_maps.proofs.Bits.{RightAt, bits_fault, bits_right, has_words_lem, ones_own}

-- faults past the n-th that are none
or_zero : (a : ℕ) → or_else a 0 ≡ a
or_zero zero = refl
or_zero (suc a) = refl

first_to : (f : ℕ → ℕ) (n k : ℕ) → n ≤ k → ((i : ℕ) → n ≤ i → f i ≡ 0) → first f k ≡ first f n
unfolding first
first_to f n zero l h = let e : n ≡ 0 = omega arith in rw e
first_to f n (suc k) l h = go (dec_le n k) (λ b. first_to f n k b h)
  where
    go : Dec (n ≤ k) → (n ≤ k → first f k ≡ first f n) → first f (suc k) ≡ first f n
    go (yes b) before = ap (or_else (first f k)) (h k b) ∙ or_zero (first f k) ∙ before b
    go (no b) before = let e : n ≡ suc k = omega arith in rw e

-- a second fault that counts only where the first is none
or_under : (a b c : ℕ) → (a ≡ 0 → b ≡ c) → or_else a b ≡ or_else a c
or_under zero b c h = h refl
or_under (suc a) b c h = refl

-- 21, by the four bits of a link and by its two bytes
abbrev byte : Bool → Bool → ℕ
byte one two = cond one 1 (cond two 2 0)

abbrev wrong_bytes : ℕ → ℕ → Bool → Bool
wrong_bytes out into own = ltb 2 out || (ltb 2 into || (not own && not (eqb out 0 && eqb into 0)))

bits_bytes : (a b c d own : Bool) → (a ≡ true → b ≡ false) → (c ≡ true → d ≡ false) → wrong_bits a b c d own ≡ wrong_bytes (byte a b) (byte c d) own
bits_bytes true true c d own h k = absurd (true≢false (h refl))
bits_bytes true false true true own h k = absurd (true≢false (k refl))
bits_bytes true false true false own h k = refl
bits_bytes true false false true own h k = refl
bits_bytes true false false false own h k = refl
bits_bytes false true true true own h k = absurd (true≢false (k refl))
bits_bytes false true true false own h k = refl
bits_bytes false true false true own h k = refl
bits_bytes false true false false own h k = refl
bits_bytes false false true true own h k = absurd (true≢false (k refl))
bits_bytes false false true false own h k = refl
bits_bytes false false false true own h k = refl
bits_bytes false false false false own h k = refl

module _ (t : Table) (p : ℕ) (m : Maps) (s : Sound t.links m) where
  abbrev e : List ℕ
  e = bytes_of t.links m

  -- the ones of bits on own links
  pub own_standing : ((i : ℕ) → bit m.standing i ≡ true → is_own t p i ≡ true) → ones_of m.standing ≡ standing t p e
  own_standing own = ones_own t p m.standing (outbound e) own (is_standing t.links m s) s.standing

  pub own_held : ((i : ℕ) → bit m.held i ≡ true → is_own t p i ≡ true) → ones_of m.held ≡ held t p e
  own_held own = ones_own t p m.held (inbound e) own (is_held t.links m s) s.held

  same_20 : (maps_length_fault t m ≡ 0) × (record_length_fault t e ≡ 0)
  same_20 = (
    rw (
      has_words_lem t.links m.standing s.standing,
      has_words_lem t.links m.refused_out s.refused_out_lem,
      has_words_lem t.links m.held s.held,
      has_words_lem t.links m.refused_in s.refused_in_lem,
    ),
    rw (eq-eqb _ (2 * t.links) (length_bytes_of t.links m)),
  )

  link_21 : (i : ℕ) → i < t.links → bit_fault t p m i ≡ byte_fault t p e i
  link_21 i l =
      rw (out_is t.links m i l, in_is t.links m i l, lt-ltb i t.links l)
      (ap (λ (b : Bool). cond b 21 0) (bits_bytes (bit m.standing i) (bit m.refused_out i) (bit m.held i) (bit m.refused_in i) (touches t p i) (s.out_apart i) (s.in_apart i)))

  past_21 : (i : ℕ) → t.links ≤ i → bit_fault t p m i ≡ 0
  past_21 i l =
      rw (s.standing.past i l, s.refused_out_lem.past i l, s.held.past i l, s.refused_in_lem.past i l) (go (not (is_own t p i)))
    where
      go : (b : Bool) → ◌≡◌ {A = ℕ} (cond (b && false) 21 0) 0
      go true = refl
      go false = refl

  same_21 : bits_fault t p m ≡ first (byte_fault t p e) t.links
  same_21 =
      first_to (bit_fault t p m) t.links (64 * words_for t.links) (omega arith) past_21
      ∙ first_same (bit_fault t p m) (byte_fault t p e) t.links link_21

  -- 22 counts own links: where 21 lets pass, every bit stands on one
  module _ (none : bits_fault t p m ≡ 0) where
    right : (i : ℕ) → i < t.links → RightAt t p m i
    right i l = bits_right t p m none i (omega arith)

    within : (row : List ℕ) → Row t.links row → (i : ℕ) → bit row i ≡ true → i < t.links
    within row r i b = go (dec_lt i t.links)
      where
        go : Dec (i < t.links) → i < t.links
        go (yes l) = l
        go (no l) = absurd (true≢false (sym b ∙ r.past i (omega arith)))

    same_22 : ones_fault t p m ≡ spare_fault t p e
    same_22 =
        rw (
          own_standing (λ i b. (right i (within m.standing s.standing i b)).own_a b),
          own_held (λ i b. (right i (within m.held s.held i b)).own_c b),
        )

  sound_fault : maps_fault t p m ≡ record_fault t p e
  sound_fault =
      or_none (maps_length_fault t m) (or_else (bits_fault t p m) (ones_fault t p m)) same_20.0
      ∙ or_under (bits_fault t p m) (ones_fault t p m) (spare_fault t p e) same_22
      ∙ ap (λ (n : ℕ). or_else n (spare_fault t p e)) same_21
      ∙ sym (or_none (record_length_fault t e) (or_else (first (byte_fault t p e) t.links) (spare_fault t p e)) same_20.1)

-- maps and bytes of the same record: their length, and what the maps have
pub same_sound : (links : ℕ) (m : Maps) (e : List ℕ) → SameRecord links m e → Sound links m
same_sound links m e r = rw r.maps_are (sound_maps links e (rw r.bytes_are (length_bytes_of links m)))

pub same_fault : (t : Table) (p : ℕ) (m : Maps) (e : List ℕ) → SameRecord t.links m e → maps_fault t p m ≡ record_fault t p e
same_fault t p m e r = sound_fault t p m (same_sound t.links m e r) ∙ ap (record_fault t p) (sym r.bytes_are)
