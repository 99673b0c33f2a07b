-- Refusals 20 to 22 of maps and of bytes: each form passes when the other does.
use Prim.Native.Nat.{ℕ, ◌+◌, ◌*◌, ◌≤◌, ◌<◌}
use mathlib.Core.Path.{◌≡◌, refl, sym, ◌∙◌}
use mathlib.Core.Logic.{◌⊎◌, inl, inr}
use mathlib.Core.Bool.{Bool, true, false, ◌&&◌, ◌||◌, not, true≢false, and-false}
use mathlib.Core.List.{List}
use native.Mathlib.Omega.{arith}
use native.Mathlib.Decide.{dec_lt}
use lib.Dec.{ltb, eqb}
use lib.ListN.{length, replicate}
use borrow.Author.Tests.{ltb-false, lt-ltb, le-ltb, eqb-true}
use Rattle.range.specs.First.{or_else}
use Rattle.range.proofs.Bools.{and_intro, or_false_left, or_false_right, when_none, unless_none, decided}
use Rattle.range.proofs.Faults.{or_left, or_right, or_none, none_first}
use Rattle.range.proofs.Lists.{zeros_at}
use Rattle.bit_maps.specs.BitMap.{words_for, bit, ones_of}
use Rattle.bit_maps.proofs.Maps.{bit_past}
use Rattle.table.specs.Table.{Table, touches, spare}
use Rattle.probe_record.specs.Record.{outbound, inbound, fresh, standing, held}
use Rattle.probe_record.proofs.Bytes.{GoodRecord, good_record, record_passes}
use Rattle.probe_maps.specs.Maps.{Maps, rows, AllWords, bytes_of, maps_of, has_words, maps_length_fault, is_own, bit_fault, ones_fault, maps_fault}
use Rattle.probe_maps.specs.GoodMaps.{Sound, GoodMaps}
use Rattle.probe_maps.specs.SameRecords.{TurnsBack}
use Rattle.probe_maps.proofs.Bits.{all_four, RightAt, right_none, none_right, bits_fault, bits_right, has_words_lem, own_touches, own_row, ones_own, no_bits}
use Rattle.probe_maps.proofs.SameFault.{own_standing, own_held, same_fault}
use Rattle.probe_maps.proofs.Rounds.{rows_same, length_bytes_of, out_is, in_is, small_bytes, out_past, in_past, bit_standing, bit_refused_out, bit_held, bit_refused_in, sound_maps, maps_bytes, bytes_maps}

module _ (t : Table) (p : ℕ) (m : Maps) where
  module _ (words : AllWords m) (none : maps_fault t p m ≡ 0) where
    has_size : (row : List ℕ) → has_words t.links row ≡ true → length row ≡ words_for t.links
    has_size row = eqb-true (length row) (words_for t.links)

    sized : (length m.standing ≡ words_for t.links) × (length m.refused_out ≡ words_for t.links) × (length m.held ≡ words_for t.links)
        × (length m.refused_in ≡ words_for t.links)
    sized =
        let has : List ℕ → Bool = has_words t.links in
        let h = all_four (has m.standing) (has m.refused_out) (has m.held) (has m.refused_in)
        (unless_none (has m.standing && (has m.refused_out && (has m.held && has m.refused_in))) 19
        (or_left (maps_length_fault t m) (or_else (bits_fault t p m) (ones_fault t p m)) none)) in
        (has_size m.standing h.0, has_size m.refused_out h.1, has_size m.held h.2, has_size m.refused_in h.3)

    rest : or_else (bits_fault t p m) (ones_fault t p m) ≡ 0
    rest = or_right (maps_length_fault t m) (or_else (bits_fault t p m) (ones_fault t p m)) none

    few : (ltb (spare t p) (ones_of m.standing) || ltb (spare t p) (ones_of m.held)) ≡ false
    few = when_none (ltb (spare t p) (ones_of m.standing) || ltb (spare t p) (ones_of m.held)) 21 (or_right (bits_fault t p m) (ones_fault t p m) rest)

    right : (i : ℕ) → RightAt t p m i
    right i = go (dec_lt i (64 * words_for t.links))
      where
        clear : (row : List ℕ) → length row ≡ words_for t.links → (i < 64 * words_for t.links → ⊥) → bit row i ≡ false
        clear row size k = bit_past row i (omega arith)

        go : Dec (i < 64 * words_for t.links) → RightAt t p m i
        go (yes l) = bits_right t p m (or_left (bits_fault t p m) (ones_fault t p m) rest) i l
        go (no k) =
            none_right (bit m.standing i) (bit m.refused_out i) (bit m.held i) (bit m.refused_in i) (is_own t p i)
            (rw (clear m.standing sized.0 k, clear m.refused_out sized.1 k, clear m.held sized.2 k, clear m.refused_in sized.3 k)
            (and-false (not (is_own t p i))))

    pub good_maps : GoodMaps t p m
    good_maps =
        record {
          sound = record {
            standing = own_row t p m.standing sized.0 words.standing (λ i. (right i).own_a);
            refused_out_lem = own_row t p m.refused_out sized.1 words.refused_out_lem (λ i. (right i).own_b);
            held = own_row t p m.held sized.2 words.held (λ i. (right i).own_c);
            refused_in_lem = own_row t p m.refused_in sized.3 words.refused_in_lem (λ i. (right i).own_d);
            out_apart = λ i. (right i).out_apart;
            in_apart = λ i. (right i).in_apart;
          };
          own_standing = λ i. (right i).own_a;
          own_refused_out = λ i. (right i).own_b;
          own_held = λ i. (right i).own_c;
          own_refused_in = λ i. (right i).own_d;
          standing_fits = ltb-false (spare t p) (ones_of m.standing) (or_false_left (ltb (spare t p) (ones_of m.standing)) (ltb (spare t p) (ones_of m.held)) few);
          held_fits = ltb-false (spare t p) (ones_of m.held) (or_false_right (ltb (spare t p) (ones_of m.standing)) (ltb (spare t p) (ones_of m.held)) few);
        }

  module _ (g : GoodMaps t p m) where
    maps_right : (i : ℕ) → RightAt t p m i
    maps_right i =
        record {
          out_apart = g.sound.out_apart i;
          in_apart = g.sound.in_apart i;
          own_a = g.own_standing i;
          own_b = g.own_refused_out i;
          own_c = g.own_held i;
          own_d = g.own_refused_in i;
        }

    pub maps_pass : maps_fault t p m ≡ 0
    maps_pass =
        or_none (maps_length_fault t m) (or_else (bits_fault t p m) (ones_fault t p m))
        (rw (
          has_words_lem t.links m.standing g.sound.standing,
          has_words_lem t.links m.refused_out g.sound.refused_out_lem,
          has_words_lem t.links m.held g.sound.held,
          has_words_lem t.links m.refused_in g.sound.refused_in_lem,
        ))
        ∙ or_none (bits_fault t p m) (ones_fault t p m) (none_first (bit_fault t p m) (64 * words_for t.links) (λ i l.
        rw (right_none (bit m.standing i) (bit m.refused_out i) (bit m.held i) (bit m.refused_in i) (is_own t p i) (maps_right i))))
        ∙ rw (le-ltb (spare t p) (ones_of m.standing) g.standing_fits, le-ltb (spare t p) (ones_of m.held) g.held_fits)

module _ (t : Table) (p : ℕ) (m : Maps) (g : GoodMaps t p m) where
  pub standing_ones : ones_of m.standing ≡ standing t p (bytes_of t.links m)
  standing_ones = own_standing t p m g.sound g.own_standing

  pub held_ones : ones_of m.held ≡ held t p (bytes_of t.links m)
  held_ones = own_held t p m g.sound g.own_held

  pub maps_good_record : GoodRecord t p (bytes_of t.links m)
  maps_good_record =
      record {
        size = length_bytes_of t.links m;
        bytes = λ i l. record {
          out_small = (small_bytes t.links m i).0;
          in_small = (small_bytes t.links m i).1;
          out_own = λ f. out_is t.links m i l ∙ rw (foreign m.standing i (g.own_standing i) f, foreign m.refused_out i (g.own_refused_out i) f);
          in_own = λ f. in_is t.links m i l ∙ rw (foreign m.held i (g.own_held i) f, foreign m.refused_in i (g.own_refused_in i) f);
        };
        standing_fits = rw (← standing_ones) g.standing_fits;
        held_fits = rw (← held_ones) g.held_fits;
      }
    where
      foreign : (row : List ℕ) (i : ℕ) → (bit row i ≡ true → is_own t p i ≡ true) → touches t p i ≡ false → bit row i ≡ false
      foreign row i own f = go (decided (bit row i))
        where
          go : (bit row i ≡ true) ⊎ (bit row i ≡ false) → bit row i ≡ false
          go (inl e) = absurd (true≢false (sym (own_touches t p i (own e)) ∙ f))
          go (inr e) = e

module _ (t : Table) (p : ℕ) (e : List ℕ) (g : GoodRecord t p e) where
  -- a link whose byte is not 0 is the probe's own
  own_byte : (byte : ℕ → ℕ) → ((i : ℕ) → t.links ≤ i → byte i ≡ 0) → ((i : ℕ) → i < t.links → touches t p i ≡ false → byte i ≡ 0)
      → (v i : ℕ) → (0 ≡ v → ⊥) → eqb (byte i) v ≡ true → is_own t p i ≡ true
  own_byte byte past own v i d h = go (dec_lt i t.links) (decided (touches t p i))
    where
      not_zero : byte i ≡ 0 → ⊥
      not_zero z = let q = eqb-true (byte i) v h in d (omega arith)

      go : Dec (i < t.links) → (touches t p i ≡ true) ⊎ (touches t p i ≡ false) → is_own t p i ≡ true
      go (yes l) (inl m) = and_intro (lt-ltb i t.links l) m
      go (yes l) (inr m) = absurd (not_zero (own i l m))
      go (no l) d = absurd (not_zero (past i (omega arith)))

  own_out : (v i : ℕ) → (0 ≡ v → ⊥) → eqb (outbound e i) v ≡ true → is_own t p i ≡ true
  own_out = own_byte (outbound e) (out_past t.links e g.size) (λ i l. (g.bytes i l).out_own)

  own_in : (v i : ℕ) → (0 ≡ v → ⊥) → eqb (inbound e i) v ≡ true → is_own t p i ≡ true
  own_in = own_byte (inbound e) (in_past t.links e g.size) (λ i l. (g.bytes i l).in_own)

  pub record_good_maps : GoodMaps t p (maps_of t.links e)
  record_good_maps =
      record {
        sound = sound;
        own_standing = standing_own;
        own_refused_out = λ i b. own_out 2 i (λ z. omega arith) (sym (bit_refused_out t.links e g.size i) ∙ b);
        own_held = held_own;
        own_refused_in = λ i b. own_in 2 i (λ z. omega arith) (sym (bit_refused_in t.links e g.size i) ∙ b);
        standing_fits = rw (ones_own t p (maps_of t.links e).standing (outbound e) standing_own (λ i. sym (bit_standing t.links e g.size i)) sound.standing) g.standing_fits;
        held_fits = rw (ones_own t p (maps_of t.links e).held (inbound e) held_own (λ i. sym (bit_held t.links e g.size i)) sound.held) g.held_fits;
      }
    where
      sound : Sound t.links (maps_of t.links e)
      sound = sound_maps t.links e g.size

      standing_own : (i : ℕ) → bit (maps_of t.links e).standing i ≡ true → is_own t p i ≡ true
      standing_own i b = own_out 1 i (λ z. omega arith) (sym (bit_standing t.links e g.size i) ∙ b)

      held_own : (i : ℕ) → bit (maps_of t.links e).held i ≡ true → is_own t p i ≡ true
      held_own i b = own_in 1 i (λ z. omega arith) (sym (bit_held t.links e g.size i) ∙ b)

-- "turning one into the other and back loses nothing"
pub turns_back : (t : Table) (p : ℕ) → TurnsBack t p
turns_back t p =
    record {
      bytes_there = λ e f. maps_pass t p (maps_of t.links e) (record_good_maps t p e (good_record t p e f));
      bytes_back = λ e f. let g = good_record t p e f in record {
        maps_are = refl;
        bytes_are = sym (bytes_maps t.links e g.size (λ i l. ((g.bytes i l).out_small, (g.bytes i l).in_small)));
      };
      maps_there = λ m w f. record_passes t p (bytes_of t.links m) (maps_good_record t p m (good_maps t p m w f));
      maps_back = λ m w f. record { maps_are = sym (maps_bytes t.links m (good_maps t p m w f).sound); bytes_are = refl };
      standing_ones = λ m w f. standing_ones t p m (good_maps t p m w f);
      held_ones = λ m w f. held_ones t p m (good_maps t p m w f);
      same_fault = same_fault t p;
    }

-- "Fresh is all zero."
pub fresh_maps_lem : (t : Table) → maps_of t.links (fresh t)
    ≡ rows (replicate (words_for t.links) 0) (replicate (words_for t.links) 0) (replicate (words_for t.links) 0) (replicate (words_for t.links) 0)
fresh_maps_lem t =
    rows_same (no_bits (words_for t.links) (λ i. eqb (outbound (fresh t) i) 1) (λ i. rw (zeros_at (2 * t.links) (2 * i))))
    (no_bits (words_for t.links) (λ i. eqb (outbound (fresh t) i) 2) (λ i. rw (zeros_at (2 * t.links) (2 * i))))
    (no_bits (words_for t.links) (λ i. eqb (inbound (fresh t) i) 1) (λ i. rw (zeros_at (2 * t.links) (2 * i + 1))))
    (no_bits (words_for t.links) (λ i. eqb (inbound (fresh t) i) 2) (λ i. rw (zeros_at (2 * t.links) (2 * i + 1))))
