-- Maps that 20 to 22 let pass have good bytes, and so do those that a frame leaves.
-- Of entries past 64 bits only the low bits are read: maps in words with these bits pass as they do.
use Prim.Native.Nat.{ℕ, ◌*◌, ◌<◌}
use mathlib.Core.Path.{◌≡◌, sym, ◌∙◌, ap}
use mathlib.Core.List.{List}
use native.Mathlib.Omega.{arith}
use native.Mathlib.Decide.{dec_lt}
use lib.ListN.{length}
use Rattle.range.specs.First.{first}
use Rattle.range.specs.Sum.{count}
use Rattle.range.proofs.Faults.{or_same, first_same}
use Rattle.range.proofs.Sums.{weigh_same}
use Rattle.bit_maps.specs.BitMap.{words_for, bit, map_of, ones_of}
use Rattle.bit_maps.proofs.Maps.{bit_past, bit_map_of, length_map_of, words_map_of}
use Rattle.table.specs.Table.{Table}
use Rattle.table.specs.Legal.{RisingLinks}
use Rattle.probe_record.proofs.Bytes.{GoodRecord}
use Rattle.probe_rules.specs.declared.Event.{Event}
use Rattle.probe_rules.specs.Within.{OwnEvent}
use Rattle.probe_rules.proofs.Befalls.{befell_rising, own_within}
use Rattle.probe_maps.specs.Maps.{Maps, rows, AllWords, bytes_of, maps_length_fault, bit_fault, ones_fault, maps_fault}
use Rattle.probe_maps.specs.MapRules.{befalls_maps, alter_maps}
use Rattle.probe_maps.proofs.Faults.{good_maps, maps_pass, record_good_maps, maps_good_record}
use Rattle.probe_theory.proofs.Usable.{befell_good}

-- a row in 64-bit words
abbrev word_row : List ℕ → List ℕ
word_row row = map_of (bit row) (length row)

same_length : (row : List ℕ) → length (word_row row) ≡ length row
same_length row = length_map_of (bit row) (length row)

same_bit : (row : List ℕ) (i : ℕ) → bit (word_row row) i ≡ bit row i
same_bit row i = go (dec_lt i (64 * length row))
  where
    go : Dec (i < 64 * length row) → bit (word_row row) i ≡ bit row i
    go (yes l) = bit_map_of (bit row) (length row) i l
    go (no k) = bit_past (word_row row) i (let s = same_length row in omega arith) ∙ sym (bit_past row i (omega arith))

abbrev word_maps : Maps → Maps
word_maps m = rows (word_row m.standing) (word_row m.refused_out) (word_row m.held) (word_row m.refused_in)

same_ones : (row : List ℕ) → ones_of (word_row row) ≡ ones_of row
same_ones row =
    ap (λ (n : ℕ). count (64 * n) (bit (word_row row))) (same_length row)
    ∙ weigh_same (64 * length row) (bit (word_row row)) (bit row) (λ i. 1) (λ i l. same_bit row i)

same_fault : (t : Table) (p : ℕ) (m : Maps) → maps_fault t p (word_maps m) ≡ maps_fault t p m
same_fault t p m = or_same lengths (or_same bits ones)
  where
    lengths : maps_length_fault t (word_maps m) ≡ maps_length_fault t m
    lengths = rw (same_length m.standing, same_length m.refused_out, same_length m.held, same_length m.refused_in)

    bits : first (bit_fault t p (word_maps m)) (64 * words_for t.links) ≡ first (bit_fault t p m) (64 * words_for t.links)
    bits =
        first_same (bit_fault t p (word_maps m)) (bit_fault t p m) (64 * words_for t.links)
        (λ i l. rw (same_bit m.standing i, same_bit m.refused_out i, same_bit m.held i, same_bit m.refused_in i))

    ones : ones_fault t p (word_maps m) ≡ ones_fault t p m
    ones = rw (same_ones m.standing, same_ones m.held)

same_bytes : (links : ℕ) (m : Maps) → bytes_of links (word_maps m) ≡ bytes_of links m
unfolding bytes_of
same_bytes links m = simp same_bit

pub record Passing (t : Table) (p : ℕ) (m : Maps) : Type 0 where
  pub passes : maps_fault t p m ≡ 0
  pub good : GoodRecord t p (bytes_of t.links m)

module _ (t : Table) (p : ℕ) where
  pub passing : (m : Maps) → maps_fault t p m ≡ 0 → Passing t p m
  passing m z =
      record {
        passes = z;
        good = rw (same_bytes t.links m) at (maps_good_record t p (word_maps m) (good_maps t p (word_maps m) words (same_fault t p m ∙ z)));
      }
    where
      words : AllWords (word_maps m)
      words =
          record {
            standing = words_map_of (bit m.standing) (length m.standing);
            refused_out_lem = words_map_of (bit m.refused_out) (length m.refused_out);
            held = words_map_of (bit m.held) (length m.held);
            refused_in_lem = words_map_of (bit m.refused_in) (length m.refused_in);
          }

  pub passing_step : RisingLinks t → (m : Maps) → Passing t p m → (v : Event) → OwnEvent t p v → Passing t p (alter_maps t.links (befalls_maps t p v m) m)
  passing_step rises m h v own =
      let e = bytes_of t.links m in
      let left = record_good_maps t p _ (befell_good t p e h.good (befell_rising t rises p e v (own_within t p v own)) own) in
      record { passes = maps_pass t p _ left; good = maps_good_record t p _ left }
