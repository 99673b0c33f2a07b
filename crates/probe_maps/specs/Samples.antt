-- Sample maps. The site is M2 of document 01, and the end its probe 1, which has one link to spare.
use Rattle.std.specs.Prelude.{ℕ, ◌≡◌, List, [], ◌∷◌, eqb}
use Rattle.bit_maps.specs.BitMap.{map_of}
use Rattle.table.specs.Table.{Table, of_slices}
use Rattle.probe_record.specs.Record.{record_fault}
use Rattle.probe_maps.specs.Maps.{Maps, rows, bytes_of, maps_of, maps_fault}

abbrev pub m2 : Table
m2 = of_slices 1 4 3 (0 ∷ 1 ∷ 1 ∷ 0 ∷ []) (0 ∷ 1 ∷ 2 ∷ []) (1 ∷ 2 ∷ 3 ∷ []) (5 ∷ 6 ∷ 5 ∷ [])

-- its record after its three events of M11: its offer on 1-2 stands, that of probe 2 is held, and that of probe 0 refused
abbrev pub m11_bytes : List ℕ
m11_bytes = 0 ∷ 2 ∷ 1 ∷ 1 ∷ 0 ∷ 0 ∷ []

abbrev pub m11_maps : Maps
m11_maps = rows (2 ∷ []) (0 ∷ []) (2 ∷ []) (1 ∷ [])

pub record MapSamples : Type 0 where
  -- "lowest bit first", and a word for "every 64 links begun"
  pub last_of_first : map_of (λ i. eqb i 63) 1 ≡ 9223372036854775808 ∷ []
  pub first_of_second : map_of (λ i. eqb i 64) 2 ≡ 0 ∷ 1 ∷ []
  -- one record in both forms
  pub turned : maps_of 3 m11_bytes ≡ m11_maps
  pub turned_back : bytes_of 3 m11_maps ≡ m11_bytes
  pub bytes_pass : record_fault m2 1 m11_bytes ≡ 0
  pub maps_pass : maps_fault m2 1 m11_maps ≡ 0
  -- 20: a word too many, and one too few
  pub two_words : maps_fault m2 1 (rows (2 ∷ []) (0 ∷ 0 ∷ []) (2 ∷ []) (1 ∷ [])) ≡ 20
  pub no_word : maps_fault m2 1 (rows (2 ∷ []) (0 ∷ []) [] (1 ∷ [])) ≡ 20
  -- 21: a link in both maps of a direction, the foreign link 2-3, and a bit past the last: of probe 0, since absent ends read 0
  pub in_both : maps_fault m2 1 (rows (2 ∷ []) (0 ∷ []) (2 ∷ []) (2 ∷ [])) ≡ 21
  pub foreign : maps_fault m2 1 (rows (0 ∷ []) (4 ∷ []) (0 ∷ []) (0 ∷ [])) ≡ 21
  pub past_last : maps_fault m2 0 (rows (0 ∷ []) (0 ∷ []) (0 ∷ []) (8 ∷ [])) ≡ 21
  -- 22: two held, and two standing
  pub two_held : maps_fault m2 1 (rows (0 ∷ []) (0 ∷ []) (3 ∷ []) (0 ∷ [])) ≡ 22
  pub two_standing : maps_fault m2 1 (rows (3 ∷ []) (0 ∷ []) (0 ∷ []) (0 ∷ [])) ≡ 22
  -- refusals may be more than the spare
  pub two_refused : maps_fault m2 1 (rows (0 ∷ []) (3 ∷ []) (0 ∷ []) (3 ∷ [])) ≡ 0
