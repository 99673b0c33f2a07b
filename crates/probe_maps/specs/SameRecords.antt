-- Maps and bytes that stand for the same record. The sentences are those of document 02, No. 9.
use Rattle.std.specs.Prelude.{ℕ, ◌≡◌, List}
use Rattle.bit_maps.specs.BitMap.{ones_of}
use Rattle.table.specs.Table.{Table}
use Rattle.probe_record.specs.Record.{standing, held, record_fault}
use Rattle.probe_maps.specs.Maps.{Maps, AllWords, bytes_of, maps_of, maps_fault}

-- "The old bytes and the maps .. stand for the same records": each is what the other turns into
pub record SameRecord (links : ℕ) (m : Maps) (e : List ℕ) : Type 0 where
  pub maps_are : m ≡ maps_of links e
  pub bytes_are : e ≡ bytes_of links m

-- "turning one into the other and back loses nothing": of the end p, on what 20 to 22 let pass, which is the same in both forms
pub record TurnsBack (t : Table) (p : ℕ) : Type 0 where
  pub bytes_there : (e : List ℕ) → record_fault t p e ≡ 0 → maps_fault t p (maps_of t.links e) ≡ 0
  pub bytes_back : (e : List ℕ) → record_fault t p e ≡ 0 → SameRecord t.links (maps_of t.links e) e
  pub maps_there : (m : Maps) → AllWords m → maps_fault t p m ≡ 0 → record_fault t p (bytes_of t.links m) ≡ 0
  pub maps_back : (m : Maps) → AllWords m → maps_fault t p m ≡ 0 → SameRecord t.links m (bytes_of t.links m)
  -- "Offers standing and offers held are found by counting the ones."
  pub standing_ones : (m : Maps) → AllWords m → maps_fault t p m ≡ 0 → ones_of m.standing ≡ standing t p (bytes_of t.links m)
  pub held_ones : (m : Maps) → AllWords m → maps_fault t p m ≡ 0 → ones_of m.held ≡ held t p (bytes_of t.links m)
  -- and what 20 to 22 turn down is the same in both forms
  pub same_fault : (m : Maps) (e : List ℕ) → SameRecord t.links m e → maps_fault t p m ≡ record_fault t p e
