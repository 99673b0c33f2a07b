-- What maps have that 20, 21 and 22 let pass; the law is `good_maps`.
use Rattle.std.specs.Prelude.{ℕ, ◌≤◌, ◌≡◌, true, false, List, length}
use Rattle.bit_maps.specs.BitMap.{Words, words_for, bit, ones_of}
use Rattle.table.specs.Table.{Table, spare}
use Rattle.probe_maps.specs.Maps.{Maps, is_own}

-- a row over the links: no bit past the last
pub record Row (links : ℕ) (m : List ℕ) : Type 0 where
  pub size : length m ≡ words_for links
  pub words : Words m
  pub past : (i : ℕ) → links ≤ i → bit m i ≡ false

-- no link in both maps of a direction
pub record Sound (links : ℕ) (m : Maps) : Type 0 where
  pub standing : Row links m.standing
  pub refused_out_lem : Row links m.refused_out
  pub held : Row links m.held
  pub refused_in_lem : Row links m.refused_in
  pub out_apart : (i : ℕ) → bit m.standing i ≡ true → bit m.refused_out i ≡ false
  pub in_apart : (i : ℕ) → bit m.held i ≡ true → bit m.refused_in i ≡ false

-- every bit on an own link, and no more standing or held than the spare
pub record GoodMaps (t : Table) (p : ℕ) (m : Maps) : Type 0 where
  pub sound : Sound t.links m
  pub own_standing : (i : ℕ) → bit m.standing i ≡ true → is_own t p i ≡ true
  pub own_refused_out : (i : ℕ) → bit m.refused_out i ≡ true → is_own t p i ≡ true
  pub own_held : (i : ℕ) → bit m.held i ≡ true → is_own t p i ≡ true
  pub own_refused_in : (i : ℕ) → bit m.refused_in i ≡ true → is_own t p i ≡ true
  pub standing_fits : ones_of m.standing ≤ spare t p
  pub held_fits : ones_of m.held ≤ spare t p
