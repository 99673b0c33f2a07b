-- One bit put into one map of a direction and out of the other is one byte stored.
use Prim.Native.Nat.{ℕ, ◌+◌, ◌*◌, ◌≤◌, ◌<◌}
use mathlib.Core.Path.{◌≡◌, refl, sym, ◌∙◌, ap}
use mathlib.Core.Bool.{◌&&◌, ◌||◌, not}
use mathlib.Core.List.{List}
use native.Mathlib.Omega.{arith}
use native.Mathlib.Decide.{ℕ_discrete}
use lib.Dec.{eqb}
use lib.ListN.{length, set, length-set}
use lib.Seq.{get_or-set_same, get_or-set_other}
use borrow.Author.Tests.{eq-eqb, ne_eqb}
use Rattle.bit_maps.specs.BitMap.{words_for, bit, map_of, with_bit, without_bit}
use Rattle.bit_maps.proofs.Maps.{length_map_of, bit_map_of, map_of_same}
use Rattle.probe_record.specs.Record.{outbound, inbound}
use Rattle.probe_rules.specs.declared.Outcome.{Outcome}
use Rattle.probe_rules.specs.declared.Outcome.TheVariants.{Opened, Enough, Taken, TakenDisplacing, Refused, RefusalLearnt, NoChange, AllTried}
use Rattle.probe_rules.specs.Rules.{alter}
use Rattle.probe_rules.specs.Within.{Within}
use Rattle.probe_maps.specs.Maps.{Maps, rows, bytes_of, maps_of}
use Rattle.probe_maps.specs.GoodMaps.{Sound}
use Rattle.probe_maps.proofs.Rounds.{rows_same, length_bytes_of, small_bytes, maps_bytes}

-- the maps of a record of small bytes
pub record Stands (links : ℕ) (m : Maps) (e : List ℕ) : Type 0 where
  pub maps_are : m ≡ maps_of links e
  pub size : length e ≡ 2 * links
  pub small : (i : ℕ) → i < links → (outbound e i ≤ 2) × (inbound e i ≤ 2)

pub sound_stands : (links : ℕ) (m : Maps) → Sound links m → Stands links m (bytes_of links m)
sound_stands links m s = record { maps_are = sym (maps_bytes links m s); size = length_bytes_of links m; small = λ i l. small_bytes links m i }

-- a row that has the links whose byte is w, when the bytes change
module _ (links : ℕ) (b c : ℕ → ℕ) (w : ℕ) (row : List ℕ) (is : row ≡ map_of (λ j. eqb (b j) w) (words_for links)) where
  row_kept : ((j : ℕ) → c j ≡ b j) → row ≡ map_of (λ j. eqb (c j) w) (words_for links)
  row_kept same = is ∙ map_of_same (λ j. eqb (b j) w) (λ j. eqb (c j) w) (words_for links) (λ j l. rw (same j))

  row_size : length row ≡ words_for links
  row_size = ap length is ∙ length_map_of (λ j. eqb (b j) w) (words_for links)

  row_bit : (j : ℕ) → j < 64 * length row → bit row j ≡ eqb (b j) w
  row_bit j l =
      ap (λ m. bit m j) is ∙ bit_map_of (λ k. eqb (b k) w) (words_for links) j (let n = row_size in omega arith)

  module _ (i : ℕ) (rest : (j : ℕ) → (j ≡ i → ⊥) → c j ≡ b j) where
    row_with : c i ≡ w → with_bit row i ≡ map_of (λ j. eqb (c j) w) (words_for links)
    row_with here =
        map_of_same (λ j. eqb j i || bit row j) (λ j. eqb (c j) w) (length row) (λ j l. go j l (ℕ_discrete j i))
        ∙ ap (map_of (λ j. eqb (c j) w)) row_size
      where
        go : (j : ℕ) → j < 64 * length row → Dec (j ≡ i) → (eqb j i || bit row j) ≡ eqb (c j) w
        go j l (yes e) = rw (eq-eqb j i e, e) (sym (eq-eqb (c i) w here))
        go j l (no d) = rw (ne_eqb j i d, rest j d) (row_bit j l)

    row_without : (c i ≡ w → ⊥) → without_bit row i ≡ map_of (λ j. eqb (c j) w) (words_for links)
    row_without here =
        map_of_same (λ j. not (eqb j i) && bit row j) (λ j. eqb (c j) w) (length row) (λ j l. go j l (ℕ_discrete j i))
        ∙ ap (map_of (λ j. eqb (c j) w)) row_size
      where
        go : (j : ℕ) → j < 64 * length row → Dec (j ≡ i) → (not (eqb j i) && bit row j) ≡ eqb (c j) w
        go j l (yes e) = rw (eq-eqb j i e, e) (sym (ne_eqb (c i) w here))
        go j l (no d) = rw (ne_eqb j i d, rest j d) (row_bit j l)

module _ (links : ℕ) (m : Maps) (e : List ℕ) (s : Stands links m e) (i : ℕ) (l : i < links) where
  standing_is : m.standing ≡ map_of (λ j. eqb (outbound e j) 1) (words_for links)
  standing_is = ap (λ (x : Maps). x.standing) s.maps_are

  refused_out_is : m.refused_out ≡ map_of (λ j. eqb (outbound e j) 2) (words_for links)
  refused_out_is = ap (λ (x : Maps). x.refused_out) s.maps_are

  held_is : m.held ≡ map_of (λ j. eqb (inbound e j) 1) (words_for links)
  held_is = ap (λ (x : Maps). x.held) s.maps_are

  refused_in_is : m.refused_in ≡ map_of (λ j. eqb (inbound e j) 2) (words_for links)
  refused_in_is = ap (λ (x : Maps). x.refused_in) s.maps_are

  -- the byte v stored outbound
  module _ (v : ℕ) (fits : v ≤ 2) where
    abbrev out : List ℕ
    out = set e (2 * i) v

    out_here : outbound out i ≡ v
    out_here = get_or-set_same e (2 * i) v 0 (let n = s.size in omega arith)

    out_else : (j : ℕ) → (j ≡ i → ⊥) → outbound out j ≡ outbound e j
    out_else j d = get_or-set_other e (2 * i) (2 * j) v 0 (λ z. d (omega arith))

    in_kept : (j : ℕ) → inbound out j ≡ inbound e j
    in_kept j = get_or-set_other e (2 * i) (2 * j + 1) v 0 (λ z. omega arith)

    out_stored : (standing refused_out : List ℕ) → standing ≡ map_of (λ j. eqb (outbound out j) 1) (words_for links)
        → refused_out ≡ map_of (λ j. eqb (outbound out j) 2) (words_for links) → Stands links (rows standing refused_out m.held m.refused_in) out
    out_stored standing refused_out a b =
        record {
          maps_are = rows_same a b (row_kept links (inbound e) (inbound out) 1 m.held held_is in_kept)
              (row_kept links (inbound e) (inbound out) 2 m.refused_in refused_in_is in_kept);
          size = length-set e (2 * i) v ∙ s.size;
          small = λ j k. (go j k (ℕ_discrete j i), rw (in_kept j) (s.small j k).1);
        }
      where
        go : (j : ℕ) → j < links → Dec (j ≡ i) → outbound out j ≤ 2
        go j k (yes z) = rw (z, out_here) fits
        go j k (no z) = rw (out_else j z) (s.small j k).0

  -- the byte v stored inbound
  module _ (v : ℕ) (fits : v ≤ 2) where
    abbrev into : List ℕ
    into = set e (2 * i + 1) v

    in_here : inbound into i ≡ v
    in_here = get_or-set_same e (2 * i + 1) v 0 (let n = s.size in omega arith)

    in_else : (j : ℕ) → (j ≡ i → ⊥) → inbound into j ≡ inbound e j
    in_else j d = get_or-set_other e (2 * i + 1) (2 * j + 1) v 0 (λ z. d (omega arith))

    out_kept : (j : ℕ) → outbound into j ≡ outbound e j
    out_kept j = get_or-set_other e (2 * i + 1) (2 * j) v 0 (λ z. omega arith)

    in_stored : (held refused_in : List ℕ) → held ≡ map_of (λ j. eqb (inbound into j) 1) (words_for links)
        → refused_in ≡ map_of (λ j. eqb (inbound into j) 2) (words_for links) → Stands links (rows m.standing m.refused_out held refused_in) into
    in_stored held refused_in a b =
        record {
          maps_are = rows_same (row_kept links (outbound e) (outbound into) 1 m.standing standing_is out_kept)
              (row_kept links (outbound e) (outbound into) 2 m.refused_out refused_out_is out_kept) a b;
          size = length-set e (2 * i + 1) v ∙ s.size;
          small = λ j k. (rw (out_kept j) (s.small j k).0, go j k (ℕ_discrete j i));
        }
      where
        go : (j : ℕ) → j < links → Dec (j ≡ i) → inbound into j ≤ 2
        go j k (yes z) = rw (z, in_here) fits
        go j k (no z) = rw (in_else j z) (s.small j k).1

  pub marked_out_lem : Stands links (rows (with_bit m.standing i) (without_bit m.refused_out i) m.held m.refused_in) (set e (2 * i) 1)
  marked_out_lem =
      let f : 1 ≤ 2 = omega arith in
      let h = out_here 1 f in
      out_stored 1 f (with_bit m.standing i) (without_bit m.refused_out i)
      (row_with links (outbound e) (outbound (set e (2 * i) 1)) 1 m.standing standing_is i (out_else 1 f) h)
      (row_without links (outbound e) (outbound (set e (2 * i) 1)) 2 m.refused_out refused_out_is i (out_else 1 f) (λ z. omega arith))

  pub dropped_out : Stands links (rows (without_bit m.standing i) (with_bit m.refused_out i) m.held m.refused_in) (set e (2 * i) 2)
  dropped_out =
      let f : 2 ≤ 2 = omega arith in
      let h = out_here 2 f in
      out_stored 2 f (without_bit m.standing i) (with_bit m.refused_out i)
      (row_without links (outbound e) (outbound (set e (2 * i) 2)) 1 m.standing standing_is i (out_else 2 f) (λ z. omega arith))
      (row_with links (outbound e) (outbound (set e (2 * i) 2)) 2 m.refused_out refused_out_is i (out_else 2 f) h)

  pub marked_in_lem : Stands links (rows m.standing m.refused_out (with_bit m.held i) (without_bit m.refused_in i)) (set e (2 * i + 1) 1)
  marked_in_lem =
      let f : 1 ≤ 2 = omega arith in
      let h = in_here 1 f in
      in_stored 1 f (with_bit m.held i) (without_bit m.refused_in i)
      (row_with links (inbound e) (inbound (set e (2 * i + 1) 1)) 1 m.held held_is i (in_else 1 f) h)
      (row_without links (inbound e) (inbound (set e (2 * i + 1) 1)) 2 m.refused_in refused_in_is i (in_else 1 f) (λ z. omega arith))

  pub dropped_in : Stands links (rows m.standing m.refused_out (without_bit m.held i) (with_bit m.refused_in i)) (set e (2 * i + 1) 2)
  dropped_in =
      let f : 2 ≤ 2 = omega arith in
      let h = in_here 2 f in
      in_stored 2 f (without_bit m.held i) (with_bit m.refused_in i)
      (row_without links (inbound e) (inbound (set e (2 * i + 1) 2)) 1 m.held held_is i (in_else 2 f) (λ z. omega arith))
      (row_with links (inbound e) (inbound (set e (2 * i + 1) 2)) 2 m.refused_in refused_in_is i (in_else 2 f) h)

-- the record that an outcome leaves
module _ (links : ℕ) (m : Maps) (e : List ℕ) where
  turned : Stands links m e → Stands links (maps_of links e) e
  turned s = record { maps_are = refl; size = s.size; small = s.small }

module _ (links : ℕ) (m : Maps) (sound : Sound links m) where
  pub altered : (o : Outcome) → Within links o → Stands links (maps_of links (alter o (bytes_of links m))) (alter o (bytes_of links m))
  altered (Opened i) w = turned links _ _ (marked_out_lem links m (bytes_of links m) (sound_stands links m sound) i w)
  altered Enough w = turned links _ _ (sound_stands links m sound)
  altered (Taken i) w = turned links _ _ (marked_in_lem links m (bytes_of links m) (sound_stands links m sound) i w)
  altered (TakenDisplacing i c) w =
      turned links _ _ (dropped_in links _ _ (marked_in_lem links m (bytes_of links m) (sound_stands links m sound) i w.0) c w.1)
  altered (Refused i) w = turned links _ _ (dropped_in links m (bytes_of links m) (sound_stands links m sound) i w)
  altered (RefusalLearnt i) w = turned links _ _ (dropped_out links m (bytes_of links m) (sound_stands links m sound) i w)
  altered (NoChange i) w = turned links _ _ (sound_stands links m sound)
  altered AllTried w = turned links _ _ (sound_stands links m sound)
