-- Maps turned into bytes, and bytes into maps, for any number of links.
use Prim.Native.Nat.{ℕ, ◌+◌, ◌*◌, ◌/◌, ◌%◌, ◌≤◌, ◌<◌}
use mathlib.Core.Path.{◌≡◌, refl, sym, ◌∙◌, ap}
use mathlib.Core.Bool.{Bool, true, false, cond}
use mathlib.Core.List.{List, [], ◌∷◌}
use native.Mathlib.Nat.{add-zero, div-add-mod}
use native.Mathlib.Omega.{arith}
use native.Mathlib.Decide.{ℕ_discrete, dec_lt}
use lib.Dec.{eqb}
use lib.ListN.{length, get_or-eq_default}
use lib.Seq.{ext_get_or}
use borrow.Author.Tests.{eqb-true, eq-eqb, ne_eqb}
use Rattle.range.proofs.Lists.{length_joined, joined_at}
use Rattle.bit_maps.specs.BitMap.{words_for, bit, map_of}
use Rattle.bit_maps.proofs.Maps.{bit_past, length_map_of, words_map_of, bit_map_of, map_of_same, map_is}
use Rattle.table.specs.Table.{item}
use Rattle.probe_record.specs.Record.{outbound, inbound}
use Rattle.probe_maps.specs.Maps.{Maps, rows, byte_of, bytes_of, maps_of}
use Rattle.probe_maps.specs.GoodMaps.{Row, Sound}

pub rows_same : {a b c d a' b' c' d' : List ℕ} → a ≡ a' → b ≡ b' → c ≡ c' → d ≡ d' → rows a b c d ≡ rows a' b' c' d'
rows_same e f g h = rw (e, f, g, h)

-- records that are equal byte by byte
pub pairs_equal : (links : ℕ) (e f : List ℕ) → length e ≡ 2 * links → length f ≡ 2 * links → ((i : ℕ) → i < links → outbound e i ≡ outbound f i)
    → ((i : ℕ) → i < links → inbound e i ≡ inbound f i) → e ≡ f
pairs_equal links e f le lf outs ins = ext_get_or 0 e f (le ∙ sym lf) (λ j l. go j l (ℕ_discrete (j % 2) 0))
  where
    go : (j : ℕ) → j < length e → Dec (j % 2 ≡ 0) → item e j ≡ item f j
    go j l (yes z) =
        let a = div-add-mod j 2 in
        let s : j ≡ 2 * (j / 2) = omega arith in
        ap (item e) s ∙ outs (j / 2) (omega arith) ∙ ap (item f) (sym s)
    go j l (no d) =
        let a = div-add-mod j 2 in
        let s : j ≡ 2 * (j / 2) + 1 = omega arith in
        ap (item e) s ∙ ins (j / 2) (omega arith) ∙ ap (item f) (sym s)

-- bytes past the last link are read as 0
pub out_past : (links : ℕ) (e : List ℕ) → length e ≡ 2 * links → (i : ℕ) → links ≤ i → outbound e i ≡ 0
out_past links e size i l = get_or-eq_default e 0 (omega arith)

pub in_past : (links : ℕ) (e : List ℕ) → length e ≡ 2 * links → (i : ℕ) → links ≤ i → inbound e i ≡ 0
in_past links e size i l = get_or-eq_default e 0 (omega arith)

-- the byte of two bits, and the bits of a byte
one_bit : (a b : Bool) → eqb (cond a 1 (cond b 2 0)) 1 ≡ a
one_bit true b = refl
one_bit false true = refl
one_bit false false = refl

two_bit : (a b : Bool) → (a ≡ true → b ≡ false) → eqb (cond a 1 (cond b 2 0)) 2 ≡ b
two_bit true b apart = sym (apart refl)
two_bit false true apart = refl
two_bit false false apart = refl

small_byte : (a b : Bool) → cond a 1 (cond b 2 0) ≤ 2
small_byte true b = omega arith
small_byte false true = omega arith
small_byte false false = omega arith

byte_back : (k : ℕ) → k ≤ 2 → cond (eqb k 1) 1 (cond (eqb k 2) 2 0) ≡ k
byte_back k l = go (ℕ_discrete k 1) (ℕ_discrete k 2)
  where
    go : Dec (k ≡ 1) → Dec (k ≡ 2) → cond (eqb k 1) 1 (cond (eqb k 2) 2 0) ≡ k
    go (yes e) d = rw (eq-eqb k 1 e) (sym e)
    go (no c) (yes e) = rw (ne_eqb k 1 c, eq-eqb k 2 e) (sym e)
    go (no c) (no d) = rw (ne_eqb k 1 c, ne_eqb k 2 d) (omega arith)

one_not_two : (k : ℕ) → eqb k 1 ≡ true → eqb k 2 ≡ false
one_not_two k e = let s = eqb-true k 1 e in ne_eqb k 2 (λ z. omega arith)

module _ (links : ℕ) (m : Maps) where
  pub length_bytes_of : length (bytes_of links m) ≡ 2 * links
  unfolding bytes_of
  length_bytes_of =
      length_joined (λ i. byte_of m.standing m.refused_out i ∷ byte_of m.held m.refused_in i ∷ []) 2 links (λ i. refl)

  pub out_is : (i : ℕ) → i < links → outbound (bytes_of links m) i ≡ byte_of m.standing m.refused_out i
  unfolding bytes_of
  out_is i l =
      ap (item (bytes_of links m)) (sym (add-zero (2 * i)))
      ∙ joined_at (λ k. byte_of m.standing m.refused_out k ∷ byte_of m.held m.refused_in k ∷ []) 2 links i 0 (λ k. refl) l (omega arith)

  pub in_is : (i : ℕ) → i < links → inbound (bytes_of links m) i ≡ byte_of m.held m.refused_in i
  unfolding bytes_of
  in_is i l =
      joined_at (λ k. byte_of m.standing m.refused_out k ∷ byte_of m.held m.refused_in k ∷ []) 2 links i 1 (λ k. refl) l (omega arith)

  pub small_bytes : (i : ℕ) → (outbound (bytes_of links m) i ≤ 2) × (inbound (bytes_of links m) i ≤ 2)
  small_bytes i = go (dec_lt i links)
    where
      go : Dec (i < links) → (outbound (bytes_of links m) i ≤ 2) × (inbound (bytes_of links m) i ≤ 2)
      go (yes l) = (
        rw (out_is i l) (small_byte (bit m.standing i) (bit m.refused_out i)),
        rw (in_is i l) (small_byte (bit m.held i) (bit m.refused_in i)),
      )
      go (no l) =
          let a = out_past links (bytes_of links m) length_bytes_of i (omega arith) in
          let b = in_past links (bytes_of links m) length_bytes_of i (omega arith) in
          (omega arith, omega arith)

  module _ (s : Sound links m) where
    pub is_standing : (i : ℕ) → eqb (outbound (bytes_of links m) i) 1 ≡ bit m.standing i
    is_standing i = go (dec_lt i links)
      where
        go : Dec (i < links) → eqb (outbound (bytes_of links m) i) 1 ≡ bit m.standing i
        go (yes l) = rw (out_is i l) (one_bit (bit m.standing i) (bit m.refused_out i))
        go (no l) = rw (out_past links (bytes_of links m) length_bytes_of i (omega arith)) (sym (s.standing.past i (omega arith)))

    pub is_refused_out : (i : ℕ) → eqb (outbound (bytes_of links m) i) 2 ≡ bit m.refused_out i
    is_refused_out i = go (dec_lt i links)
      where
        go : Dec (i < links) → eqb (outbound (bytes_of links m) i) 2 ≡ bit m.refused_out i
        go (yes l) = rw (out_is i l) (two_bit (bit m.standing i) (bit m.refused_out i) (s.out_apart i))
        go (no l) = rw (out_past links (bytes_of links m) length_bytes_of i (omega arith)) (sym (s.refused_out_lem.past i (omega arith)))

    pub is_held : (i : ℕ) → eqb (inbound (bytes_of links m) i) 1 ≡ bit m.held i
    is_held i = go (dec_lt i links)
      where
        go : Dec (i < links) → eqb (inbound (bytes_of links m) i) 1 ≡ bit m.held i
        go (yes l) = rw (in_is i l) (one_bit (bit m.held i) (bit m.refused_in i))
        go (no l) = rw (in_past links (bytes_of links m) length_bytes_of i (omega arith)) (sym (s.held.past i (omega arith)))

    pub is_refused_in : (i : ℕ) → eqb (inbound (bytes_of links m) i) 2 ≡ bit m.refused_in i
    is_refused_in i = go (dec_lt i links)
      where
        go : Dec (i < links) → eqb (inbound (bytes_of links m) i) 2 ≡ bit m.refused_in i
        go (yes l) = rw (in_is i l) (two_bit (bit m.held i) (bit m.refused_in i) (s.in_apart i))
        go (no l) = rw (in_past links (bytes_of links m) length_bytes_of i (omega arith)) (sym (s.refused_in_lem.past i (omega arith)))

    -- "back loses nothing"
    pub maps_bytes : maps_of links (bytes_of links m) ≡ m
    maps_bytes =
        rows_same (back m.standing s.standing (λ i. eqb (outbound (bytes_of links m) i) 1) is_standing)
        (back m.refused_out s.refused_out_lem (λ i. eqb (outbound (bytes_of links m) i) 2) is_refused_out)
        (back m.held s.held (λ i. eqb (inbound (bytes_of links m) i) 1) is_held)
        (back m.refused_in s.refused_in_lem (λ i. eqb (inbound (bytes_of links m) i) 2) is_refused_in)
      where
        back : (row : List ℕ) → Row links row → (p : ℕ → Bool) → ((i : ℕ) → p i ≡ bit row i) → map_of p (words_for links) ≡ row
        back row r p h =
            map_of_same p (bit row) (words_for links) (λ i l. h i) ∙ ap (map_of (bit row)) (sym r.size) ∙ sym (map_is row r.words)

-- the map of a set of links
module _ (links : ℕ) (p : ℕ → Bool) (none : (i : ℕ) → links ≤ i → p i ≡ false) where
  pub bit_of : (i : ℕ) → bit (map_of p (words_for links)) i ≡ p i
  bit_of i = go (dec_lt i (64 * words_for links))
    where
      go : Dec (i < 64 * words_for links) → bit (map_of p (words_for links)) i ≡ p i
      go (yes l) = bit_map_of p (words_for links) i l
      go (no l) = bit_past (map_of p (words_for links)) i (let k = length_map_of p (words_for links) in omega arith) ∙ sym (none i (omega arith))

  pub row_of : Row links (map_of p (words_for links))
  row_of =
      record {
        size = length_map_of p (words_for links);
        words = words_map_of p (words_for links);
        past = λ i l. bit_of i ∙ none i l;
      }

module _ (links : ℕ) (e : List ℕ) (size : length e ≡ 2 * links) where
  out_none : (v : ℕ) → (0 ≡ v → ⊥) → (i : ℕ) → links ≤ i → eqb (outbound e i) v ≡ false
  out_none v d i l = rw (out_past links e size i l) (ne_eqb 0 v d)

  in_none : (v : ℕ) → (0 ≡ v → ⊥) → (i : ℕ) → links ≤ i → eqb (inbound e i) v ≡ false
  in_none v d i l = rw (in_past links e size i l) (ne_eqb 0 v d)

  -- the maps of the bytes, bit by bit
  pub bit_standing : (i : ℕ) → bit (maps_of links e).standing i ≡ eqb (outbound e i) 1
  bit_standing = bit_of links (λ i. eqb (outbound e i) 1) (out_none 1 (λ z. omega arith))

  pub bit_refused_out : (i : ℕ) → bit (maps_of links e).refused_out i ≡ eqb (outbound e i) 2
  bit_refused_out = bit_of links (λ i. eqb (outbound e i) 2) (out_none 2 (λ z. omega arith))

  pub bit_held : (i : ℕ) → bit (maps_of links e).held i ≡ eqb (inbound e i) 1
  bit_held = bit_of links (λ i. eqb (inbound e i) 1) (in_none 1 (λ z. omega arith))

  pub bit_refused_in : (i : ℕ) → bit (maps_of links e).refused_in i ≡ eqb (inbound e i) 2
  bit_refused_in = bit_of links (λ i. eqb (inbound e i) 2) (in_none 2 (λ z. omega arith))

  pub sound_maps : Sound links (maps_of links e)
  sound_maps =
      record {
        standing = row_of links (λ i. eqb (outbound e i) 1) (out_none 1 (λ z. omega arith));
        refused_out_lem = row_of links (λ i. eqb (outbound e i) 2) (out_none 2 (λ z. omega arith));
        held = row_of links (λ i. eqb (inbound e i) 1) (in_none 1 (λ z. omega arith));
        refused_in_lem = row_of links (λ i. eqb (inbound e i) 2) (in_none 2 (λ z. omega arith));
        out_apart = λ i b. bit_refused_out i ∙ one_not_two (outbound e i) (sym (bit_standing i) ∙ b);
        in_apart = λ i b. bit_refused_in i ∙ one_not_two (inbound e i) (sym (bit_held i) ∙ b);
      }

  pub bytes_maps : ((i : ℕ) → i < links → (outbound e i ≤ 2) × (inbound e i ≤ 2)) → bytes_of links (maps_of links e) ≡ e
  bytes_maps small =
      pairs_equal links (bytes_of links (maps_of links e)) e (length_bytes_of links (maps_of links e)) size
      (λ i l. out_is links (maps_of links e) i l ∙ rw (bit_standing i, bit_refused_out i) (byte_back (outbound e i) (small i l).0))
      (λ i l. in_is links (maps_of links e) i l ∙ rw (bit_held i, bit_refused_in i) (byte_back (inbound e i) (small i l).1))
