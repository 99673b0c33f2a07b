-- A record that the checks let pass: its bytes are small, and 0 on other probes' links; its standing and held offers fit the spare.
use Prim.Native.Nat.{ℕ, ◌+◌, ◌*◌, ◌≤◌, ◌<◌}
use mathlib.Core.Path.{◌≡◌, sym, ◌∙◌}
use mathlib.Core.Logic.{◌⊎◌, inl, inr}
use mathlib.Core.Bool.{Bool, true, false, cond, ◌&&◌, ◌||◌, not}
use mathlib.Core.List.{List}
use native.Mathlib.Nat.{add-zero}
use lib.Dec.{ltb, eqb}
use lib.ListN.{length}
use borrow.Author.Tests.{eqb-true, ltb-false, not-false, lt-ltb, le-ltb, eq-eqb}
use Rattle.range.specs.Sum.{count}
use Rattle.range.specs.First.{or_else, first}
use Rattle.range.proofs.Bools.{or_false_left, or_false_right, when_none, unless_none, and_left, and_right, decided}
use Rattle.range.proofs.Faults.{or_left, or_right, or_none, first_all, none_first}
use Rattle.range.proofs.Sums.{weigh_same}
use Rattle.table.specs.Table.{Table, item, touches, spare}
use Rattle.probe_record.specs.Record.{outbound, inbound, own_with, standing, held, record_length_fault, byte_fault, spare_fault, record_fault}

-- 20 and 21 let the record pass
pub record_good : (t : Table) (p : ℕ) (e : List ℕ) → record_fault t p e ≡ 0 → (length e ≡ 2 * t.links) × (first (byte_fault t p e) t.links ≡ 0)
record_good t p e f =
    let bytes = first (byte_fault t p e) t.links in
    let rest = or_right (record_length_fault t e) (or_else bytes (spare_fault t p e)) f in
    let size = or_left (record_length_fault t e) (or_else bytes (spare_fault t p e)) f in
    (eqb-true (length e) (2 * t.links) (unless_none (eqb (length e) (2 * t.links)) 19 size), or_left bytes (spare_fault t p e) rest)

module _ (t : Table) (p : ℕ) (e : List ℕ) where
  pub record Passes (i : ℕ) : Type 0 where
    pub out_small : outbound e i ≤ 2
    pub in_small : inbound e i ≤ 2
    pub out_own : touches t p i ≡ false → outbound e i ≡ 0
    pub in_own : touches t p i ≡ false → inbound e i ≡ 0

  pub passes : (i : ℕ) → byte_fault t p e i ≡ 0 → Passes i
  passes i f =
      record {
        out_small = ltb-false 2 (outbound e i) (or_false_left (ltb 2 (outbound e i)) rest none);
        in_small = ltb-false 2 (inbound e i) (or_false_left (ltb 2 (inbound e i)) other none_in);
        out_own = λ m. eqb-true (outbound e i) 0 (and_left (eqb (outbound e i) 0) (eqb (inbound e i) 0) (both m));
        in_own = λ m. eqb-true (inbound e i) 0 (and_right (eqb (outbound e i) 0) (eqb (inbound e i) 0) (both m));
      }
    where
      other : Bool
      other = not (touches t p i) && not (eqb (outbound e i) 0 && eqb (inbound e i) 0)

      rest : Bool
      rest = ltb 2 (inbound e i) || other

      none : (ltb 2 (outbound e i) || rest) ≡ false
      none = when_none (ltb 2 (outbound e i) || rest) 20 f

      none_in : rest ≡ false
      none_in = or_false_right (ltb 2 (outbound e i)) rest none

      none_other : other ≡ false
      none_other = or_false_right (ltb 2 (inbound e i)) other none_in

      both : touches t p i ≡ false → (eqb (outbound e i) 0 && eqb (inbound e i) 0) ≡ true
      both m = not-false (eqb (outbound e i) 0 && eqb (inbound e i) 0) (rw m at none_other)

  -- so every 1 stands on an own link
  module _ (fine : first (byte_fault t p e) t.links ≡ 0) where
    own_one : (byte : ℕ) (i : ℕ) → (touches t p i ≡ false → byte ≡ 0) → eqb byte 1 ≡ (touches t p i && eqb byte 1)
    own_one byte i h = go (decided (touches t p i))
      where
        go : (touches t p i ≡ true) ⊎ (touches t p i ≡ false) → eqb byte 1 ≡ (touches t p i && eqb byte 1)
        go (inl m) = rw m
        go (inr m) = rw (m, h m)

    pub ones_standing : count t.links (λ i. eqb (item e (2 * i + 0)) 1) ≡ standing t p e
    ones_standing =
        weigh_same t.links (λ i. eqb (item e (2 * i + 0)) 1) (own_with t p (outbound e) 1) (λ i. 1)
        (λ i l. rw (add-zero (2 * i)) (own_one (outbound e i) i (passes i (first_all (byte_fault t p e) t.links i fine l)).out_own))

    pub ones_held : count t.links (λ i. eqb (inbound e i) 1) ≡ held t p e
    ones_held =
        weigh_same t.links (λ i. eqb (inbound e i) 1) (own_with t p (inbound e) 1) (λ i. 1)
        (λ i l. own_one (inbound e i) i (passes i (first_all (byte_fault t p e) t.links i fine l)).in_own)

-- what a record has that 20, 21 and 22 let pass
pub record GoodRecord (t : Table) (p : ℕ) (e : List ℕ) : Type 0 where
  pub size : length e ≡ 2 * t.links
  pub bytes : (i : ℕ) → i < t.links → Passes t p e i
  pub standing_fits : standing t p e ≤ spare t p
  pub held_fits : held t p e ≤ spare t p

module _ (t : Table) (p : ℕ) (e : List ℕ) where
  pub good_record : record_fault t p e ≡ 0 → GoodRecord t p e
  good_record f =
      let r = record_good t p e f in
      let many = ltb (spare t p) (standing t p e) in
      let much = ltb (spare t p) (held t p e) in
      let bytes = first (byte_fault t p e) t.links in
      let last = or_right bytes (spare_fault t p e) (or_right (record_length_fault t e) (or_else bytes (spare_fault t p e)) f) in
      let none = when_none (many || much) 21 last in
      record {
        size = r.0;
        bytes = λ i l. passes t p e i (first_all (byte_fault t p e) t.links i r.1 l);
        standing_fits = ltb-false (spare t p) (standing t p e) (or_false_left many much none);
        held_fits = ltb-false (spare t p) (held t p e) (or_false_right many much none);
      }

  byte_passes : (i : ℕ) → Passes t p e i → byte_fault t p e i ≡ 0
  byte_passes i g = go (decided (touches t p i))
    where
      go : (touches t p i ≡ true) ⊎ (touches t p i ≡ false) → byte_fault t p e i ≡ 0
      go (inl m) = rw (le-ltb 2 (outbound e i) g.out_small, le-ltb 2 (inbound e i) g.in_small, m)
      go (inr m) = rw (le-ltb 2 (outbound e i) g.out_small, le-ltb 2 (inbound e i) g.in_small, m, eq-eqb (outbound e i) 0 (g.out_own m), eq-eqb (inbound e i) 0 (g.in_own m))

  pub record_passes : GoodRecord t p e → record_fault t p e ≡ 0
  record_passes g =
      or_none (record_length_fault t e) (or_else (first (byte_fault t p e) t.links) (spare_fault t p e)) (rw (eq-eqb (length e) (2 * t.links) g.size))
      ∙ or_none (first (byte_fault t p e) t.links) (spare_fault t p e) (none_first (byte_fault t p e) t.links (λ i l. byte_passes i (g.bytes i l)))
      ∙ rw (le-ltb (spare t p) (standing t p e) g.standing_fits, le-ltb (spare t p) (held t p e) g.held_fits)

-- how the code comes to the last of these faults: `out` and `into` are its counts of standing and held offers
module _ (t : Table) (p : ℕ) (e : List ℕ) (size : length e ≡ 2 * t.links) (fine : first (byte_fault t p e) t.links ≡ 0) (room out : ℕ)
    (is : room ≡ spare t p) (stands : out ≡ count t.links (λ i. eqb (item e (2 * i + 0)) 1)) where
  last_fault : record_fault t p e ≡ cond (ltb room out || ltb room (held t p e)) 22 0
  last_fault =
      or_none (record_length_fault t e) (or_else (first (byte_fault t p e) t.links) (spare_fault t p e)) (rw (eq-eqb (length e) (2 * t.links) size))
      ∙ or_none (first (byte_fault t p e) t.links) (spare_fault t p e) fine
      ∙ rw (is, stands, ones_standing t p e fine)

  pub many_standing : room < out → 22 ≡ record_fault t p e
  many_standing l = sym (last_fault ∙ rw (lt-ltb room out l))

  module _ (few : out ≤ room) (into : ℕ) (holds : into ≡ count t.links (λ i. eqb (inbound e i) 1)) where
    held_fault : record_fault t p e ≡ cond (ltb room into) 22 0
    held_fault = last_fault ∙ rw (le-ltb room out few, holds, ones_held t p e fine)

    pub many_held : room < into → 22 ≡ record_fault t p e
    many_held l = sym (held_fault ∙ rw (lt-ltb room into l))

    pub none_over : into ≤ room → 0 ≡ record_fault t p e
    none_over l = sym (held_fault ∙ rw (le-ltb room into l))
