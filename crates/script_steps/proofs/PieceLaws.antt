-- A piece of the script: the record stays usable, and five bytes are printed for each byte at most.
use Prim.Native.Nat.{ℕ, ◌+◌, ◌*◌, ◌≤◌, ◌<◌}
use mathlib.Core.Path.{◌≡◌, ◌∙◌, ap}
use mathlib.Core.Logic.{◌⊎◌, inl, inr}
use mathlib.Core.Bool.{true, false}
use mathlib.Core.List.{List, [], ◌∷◌, ◌++◌}
use native.Mathlib.Omega.{arith}
use native.Mathlib.Decide.{ℕ_discrete}
use lib.Dec.{eqb}
use lib.ListN.{length, take, drop, length-append}
use lib.Seq.{sets, take_at, length-take-le}
use borrow.Author.Tests.{ne_eqb}
use Rattle.range.proofs.Bools.{decided}
use Rattle.range.proofs.Sets.{sets_start}
use Rattle.fleet_theory.specs.Fleet.{fleet_fault, event_fault}
use Rattle.table.specs.Slices.{Slices, table_of, slices_fault}
use Rattle.fleet.proofs.Passing.{passed_line, record_stays}
use Rattle.script_lines.proofs.Fitting.{capped_most}
use Rattle.script_theory.specs.Script.{Script, answer_line, answered, bytes_after, after_byte, after_piece}
use Rattle.script_theory.proofs.Lines.{short_take}
use Rattle.script_steps.specs.Within.{Buffered}
use Rattle.script_steps.specs.declared.Place.{Place}
use Rattle.script_steps.proofs.Printing.{answer_short}

module _ (x : Slices) (room : ℕ) where
  module _ (p : Script) (b : ℕ) where
    abbrev q : Script
    q = after_byte x room p b

    -- the record stays usable
    usable_after : slices_fault x ≡ 0 → fleet_fault (table_of x) p.bytes ≡ 0 → fleet_fault (table_of x) q.bytes ≡ 0
    usable_after fine good = go (decided (eqb b 10))
      where
        l : List ℕ
        l = p.held ++ (b ∷ [])

        after : Dec (event_fault x p.bytes p.used room l ≡ 0) → fleet_fault (table_of x) (bytes_after x room p l) ≡ 0
        after (yes e) =
            let a = passed_line x p.bytes p.used room l e in
            rw e (record_stays x fine p.bytes good l a.0 a.1)
        after (no d) = rw (ne_eqb (event_fault x p.bytes p.used room l) 0 d) good

        go : (eqb b 10 ≡ true) ⊎ (eqb b 10 ≡ false) → fleet_fault (table_of x) q.bytes ≡ 0
        go (inl e) = rw e (after (ℕ_discrete (event_fault x p.bytes p.used room l) 0))
        go (inr e) = rw e good

    -- five bytes are printed for each byte at most
    few_printed : (length q.out + 5 * length q.held ≤ length p.out + 5 * (length p.held + 1)) × (length q.held ≤ 16)
    few_printed = go (decided (eqb b 10))
      where
        l : List ℕ
        l = p.held ++ (b ∷ [])

        n : length l ≡ length p.held + 1
        n = length-append p.held (b ∷ [])

        go : (eqb b 10 ≡ true) ⊎ (eqb b 10 ≡ false) → (length q.out + 5 * length q.held ≤ length p.out + 5 * (length p.held + 1)) × (length q.held ≤ 16)
        go (inl e) =
            let k = n in
            let s = answer_short x p.used room l p.bytes (omega arith) in
            let m = length-append p.out (answer_line (answered x room p l)) in
            rw e (omega arith, omega arith)
        go (inr e) =
            let k = n in
            let s = short_take 16 l in
            rw e (omega (arith, s.0), s.1)

  pub usable_piece : slices_fault x ≡ 0 → (p : Script) (a : List ℕ) → fleet_fault (table_of x) p.bytes ≡ 0 → fleet_fault (table_of x) (after_piece x room p a).bytes ≡ 0
  unfolding after_piece
  usable_piece fine p [] good = good
  usable_piece fine p (b ∷ a) good = usable_piece fine (after_byte x room p b) a (usable_after p b fine good)

  -- five bytes for each byte of a piece
  pub piece_short : (p : Script) (a : List ℕ) → (let q = after_piece x room p a in length q.out + 5 * length q.held ≤ length p.out + 5 * (length p.held + length a))
  unfolding after_piece
  piece_short p [] = omega arith
  piece_short p (b ∷ a) =
      let f = few_printed p b in
      let i = piece_short (after_byte x room p b) a in
      omega (arith, f.0)

  -- at most 16 bytes are held after a piece
  pub held_few : (p : Script) (a : List ℕ) → length p.held ≤ 16 → length (after_piece x room p a).held ≤ 16
  unfolding after_piece
  held_few p [] l = l
  held_few p (b ∷ a) l = held_few (after_byte x room p b) a (few_printed p b).1

-- where the next byte is printed is counted
pub at_most : (q : Script) (from : ℕ) (r : Place) (rec line out₀ out : List ℕ) → Buffered q from r rec line out₀ out → r.at ≤ 9223372036854775808
at_most q from r rec line out₀ out b = let e = b.at in let m = capped_most (from + length q.out) in omega arith

-- the first n bytes of a copy
pub copied_part : (to to' from : List ℕ) (n : ℕ) → to' ≡ sets to 0 (take n from) → n ≤ length to → n ≤ length from → take n to' ≡ take n from
copied_part to to' from n e l k =
    let m = length-take-le n from k in
    ap (take n) (e ∙ sets_start to (take n from) (omega arith)) ∙ take_at (take n from) (drop (length (take n from)) to) n m

-- changes are kept as far as eight digits print them
pub changed_small : (x : Slices) (room : ℕ) (p : Script) (a : List ℕ) → p.changed < 4294967296 → (after_piece x room p a).changed < 4294967296
unfolding after_piece
changed_small x room p [] small = small
changed_small x room p (b ∷ a) small = changed_small x room (after_byte x room p b) a (go (decided (eqb b 10)))
  where
    go : (eqb b 10 ≡ true) ⊎ (eqb b 10 ≡ false) → (after_byte x room p b).changed < 4294967296
    go (inl e) = rw e (omega arith)
    go (inr e) = rw e small
