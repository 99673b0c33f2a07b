-- A log of packed entries is the log of the entries, place by place, with numbers of any value behind the used ones. By induction on the used entries.
use Prim.Native.Nat.{ℕ, zero, suc, ◌<◌}
use mathlib.Core.Path.{◌≡◌, refl, ap}
use mathlib.Core.Bool.{Bool, true, false}
use mathlib.Core.List.{List, [], ◌∷◌, ◌++◌, map}
use native.Mathlib.Omega.{arith}
use borrow.Author.Tests.{ltb-true, lt-ltb}
use lib.Dec.{ltb}
use lib.ListN.{length, get_or, length-append, length-map}
use Rattle.wake_log.specs.declared.Entry.{Entry}
use Rattle.wake_log.specs.declared.Answer.TheVariants.{Logged}
use Rattle.wake_log.specs.Log.{no_entry, slot_of}
use Rattle.packed_answers.specs.Packed.{packed_entry, packed_slot, packed_at, packed_after}

packed_entry_lem : (es : List Entry) (rest : List ℕ) (i : ℕ) → i < length es → get_or (map packed_entry es ++ rest) i 0 ≡ packed_entry (get_or es i no_entry)
packed_entry_lem [] rest i l = absurd (omega (arith, l))
packed_entry_lem (e ∷ es) rest zero l = refl
packed_entry_lem (e ∷ es) rest (suc i) l = packed_entry_lem es rest i (omega (arith, l))

-- reading
pub packed_at_lem : (es : List Entry) (rest : List ℕ) (i : ℕ) → packed_at (map packed_entry es ++ rest) (length es) i ≡ packed_slot (slot_of es (length es) i)
packed_at_lem es rest i = go (ltb i (length es)) refl
  where
    go : (b : Bool) → ltb i (length es) ≡ b
        → packed_at (map packed_entry es ++ rest) (length es) i ≡ packed_slot (slot_of es (length es) i)
    go true e =
        let less = ltb-true i (length es) e in
        let n = length-append (map packed_entry es) rest in
        let m = length-map es packed_entry in
        rw (e, lt-ltb i (length (map packed_entry es ++ rest)) (omega (arith, less, n, m))) (packed_entry_lem es rest i less)
    go false e = rw e

-- an accepted event's entry behind the used ones
pub packed_after_lem : (es : List Entry) (n : ℕ) (rest : List ℕ) (e : Entry) → packed_after (map packed_entry es ++ n ∷ rest) (length es) (Logged e) ≡ map packed_entry (es ++ (e ∷ [])) ++ rest
packed_after_lem [] n rest e = refl
packed_after_lem (x ∷ es) n rest e = ap (λ (ns : List ℕ). packed_entry x ∷ ns) (packed_after_lem es n rest e)
