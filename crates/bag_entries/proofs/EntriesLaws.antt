-- Laws of a bag's entries, as the loops meet them.
use Prim.Native.Nat.{ℕ, zero, suc, ◌+◌, ◌≤◌, ◌<◌}
use mathlib.Core.Path.{◌≡◌, refl, ◌∙◌, ap}
use mathlib.Core.List.{List, [], ◌∷◌, ◌++◌, map}
use native.Mathlib.Nat.{add-zero, le_of_suc-le-suc, not-suc-le-zero}
use native.Mathlib.Numerals.{add-one}
use native.Mathlib.Omega.{arith}
use lib.ListN.{length, get_or, take, drop, set, replicate, length-map, length-replicate, get_or-map}
use lib.Seq.{sets, sets-eq, take-suc, length-take-le, take-append_seam}
use Rattle.std.proofs.lemmas.List.{take-map}
use mir.Val.{Val}
use denote.Laws.{Is}
use denote.Struct.Laws as LL
use Rattle.wake_log.specs.declared.Entry.{Entry}
use Rattle.wake_log.specs.Log.{no_entry}
use Rattle.bag_entries.specs.declared.Entries.{Entries}
use Rattle.bag_entries.specs.Entries.{entries_of}
use Rattle.bag_entries.specs.contracts.Entries as B
use Rattle.bag_entries.proofs.Entries.TheLaws as B'

module _ {A : Type 0} where
  -- within a list nothing is read in place of an entry
  pub any_default : (l : List A) (k : ℕ) (d e : A) → k < length l → get_or l k d ≡ get_or l k e
  any_default [] k d e h = absurd (not-suc-le-zero h)
  any_default (x ∷ xs) zero d e h = refl
  any_default (x ∷ xs) (suc k) d e h = any_default xs k d e (le_of_suc-le-suc h)

  sets_append : (xs ys l : List A) (at : ℕ) → sets l at (xs ++ ys) ≡ sets (sets l at xs) (at + length xs) ys
  sets_append [] ys l at = rw (add-zero at)
  sets_append (x ∷ xs) ys l at =
      sets_append xs ys (set l at x) (suc at)
      ∙ (let e : suc at + length xs ≡ at + suc (length xs) = omega arith in rw e)

  -- a turn of a loop that stores a list: one more of its entries
  pub sets_next : (l xs : List A) (at k : ℕ) (d : A) → k < length xs → set (sets l at (take k xs)) (at + k) (get_or xs k d) ≡ sets l at (take (k + 1) xs)
  sets_next l xs at k d within =
      let n = length-take-le k xs (omega arith) in
      rw (add-one k, take-suc xs k d within, sets_append (take k xs) (get_or xs k d ∷ []) l at, n) refl

  -- stored from the start on, a list stands in the first places
  pub stored_first : (xs l : List A) → length xs ≤ length l → take (length xs) (sets l 0 xs) ≡ xs
  stored_first xs l room = ap (take (length xs)) (sets-eq xs l 0 (omega (arith, room))) ∙ take-append_seam xs (drop (0 + length xs) l)

-- the same, where of each entry f is stored
pub stored_next : {A B : Type 0} (f : A → B) (l : List B) (xs : List A) (at k : ℕ) (d : A) → k < length xs
    → set (sets l at (map f (take k xs))) (at + k) (f (get_or xs k d)) ≡ sets l at (map f (take (k + 1) xs))
stored_next f l xs at k d within =
    let n = length-map xs f in
    rw (← take-map f k xs, ← take-map f (k + 1) xs, ← get_or-map f xs k d) (sets_next l (map f xs) at k (f d) (omega (arith, within, n)))

-- what a bag's entries hold in the first places
pub of_entries : (es : List Entry) → length es ≤ 64 → take (entries_of es).count (entries_of es).entries ≡ es
of_entries es few = let room = length-replicate 64 no_entry in stored_first es (replicate 64 no_entry) (omega (arith, few, room))

-- there are 64 places
pub places : (all : Entries) (vs : List Val) → Is B.the_row all vs → length all.entries ≡ 64
places all vs is = (LL.owed B.the_type B'.the_laws all vs is).1.0.1.0.1
