-- A buffer whose bytes from an offset on are read anew.
use Rattle.std.proofs.Common.{◌≡◌, ℕ, ◌+◌, ◌≤◌, List, ◌++◌, length, take, drop, slice_range, sym, ap, ◌∙◌, arith, le_refl, rules, ◌-◌, length-take-le, length-drop}
use Rattle.std.proofs.Math.Seq.{take-append-add}
use Rattle.std.proofs.lemmas.List.{take-append-le, drop-append-le}
use Rattle.std.proofs.lemmas.Slice.{between_is, take-put_mid_below}
use borrow.Rule.Slice.PartMut.{put_mid, post_of}

-- n bytes more stand behind those that were filled
pub filled_more : (from at k n : ℕ) (xs ys : List ℕ) → from ≤ at → at ≤ length xs → n ≤ length ys
    → slice_range (put_mid at k xs ys) from (at + n) ≡ slice_range xs from at ++ take n ys
filled_more from at k n xs ys low within fits =
    let long : length (take at xs) ≡ at = length-take-le at xs within in
    let front : take (at + n) (put_mid at k xs ys) ≡ take at xs ++ take n ys = ap (λ m. take (m + n) (put_mid at k xs ys)) (sym long) ∙ take-append-add (take at xs) (ys ++ post_of at k xs) n ∙ ap (λ l. take at xs ++ l) (take-append-le n ys (post_of at k xs) fits) in
    between_is (put_mid at k xs ys) from (at + n) ∙ ap (drop from) front ∙ drop-append-le from (take at xs) (take n ys) (omega (arith, long)) ∙ ap (λ l. l ++ take n ys) (sym (between_is xs from at))

-- those that were filled stay
pub filled_kept : (from at k : ℕ) (xs ys : List ℕ) → at ≤ length xs → slice_range (put_mid at k xs ys) from at ≡ slice_range xs from at
filled_kept from at k xs ys within =
    between_is (put_mid at k xs ys) from at ∙ ap (drop from) (take-put_mid_below at k xs ys at (le_refl at) within) ∙ sym (between_is xs from at)

pub part_length : (at : ℕ) (xs : List ℕ) → at ≤ length xs → length (take (length xs - at) (drop at xs)) ≡ length xs - at
part_length at xs l = search (rules, length-take-le, length-drop)
