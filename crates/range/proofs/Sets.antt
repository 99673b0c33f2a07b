-- Runs of stores, as the writers make them.
use Prim.Native.Nat.{ℕ, suc, ◌+◌, ◌*◌, ◌≤◌, ◌<◌}
use mathlib.Core.Path.{◌≡◌, refl, sym, ◌∙◌}
use mathlib.Core.List.{List, [], ◌∷◌, ◌++◌}
use native.Mathlib.Nat.{add-zero}
use native.Mathlib.Numerals.{add-one}
use native.Mathlib.Omega.{arith}
use lib.ListN.{length, get_or, take, drop, set}
use lib.Seq.{sets, sets-eq, take-suc, length-take-le}
use Rattle.range.specs.Lists.{joined}
use Rattle.range.proofs.Lists.{joined_next, length_joined}

pub sets_append : (xs ys l : List ℕ) (at : ℕ) → sets l at (xs ++ ys) ≡ sets (sets l at xs) (at + length xs) ys
sets_append [] ys l at = rw (add-zero at)
sets_append (x ∷ xs) ys l at =
    sets_append xs ys (set l at x) (suc at)
    ∙ (let e : suc at + length xs ≡ at + suc (length xs) = omega arith in rw e)

-- m is l with a run of stores, and r is m with the run behind it
pub sets_then : (l m r : List ℕ) (at next : ℕ) (xs ys : List ℕ) → m ≡ sets l at xs → next ≡ at + length xs → r ≡ sets m next ys → r ≡ sets l at (xs ++ ys)
sets_then l m r at next xs ys e n f = f ∙ rw (e, n) (sym (sets_append xs ys l at))

-- a list stored one by one
pub sets_next : (l m xs : List ℕ) (at i : ℕ) → i < length xs → m ≡ sets l at (take i xs) → set m (at + i) (get_or xs i 0) ≡ sets l at (take (i + 1) xs)
sets_next l m xs at i within e =
    let k = length-take-le i xs (omega arith) in
    rw (add-one i, take-suc xs i 0 within) (sets_then l m _ at (at + i) (take i xs) (get_or xs i 0 ∷ []) e (omega arith) refl)

pub sets_start : (l xs : List ℕ) → length xs ≤ length l → sets l 0 xs ≡ xs ++ drop (length xs) l
sets_start l xs fits = sets-eq xs l 0 (omega arith) ∙ (let e : 0 + length xs ≡ length xs = omega arith in rw e)

pub joined_then : (f : ℕ → List ℕ) (k n : ℕ) (l m r : List ℕ) (at : ℕ) → ((i : ℕ) → length (f i) ≡ k) → m ≡ sets l at (joined f n) → r ≡ sets m (at + k * n) (f n) → r ≡ sets l at (joined f (n + 1))
joined_then f k n l m r at h e g =
    rw (joined_next f n) (sets_then l m r at (at + k * n) (joined f n) (f n) e (let j = length_joined f k n h in omega arith) g)
