-- Parts of a list: n entries from an offset on. What is joined of parts, and what a part that was joined is made of.
use Prim.Native.Nat.{ℕ, zero, suc, ◌+◌, ◌*◌, ◌<◌}
use mathlib.Core.Path.{◌≡◌, refl, sym, ◌∙◌, ap}
use mathlib.Core.List.{List, ◌++◌}
use native.Mathlib.Omega.{arith}
use native.Mathlib.Decide.{dec_lt}
use lib.ListN.{length, get_or, take, drop}
use lib.Seq.{take-add, take-take, drop-drop, take_at, drop_at, get_or-take, get_or-drop}
use Rattle.range.specs.Lists.{joined}
use Rattle.range.proofs.Lists.{length_joined}

abbrev pub part : List ℕ → ℕ → ℕ → List ℕ
part s at n = take n (drop at s)

pub part_at : (s xs : List ℕ) (at n j : ℕ) → part s at n ≡ xs → j < n → get_or s (at + j) 0 ≡ get_or xs j 0
part_at s xs at n j e l = rw (← e, get_or-take n (drop at s) j 0 l, get_or-drop at s j 0)

pub part_append : (s xs ys : List ℕ) (at n m : ℕ) → xs ≡ part s at n → ys ≡ part s (at + n) m → xs ++ ys ≡ part s at (n + m)
part_append s xs ys at n m e f = rw (e, f, take-add n m (drop at s), drop-drop n at s)

pub part_split : (s xs ys : List ℕ) (at n m : ℕ) → length xs ≡ n → part s at (n + m) ≡ xs ++ ys → (part s at n ≡ xs) × (part s (at + n) m ≡ ys)
part_split s xs ys at n m l e = (here, sym (drop_at xs (part s (at + n) m) n l) ∙ ap (drop n) rest ∙ drop_at xs ys n l)
  where
    here : part s at n ≡ xs
    here = sym (take-take n (n + m) (drop at s) (omega arith)) ∙ ap (take n) e ∙ take_at xs ys n l

    rest : xs ++ part s (at + n) m ≡ xs ++ ys
    rest = part_append s xs (part s (at + n) m) at n m (sym here) refl ∙ e

-- Lists of one length w, one after the other.
module _ (f : ℕ → List ℕ) (w : ℕ) where
  pub part_joined : (s : List ℕ) (at n : ℕ) → ((i : ℕ) → i < n → f i ≡ part s (at + w * i) w) → joined f n ≡ part s at (w * n)
  unfolding joined
  part_joined s at zero h = let e : w * 0 ≡ 0 = omega arith in rw e
  part_joined s at (suc n) h =
      let e : w * suc n ≡ w * n + w = omega arith in
      rw e (part_append s (joined f n) (f n) at (w * n) w (part_joined s at n (λ i l. h i (omega arith))) (h n (omega arith)))

  pub joined_split : (s : List ℕ) (at n i : ℕ) → ((i : ℕ) → length (f i) ≡ w) → part s at (w * n) ≡ joined f n → i < n → part s (at + w * i) w ≡ f i
  unfolding joined
  joined_split s at zero i size e l = absurd (omega arith)
  joined_split s at (suc n) i size e l = go (joined_split s at n i size) (dec_lt i n)
    where
      both : (part s at (w * n) ≡ joined f n) × (part s (at + w * n) w ≡ f n)
      both =
          let k : w * suc n ≡ w * n + w = omega arith in
          part_split s (joined f n) (f n) at (w * n) w (length_joined f w n size) (rw k at e)

      go : (part s at (w * n) ≡ joined f n → i < n → part s (at + w * i) w ≡ f i) → Dec (i < n) → part s (at + w * i) w ≡ f i
      go before (yes k) = before both.0 k
      go before (no k) = let z : i ≡ n = omega arith in rw z both.1
