-- Lines that are refused by 1, and eight digits.
use Prim.Native.Nat.{ℕ, zero, suc, ◌+◌, ◌*◌, ◌/◌, ◌%◌, ◌≤◌, ◌<◌}
use mathlib.Core.Path.{◌≡◌, refl, sym, ◌∙◌, ap}
use mathlib.Core.Logic.{◌⊎◌, inl, inr}
use mathlib.Core.Bool.{true, false, cond}
use mathlib.Core.List.{List, [], ◌∷◌, ◌++◌}
use native.Mathlib.Omega.{arith}
use native.Mathlib.Decide.{ℕ_discrete, dec_le}
use lib.Dec.{eqb}
use lib.ListN.{length, take}
use lib.Seq.{take-suc, take_all, take-append-le, take-take, length-take-le}
use borrow.Author.Tests.{ne_eqb, eq-eqb, le-ltb}
use Rattle.range.proofs.Bools.{decided}
use Rattle.hex_digits.specs.Digits.{digits}
use Rattle.lines.specs.Line.{until_feed, line_at}
use Rattle.std.specs.Prelude.{None}
use Rattle.lines.proofs.Feeds.{until_at}
use Rattle.lines.proofs.Lines.{fault_of_missing}
use Rattle.probe_frame.specs.Frame.{frame_fault}

-- 16 ^ w times q
abbrev shifted : ℕ → ℕ → ℕ
shifted zero q = q
shifted (suc w) q = 16 * shifted w q

-- w digits write a number modulo 16 ^ w
lowest_digits : (w q r : ℕ) → digits w (shifted w q + r) ≡ digits w r
unfolding digits
lowest_digits zero q r = refl
lowest_digits (suc w) q r =
    let z = shifted w q in
    let a : (16 * z + r) / 16 ≡ z + r / 16 = omega arith in
    let b : (16 * z + r) % 16 ≡ r % 16 = omega arith in
    rw (a, b, lowest_digits w q (r / 16))

eight_digits : (n : ℕ) → digits 8 (n % 4294967296) ≡ digits 8 n
eight_digits n =
    let e : shifted 8 (n / 4294967296) + n % 4294967296 ≡ n = omega arith in
    sym (lowest_digits 8 (n / 4294967296) (n % 4294967296)) ∙ ap (digits 8) e

pub same_digits : (m n : ℕ) → m % 4294967296 ≡ n % 4294967296 → digits 8 m ≡ digits 8 n
same_digits m n e = sym (eight_digits m) ∙ ap (digits 8) e ∙ eight_digits n

-- "not of its length"
pub wrong_length : (l : List ℕ) → (length l ≡ 15 → ⊥) → frame_fault l ≡ 1
unfolding frame_fault
wrong_length l n = rw (ne_eqb (length l) 15 n)

-- Bytes without a line feed.
abbrev pub Unclosed : List ℕ → Type 0
Unclosed h = until_feed h ≡ length h

pub unclosed_none : Unclosed []
unfolding until_feed
unclosed_none = refl

pub unclosed_next : (h : List ℕ) (b : ℕ) → Unclosed h → eqb b 10 ≡ false → Unclosed (h ++ (b ∷ []))
unfolding until_feed
unclosed_next [] b u e = rw e
unclosed_next (a ∷ h) b u e = go (decided (eqb a 10)) u (λ v. unclosed_next h b v e)
  where
    go : (eqb a 10 ≡ true) ⊎ (eqb a 10 ≡ false) → cond (eqb a 10) 0 (suc (until_feed h)) ≡ suc (length h)
        → (Unclosed h → Unclosed (h ++ (b ∷ []))) → cond (eqb a 10) 0 (suc (until_feed (h ++ (b ∷ [])))) ≡ suc (length (h ++ (b ∷ [])))
    go (inl f) v next = absurd (let w = rw f at v in omega arith)
    go (inr f) v next = let w = rw f at v in rw f (ap suc (next (omega arith)))

pub unclosed_refused : (h : List ℕ) → Unclosed h → frame_fault h ≡ 1
unfolding line_at frame_fault
unclosed_refused h u = go (ℕ_discrete (length h) 15)
  where
    missing : (line_at h 0).line ≡ None
    missing = let e : 0 + until_feed h ≡ length h = omega arith in rw (le-ltb (0 + until_feed h) (length h) (omega arith))

    go : Dec (length h ≡ 15) → frame_fault h ≡ 1
    go (yes e) = rw (eq-eqb (length h) 15 e, ← fault_of_missing h 0 14 missing)
    go (no n) = wrong_length h n

-- the bytes behind the first of an unclosed list
pub unclosed_rest : (b : ℕ) (l : List ℕ) → Unclosed (b ∷ l) → (eqb b 10 ≡ false) × Unclosed l
unfolding until_feed
unclosed_rest b l u = go (decided (eqb b 10)) u
  where
    go : (eqb b 10 ≡ true) ⊎ (eqb b 10 ≡ false) → cond (eqb b 10) 0 (suc (until_feed l)) ≡ suc (length l) → (eqb b 10 ≡ false) × Unclosed l
    go (inl f) v = absurd (let w = rw f at v in omega arith)
    go (inr f) v = let w = rw f at v in (f, omega arith)

-- the bytes before the first line feed
pub unclosed_start : (s : List ℕ) → Unclosed (take (until_feed s) s)
unfolding until_feed
unclosed_start [] = refl
unclosed_start (b ∷ s) = go (decided (eqb b 10)) (unclosed_start s)
  where
    go : (eqb b 10 ≡ true) ⊎ (eqb b 10 ≡ false) → Unclosed (take (until_feed s) s) → Unclosed (take (cond (eqb b 10) 0 (suc (until_feed s))) (b ∷ s))
    go (inl f) u = rw f
    go (inr f) u = rw f (rw f (ap suc u))

pub closed_start : (s : List ℕ) → until_feed s < length s → take (suc (until_feed s)) s ≡ take (until_feed s) s ++ (10 ∷ [])
closed_start s l = take-suc s (until_feed s) 0 l ∙ ap (λ (b : ℕ). take (until_feed s) s ++ (b ∷ [])) (until_at s l)

-- at most as many, and at most 16
pub short_take : (n : ℕ) (h : List ℕ) → (length (take n h) ≤ length h) × (length (take n h) ≤ n)
short_take n h = go (dec_le (length h) n)
  where
    go : Dec (length h ≤ n) → (length (take n h) ≤ length h) × (length (take n h) ≤ n)
    go (yes l) = rw (take_all n h l) (omega arith, l)
    go (no d) = let k = length-take-le n h (omega arith) in (omega arith, omega arith)

-- 16 bytes of a longer line do as the line
pub take_again : (h l : List ℕ) → take 16 (take 16 h ++ l) ≡ take 16 (h ++ l)
take_again h l = go (dec_le (length h) 16)
  where
    go : Dec (length h ≤ 16) → take 16 (take 16 h ++ l) ≡ take 16 (h ++ l)
    go (yes k) = rw (take_all 16 h k)
    go (no n) =
        let k = length-take-le 16 h (omega arith) in
        take-append-le 16 (take 16 h) l (omega arith) ∙ take-take 16 16 h (omega arith) ∙ sym (take-append-le 16 h l (omega arith))

pub short_or_long : (h : List ℕ) → (take 16 h ≡ h) ⊎ ((frame_fault (take 16 h) ≡ 1) × (frame_fault h ≡ 1))
short_or_long h = go (dec_le (length h) 16)
  where
    go : Dec (length h ≤ 16) → (take 16 h ≡ h) ⊎ ((frame_fault (take 16 h) ≡ 1) × (frame_fault h ≡ 1))
    go (yes l) = inl (take_all 16 h l)
    go (no n) = let l = length-take-le 16 h (omega arith) in inr (wrong_length (take 16 h) (λ e. omega arith), wrong_length h (λ e. omega arith))
