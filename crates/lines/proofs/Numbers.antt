-- Lines of numbers, four digits each: the bytes that a line has, and the numbers that a line says.
use Prim.Native.Nat.{ℕ, suc, ◌+◌, ◌-◌, ◌*◌, ◌<◌}
use mathlib.Core.Path.{◌≡◌, refl, sym, ◌∙◌}
use mathlib.Core.List.{List, [], ◌∷◌, ◌++◌}
use native.Mathlib.Omega.{arith}
use native.Mathlib.Decide.{dec_lt}
use lib.ListN.{length, get_or, drop, length-append, length-drop}
use lib.Seq.{take-suc, get_or-drop}
use Rattle.hex_digits.specs.Digits.{value_of, number_at, digits}
use Rattle.hex_digits.proofs.Laws.{number_fits, length_digits, digits_are, number_digits, digits_number}
use Rattle.lines.proofs.Lines.{GoodLine}
use Rattle.lines.proofs.Parts.{part, part_at, part_append, part_split}

-- the line of some numbers
abbrev pub line_of : List ℕ → List ℕ
line_of [] = 10 ∷ []
line_of (v ∷ vs) = digits 4 v ++ line_of vs

-- the numbers fit four digits
abbrev pub Small : List ℕ → Type 0
Small [] = Unit
Small (v ∷ vs) = (v < 65536) × Small vs

-- the numbers are read from an offset on
abbrev pub ReadsNumbers : List ℕ → ℕ → List ℕ → Type 0
ReadsNumbers s at [] = Unit
ReadsNumbers s at (v ∷ vs) = (number_at s at 4 ≡ v) × ReadsNumbers s (at + 4) vs

pub length_line : (vs : List ℕ) → length (line_of vs) ≡ 4 * length vs + 1
length_line [] = refl
length_line (v ∷ vs) = length-append (digits 4 v) (line_of vs) ∙ (let a = length_digits 4 v in let b = length_line vs in omega arith)

-- a line without its first digits, and with them

good_tail : (s : List ℕ) (at w k : ℕ) → GoodLine s at (w + k) → GoodLine s (at + w) k
good_tail s at w k g =
    record {
      within = omega arith;
      feed = let e : at + w + k ≡ at + (w + k) = omega arith in rw e g.feed;
      digits = λ j l. let e : at + w + j ≡ at + (w + j) = omega arith in rw e (g.digits (w + j) (omega arith));
    }

pub good_cons : (s : List ℕ) (at w k : ℕ) → ((j : ℕ) → j < w → value_of (get_or s (at + j) 0) < 16) → GoodLine s (at + w) k → GoodLine s at (w + k)
good_cons s at w k h g =
    record {
      within = omega arith;
      feed = let e : at + (w + k) ≡ at + w + k = omega arith in rw e g.feed;
      digits = λ j l. go j l (dec_lt j w);
    }
  where
    go : (j : ℕ) → j < w + k → Dec (j < w) → value_of (get_or s (at + j) 0) < 16
    go j l (yes a) = h j a
    go j l (no a) = let e : at + j ≡ at + w + (j - w) = omega arith in rw e (g.digits (j - w) (omega arith))

four : (n : ℕ) → 4 * suc n ≡ 4 + 4 * n
four n = omega arith

-- the numbers of a good line fit four digits
pub reads_small : (s : List ℕ) (at : ℕ) (vs : List ℕ) → GoodLine s at (4 * length vs) → ReadsNumbers s at vs → Small vs
reads_small s at [] g r = tt
reads_small s at (v ∷ vs) g r =
    let a = number_fits s at 4 (λ j l. g.digits j (omega arith)) in
    (omega (arith, r.0), reads_small s (at + 4) vs (good_tail s at 4 (4 * length vs) (rw (four (length vs)) at g)) r.1)

-- the line of the numbers that a good line says is that line
pub reads_line : (s : List ℕ) (at : ℕ) (vs : List ℕ) → GoodLine s at (4 * length vs) → ReadsNumbers s at vs → line_of vs ≡ part s at (4 * length vs + 1)
reads_line s at [] g r =
    let here : 0 < length (drop at s) = simp length-drop (omega arith) in
    sym (take-suc (drop at s) 0 0 here ∙ rw (get_or-drop at s 0 0, g.feed))
reads_line s at (v ∷ vs) g r =
    let e : 4 * suc (length vs) + 1 ≡ 4 + (4 * length vs + 1) = omega arith in
    let first = digits_number s at 4 (omega arith) (λ j l. g.digits j (omega arith)) in
    rw e (part_append s (digits 4 v) (line_of vs) at 4 (4 * length vs + 1) (rw r.0 at first)
    (reads_line s (at + 4) vs (good_tail s at 4 (4 * length vs) (rw (four (length vs)) at g)) r.1))

-- where the line of some numbers stands, it is good, and these are read
pub line_reads : (s : List ℕ) (at : ℕ) (vs : List ℕ) → Small vs → at + 4 * length vs < length s → part s at (4 * length vs + 1) ≡ line_of vs → GoodLine s at (4 * length vs) × ReadsNumbers s at vs
line_reads s at [] small within e = (record { within = within; feed = part_at s (10 ∷ []) at 1 0 e (omega arith); digits = λ j l. absurd (omega arith) }, tt)
line_reads s at (v ∷ vs) small within e =
    let k : 4 * suc (length vs) + 1 ≡ 4 + (4 * length vs + 1) = omega arith in
    let p = part_split s (digits 4 v) (line_of vs) at 4 (4 * length vs + 1) (length_digits 4 v) (rw k at e) in
    let rest = line_reads s (at + 4) vs small.1 (omega arith) p.1 in
    let byte : (j : ℕ) → j < 4 → get_or s (at + j) 0 ≡ get_or (digits 4 v) j 0 = λ j l. part_at s (digits 4 v) at 4 j p.0 l in (
      rw (four (length vs)) (good_cons s at 4 (4 * length vs) (λ j l. rw (byte j l) (digits_are 4 v j l)) rest.0),
      (number_digits s at 4 v small.0 byte, rest.1),
    )
