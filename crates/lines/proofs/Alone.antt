-- A line read where it stands gives what its bytes alone give.
use Prim.Native.Nat.{ℕ, zero, suc, ◌+◌, ◌≤◌, ◌<◌}
use mathlib.Core.Path.{◌≡◌, refl, sym, ◌∙◌, ap}
use mathlib.Core.Bool.{cond}
use mathlib.Core.List.{List, [], ◌∷◌}
use native.Mathlib.Omega.{arith}
use native.Mathlib.Decide.{ℕ_discrete, dec_lt}
use lib.Dec.{eqb}
use lib.ListN.{length, get_or, drop, length-drop}
use lib.Seq.{take_all, get_or-take, get_or-drop, length-take-le}
use borrow.Author.Tests.{ne_eqb, lt-ltb, le-ltb}
use Rattle.std.specs.Prelude.{None, Result, Ok, Err}
use Rattle.range.specs.First.{or_else, first}
use Rattle.range.proofs.Faults.{first_same}
use Rattle.refusals.specs.Refusals.{number_of, reply_in}
use Rattle.refusals.specs.declared.Refusal.{Refusal}
use Rattle.refusals.proofs.Laws.{number_some}
use Rattle.hex_digits.specs.Digits.{number_at}
use Rattle.lines.specs.Line.{until_feed, line_at}
use Rattle.lines.specs.Digits.{digit_fault, line_fault}
use Rattle.lines.specs.Fields.{digits_of, numbers_at, line_reply, line_bytes, need_fields, triple_fields, frame_fields, SameAsAlone, LinesAlone, ReadsLine}
use Rattle.lines.proofs.Feeds.{until_le, until_at, until_before, until_is}
use Rattle.lines.proofs.Lines.{line_good, until_width, fault_of_missing}

-- Bytes that are the same give the same numbers.

number_same : (s t : List ℕ) (a b w : ℕ) → ((j : ℕ) → j < w → get_or s (a + j) 0 ≡ get_or t (b + j) 0) → number_at s a w ≡ number_at t b w
unfolding number_at
number_same s t a b zero h = refl
number_same s t a b (suc w) h = rw (number_same s t a b w (λ j l. h j (omega arith)), h w (omega arith))

numbers_same : (s t : List ℕ) (a b : ℕ) (ws : List ℕ) → ((j : ℕ) → j < digits_of ws → get_or s (a + j) 0 ≡ get_or t (b + j) 0) → numbers_at s a ws ≡ numbers_at t b ws
numbers_same s t a b [] h = refl
numbers_same s t a b (w ∷ ws) h =
    let later = numbers_same s t (a + w) (b + w) ws
    (λ j l. let e : a + w + j ≡ a + (w + j) = omega arith in let f : b + w + j ≡ b + (w + j) = omega arith in rw (e, f) (h (w + j) (omega arith))) in
    rw (number_same s t a b w (λ j l. h j (omega arith)), later)

missing_at : (s : List ℕ) (at : ℕ) → length s ≤ at + until_feed (drop at s) → (line_at s at).line ≡ None
unfolding line_at
missing_at s at l = rw (le-ltb (at + until_feed (drop at s)) (length s) l)

fault_here : (s : List ℕ) (at w end : ℕ) → until_feed (drop at s) ≡ end → at + end < length s → line_fault s at w ≡ or_else (cond (eqb end w) 0 1) (first (λ j. digit_fault (get_or s (at + j) 0)) w)
unfolding line_fault line_at
fault_here s at w end e l = rw (e, lt-ltb (at + end) (length s) l)

module _ (s : List ℕ) (at : ℕ) where
  abbrev end : ℕ
  end = until_feed (drop at s)

  abbrev bytes : List ℕ
  bytes = line_bytes s at

  byte : (j : ℕ) → j < end + 1 → get_or bytes j 0 ≡ get_or s (at + j) 0
  byte j l = get_or-take (end + 1) (drop at s) j 0 l ∙ get_or-drop at s j 0

  -- a line that a line feed closes

  closed_long : end < length (drop at s) → length bytes ≡ end + 1
  closed_long l = length-take-le (end + 1) (drop at s) (omega arith)

  closed_end : end < length (drop at s) → until_feed bytes ≡ end
  closed_end l =
      until_is bytes end (let n = closed_long l in omega arith) (get_or-take (end + 1) (drop at s) end 0 (omega arith) ∙ until_at (drop at s) l)
      (λ j k e. until_before (drop at s) j k (sym (get_or-take (end + 1) (drop at s) j 0 (omega arith)) ∙ e))

  -- one that ends with the text

  open_all : (end < length (drop at s) → ⊥) → bytes ≡ drop at s
  open_all n = let l = until_le (drop at s) in take_all (end + 1) (drop at s) (omega arith)

  missing : (end < length (drop at s) → ⊥) → ((line_at s at).line ≡ None) × ((line_at bytes 0).line ≡ None)
  missing n =
      let l = until_le (drop at s) in
      let k = length-drop at s in
      (missing_at s at (omega arith), missing_at bytes 0 (rw (open_all n) (omega arith)))

  -- a line feed stands at its end, or nowhere
  pub only_feed : length bytes ≤ until_feed bytes + 1
  only_feed = go (dec_lt end (length (drop at s)))
    where
      go : Dec (end < length (drop at s)) → length bytes ≤ until_feed bytes + 1
      go (yes l) = let n = closed_long l in let e = closed_end l in omega arith
      go (no n) = let l = until_le (drop at s) in rw (open_all n) (omega arith)

  pub fault_alone : (w : ℕ) → line_fault s at w ≡ line_fault bytes 0 w
  fault_alone w = go (dec_lt end (length (drop at s)))
    where
      digits : end ≡ w → first (λ j. digit_fault (get_or s (at + j) 0)) w ≡ first (λ j. digit_fault (get_or bytes (0 + j) 0)) w
      digits e =
          first_same (λ j. digit_fault (get_or s (at + j) 0)) (λ j. digit_fault (get_or bytes (0 + j) 0)) w
          (λ j l. let z : 0 + j ≡ j = omega arith in rw (z, byte j (omega arith)))

      same : Dec (end ≡ w) → line_fault s at w ≡ or_else (cond (eqb end w) 0 1) (first (λ j. digit_fault (get_or s (at + j) 0)) w) → line_fault bytes 0 w ≡ or_else (cond (eqb end w) 0 1) (first (λ j. digit_fault (get_or bytes (0 + j) 0)) w)
          → line_fault s at w ≡ line_fault bytes 0 w
      same (yes e) p q = p ∙ ap (λ (k : ℕ). or_else (cond (eqb end w) 0 1) k) (digits e) ∙ sym q
      same (no n) p q = rw (p, q, ne_eqb end w n)

      go : Dec (end < length (drop at s)) → line_fault s at w ≡ line_fault bytes 0 w
      go (no n) = let m = missing n in sym (fault_of_missing s at w m.0) ∙ fault_of_missing bytes 0 w m.1
      go (yes l) =
          let k = length-drop at s in
          let long = closed_long l in
          same (ℕ_discrete end w) (fault_here s at w end refl (omega arith)) (fault_here bytes 0 w end (closed_end l) (omega arith))

  alone : (ws : List ℕ) → line_reply ws s at ≡ line_reply ws bytes 0
  alone ws = go (ℕ_discrete (line_fault s at (digits_of ws)) 0)
    where
      go : Dec (line_fault s at (digits_of ws) ≡ 0) → line_reply ws s at ≡ line_reply ws bytes 0
      go (yes e) =
          let g = until_width s at (digits_of ws) (line_good s at (digits_of ws) e) in
          let n = numbers_same s bytes at 0 ws (λ j l. let z : 0 + j ≡ j = omega arith in rw z (sym (byte j (omega arith)))) in
          rw (← fault_alone (digits_of ws), n)
      go (no n) = rw (← fault_alone (digits_of ws), ne_eqb (line_fault s at (digits_of ws)) 0 n)

-- lines of any fields
pub same_as_alone : (ws : List ℕ) → SameAsAlone ws
same_as_alone ws s at = alone s at ws

-- document 02, No. 5
pub lines_alone : LinesAlone
lines_alone = record { need = same_as_alone need_fields; header_and_link = same_as_alone triple_fields; frame = same_as_alone frame_fields }

-- what was read of a line is what it gives
pub reads_reply : {A : Type 0} (numbers : A → List ℕ) (ws s : List ℕ) (at : ℕ) (r : Result A Refusal) → ReadsLine numbers ws s at r → reply_in numbers r ≡ line_reply ws s at
reads_reply numbers ws s at (Ok x) r = rw (r.1, ← r.0)
reads_reply numbers ws s at (Err e) r = rw (← r.0, ne_eqb (number_of e) 0 (number_some e))
