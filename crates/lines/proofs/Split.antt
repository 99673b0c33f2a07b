-- A text's lines, one after the other, as they are found: the first line of what is left, and the lines behind it.
use Prim.Native.Nat.{ℕ, suc, ◌+◌, ◌-◌, ◌≤◌, ◌<◌}
use mathlib.Core.Path.{◌≡◌, refl, sym, ◌∙◌, ap}
use mathlib.Core.Bool.{Bool, true, false, cond}
use mathlib.Core.List.{List, [], ◌∷◌, ◌++◌, append-nil, append_assoc}
use native.Mathlib.Omega.{arith}
use native.Mathlib.Decide.{dec_lt}
use native.Mathlib.Numerals.{add-one}
use lib.Dec.{eqb}
use lib.ListN.{length, take, drop, length-append, length-drop, drop_of_length-le}
use lib.Seq.{drop-drop, take_all}
use borrow.Author.Tests.{lt-ltb, le-ltb, ne_eqb}
use Rattle.lines.specs.Line.{until_feed, line_at, lines_from}
use Rattle.lines.specs.Fields.{line_bytes}
use Rattle.lines.proofs.Feeds.{until_le}

-- with the bytes held in front
first_line : (held s : List ℕ) → 0 < length held + length s → lines_from held s ≡ (held ++ take (suc (until_feed s)) s) ∷ lines_from [] (drop (suc (until_feed s)) s)
unfolding lines_from until_feed
first_line held [] some = rw (ne_eqb (length held) 0 (λ z. omega arith), append-nil held)
first_line held (b ∷ bs) some = go (eqb b 10) (first_line (held ++ (b ∷ [])) bs (simp length-append (omega arith)))
  where
    more : (held ++ (b ∷ [])) ++ take (suc (until_feed bs)) bs ≡ held ++ (b ∷ take (suc (until_feed bs)) bs)
    more = append_assoc held (b ∷ []) (take (suc (until_feed bs)) bs)

    go : (t : Bool) → lines_from (held ++ (b ∷ [])) bs ≡ ((held ++ (b ∷ [])) ++ take (suc (until_feed bs)) bs) ∷ lines_from [] (drop (suc (until_feed bs)) bs)
        → cond t ((held ++ (b ∷ [])) ∷ lines_from [] bs) (lines_from (held ++ (b ∷ [])) bs)
        ≡ (held ++ take (suc (cond t 0 (suc (until_feed bs)))) (b ∷ bs)) ∷ lines_from [] (drop (suc (cond t 0 (suc (until_feed bs)))) (b ∷ bs))
    go true h = refl
    go false h = h ∙ ap (λ (l : List ℕ). l ∷ lines_from [] (drop (suc (until_feed bs)) bs)) more

module _ (s : List ℕ) (at : ℕ) (l : at < length s) where
  abbrev rest : List ℕ
  rest = drop at s

  -- the bytes before its line feed
  abbrev u : ℕ
  u = until_feed rest

  length_rest : length rest ≡ length s - at
  length_rest = length-drop at s

  found : at + u < length s → (line_at s at).next ≡ at + u + 1
  unfolding line_at
  found k = rw (lt-ltb (at + u) (length s) k)

  missing : length s ≤ at + u → (line_at s at).next ≡ length s
  unfolding line_at
  missing k = rw (le-ltb (at + u) (length s) k)

  -- a line takes at least a byte, and ends within the text
  pub next_after : (at < (line_at s at).next) × ((line_at s at).next ≤ length s)
  next_after = go (dec_lt (at + u) (length s))
    where
      go : Dec (at + u < length s) → (at < (line_at s at).next) × ((line_at s at).next ≤ length s)
      go (yes k) = rw (found k) (omega arith, omega arith)
      go (no k) = rw (missing (omega arith)) (omega arith, omega arith)

  -- its bytes alone are those up to the next line
  pub line_part : take ((line_at s at).next - at) rest ≡ line_bytes s at
  line_part = go (dec_lt (at + u) (length s))
    where
      go : Dec (at + u < length s) → take ((line_at s at).next - at) rest ≡ line_bytes s at
      go (yes k) = let n : (line_at s at).next - at ≡ u + 1 = rw (found k) (omega arith) in rw n
      go (no k) =
          let le = until_le rest in
          let n : (line_at s at).next - at ≡ length rest = rw (missing (omega arith), length_rest) in
          let m = length_rest in
          rw n (take_all (length rest) rest (omega arith) ∙ sym (take_all (u + 1) rest (omega arith)))

  behind : drop (suc u) rest ≡ drop (line_at s at).next s
  behind = go (dec_lt (at + u) (length s))
    where
      go : Dec (at + u < length s) → drop (suc u) rest ≡ drop (line_at s at).next s
      go (yes k) = let n : at + suc u ≡ (line_at s at).next = rw (found k) (omega arith) in drop-drop (suc u) at s ∙ ap (λ (j : ℕ). drop j s) n
      go (no k) =
          let m = length_rest in
          rw (missing (omega arith)) (drop_of_length-le rest {i = suc u} (omega arith) ∙ sym (drop_of_length-le s {i = length s} (omega arith)))

  -- the lines from an offset on are the line there and those from the next on
  pub next_line : lines_from [] rest ≡ line_bytes s at ∷ lines_from [] (drop (line_at s at).next s)
  next_line =
      let m = length_rest in
      first_line [] rest (omega arith) ∙ rw (behind, add-one u)
