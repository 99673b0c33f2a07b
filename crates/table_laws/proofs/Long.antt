-- A text is judged by the bytes of its table, and by whether more follow.
use Prim.Native.Nat.{ℕ, zero, suc, ◌+◌, ◌-◌, ◌≤◌, ◌<◌}
use mathlib.Core.Path.{◌≡◌, refl, sym, ◌∙◌, ap}
use mathlib.Core.Bool.{Bool, true, false, cond, and-false}
use mathlib.Core.List.{List, [], ◌∷◌}
use native.Mathlib.Omega.{arith}
use native.Mathlib.Decide.{ℕ_discrete, dec_le}
use lib.Dec.{eqb}
use lib.ListN.{length, get_or, take, drop, length-drop}
use lib.Seq.{get_or-drop, get_or-take, length-take-le, take_all, drop-cons}
use borrow.Author.Tests.{lt-ltb, eqb-true, eq-eqb, ne_eqb}
use Rattle.range.specs.First.{or_else, first}
use Rattle.range.proofs.Bools.{unless_none}
use Rattle.range.proofs.Faults.{or_same, or_some, first_same}
use Rattle.hex_digits.specs.Digits.{number_at}
use Rattle.lines.specs.Line.{until_feed, line_at}
use Rattle.lines.specs.Digits.{length_fault, digit_fault, line_fault}
use Rattle.lines.specs.declared.Line.{Line}
use Rattle.std.specs.Prelude.{Option, Some, None}
use Rattle.lines.proofs.Feeds.{until_at, until_before, until_is}
use Rattle.lines.proofs.Lines.{there}
use Rattle.table.specs.Legal.{link_fault}
use Rattle.table.specs.Text.{of_text, need_start, link_start, begins, closing_line, closing_fault, need_line_fault, link_line_fault, head_fault, body_fault, text_fault, text_end}
use Rattle.table_text.proofs.Good.{head_good}
use Rattle.table.specs.Same.{Same}

-- both texts have n bytes or more, and the first n are equal
record Agree (s u : List ℕ) (n : ℕ) : Type 0 where
  pub long : n ≤ length s
  pub long' : n ≤ length u
  pub same : (j : ℕ) → j < n → get_or s j 0 ≡ get_or u j 0

back : (s u : List ℕ) (n : ℕ) → Agree s u n → Agree u s n
back s u n g = record { long = g.long'; long' = g.long; same = λ j l. sym (g.same j l) }

-- the first line feed from an offset on stands behind so many bytes
record Closes (s : List ℕ) (at width : ℕ) : Type 0 where
  pub within : at + width < length s
  pub feed : get_or s (at + width) 0 ≡ 10
  pub none : (j : ℕ) → j < width → get_or s (at + j) 0 ≡ 10 → ⊥

closes : (s : List ℕ) (at width : ℕ) → length_fault width (line_at s at).line ≡ 0 → Closes s at width
closes s at width e = go (line_at s at).line refl e
  where
    go : (l : Option Line) → (line_at s at).line ≡ l → length_fault width l ≡ 0 → Closes s at width
    go (Some line) h z =
        let t = there s at line.start line.len h in
        let n : line.len ≡ width = eqb-true line.len width (unless_none (eqb line.len width) 0 z) in
        let w = t.within in
        let k : until_feed (drop at s) ≡ width = sym t.closes ∙ n in
        let inside : until_feed (drop at s) < length (drop at s) = simp length-drop (omega arith) in
        record {
          within = omega arith;
          feed = sym (get_or-drop at s width 0) ∙ ap (λ (m : ℕ). get_or (drop at s) m 0) (sym k) ∙ until_at (drop at s) inside;
          none = λ j l f. until_before (drop at s) j (omega arith) (get_or-drop at s j 0 ∙ f);
        }
    go None h z = absurd (omega arith)

closed : (s : List ℕ) (at width : ℕ) → Closes s at width → length_fault width (line_at s at).line ≡ 0
unfolding line_at
closed s at width g =
    let w = g.within in
    let k = until_is (drop at s) width (simp length-drop (omega arith)) (get_or-drop at s width 0 ∙ g.feed) (λ j l f. g.none j l (sym (get_or-drop at s j 0) ∙ f)) in
    rw (k, lt-ltb (at + width) (length s) w, eq-eqb width width refl)

length_one : (width : ℕ) (l : Option Line) → (length_fault width l ≡ 0 → ⊥) → length_fault width l ≡ 1
length_one width (Some line) n = go (eqb line.len width) n
  where
    go : (b : Bool) → (◌≡◌ {A = ℕ} (cond b 0 1) 0 → ⊥) → ◌≡◌ {A = ℕ} (cond b 0 1) 1
    go true n = absurd (n refl)
    go false n = refl
length_one width None n = refl

closes_same : (s u : List ℕ) (n : ℕ) → Agree s u n → (at width : ℕ) → at + width < n → Closes s at width → Closes u at width
closes_same s u n g at width l c =
    let k = g.long' in
    record {
      within = omega arith;
      feed = sym (g.same (at + width) l) ∙ c.feed;
      none = λ j h f. c.none j h (g.same (at + j) (omega arith) ∙ f);
    }

-- a line of so many digits is judged by them and the byte behind them
line_same : (s u : List ℕ) (n : ℕ) → Agree s u n → (at width : ℕ) → at + width < n → line_fault s at width ≡ line_fault u at width
unfolding line_fault
line_same s u n g at width l =
    rw (
      lengths (ℕ_discrete (length_fault width (line_at s at).line) 0) (ℕ_discrete (length_fault width (line_at u at).line) 0),
      first_same (λ j. digit_fault (get_or s (at + j) 0)) (λ j. digit_fault (get_or u (at + j) 0)) width (λ j k. rw (g.same (at + j) (omega arith))),
    )
  where
    lengths : Dec (length_fault width (line_at s at).line ≡ 0) → Dec (length_fault width (line_at u at).line ≡ 0)
        → length_fault width (line_at s at).line ≡ length_fault width (line_at u at).line
    lengths (yes a) b = a ∙ sym (closed u at width (closes_same s u n g at width l (closes s at width a)))
    lengths (no a) (yes b) = absurd (a (closed s at width (closes_same u s n (back s u n g) at width l (closes u at width b))))
    lengths (no a) (no b) = length_one width (line_at s at).line a ∙ sym (length_one width (line_at u at).line b)

number_same : (s u : List ℕ) (n : ℕ) → Agree s u n → (at w : ℕ) → at + w ≤ n → number_at s at w ≡ number_at u at w
unfolding number_at
number_same s u n g at zero l = refl
number_same s u n g at (suc w) l = rw (number_same s u n g at w (omega arith), g.same (at + w) (omega arith))

-- a link's fault is found by its ends and those of the link before it
link_same : (probes probes' : ℕ) (low low' high high' : ℕ → ℕ) (i : ℕ) → probes ≡ probes' → ((j : ℕ) → j ≤ i → low j ≡ low' j) → ((j : ℕ) → j ≤ i → high j ≡ high' j)
    → link_fault probes low high i ≡ link_fault probes' low' high' i
unfolding link_fault
link_same probes probes' low low' high high' i e lows highs =
    rw (e, lows i (omega arith), highs i (omega arith), lows (i - 1) (omega arith), highs (i - 1) (omega arith))

-- where more bytes follow the closing line, or stand in its place
closing_six : (s : List ℕ) (at : ℕ) → at + 5 < length s → closing_fault false s at ≡ 6
closing_six s at l =
    rw (ne_eqb (length s) (at + 5) (λ z. omega arith), and-false (begins (drop at s) closing_line))

-- a line that may be followed is judged by its own bytes
begins_same : (s u : List ℕ) (n : ℕ) → Agree s u n → (xs : List ℕ) (at : ℕ) → at + length xs ≤ n → begins (drop at s) xs ≡ begins (drop at u) xs
unfolding begins
begins_same s u n g [] at l = refl
begins_same s u n g (x ∷ xs) at l =
    let a = g.long in
    let b = g.long' in
    rw (drop-cons s at 0 (omega arith), drop-cons u at 0 (omega arith), g.same at (omega arith), begins_same s u n g xs (suc at) (omega arith))

-- texts that agree on the header's line
module _ (n : ℕ) (s u : List ℕ) (g : Agree s u n) (headed : 13 ≤ n) where
  probes_same : (of_text s).probes ≡ (of_text u).probes
  probes_same = number_same s u n g 4 4 (omega arith)

  count_same : (of_text s).links ≡ (of_text u).links
  count_same = number_same s u n g 8 4 (omega arith)

  head_same : head_fault 256 2048 s ≡ head_fault 256 2048 u
  head_same = rw (line_same s u n g 0 12 (omega arith), probes_same, count_same)

  -- and on all bytes of the table that the header tells of
  module _ (own : text_end (of_text s) ≤ n) where
    need_lines_same : first (need_line_fault s) (of_text s).probes ≡ first (need_line_fault u) (of_text u).probes
    need_lines_same =
        first_same (need_line_fault s) (need_line_fault u) (of_text s).probes (λ v l. line_same s u n g (need_start v) 4 (omega arith))
        ∙ ap (first (need_line_fault u)) probes_same

    -- a number that stands where the probe count says
    field_same : (at : ℕ → ℕ) → at (of_text s).probes + 4 ≤ n → number_at s (at (of_text s).probes) 4 ≡ number_at u (at (of_text u).probes) 4
    field_same at l = number_same s u n g (at (of_text s).probes) 4 l ∙ ap (λ (m : ℕ). number_at u (at m) 4) probes_same

    same_table : Same (of_text s) (of_text u)
    same_table =
        record {
          number = number_same s u n g 0 4 (omega arith);
          probes = probes_same;
          links = count_same;
          need = λ v l. field_same (λ m. need_start v) (omega arith);
          low = λ i l. field_same (λ m. link_start m i) (omega arith);
          high = λ i l. field_same (λ m. link_start m i + 4) (omega arith);
          cost = λ i l. field_same (λ m. link_start m i + 8) (omega arith);
        }

    rows_same : first (link_line_fault s) (of_text s).links ≡ first (link_line_fault u) (of_text u).links
    rows_same = first_same (link_line_fault s) (link_line_fault u) (of_text s).links row ∙ ap (first (link_line_fault u)) count_same
      where
        line : (i : ℕ) → i < (of_text s).links → line_fault s (link_start (of_text s).probes i) 12 ≡ line_fault u (link_start (of_text u).probes i) 12
        line i l = line_same s u n g (link_start (of_text s).probes i) 12 (omega arith) ∙ ap (λ (m : ℕ). line_fault u (link_start m i) 12) probes_same

        row : (i : ℕ) → i < (of_text s).links → link_line_fault s i ≡ link_line_fault u i
        row i l =
            or_same (line i l)
            (link_same (of_text s).probes (of_text u).probes (of_text s).low (of_text u).low (of_text s).high (of_text u).high i probes_same
            (λ j k. field_same (λ m. link_start m j) (omega arith)) (λ j k. field_same (λ m. link_start m j + 4) (omega arith)))

    module _ (more : Bool)
        (closing : closing_fault more s (link_start (of_text s).probes (of_text s).links) ≡ closing_fault more u (link_start (of_text s).probes (of_text s).links)) where
      body_same : body_fault more s ≡ body_fault more u
      body_same =
          let at_same : link_start (of_text s).probes (of_text s).links ≡ link_start (of_text u).probes (of_text u).links = rw (probes_same, count_same) in
          or_same need_lines_same (or_same rows_same (closing ∙ ap (closing_fault more u) at_same))

  -- where the header is refused, its line alone is judged
  text_same : (more : Bool)
      → (head_fault 256 2048 s ≡ 0
      → (text_end (of_text s) ≤ n) × (closing_fault more s (link_start (of_text s).probes (of_text s).links) ≡ closing_fault more u (link_start (of_text s).probes (of_text s).links)))
      → text_fault 256 2048 more s ≡ text_fault 256 2048 more u
  unfolding text_fault
  text_same more own = go (ℕ_discrete (head_fault 256 2048 s) 0)
    where
      go : Dec (head_fault 256 2048 s ≡ 0) → or_else (head_fault 256 2048 s) (body_fault more s) ≡ or_else (head_fault 256 2048 u) (body_fault more u)
      go (yes e) = let o = own e in or_same head_same (body_same o.0 more o.1)
      go (no d) =
          or_some (head_fault 256 2048 s) (body_fault more s) d
          ∙ head_same
          ∙ sym (or_some (head_fault 256 2048 u) (body_fault more u) (λ z. d (head_same ∙ z)))

-- a text and its first n bytes
first_bytes : (s : List ℕ) (n : ℕ) → n ≤ length s → Agree s (take n s) n
first_bytes s n l = record { long = l; long' = let k = length-take-le n s l in omega arith; same = λ j k. sym (get_or-take n s j 0 k) }

-- "The longest text has 27,922 bytes."
longest : (s : List ℕ) → head_fault 256 2048 s ≡ 0 → text_end (of_text s) ≤ 27922
longest s e = let z = (head_good 256 2048 s e).size in let few = z.few in let within = z.within in omega arith

-- of a text that ends with its closing line the first 27,923 bytes bear on its refusal
pub long_text : (s : List ℕ) → 27922 < length s → text_fault 256 2048 false s ≡ text_fault 256 2048 false (take 27923 s)
long_text s l =
    let n = length-take-le 27923 s l in
    text_same 27923 s (take 27923 s) (first_bytes s 27923 l) (omega arith) false
    (λ e.
    let k = longest s e in
    let at = link_start (of_text s).probes (of_text s).links in
    (omega arith, closing_six s at (omega arith) ∙ sym (closing_six (take 27923 s) at (omega arith))))

-- of a text that may go on the table's own bytes, and at least the header's line
module _ (s : List ℕ) (n : ℕ) (headed : 13 ≤ n) (own : head_fault 256 2048 s ≡ 0 → text_end (of_text s) ≤ n) where
  part : n ≤ length s → (head_fault 256 2048 s ≡ head_fault 256 2048 (take n s)) × (text_fault 256 2048 true s ≡ text_fault 256 2048 true (take n s))
  part l =
      let g = first_bytes s n l in (
        head_same n s (take n s) g headed,
        text_same n s (take n s) g headed true
            (λ e.
            let k = own e in
            let at = link_start (of_text s).probes (of_text s).links in
            (k, rw (begins_same s (take n s) n g closing_line at (omega arith)))),
      )

  pub own_text : text_fault 256 2048 true s ≡ text_fault 256 2048 true (take n s)
  own_text = go (dec_le n (length s))
    where
      go : Dec (n ≤ length s) → text_fault 256 2048 true s ≡ text_fault 256 2048 true (take n s)
      go (yes l) = (part l).1
      go (no d) = rw (take_all n s (omega arith))

  pub own_table : head_fault 256 2048 s ≡ 0 → Same (of_text s) (of_text (take n s))
  own_table e = go (dec_le n (length s))
    where
      go : Dec (n ≤ length s) → Same (of_text s) (of_text (take n s))
      go (yes l) = same_table n s (take n s) (first_bytes s n l) headed (own e)
      go (no d) = rw (take_all n s (omega arith)) record { number = refl; probes = refl; links = refl; need = λ v l. refl; low = λ i l. refl; high = λ i l. refl; cost = λ i l. refl }

-- the header is judged by its line
pub own_head : (s : List ℕ) → head_fault 256 2048 s ≡ head_fault 256 2048 (take 13 s)
own_head s = go (dec_le 13 (length s))
  where
    go : Dec (13 ≤ length s) → head_fault 256 2048 s ≡ head_fault 256 2048 (take 13 s)
    go (yes l) = head_same 13 s (take 13 s) (first_bytes s 13 l) (omega arith)
    go (no d) = rw (take_all 13 s (omega arith))

-- where it passes, it tells how long the table is
pub own_end : (s : List ℕ) → head_fault 256 2048 s ≡ 0 → text_end (of_text s) ≡ text_end (of_text (take 13 s))
own_end s e = go (dec_le 13 (length s))
  where
    go : Dec (13 ≤ length s) → text_end (of_text s) ≡ text_end (of_text (take 13 s))
    go (yes l) =
        let g = first_bytes s 13 l in
        let a = probes_same 13 s (take 13 s) g (omega arith) in
        let b = count_same 13 s (take 13 s) g (omega arith) in
        omega arith
    go (no d) = rw (take_all 13 s (omega arith))
