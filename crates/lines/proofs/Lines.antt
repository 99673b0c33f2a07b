-- Lines that are there, and lines of digits that have no fault.
use Prim.Native.Nat.{ℕ, zero, suc, ◌+◌, ◌^◌, ◌≤◌, ◌<◌}
use mathlib.Core.Path.{◌≡◌, refl, sym, ◌∙◌, ap}
use mathlib.Core.Bool.{Bool, true, false, cond, ◌&&◌}
use mathlib.Core.List.{List}
use native.Mathlib.Omega.{arith}
use lib.Dec.{ltb, eqb}
use lib.ListN.{length, get_or, drop, length-drop}
use lib.Seq.{get_or-drop}
use borrow.Author.Tests.{ltb-true, lt-ltb, eqb-true, eq-eqb, ne_eqb}
use Rattle.std.specs.Prelude.{Option, Some, None}
use Rattle.range.specs.First.{or_else, first}
use Rattle.range.proofs.Bools.{unless_none}
use Rattle.range.proofs.Faults.{or_left, or_right, first_all, none_first}
use Rattle.hex_digits.specs.Digits.{value_of, number_at, are_digits}
use Rattle.hex_digits.proofs.Laws.{number_fits}
use Rattle.lines.specs.Line.{until_feed, here, line_at}
use Rattle.lines.specs.Digits.{length_fault, digit_fault, line_fault}
use Rattle.lines.specs.declared.Line.{Line}
use Rattle.lines.specs.declared.Found.{Found}
use Rattle.lines.proofs.Feeds.{until_at, until_is}

-- the line's place and length, where it is there
pub record There (s : List ℕ) (at start len : ℕ) : Type 0 where
  pub starts : start ≡ at
  pub closes : len ≡ until_feed (drop at s)
  pub within : at + len < length s

pub there : (s : List ℕ) (at start len : ℕ) → (line_at s at).line ≡ here start len → There s at start len
unfolding line_at
there s at start len e = go (ltb (at + until_feed (drop at s)) (length s)) refl e
  where
    go : (b : Bool) → ltb (at + until_feed (drop at s)) (length s) ≡ b
        → (cond {A = Found} b (record { line = here at (until_feed (drop at s)); next = at + until_feed (drop at s) + 1 }) (record { line = None; next = length s })).line ≡ here start len
        → There s at start len
    go true t h =
        let e : ◌≡◌ {A = Line} (record { start = at; len = until_feed (drop at s) }) (record { start = start; len = len }) = cc in
        let a : at ≡ start = ap (λ (l : Line). l.start) e in
        let l : until_feed (drop at s) ≡ len = ap (λ (l : Line). l.len) e in
        let w : at + until_feed (drop at s) < length s = ltb-true (at + until_feed (drop at s)) (length s) t in
        record { starts = sym a; closes = sym l; within = omega arith }
    go false t h = let z : ◌≡◌ {A = ℕ} 0 1 = cc in absurd (omega arith)

-- a line of so many digits stands at the offset
pub record GoodLine (s : List ℕ) (at width : ℕ) : Type 0 where
  pub within : at + width < length s
  pub feed : get_or s (at + width) 0 ≡ 10
  pub digits : (j : ℕ) → j < width → value_of (get_or s (at + j) 0) < 16

pub line_good : (s : List ℕ) (at width : ℕ) → line_fault s at width ≡ 0 → GoodLine s at width
unfolding line_fault
line_good s at width e = go (line_at s at).line refl (or_left (length_fault width (line_at s at).line) _ e)
  where
    digit : (j : ℕ) → j < width → value_of (get_or s (at + j) 0) < 16
    digit j l =
        ltb-true (value_of (get_or s (at + j) 0)) 16
        (unless_none (ltb (value_of (get_or s (at + j) 0)) 16) 1
        (first_all (λ j. digit_fault (get_or s (at + j) 0)) width j (or_right (length_fault width (line_at s at).line) (first (λ j. digit_fault (get_or s (at + j) 0)) width) e) l))

    go : (l : Option Line) → (line_at s at).line ≡ l → length_fault width l ≡ 0 → GoodLine s at width
    go (Some line) h z =
        let t = there s at line.start line.len h in
        let n : line.len ≡ width = eqb-true line.len width (unless_none (eqb line.len width) 0 z) in
        let k = t.closes in
        let inside : until_feed (drop at s) < length (drop at s) = simp length-drop (let w = t.within in omega arith) in
        let f = until_at (drop at s) inside in
        let w = t.within in
        record {
          within = omega arith;
          feed = ap (λ (m : ℕ). get_or s (at + m) 0) (sym n ∙ k) ∙ sym (get_or-drop at s (until_feed (drop at s)) 0) ∙ f;
          digits = digit;
        }
    go None h z = absurd (omega arith)

-- a line feed is no digit
feed_value : value_of 10 ≡ 255
unfolding value_of
feed_value = refl

pub until_width : (s : List ℕ) (at width : ℕ) → GoodLine s at width → until_feed (drop at s) ≡ width
until_width s at width g = until_is (drop at s) width (simp length-drop (omega arith)) (get_or-drop at s width 0 ∙ g.feed) before
  where
    before : (j : ℕ) → j < width → get_or (drop at s) j 0 ≡ 10 → ⊥
    before j l e =
        let v = ap value_of (sym (get_or-drop at s j 0) ∙ e) ∙ feed_value in
        let d = g.digits j l in
        omega arith

pub good_line : (s : List ℕ) (at width : ℕ) → GoodLine s at width → line_fault s at width ≡ 0
unfolding line_fault line_at
good_line s at width g =
    rw (until_width s at width g, lt-ltb (at + width) (length s) g.within, eq-eqb width width refl)
    (none_first (λ j. digit_fault (get_or s (at + j) 0)) width (λ j l. rw (lt-ltb (value_of (get_or s (at + j) 0)) 16 (g.digits j l))))

-- the line behind a good one starts behind its line feed
pub good_next : (s : List ℕ) (at width : ℕ) → GoodLine s at width → (line_at s at).next ≡ at + width + 1
unfolding line_at
good_next s at width g = rw (until_width s at width g, lt-ltb (at + width) (length s) g.within)

-- a number of four digits in a line without a fault
pub field_fits : (s : List ℕ) (at width d : ℕ) → GoodLine s at width → d + 4 ≤ width → number_at s (at + d) 4 < 65536
field_fits s at width d g l =
    let same : (j : ℕ) → at + d + j ≡ at + (d + j) = λ j. omega arith in
    let n : number_at s (at + d) 4 < 16 ^ 4 = number_fits s (at + d) 4 (λ j k. rw (same j) (g.digits (d + j) (omega arith))) in
    n

-- How the code comes to a line's fault.

-- no line feed stands behind so many bytes
pub fault_of_feed : (s : List ℕ) (at width : ℕ) → (at + width < length s → get_or s (at + width) 0 ≡ 10 → ⊥) → 1 ≡ line_fault s at width
unfolding line_fault
fault_of_feed s at width none = go (line_at s at).line refl
  where
    go : (l : Option Line) → (line_at s at).line ≡ l → 1 ≡ or_else (length_fault width l) (first (λ j. digit_fault (get_or s (at + j) 0)) width)
    go (Some line) h =
        let t = there s at line.start line.len h in
        let k = t.closes in
        let w = t.within in
        let inside : until_feed (drop at s) < length (drop at s) = simp length-drop (omega arith) in
        let feed : line.len ≡ width → get_or s (at + width) 0 ≡ 10 =
        λ e. ap (λ (m : ℕ). get_or s (at + m) 0) (sym e ∙ k) ∙ sym (get_or-drop at s (until_feed (drop at s)) 0) ∙ until_at (drop at s) inside in
        rw (ne_eqb line.len width (λ e. none (omega arith) (feed e)))
    go None h = refl

-- a line that is missing
pub fault_of_missing : (s : List ℕ) (at width : ℕ) → (line_at s at).line ≡ None → 1 ≡ line_fault s at width
unfolding line_fault
fault_of_missing s at width h = rw h

-- a line of another length
pub fault_of_length : (s : List ℕ) (at width start len : ℕ) → (line_at s at).line ≡ here start len → (len ≡ width → ⊥) → 1 ≡ line_fault s at width
unfolding line_fault
fault_of_length s at width start len h n = rw (h, ne_eqb len width n)

digits_first : (s : List ℕ) (at w : ℕ) → first (λ j. digit_fault (get_or s (at + j) 0)) w ≡ cond (are_digits s at w) 0 2
unfolding first are_digits
digits_first s at zero = refl
digits_first s at (suc w) = rw (digits_first s at w) (go (are_digits s at w) (ltb (value_of (get_or s (at + w) 0)) 16))
  where
    go : (a b : Bool) → or_else (cond a 0 2) (cond b 0 2) ≡ cond (a && b) 0 2
    go true b = refl
    go false b = refl

-- a byte of it is no digit
pub fault_of_digits : (s : List ℕ) (at width start len : ℕ) → (line_at s at).line ≡ here start len → len ≡ width → are_digits s at width ≡ false → 2 ≡ line_fault s at width
unfolding line_fault
fault_of_digits s at width start len h n bad = rw (h, eq-eqb len width n, digits_first s at width, bad)

are_digits_lem : (s : List ℕ) (at w : ℕ) → are_digits s at w ≡ true → (j : ℕ) → j < w → value_of (get_or s (at + j) 0) < 16
are_digits_lem s at w e j l =
    ltb-true (value_of (get_or s (at + j) 0)) 16
    (unless_none (ltb (value_of (get_or s (at + j) 0)) 16) 1 (first_all (λ j. digit_fault (get_or s (at + j) 0)) w j (digits_first s at w ∙ rw e) l))

-- so many digits, and a line feed behind them
pub fault_of_none : (s : List ℕ) (at width : ℕ) → at + width < length s → get_or s (at + width) 0 ≡ 10 → are_digits s at width ≡ true → 0 ≡ line_fault s at width
fault_of_none s at width l e d = sym (good_line s at width (record { within = l; feed = e; digits = are_digits_lem s at width d }))
