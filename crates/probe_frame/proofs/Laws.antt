-- Frame lines: what a good one has, and that a frame's line says the frame.
use Prim.Native.Nat.{ℕ, ◌+◌, ◌/◌, ◌%◌, ◌<◌}
use mathlib.Core.Path.{◌≡◌, sym, ◌∙◌, ap}
use mathlib.Core.Bool.{cond}
use mathlib.Core.List.{List, [], ◌∷◌}
use native.Mathlib.Omega.{arith}
use native.Mathlib.Decide.{ℕ_discrete}
use lib.Dec.{eqb}
use lib.ListN.{length, get_or, length-append}
use lib.Seq.{take_all}
use borrow.Author.Tests.{eqb-true, eq-eqb, ne_eqb}
use Rattle.range.specs.First.{or_else}
use Rattle.range.specs.Reply.{values}
use Rattle.std.specs.Prelude.{Result, Ok, Err}
use Rattle.refusals.specs.Refusals.{number_of, reply_in}
use Rattle.refusals.specs.declared.Refusal.{Refusal}
use Rattle.refusals.proofs.Laws.{number_some}
use Rattle.range.proofs.Bools.{unless_none}
use Rattle.range.proofs.Faults.{or_left, or_right}
use Rattle.hex_digits.specs.Digits.{number_at, digits}
use Rattle.hex_digits.proofs.Laws.{length_digits, digits_are, number_digits}
use Rattle.lines.specs.Digits.{line_fault}
use Rattle.lines.specs.Fields.{frame_fields, line_bytes}
use Rattle.lines.proofs.Feeds.{until_before}
use Rattle.lines.proofs.Alone.{fault_alone, only_feed, same_as_alone}
use Rattle.reader.proofs.Fields.{last_four}
use Rattle.lines.proofs.Lines.{GoodLine, line_good, good_line, fault_of_feed}
use Rattle.lines.proofs.Parts.{part, part_at, part_split}
use Rattle.lines.proofs.Numbers.{line_of, length_line, line_reads, good_cons}
use Rattle.probe_frame.specs.Frame.{Frame, frame_line, frame_of, frame_fault, frame_numbers, ReadsFrame, frame_reply, FrameAsAlone}
use Rattle.probe_frame.specs.declared.FrameLine.{FrameLine}

-- a line that neither 1 nor 2 turns down
pub record GoodFrame (l : List ℕ) : Type 0 where
  pub length_is : length l ≡ 15
  pub line : GoodLine l 0 14

pub frame_good : (l : List ℕ) → frame_fault l ≡ 0 → GoodFrame l
unfolding frame_fault
frame_good l e =
    record {
      length_is = eqb-true (length l) 15 (unless_none (eqb (length l) 15) 0 (or_left (cond (eqb (length l) 15) 0 1) (line_fault l 0 14) e));
      line = line_good l 0 14 (or_right (cond (eqb (length l) 15) 0 1) (line_fault l 0 14) e);
    }

good_frame : (l : List ℕ) → GoodFrame l → frame_fault l ≡ 0
unfolding frame_fault
good_frame l g = rw g.length_is (good_line l 0 14 g.line)

-- the numbers of a frame fit their digits
pub record Writable (f : Frame) : Type 0 where
  pub kind : f.kind < 256
  pub number : f.number < 65536
  pub from : f.from < 65536
  pub to : f.to < 65536

pub length_frame : (f : Frame) → length (frame_line f) ≡ 15
unfolding frame_line
length_frame f =
    length-append (digits 2 f.kind) (line_of (f.number ∷ f.from ∷ f.to ∷ []))
    ∙ (let a = length_digits 2 f.kind in let b = length_line (f.number ∷ f.from ∷ f.to ∷ []) in omega arith)

module _ (f : Frame) (w : Writable f) where
  abbrev rest : List ℕ
  rest = f.number ∷ f.from ∷ f.to ∷ []

  parts : (part (frame_line f) 0 2 ≡ digits 2 f.kind) × (part (frame_line f) 2 13 ≡ line_of rest)
  unfolding frame_line
  parts =
      part_split (frame_line f) (digits 2 f.kind) (line_of rest) 0 2 13 (length_digits 2 f.kind)
      (take_all 15 (frame_line f) (let n = length_frame f in omega arith))

  byte : (j : ℕ) → j < 2 → get_or (frame_line f) (0 + j) 0 ≡ get_or (digits 2 f.kind) j 0
  byte j l = part_at (frame_line f) (digits 2 f.kind) 0 2 j parts.0 l

  -- a frame's line is not turned down, and says the frame
  pub line_passes : frame_fault (frame_line f) ≡ 0
  line_passes =
      let n = length_frame f in
      let r = line_reads (frame_line f) 2 rest (w.number, (w.from, (w.to, tt))) (omega arith) parts.1 in
      good_frame (frame_line f) (record {
        length_is = n;
        line = good_cons (frame_line f) 0 2 12 (λ j l. rw (byte j l) (digits_are 2 f.kind j l)) r.0;
      })

  pub line_says : frame_of (frame_line f) ≡ f
  line_says =
      let n = length_frame f in
      let r = (line_reads (frame_line f) 2 rest (w.number, (w.from, (w.to, tt))) (omega arith) parts.1).1 in
      let k = number_digits (frame_line f) 0 2 f.kind w.kind byte in
      rw (k, r.0, r.1.0, r.1.1.0)

-- Frame lines as the code reads them.

pub frame_short : (l : List ℕ) → (length l ≡ 15 → ⊥) → 1 ≡ frame_fault l
unfolding frame_fault
frame_short l n = rw (ne_eqb (length l) 15 n)

pub frame_long : (l : List ℕ) → length l ≡ 15 → line_fault l 0 14 ≡ frame_fault l
unfolding frame_fault
frame_long l n = rw (eq-eqb (length l) 15 n)

-- the frame of a line's 14 digits
pub frame_reads : (l : List ℕ) (number : ℕ) → 0 ≡ line_fault l 0 14 → number ≡ number_at l 0 14
    → ◌≡◌ {A = Frame}
    (record { kind = number / 65536 / 65536 / 65536; number = number / 65536 / 65536 % 65536; from = number / 65536 % 65536; to = number % 65536 })
    (frame_of l)
frame_reads l number good n =
    let c = last_four l 0 10 14 (sym good) (omega arith) in
    let b = last_four l 0 6 14 (sym good) (omega arith) in
    let a = last_four l 0 2 14 (sym good) (omega arith) in
    rw (n, c.0, c.1, b.0, b.1, a.0, a.1)

-- the bytes of a line in a text: 14 digits and their line feed, or refused as the line is
alone_fault : (s : List ℕ) (at : ℕ) → frame_fault (line_bytes s at) ≡ line_fault s at 14
unfolding frame_fault
alone_fault s at = go (ℕ_discrete (length (line_bytes s at)) 15)
  where
    l : List ℕ
    l = line_bytes s at

    go : Dec (length (line_bytes s at) ≡ 15) → or_else (cond (eqb (length (line_bytes s at)) 15) 0 1) (line_fault (line_bytes s at) 0 14) ≡ line_fault s at 14
    go (yes e) = rw (eq-eqb (length (line_bytes s at)) 15 e) (sym (fault_alone s at 14))
    go (no n) =
        let o = only_feed s at in
        let none : 0 + 14 < length (line_bytes s at) → get_or (line_bytes s at) (0 + 14) 0 ≡ 10 → ⊥ = λ k f. until_before (line_bytes s at) 14 (omega arith) f in
        rw (ne_eqb (length (line_bytes s at)) 15 n) (fault_of_feed (line_bytes s at) 0 14 none ∙ sym (fault_alone s at 14))

pub frame_as_alone : FrameAsAlone
frame_as_alone s at = same_as_alone frame_fields s at ∙ rw (alone_fault s at, ← fault_alone s at 14)

-- what was read of a frame's line is what it gives
pub frame_reads_reply : (l : List ℕ) (r : Result FrameLine Refusal) → ReadsFrame l r → reply_in frame_numbers r ≡ frame_reply l
frame_reads_reply l (Ok f) e = ap (λ (f : Frame). values (f.kind ∷ f.number ∷ f.from ∷ f.to ∷ [])) e.1 ∙ rw (← e.0)
frame_reads_reply l (Err d) e = rw (← e.0, ne_eqb (number_of d) 0 (number_some d))
