-- Frames: document 01, "The ends and their frames", and refusals 1 and 2 of a frame line.
use Rattle.std.specs.Prelude.{ℕ, ◌≡◌, cond, List, [], ◌∷◌, ◌++◌, eqb, length, Result, IfOk}
use Rattle.range.specs.First.{or_else}
use Rattle.range.specs.Reply.{Reply, reply_of}
use Rattle.refusals.specs.Refusals.{fault_of}
use Rattle.refusals.specs.declared.Refusal.{Refusal}
use Rattle.hex_digits.specs.Digits.{number_at, digits}
use Rattle.lines.specs.Digits.{line_fault}
use Rattle.lines.specs.Fields.{frame_fields, line_reply, line_bytes}
use Rattle.table.specs.Text.{triple_line}
use Rattle.probe_frame.specs.declared.FrameLine.{FrameLine}

-- "kind (two), table number, from, to"
pub record Frame : Type 0 where
  pub kind : ℕ
  pub number : ℕ
  pub from : ℕ
  pub to : ℕ

-- "A frame is a line of 14 digits, closed as the table's lines are"
unfoldable pub frame_line : Frame → List ℕ
frame_line f = digits 2 f.kind ++ triple_line f.number f.from f.to

-- the frame that a line gives
abbrev pub frame_of : List ℕ → Frame
frame_of l = record { kind = number_at l 0 2; number = number_at l 2 4; from = number_at l 6 4; to = number_at l 10 4 }

-- "A .. frame line is .. not of its length", then "A byte in it is no digit": a line is its 14 digits and its line feed, and nothing more
unfoldable pub frame_fault : List ℕ → ℕ
frame_fault l = or_else (cond (eqb (length l) 15) 0 1) (line_fault l 0 14)

-- the frame that was read
abbrev pub frame_read : FrameLine → Frame
frame_read r = record { kind = r.kind; number = r.number; from = r.from; to = r.to }

-- a frame's line was read: its fault, and the frame where it has none
abbrev pub ReadsFrame : List ℕ → Result FrameLine Refusal → Type 0
ReadsFrame l r = (fault_of r ≡ frame_fault l) × IfOk r (λ f. frame_read f ≡ frame_of l)

-- the numbers of the frame that was read, in the line's order
abbrev pub frame_numbers : FrameLine → List ℕ
frame_numbers r = r.kind ∷ r.number ∷ r.from ∷ r.to ∷ []

-- what a frame's line gives: its refusal, 1 or 2, or its numbers
abbrev pub frame_reply : List ℕ → Reply
frame_reply l = let f = frame_of l in reply_of (frame_fault l) (f.kind ∷ f.number ∷ f.from ∷ f.to ∷ [])

-- document 02, No. 5: a frame's line alone gives what it gives at its offset in a text
abbrev pub FrameAsAlone : Type 0
FrameAsAlone = (s : List ℕ) (at : ℕ) → line_reply frame_fields s at ≡ frame_reply (line_bytes s at)
