-- Lines of fields, and a line read where it stands: document 02, No. 5.
use Rattle.std.specs.Prelude.{ℕ, ◌+◌, ◌≡◌, List, [], ◌∷◌, take, drop, Result, IfOk}
use Rattle.range.specs.Reply.{Reply, reply_of}
use Rattle.refusals.specs.Refusals.{fault_of}
use Rattle.refusals.specs.declared.Refusal.{Refusal}
use Rattle.hex_digits.specs.Digits.{number_at}
use Rattle.lines.specs.Line.{until_feed}
use Rattle.lines.specs.Digits.{line_fault}

-- A kind of line is its fields, each a number of so many digits, one behind the other.

-- "a line of 4 digits for each probe: its need"
abbrev pub need_fields : List ℕ
need_fields = 4 ∷ []

-- "header, 12 digits: table number, probes, links, four each"; "a line of 12 digits for each link: low, high, cost"
abbrev pub triple_fields : List ℕ
triple_fields = 4 ∷ 4 ∷ 4 ∷ []

-- "a line of 14 digits": "kind (two), table number, from, to"
abbrev pub frame_fields : List ℕ
frame_fields = 2 ∷ 4 ∷ 4 ∷ 4 ∷ []

-- the digits of such a line
abbrev pub digits_of : List ℕ → ℕ
digits_of [] = 0
digits_of (w ∷ ws) = w + digits_of ws

-- its numbers, where it starts at an offset
abbrev pub numbers_at : List ℕ → ℕ → List ℕ → List ℕ
numbers_at s at [] = []
numbers_at s at (w ∷ ws) = number_at s at w ∷ numbers_at s (at + w) ws

-- what the line at an offset gives: its refusal, 1 or 2, or its numbers
abbrev pub line_reply : List ℕ → List ℕ → ℕ → Reply
line_reply ws s at = reply_of (line_fault s at (digits_of ws)) (numbers_at s at ws)

-- its bytes alone: to the line feed, that included, or to the text's end where there is none
abbrev pub line_bytes : List ℕ → ℕ → List ℕ
line_bytes s at = take (until_feed (drop at s) + 1) (drop at s)

-- a line of these fields gives at its offset what its bytes alone give
abbrev pub SameAsAlone : List ℕ → Type 0
SameAsAlone ws = (s : List ℕ) (at : ℕ) → line_reply ws s at ≡ line_reply ws (line_bytes s at) 0

-- "At every offset of every text, a line of each kind gives the same numbers, or the same refusal 1 or 2, as its bytes alone would."
pub record LinesAlone : Type 0 where
  pub need : SameAsAlone need_fields
  pub header_and_link : SameAsAlone triple_fields
  pub frame : SameAsAlone frame_fields

-- a line of these fields was read at an offset: its fault, and its numbers where it has none
abbrev pub ReadsLine : {A : Type 0} → (A → List ℕ) → List ℕ → List ℕ → ℕ → Result A Refusal → Type 0
ReadsLine numbers ws s at r = (fault_of r ≡ line_fault s at (digits_of ws)) × IfOk r (λ x. numbers x ≡ numbers_at s at ws)
