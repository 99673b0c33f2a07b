-- A line of digits: document 01, refusals 1 and 2. A fault is a refusal's number, or 0 for none.
use Rattle.std.specs.Prelude.{Option, Some, None, ℕ, ◌+◌, cond, List, ltb, eqb, get_or}
use Rattle.range.specs.First.{or_else, first}
use Rattle.hex_digits.specs.Digits.{value_of}
use Rattle.lines.specs.Line.{line_at}
use Rattle.lines.specs.declared.Line.{Line}

-- "A header, need, link or frame line is missing or not of its length."
abbrev pub length_fault : ℕ → Option Line → ℕ
length_fault width (Some line) = cond (eqb line.len width) 0 1
length_fault width None = 1

-- "A byte in it is no digit."
abbrev pub digit_fault : ℕ → ℕ
digit_fault b = cond (ltb (value_of b) 16) 0 2

-- 1, then 2, of the line of so many digits that starts at an offset
unfoldable pub line_fault : List ℕ → ℕ → ℕ → ℕ
line_fault s at width = or_else (length_fault width (line_at s at).line) (first (λ j. digit_fault (get_or s (at + j) 0)) width)
