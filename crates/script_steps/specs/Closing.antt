-- What is promised of the lines that a piece of a script closes.
use Rattle.std.specs.Prelude.{ℕ, ◌+◌, ◌≤◌, ◌≡◌, cond, List, ltb, length, take, drop}
use Rattle.lines.specs.Line.{until_feed}
use Rattle.table.specs.Slices.{Slices}
use Rattle.script_theory.specs.Script.{Script, after_piece}
use Rattle.script_steps.specs.Within.{Buffered}
use Rattle.script_steps.specs.declared.Lines.{Lines}

-- the length of a text's first line with its line feed; 0 where no line feed closes it
abbrev pub closed_length : List ℕ → ℕ
closed_length s = cond (ltb (until_feed s) (length s)) (until_feed s + 1) 0

-- the script p after all lines that a piece closes; an unfinished line of before stands in `line`
pub record Closed (x : Slices) (p : Script) (piece : List ℕ) (from : ℕ) (r : Lines) (rec line out out' : List ℕ) : Type 0 where
  pub within : r.rest ≤ length piece
  pub unclosed : closed_length (drop r.rest piece) ≡ 0
  pub buffered : Buffered (after_piece x 1024 p (take r.rest piece)) from r.place rec line out out'
