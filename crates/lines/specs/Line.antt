-- A line of a text, and its lines.
use Rattle.std.specs.Prelude.{Option, Some, None, cond, List, [], ◌∷◌, ◌++◌, ℕ, suc, ◌+◌, eqb, ltb, length, drop}
use Rattle.lines.specs.declared.Line.{Line}
use Rattle.lines.specs.declared.Found.{Found}

-- the number of bytes before the first line feed, or of all where there is none
unfoldable pub until_feed : List ℕ → ℕ
until_feed [] = 0
until_feed (b ∷ bs) = cond (eqb b 10) 0 (suc (until_feed bs))

-- a line by its place
abbrev pub here : ℕ → ℕ → Option Line
here start len = Some (record { start = start; len = len })

-- the line that starts at an offset: it is closed by the first line feed from there; with no line feed it is missing, and the next offset is the text's end
unfoldable pub line_at : List ℕ → ℕ → Found
line_at s at = cond (ltb (at + until_feed (drop at s)) (length s))
    (record { line = here at (until_feed (drop at s)); next = at + until_feed (drop at s) + 1 })
    (record { line = None; next = length s })

-- the lines of a text, each with its line feed; a last one without it is a line too. `held` are the bytes of the first line so far.
unfoldable pub lines_from : List ℕ → List ℕ → List (List ℕ)
lines_from held [] = cond (eqb (length held) 0) [] (held ∷ [])
lines_from held (b ∷ bs) = cond (eqb b 10) ((held ++ (b ∷ [])) ∷ lines_from [] bs) (lines_from (held ++ (b ∷ [])) bs)
