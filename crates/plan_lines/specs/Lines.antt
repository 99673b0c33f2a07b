-- The lines of a plan's text: document 01, "Programs", and 02, No. 1. Every printed line is closed by a line feed.
use Rattle.std.specs.Prelude.{ℕ, ◌+◌, ◌*◌, Bool, cond, List, [], ◌∷◌, ◌++◌}
use Rattle.hex_digits.specs.Digits.{digits}
use Rattle.table.specs.Text.{triple_line}

-- "table number, kept count (four digits each) and cost (eight)"
abbrev pub head_line : ℕ → ℕ → ℕ → List ℕ
head_line number kept cost = digits 4 number ++ (digits 4 kept ++ (digits 8 cost ++ (10 ∷ [])))

-- where the line of the kept link number k starts, behind the first line and those of the kept links before it
abbrev pub kept_start : ℕ → ℕ
kept_start k = 17 + 13 * k

-- the line of a link that is kept, none of one that is not
abbrev pub kept_line : Bool → ℕ → ℕ → ℕ → List ℕ
kept_line kept low high cost = cond kept (triple_line low high cost) []

-- where the line of the short probe number k starts, behind those of the kept links and of the short probes before it
abbrev pub short_start : ℕ → ℕ → ℕ
short_start kept k = kept_start kept + 9 * k

-- 02, No. 1: "probe and missing count, four digits each": the line of a probe that is short, none of one that is not
abbrev pub short_line : Bool → ℕ → ℕ → List ℕ
short_line short probe missing = cond short (digits 4 probe ++ (digits 4 missing ++ (10 ∷ []))) []
