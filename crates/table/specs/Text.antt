-- The text of a table, and the reading of a text: document 01, "Table and order", and refusals 1 to 6 and 8.
use Rattle.std.specs.Prelude.{ℕ, ◌+◌, ◌*◌, Bool, true, false, cond, ◌&&◌, ◌||◌, List, [], ◌∷◌, ◌++◌, eqb, length, drop}
use Rattle.range.specs.First.{or_else, first}
use Rattle.range.specs.Lists.{joined}
use Rattle.hex_digits.specs.Digits.{number_at, digits}
use Rattle.lines.specs.Digits.{line_fault}
use Rattle.table.specs.Table.{Table}
use Rattle.table.specs.Legal.{size_fault, link_fault, room_fault}

-- "lines of lower-case hexadecimal, each closed by one line feed"

abbrev feed : List ℕ
feed = 10 ∷ []

-- "the closing line `ffff`"
abbrev pub closing_line : List ℕ
closing_line = 102 ∷ 102 ∷ 102 ∷ 102 ∷ feed

-- "a line of 4 digits for each probe: its need"
abbrev pub need_line : ℕ → List ℕ
need_line need = digits 4 need ++ feed

-- "header, 12 digits: table number, probes, links, four each"; "a line of 12 digits for each link: low, high, cost"
abbrev pub triple_line : ℕ → ℕ → ℕ → List ℕ
triple_line a b c = digits 4 a ++ (digits 4 b ++ (digits 4 c ++ feed))

unfoldable pub text_of : Table → List ℕ
text_of t =
    triple_line t.number t.probes t.links
    ++ (joined (λ v. need_line (t.need v)) t.probes
    ++ (joined (λ i. triple_line (t.low i) (t.high i) (t.cost i)) t.links ++ closing_line))

-- Where the lines stand: each line before is of its length, or the text is refused for that one.

abbrev pub need_start : ℕ → ℕ
need_start v = 13 + 5 * v

abbrev pub link_start : ℕ → ℕ → ℕ
link_start probes i = 13 + 5 * probes + 13 * i

-- the table that a text gives
abbrev pub of_text : List ℕ → Table
of_text s =
    let probes = number_at s 4 4 in
    record {
      number = number_at s 0 4;
      probes = probes;
      links = number_at s 8 4;
      need = λ v. number_at s (need_start v) 4;
      low = λ i. number_at s (link_start probes i) 4;
      high = λ i. number_at s (link_start probes i + 4) 4;
      cost = λ i. number_at s (link_start probes i + 8) 4;
    }

-- the second list starts the first
unfoldable pub begins : List ℕ → List ℕ → Bool
begins s [] = true
begins [] (x ∷ xs) = false
begins (b ∷ s) (x ∷ xs) = eqb b x && begins s xs

-- "The closing line is absent, different, or followed by bytes." `more`: whether the text may go on behind it.
abbrev pub closing_fault : Bool → List ℕ → ℕ → ℕ
closing_fault more s at = cond (begins (drop at s) closing_line && (more || eqb (length s) (at + 5))) 0 6

abbrev pub need_line_fault : List ℕ → ℕ → ℕ
need_line_fault s v = line_fault s (need_start v) 4

abbrev pub link_line_fault : List ℕ → ℕ → ℕ
link_line_fault s i = or_else (line_fault s (link_start (of_text s).probes i) 12) (link_fault (of_text s).probes (of_text s).low (of_text s).high i)

abbrev pub head_fault : ℕ → ℕ → List ℕ → ℕ
head_fault pmax lmax s = or_else (line_fault s 0 12) (size_fault pmax lmax (of_text s).probes (of_text s).links)

-- "Text goes line by line: 1, 2, then 3, or 4 and 5. Then come 6, 7 and 8", without 7
abbrev pub body_fault : Bool → List ℕ → ℕ
body_fault more s =
    let t = of_text s in
    or_else (first (need_line_fault s) t.probes)
    (or_else (first (link_line_fault s) t.links) (closing_fault more s (link_start t.probes t.links)))

unfoldable pub text_fault : ℕ → ℕ → Bool → List ℕ → ℕ
text_fault pmax lmax more s = or_else (head_fault pmax lmax s) (body_fault more s)

-- where the closing line ends
abbrev pub text_end : Table → ℕ
text_end t = link_start t.probes t.links + 5

-- the lengths are those of the lent needs, lows, highs and costs
unfoldable pub read_fault : ℕ → ℕ → Bool → List ℕ → ℕ → ℕ → ℕ → ℕ → ℕ
read_fault pmax lmax more s needs lows highs costs =
    or_else (text_fault pmax lmax more s) (room_fault (of_text s).probes (of_text s).links needs lows highs costs)
