-- The record of an end: document 01, "The ends and their frames", and refusals 20, 21 and 22.
use Rattle.std.specs.Prelude.{ℕ, ◌+◌, ◌*◌, Bool, cond, ◌&&◌, ◌||◌, not, List, ltb, eqb, length, replicate}
use Rattle.range.specs.Sum.{count}
use Rattle.range.specs.First.{or_else, first}
use Rattle.range.specs.Choice.{best}
use Rattle.table.specs.Table.{Table, item, touches, spare, dearer, cheaper}

-- "A probe's record has two bytes for each table link: outbound, then inbound. Outbound: 0 untried, 1 standing, 2 refused. Inbound: 0 unseen, 1 held, 2 refused."
abbrev pub outbound : List ℕ → ℕ → ℕ
outbound e i = item e (2 * i)

abbrev pub inbound : List ℕ → ℕ → ℕ
inbound e i = item e (2 * i + 1)

-- "Fresh is all zero."
abbrev pub fresh : Table → List ℕ
fresh t = replicate (2 * t.links) 0

-- the probe's own links whose byte has the value
abbrev pub own_with : Table → ℕ → (ℕ → ℕ) → ℕ → ℕ → Bool
own_with t p byte value i = touches t p i && eqb (byte i) value

-- the probe's offers standing, and those that it holds
abbrev pub standing : Table → ℕ → List ℕ → ℕ
standing t p e = count t.links (own_with t p (outbound e) 1)

abbrev pub held : Table → ℕ → List ℕ → ℕ
held t p e = count t.links (own_with t p (inbound e) 1)

-- "the dearest untried own link", and the probe's "cheapest held"; the number of links where there is none
abbrev pub dearest_untried : Table → ℕ → List ℕ → ℕ
dearest_untried t p e = best (dearer t) (own_with t p (outbound e) 0) t.links t.links

abbrev pub cheapest_held : Table → ℕ → List ℕ → ℕ
cheapest_held t p e = best (cheaper t) (own_with t p (inbound e) 1) t.links t.links

-- 20: "A record of the wrong length."
abbrev pub record_length_fault : Table → List ℕ → ℕ
record_length_fault t e = cond (eqb (length e) (2 * t.links)) 0 20

-- 21: "A byte over 2, or not 0 on another probe's link."
abbrev pub byte_fault : Table → ℕ → List ℕ → ℕ → ℕ
byte_fault t p e i =
    cond (ltb 2 (outbound e i) || (ltb 2 (inbound e i) || (not (touches t p i) && not (eqb (outbound e i) 0 && eqb (inbound e i) 0)))) 21 0

-- 22: "A probe with more standing or more held than its spare."
abbrev pub spare_fault : Table → ℕ → List ℕ → ℕ
spare_fault t p e = cond (ltb (spare t p) (standing t p e) || ltb (spare t p) (held t p e)) 22 0

-- "20, 21, 22"
abbrev pub record_fault : Table → ℕ → List ℕ → ℕ
record_fault t p e = or_else (record_length_fault t e) (or_else (first (byte_fault t p e) t.links) (spare_fault t p e))
