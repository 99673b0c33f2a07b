-- Refusals of a table: document 01, "Turned down for the input", 3, 4, 5 and 8. 02, No. 1: "Refusal 7 is withdrawn." A fault is a refusal's number, or 0 for none.
use Rattle.std.specs.Prelude.{ℕ, ◌-◌, ◌≤◌, ◌<◌, ◌≡◌, ◌⊎◌, cond, ◌&&◌, ◌||◌, not, ltb, eqb}
use Rattle.range.specs.First.{or_else, first}
use Rattle.table.specs.Table.{Table}

-- "Probes 0 or over 256, or links over 2,048": the limits are parameters
abbrev pub size_fault : ℕ → ℕ → ℕ → ℕ → ℕ
size_fault pmax lmax probes links = cond (eqb probes 0 || (ltb pmax probes || ltb lmax links)) 3 0

-- "Low not below high, or high not below the probe count."
abbrev pub ends_fault : ℕ → ℕ → ℕ → ℕ
ends_fault probes low high = cond (ltb low high && ltb high probes) 0 4

-- "A link not after the one before it": links stand "in rising order of low end, then high end"
abbrev pub order_fault : ℕ → ℕ → ℕ → ℕ → ℕ
order_fault low₀ high₀ low high = cond (ltb low₀ low || (eqb low₀ low && ltb high₀ high)) 0 5

-- 4, then 5, of the link i, by the probe count and the links' low and high ends
unfoldable pub link_fault : ℕ → (ℕ → ℕ) → (ℕ → ℕ) → ℕ → ℕ
link_fault probes low high i =
    or_else (ends_fault probes (low i) (high i)) (cond (eqb i 0) 0 (order_fault (low (i - 1)) (high (i - 1)) (low i) (high i)))

-- "3, then 4 and 5 link by link": by the table's sizes and its links' ends; no other part of a table is ever refused
abbrev pub table_fault : ℕ → ℕ → Table → ℕ
table_fault pmax lmax t = or_else (size_fault pmax lmax t.probes t.links) (first (link_fault t.probes t.low t.high) t.links)

-- "Legal: a table that none of 3, 4, 5 and 7 turns down", without 7
abbrev pub Legal : Table → Type 0
Legal t = table_fault 256 2048 t ≡ 0

-- What a legal table gives, in numbers; the law is `legal_table`.

-- "1 to 256 probes .. and 0 to 2,048 links": the limits are parameters
pub record Size (pmax lmax probes links : ℕ) : Type 0 where
  pub some : probes ≡ 0 → ⊥
  pub few : probes ≤ pmax
  pub within : links ≤ lmax

-- "A link joins a low probe to a higher one"
pub record Ends (probes low high : ℕ) : Type 0 where
  pub rises : low < high
  pub below : high < probes

-- the link j's ends come after those of the link i: "in rising order of low end, then high end"
abbrev pub After : Table → ℕ → ℕ → Type 0
After t i j = (t.low i < t.low j) ⊎ ((t.low i ≡ t.low j) × (t.high i < t.high j))

-- "Links stand in rising order of low end, then high end, none twice."
pub record RisingLinks (t : Table) : Type 0 where
  pub rising : (i j : ℕ) → i < j → j < t.links → After t i j

pub record LegalTable (pmax lmax : ℕ) (t : Table) : Type 0 where
  pub size : Size pmax lmax t.probes t.links
  pub links_pass : first (link_fault t.probes t.low t.high) t.links ≡ 0
  pub ends : (i : ℕ) → i < t.links → Ends t.probes (t.low i) (t.high i)
  pub order : RisingLinks t

-- 8 for a lent slice shorter than it must be
abbrev pub lent_fault : ℕ → ℕ → ℕ
lent_fault lent needed = cond (ltb lent needed) 8 0

-- "Low, high and cost slices of unequal length, or a lent table .. slice too short": by the lengths of needs, lows, highs and costs
abbrev pub room_fault : ℕ → ℕ → ℕ → ℕ → ℕ → ℕ → ℕ
room_fault probes links needs lows highs costs =
    cond (ltb needs probes || (not (eqb lows highs) || (not (eqb highs costs) || ltb lows links))) 8 0

-- what it gives, by the same lengths
pub record Room (probes links needs lows highs costs : ℕ) : Type 0 where
  pub needed : probes ≤ needs
  pub linked : links ≤ lows
  pub equal : lows ≡ highs
  pub equal₂ : highs ≡ costs
