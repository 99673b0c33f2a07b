-- A site and the order of its links. The sentences are those of document 01, "Table and order".
use Rattle.std.specs.Prelude.{ℕ, ◌-◌, min, ◌≡◌, Bool, cond, ◌&&◌, ◌||◌, List, ltb, eqb, get_or}
use Rattle.range.specs.Sum.{count}
use Rattle.range.specs.Choice.{lowest}

-- "A site has .. probes, numbered from 0, and .. links. A link joins a low probe to a higher one and has a cost .. Each probe has a need."
-- Links are known by their place in the table, from 0.
pub record Table : Type 0 where
  pub number : ℕ
  pub probes : ℕ
  pub links : ℕ
  pub need : ℕ → ℕ
  pub low : ℕ → ℕ
  pub high : ℕ → ℕ
  pub cost : ℕ → ℕ

-- the entry of a slice at a place
abbrev pub item : List ℕ → ℕ → ℕ
item xs i = get_or xs i 0

-- "A table in slices goes with its number, probe count and link count."
abbrev pub of_slices : ℕ → ℕ → ℕ → List ℕ → List ℕ → List ℕ → List ℕ → Table
of_slices number probes links needs lows highs costs =
    record {
      number = number;
      probes = probes;
      links = links;
      need = item needs;
      low = item lows;
      high = item highs;
      cost = item costs;
    }

-- v is an end of the link i
abbrev pub touches : Table → ℕ → ℕ → Bool
touches t v i = eqb v (t.low i) || eqb v (t.high i)

-- the probe's number of links
abbrev pub degree : Table → ℕ → ℕ
degree t v = count t.links (touches t v)

-- the slice holds each probe's number of links
abbrev pub Degrees : Table → List ℕ → Type 0
Degrees t degrees = (v : ℕ) → item degrees v ≡ degree t v

-- 02, No. 1: "Everywhere the need now counts as the smaller of the need and the number of links"
abbrev pub counted_need : Table → ℕ → ℕ
counted_need t v = min (t.need v) (degree t v)

-- "Its spare is its number of links less its need."
abbrev pub spare : Table → ℕ → ℕ
spare t v = degree t v - counted_need t v

-- 02, No. 1: "a need of three meets two links .. Such a probe .. is called short", and its "missing count"
abbrev pub is_short : Table → ℕ → Bool
is_short t v = ltb (degree t v) (t.need v)

abbrev pub missing : Table → ℕ → ℕ
missing t v = t.need v - degree t v

-- "A link is dearer than another if its cost is larger; at equal cost, if its low end is larger; then if its high end is larger."
unfoldable pub dearer : Table → ℕ → ℕ → Bool
dearer t i j =
    ltb (t.cost j) (t.cost i)
    || (eqb (t.cost i) (t.cost j)
    && (ltb (t.low j) (t.low i)
    || (eqb (t.low i) (t.low j) && ltb (t.high j) (t.high i))))

-- the same for links that rise by low end, then high end: by cost and place
abbrev pub dearer_by_place : (ℕ → ℕ) → ℕ → ℕ → Bool
dearer_by_place cost i j = ltb (cost j) (cost i) || (eqb (cost i) (cost j) && ltb j i)

-- '"Cheaper" is the exact reverse.'
abbrev pub cheaper : Table → ℕ → ℕ → Bool
cheaper t i j = dearer t j i

-- the other end of a link
abbrev pub other : Table → ℕ → ℕ → ℕ
other t p i = cond (eqb p (t.low i)) (t.high i) (t.low i)

-- the link joins the two probes
abbrev pub joins : Table → ℕ → ℕ → ℕ → Bool
joins t a b i = (eqb a (t.low i) && eqb b (t.high i)) || (eqb b (t.low i) && eqb a (t.high i))

-- the link between two probes; the number of links where there is none
abbrev pub between : Table → ℕ → ℕ → ℕ
between t a b = lowest (joins t a b) t.links
