-- The working bytes of the offers, the slice of the site and the probes' marks, and what each function promises of them.
use Rattle.std.specs.Prelude.{ℕ, ◌+◌, ◌-◌, ◌*◌, ◌/◌, ◌%◌, ◌≤◌, ◌<◌, ◌≡◌, Bool, true, false, cond, ◌&&◌, List, ltb, eqb, length, set}
use Rattle.range.specs.Sum.{count}
use Rattle.table.specs.Table.{Table, item, spare, dearer}
use Rattle.plan_turns_search.specs.Chain.{opposite, Below, Follows}
use Rattle.plan_turns_search.specs.Offers.{Site, stands, holds, NoneLeft, Satisfied, OffersInv, Made, NextOffer, OfferSearch, HeldSearch}

-- two bytes for each direction: its offer at its source, and at its target
abbrev pub at_source : List ℕ → ℕ → ℕ
at_source r d = item r (2 * d)

abbrev pub at_target : List ℕ → ℕ → ℕ
at_target r d = item r (2 * d + 1)

-- the site in one slice: its counts of probes and of links, then four entries a direction, then a spare a probe
abbrev pub probes_of : List ℕ → ℕ
probes_of x = item x 0

abbrev pub links_of : List ℕ → ℕ
links_of x = item x 1

-- the k-th of a direction's entries: its target, its cost, and the next of its source's directions, down and up
abbrev pub of_direction : List ℕ → ℕ → ℕ → ℕ
of_direction x d k = item x (4 * d + k + 2)

abbrev pub target_of : List ℕ → ℕ → ℕ
target_of x d = of_direction x d 0

abbrev pub source_of : List ℕ → ℕ → ℕ
source_of x d = target_of x (opposite d)

-- by cost, at equal cost by the link's place in the table
unfoldable pub key_of : List ℕ → ℕ → ℕ
key_of x d = of_direction x d 1 * 65536 + d / 2

-- a key that is the larger the cheaper
abbrev pub turned_key : List ℕ → ℕ → ℕ
turned_key x d = 4294967295 - key_of x d

abbrev pub spare_of : List ℕ → ℕ → ℕ
spare_of x v = item x (8 * links_of x + v + 2)

abbrev pub site_of : List ℕ → Site
site_of x =
    record { dirs = 2 * links_of x; source = source_of x; target = target_of x; key = key_of x; spare = spare_of x }

-- s is the table's site (`site_of_table`): each link from both its ends, the larger key by 01's order, and the probes' spares
pub record SiteOfTable (t : Table) (s : Site) : Type 0 where
  pub both : s.dirs ≡ 2 * t.links
  pub up : (i : ℕ) → i < t.links → (s.source (2 * i) ≡ t.low i) × (s.target (2 * i) ≡ t.high i)
  pub down : (i : ℕ) → i < t.links → (s.source (2 * i + 1) ≡ t.high i) × (s.target (2 * i + 1) ≡ t.low i)
  pub order : (d f : ℕ) → d < s.dirs → f < s.dirs → ltb (s.key d) (s.key f) ≡ dearer t (f / 2) (d / 2)
  pub spares : (v : ℕ) → v < t.probes → s.spare v ≡ spare t v

-- the bytes of a direction at its source and at its target, both stored
unfoldable pub put : List ℕ → ℕ → ℕ → List ℕ
put r d b = set (set r (2 * d) b) (2 * d + 1) b

-- "the count of untried offers"
abbrev pub untried_count : ℕ → List ℕ → ℕ
untried_count links r = count (2 * links) (λ d. eqb (at_source r d) 0)

-- "A link is rested when each end holds the other's offer."
abbrev pub kept_byte : List ℕ → ℕ → ℕ
kept_byte r i = cond (eqb (at_target r (2 * i)) 1 && eqb (at_target r (2 * i + 1)) 1) 0 1

-- x holds a site: each link has two ends among the probes and one cost, and the chains go down from the dearest and up from the cheapest
pub record SiteInSlice (x : List ℕ) : Type 0 where
  pub few : links_of x ≤ 2048
  pub within : probes_of x ≤ 256
  pub room : 8 * links_of x + probes_of x + 2 ≤ length x
  pub cheap : (d : ℕ) → d < 2 * links_of x → of_direction x d 1 < 65536
  pub one_cost : (d : ℕ) → d < 2 * links_of x → of_direction x (opposite d) 1 ≡ of_direction x d 1
  pub apart : (d : ℕ) → d < 2 * links_of x → target_of x d ≡ source_of x d → ⊥
  pub ends : (d : ℕ) → d < 2 * links_of x → target_of x d < probes_of x
  pub down : Follows (2 * links_of x) (source_of x) (key_of x) (λ d. of_direction x d 2)
  pub up : Follows (2 * links_of x) (source_of x) (turned_key x) (λ d. of_direction x d 3)

-- the bytes are there, and a direction's two are equal
pub record Paired (links : ℕ) (r : List ℕ) : Type 0 where
  pub room : 4 * links ≤ length r
  pub twin : (d : ℕ) → at_target r d ≡ at_source r d

pub record OffersReady (x r : List ℕ) : Type 0 where
  pub fits : SiteInSlice x
  pub paired : Paired (links_of x) r
  pub inv : OffersInv (site_of x) (at_source r)

-- the k-th of the four entries of a probe
abbrev pub mark : List ℕ → ℕ → ℕ → ℕ
mark marks v k = item marks (4 * v + k)

-- the entries beside the bytes: how many of a probe's offers stand and how many it holds, and where the searches along its links and along its held offers stand
pub record MarksAgree (x r marks : List ℕ) : Type 0 where
  pub room : 4 * probes_of x ≤ length marks
  pub standing : (u : ℕ) → u < probes_of x → mark marks u 0 ≡ stands (site_of x) (at_source r) u
  pub held : (v : ℕ) → v < probes_of x → mark marks v 1 ≡ holds (site_of x) (at_source r) v
  pub cursors : (u : ℕ) → u < probes_of x → OfferSearch (site_of x) (at_source r) u (mark marks u 2)
  pub lasts : (v : ℕ) → v < probes_of x → (d : ℕ) → d < 2 * links_of x → target_of x d ≡ v → HeldSearch (site_of x) (at_source r) v (mark marks v 3)

-- the slices that offers by turn work in are long enough
pub record WorkingRoom (probes links spares marks site order half digits : ℕ) : Type 0 where
  pub in_spares : probes ≤ spares
  pub in_marks : 4 * probes ≤ marks
  pub in_site : 8 * links + probes + 2 ≤ site
  pub in_order : links ≤ order
  pub in_half : links ≤ half
  pub base : (1 < digits) × (digits ≤ 256)

-- x has these links and spares
pub record SiteOfLinks (probes links : ℕ) (lows highs costs spares x : List ℕ) : Type 0 where
  pub probe_count : probes_of x ≡ probes
  pub link_count : links_of x ≡ links
  pub targets : (i : ℕ) → i < links → (target_of x (2 * i) ≡ item highs i) × (target_of x (2 * i + 1) ≡ item lows i)
  pub costs_in : (d : ℕ) → d < 2 * links → of_direction x d 1 ≡ item costs (d / 2)
  pub spares_in : (v : ℕ) → v < probes → spare_of x v ≡ item spares v

-- the directions of the link i have their targets and costs, and all else that directions have stays
pub record LinkPut (i low high cost : ℕ) (x x' : List ℕ) : Type 0 where
  pub targets : (target_of x' (2 * i) ≡ high) × (target_of x' (2 * i + 1) ≡ low)
  pub costs_in : (of_direction x' (2 * i) 1 ≡ cost) × (of_direction x' (2 * i + 1) 1 ≡ cost)
  pub others : (d k : ℕ) → k < 4 → (d / 2 ≡ i → 2 ≤ k) → of_direction x' d k ≡ of_direction x d k

pub record LinksPut (links : ℕ) (lows highs costs x x' : List ℕ) : Type 0 where
  pub targets : (i : ℕ) → i < links → (target_of x' (2 * i) ≡ item highs i) × (target_of x' (2 * i + 1) ≡ item lows i)
  pub costs_in : (d : ℕ) → d < 2 * links → of_direction x' d 1 ≡ item costs (d / 2)
  pub chains : (d k : ℕ) → 2 ≤ k → k < 4 → of_direction x' d k ≡ of_direction x d k

-- the spares are behind the directions, and what is before them stays
pub record SparesPut (probes links : ℕ) (spares x x' : List ℕ) : Type 0 where
  pub spares_in : (v : ℕ) → v < probes → item x' (8 * links + v + 2) ≡ item spares v
  pub others : (j : ℕ) → j < 8 * links + 2 → item x' j ≡ item x j

-- a probe's entries before the chains are made: no offer, and no link where the searches start
abbrev pub first_mark : ℕ → ℕ
first_mark j = cond (ltb (j % 4) 2) 0 65535

-- no offer is made, and the searches stand at the chains' firsts
pub record Started (x marks : List ℕ) : Type 0 where
  pub standing : (v : ℕ) → v < probes_of x → mark marks v 0 ≡ 0
  pub held : (v : ℕ) → v < probes_of x → mark marks v 1 ≡ 0
  pub cursors : (v : ℕ) → v < probes_of x → Below (2 * links_of x) (source_of x) (key_of x) v 4294967296 (mark marks v 2)
  pub lasts : (v : ℕ) → v < probes_of x → Below (2 * links_of x) (source_of x) (turned_key x) v 4294967296 (mark marks v 3)

-- an offer of u was made, or none was left to make
pub record Offered (x r r' : List ℕ) (u : ℕ) (made? : Bool) : Type 0 where
  pub paired : Paired (links_of x) r'
  pub made : Made (site_of x) (at_source r) (at_source r') u
  pub fewer : made? ≡ true → untried_count (links_of x) r' < untried_count (links_of x) r
  pub none : made? ≡ false → NoneLeft (site_of x) (at_source r') u

-- d is its source's next offer, and its target holds its spare
pub record Displaces (x r : List ℕ) (d : ℕ) : Type 0 where
  pub ready : OffersReady x r
  pub next : NextOffer (site_of x) (at_source r) (source_of x d) d
  pub room : stands (site_of x) (at_source r) (source_of x d) < spare_of x (source_of x d)
  pub full : spare_of x (target_of x d) ≤ holds (site_of x) (at_source r) (target_of x d)

-- probe p had its turn: it is satisfied, and so is each that was
pub record Turned (x r r' : List ℕ) (p : ℕ) : Type 0 where
  pub ready : OffersReady x r'
  pub keeps : (w : ℕ) → Satisfied (site_of x) (at_source r) w → Satisfied (site_of x) (at_source r') w
  pub done : Satisfied (site_of x) (at_source r') p

-- the first n probes are satisfied
pub record Over (x r : List ℕ) (n : ℕ) : Type 0 where
  pub ready : OffersReady x r
  pub done : (w : ℕ) → w < n → Satisfied (site_of x) (at_source r) w
