-- The plan, S-LSE, and what a choice of links meets and costs. The sentences are those of demand 2, of document 01 and of 02, No. 14; a need is everywhere the counted one (02, No. 1). A set of links is a function ℕ → Bool.
use Rattle.std.specs.Prelude.{ℕ, ◌-◌, ◌≤◌, ◌<◌, Bool, ◌&&◌, ◌||◌, not, cond, List, ltb, eqb}
use Rattle.range.specs.Sum.{weigh, count}
use Rattle.table.specs.Table.{Table, touches, degree, counted_need, dearer, cheaper, item}
use Rattle.plan_theory.specs.Pass.{pass}

-- how many links of the set v is an end of
abbrev pub links_at : Table → (ℕ → Bool) → ℕ → ℕ
links_at t s v = count t.links (λ i. touches t v i && s i)

-- with the links of r rested, v "still has more links than" it needs
abbrev pub has_more : Table → (ℕ → Bool) → ℕ → Bool
has_more t r v = ltb (counted_need t v) (degree t v - links_at t r v)

-- "links are gone through from dearest to cheapest, by 01's order, and a link is rested exactly when both ends still have more links than they need"
unfoldable pub rested : Table → ℕ → Bool
rested t i = pass t.links (dearer t) (λ r g. has_more t r (t.low g) && has_more t r (t.high g)) i

-- "The plan is what remains"
abbrev pub kept : Table → ℕ → Bool
kept t i = not (rested t i)

-- a plan buffer's byte: "1 kept and 0 rested"
abbrev pub plan_byte : Bool → ℕ
plan_byte b = cond b 1 0

-- the plan buffer keeps the link i
abbrev pub is_kept : List ℕ → ℕ → Bool
is_kept plan i = eqb (item plan i) 1

-- "The answer holds the kept count and total cost"
abbrev pub kept_count : Table → ℕ
kept_count t = count t.links (kept t)

-- "its cost is the sum of theirs"
abbrev pub cost_of : Table → (ℕ → Bool) → ℕ
cost_of t s = weigh t.links s t.cost

-- with the links of s alone, v is "short of its need"; 02, No. 14: has "less than its counted need"
abbrev pub has_fewer : Table → (ℕ → Bool) → ℕ → Bool
has_fewer t s v = ltb (links_at t s v) (counted_need t v)

-- "from cheapest up, add each link that then has an end short of its need"
unfoldable pub added : Table → ℕ → Bool
added t i = pass t.links (cheaper t) (λ s g. has_fewer t s (t.low g) || has_fewer t s (t.high g)) i

-- with the links of r removed, v has "more added links than" it needs
abbrev pub has_more_added : Table → (ℕ → Bool) → ℕ → Bool
has_more_added t r v = ltb (counted_need t v) (links_at t (added t) v - links_at t r v)

-- "Then, from dearest down, remove an added link if both ends then have more added links than they need."
unfoldable pub removed : Table → ℕ → Bool
removed t i = pass t.links (dearer t) (λ r g. added t g && (has_more_added t r (t.low g) && has_more_added t r (t.high g))) i

-- what S-LSE keeps
abbrev pub slse : Table → ℕ → Bool
slse t i = added t i && not (removed t i)

-- "Choice: any set of the table's links. It meets the needs when each probe is an end of at least its need of them"
abbrev pub Meets : Table → (ℕ → Bool) → Type 0
Meets t s = (v : ℕ) → v < t.probes → counted_need t v ≤ links_at t s v

-- the links of one set that are not in another
abbrev pub without : (ℕ → Bool) → (ℕ → Bool) → ℕ → Bool
without p q i = p i && not (q i)

-- 02, No. 14: "resting one more kept link", i, "leaves an end with less than its counted need"
abbrev pub is_needed : Table → (ℕ → Bool) → ℕ → Bool
is_needed t plan i = has_fewer t (without plan (eqb i)) (t.low i) || has_fewer t (without plan (eqb i)) (t.high i)
