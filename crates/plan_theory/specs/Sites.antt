-- The marked sites M1 to M10: document 01, "Sites to compare"; a site with a short probe; a site where another choice costs less.
use Rattle.std.specs.Prelude.{ℕ, zero, suc, ◌≤◌, ◌≡◌, Bool, true, false, ◌||◌, cond, List, [], ◌∷◌, ◌++◌, eqb, length}
use Rattle.table.specs.Table.{Table, of_slices, spare, is_short, missing}
use Rattle.table.specs.Legal.{Legal}
use Rattle.plan_theory.specs.Plan.{kept, kept_count, cost_of, has_fewer, added, removed, Meets, without, is_needed}

-- a site by its needs and its links' low ends, high ends and costs
abbrev pub site : List ℕ → List ℕ → List ℕ → List ℕ → Table
site needs lows highs costs = of_slices 1 (length needs) (length costs) needs lows highs costs

-- the low and high ends of the first n links that are in the set
unfoldable pub ends_in : Table → (ℕ → Bool) → ℕ → List (ℕ × ℕ)
ends_in t s zero = []
ends_in t s (suc n) = ends_in t s n ++ cond (s n) ((t.low n, t.high n) ∷ []) []

-- the plan's links, their count and their cost
pub record SitePlan (t : Table) (links : List (ℕ × ℕ)) (cost : ℕ) : Type 0 where
  pub links_kept : ends_in t (kept t) t.links ≡ links
  pub count_kept : kept_count t ≡ length links
  pub cost_kept : cost_of t (kept t) ≡ cost

-- what S-LSE adds, and which of these it removes
pub record Phases (t : Table) (up down : List (ℕ × ℕ)) : Type 0 where
  pub adds : ends_in t (added t) t.links ≡ up
  pub removes : ends_in t (removed t) t.links ≡ down

-- three links in a row, from 0-1 to 2-3, and a triangle
abbrev pub row : List ℕ → Table
row costs = site (0 ∷ 1 ∷ 1 ∷ 0 ∷ []) (0 ∷ 1 ∷ 2 ∷ []) (1 ∷ 2 ∷ 3 ∷ []) costs

abbrev pub triangle : List ℕ → Table
triangle costs = site (1 ∷ 1 ∷ 1 ∷ []) (0 ∷ 0 ∷ 1 ∷ []) (1 ∷ 2 ∷ 2 ∷ []) costs

pub record Sites : Type 0 where
  pub m1 : SitePlan (row (5 ∷ 5 ∷ 5 ∷ [])) ((1, 2) ∷ []) 5
  pub m2 : SitePlan (row (5 ∷ 6 ∷ 5 ∷ [])) ((0, 1) ∷ (2, 3) ∷ []) 10
  pub m3 : SitePlan (site (0 ∷ []) [] [] []) [] 0
  pub m4 : SitePlan (site (0 ∷ 0 ∷ []) (0 ∷ []) (1 ∷ []) (7 ∷ [])) [] 0
  pub m5 : SitePlan (site (1 ∷ 0 ∷ []) (0 ∷ []) (1 ∷ []) (7 ∷ [])) ((0, 1) ∷ []) 7
  pub m6 : SitePlan (triangle (1 ∷ 2 ∷ 3 ∷ [])) ((0, 1) ∷ (0, 2) ∷ []) 3
  pub m7 : SitePlan (triangle (4 ∷ 4 ∷ 4 ∷ [])) ((0, 1) ∷ (0, 2) ∷ []) 8
  pub m8 : SitePlan (row (0 ∷ 0 ∷ 0 ∷ [])) ((1, 2) ∷ []) 0
  pub m9 : Phases (row (5 ∷ 6 ∷ 5 ∷ [])) ((0, 1) ∷ (2, 3) ∷ []) []
  pub m10 : Phases (row (5 ∷ 5 ∷ 5 ∷ [])) ((0, 1) ∷ (1, 2) ∷ []) ((0, 1) ∷ [])

-- 02, No. 1: "a need of three meets two links": those of probe 1
abbrev pub valley : Table
valley = site (1 ∷ 3 ∷ 1 ∷ 0 ∷ []) (0 ∷ 0 ∷ 1 ∷ 2 ∷ []) (1 ∷ 2 ∷ 2 ∷ 3 ∷ []) (5 ∷ 6 ∷ 7 ∷ 4 ∷ [])

pub record Valley : Type 0 where
  pub short : is_short valley 1 ≡ true
  pub missing_one : missing valley 1 ≡ 1
  pub no_spare : spare valley 1 ≡ 0
  pub keeps_both : SitePlan valley ((0, 1) ∷ (1, 2) ∷ []) 12
  -- with two links it has its counted need, though not three
  pub has_counted : has_fewer valley (kept valley) 1 ≡ false

-- 02, No. 14: a triangle 0-1-2 and the link 1-3, each at cost 1; the plan and the best choice share 1-3, beside it the plan has 0-1 and 0-2, the choice 1-2
abbrev pub tailed : Table
tailed = site (0 ∷ 2 ∷ 1 ∷ 1 ∷ []) (0 ∷ 0 ∷ 1 ∷ 1 ∷ []) (1 ∷ 2 ∷ 2 ∷ 3 ∷ []) (1 ∷ 1 ∷ 1 ∷ 1 ∷ [])

abbrev pub last_two : ℕ → Bool
last_two i = eqb i 2 || eqb i 3

pub record Tailed : Type 0 where
  pub legal : Legal tailed
  pub keeps_three : SitePlan tailed ((0, 1) ∷ (0, 2) ∷ (1, 3) ∷ []) 3
  -- without the link 0-1 its high end has less than its counted need, and its low end has not: "an end" is not "both ends"
  pub needed : is_needed tailed (kept tailed) 0 ≡ true
  pub high_has_less : has_fewer tailed (without (kept tailed) (eqb 0)) (tailed.high 0) ≡ true
  pub low_has_enough : has_fewer tailed (without (kept tailed) (eqb 0)) (tailed.low 0) ≡ false
  -- with all links awake, 1-2 is awake for nothing
  pub not_needed : is_needed tailed (λ i. true) 2 ≡ false
  -- the other choice meets the needs, and none that does costs less
  pub other_meets : Meets tailed last_two
  pub other_best : (choice : ℕ → Bool) → Meets tailed choice → cost_of tailed last_two ≤ cost_of tailed choice
  -- what only the plan keeps costs just twice what only the other keeps: no factor below 2 would do
  pub only_plan : cost_of tailed (without (kept tailed) last_two) ≡ 2
  pub only_other : cost_of tailed (without last_two (kept tailed)) ≡ 1
