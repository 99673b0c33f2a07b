-- What planning promises: the answer, and the lent buffers at exit. The sentences are those of document 01, "Two ways to one plan".
use Rattle.std.specs.Prelude.{ℕ, ◌*◌, ◌<◌, ◌≤◌, ◌≡◌, cond, List, [], ◌∷◌, eqb, length, replicate, Result}
use Rattle.range.specs.First.{or_else}
use Rattle.range.specs.Lists.{stored}
use Rattle.range.specs.Reply.{Reply, reply_of}
use Rattle.refusals.specs.Refusals.{reply_in}
use Rattle.refusals.specs.declared.Refusal.{Refusal}
use Rattle.table.specs.Table.{Table, of_slices}
use Rattle.table.specs.Legal.{table_fault, room_fault, lent_fault}
use Rattle.table.specs.Slices.{Slices, table_of, slice_fault}
use Rattle.plan_theory.specs.Plan.{kept, kept_count, cost_of, plan_byte}
use Rattle.plan_methods.specs.declared.Totals.{Totals}

-- 8 for the plan, then the faults of the table's slices; `plan` is the length of the lent plan
abbrev pub plan_fault : ℕ → ℕ → Slices → ℕ → ℕ
plan_fault pmax lmax x plan = or_else (lent_fault plan x.links) (slice_fault pmax lmax x)

-- "Working bytes lent for this, at least four a link": 8 for them, then as above
abbrev pub turns_fault : ℕ → ℕ → Slices → ℕ → ℕ → ℕ
turns_fault pmax lmax x plan work = or_else (lent_fault work (4 * x.links)) (plan_fault pmax lmax x plan)

-- what S-LSE asks: a legal table, of some probe count, in slices with room for it, and the lengths of the plan and of the slices that it works in
pub record SlseReady (links : ℕ) (needs lows highs costs : List ℕ) (plan order half digits counts : ℕ) : Type 0 where
  pub probes : ℕ
  pub legal : table_fault 256 2048 (of_slices 0 probes links needs lows highs costs) ≡ 0
  pub room : room_fault probes links (length needs) (length lows) (length highs) (length costs) ≡ 0
  pub in_counts : probes ≤ counts
  pub in_plan : links ≤ plan
  pub in_order : links ≤ order
  pub in_half : links ≤ half
  pub base : (1 < digits) × (digits ≤ 256)

-- "The answer holds the kept count and total cost"
abbrev pub planning_reply : Result Totals Refusal → Reply
planning_reply = reply_in (λ r. r.kept ∷ r.cost ∷ [])

-- "both fixed by that definition"
abbrev pub plan_values : Table → List ℕ
plan_values t = kept_count t ∷ cost_of t (kept t) ∷ []

-- "Plan buffers have one byte a link, 1 kept and 0 rested; bytes beyond the links stay untouched."
abbrev pub planned_of : ℕ → Table → List ℕ → List ℕ
planned_of fault t d = cond (eqb fault 0) (stored (λ i. plan_byte (kept t i)) t.links d) d

-- Working bytes "may hold anything before and are all zero after success"
abbrev pub cleared_of : ℕ → List ℕ → List ℕ
cleared_of fault d = cond (eqb fault 0) (replicate (length d) 0) d

-- what a call answers, and what it leaves in the plan
pub record Plans (fault : ℕ) (t : Table) (r : Result Totals Refusal) (before after : List ℕ) : Type 0 where
  pub answer : planning_reply r ≡ reply_of fault (plan_values t)
  pub plan : after ≡ planned_of fault t before

-- and in the working bytes
pub record PlansAndClears (fault : ℕ) (t : Table) (r : Result Totals Refusal) (before after work work' : List ℕ) : Type 0 where
  pub plans : Plans fault t r before after
  pub cleared : work' ≡ cleared_of fault work

-- `plan_by_slse` and `plan_by_turns` on the slices x, within limits: they answer r and leave the lent plan `before` as `after`

abbrev pub PlansBySlse : ℕ → ℕ → Slices → Result Totals Refusal → List ℕ → List ℕ → Type 0
PlansBySlse pmax lmax x r before after = Plans (plan_fault pmax lmax x (length before)) (table_of x) r before after

abbrev pub PlansByTurns : ℕ → ℕ → Slices → Result Totals Refusal → List ℕ → List ℕ → List ℕ → List ℕ → Type 0
PlansByTurns pmax lmax x r before after work work' =
    PlansAndClears (turns_fault pmax lmax x (length before) (length work)) (table_of x) r before after work work'
