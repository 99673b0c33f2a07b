-- Demand 2 of a table in slices, sentence by sentence; the theorem is `demand_2`. A call is known by its promise, for whatever it was lent.
use Rattle.std.specs.Prelude.{ℕ, ◌*◌, ◌≤◌, ◌<◌, ◌≡◌, ◌⊎◌, Bool, List, length, take, replicate, Result, Ok, Err}
use Rattle.table.specs.Table.{Table, item}
use Rattle.table.specs.Slices.{Slices, table_of}
use Rattle.table.specs.Text.{text_end}
use Rattle.table.specs.Same.{Same}
use Rattle.refusals.specs.declared.Refusal.{Refusal}
use Rattle.refusals.specs.declared.Refusal.TheVariants.{Slice}
use Rattle.table_read.specs.Reading.{Lent, answered}
use Rattle.table_read.specs.declared.TableHead.{TableHead}
use Rattle.table_laws.specs.Functions.{lent_slices, HoldsTable, ReadTable, WriteTable, ReadThenWrite}
use Rattle.plan_theory.specs.Plan.{rested, kept, kept_count, cost_of, plan_byte, is_kept, slse, Meets}
use Rattle.plan_theory.specs.Criterion.{PlanRule, Criterion, Settled}
use Rattle.plan_theory.specs.Bounds.{ShortKeeps, NoneForNothing}
use Rattle.plan_methods.specs.Planning.{PlansBySlse, PlansByTurns}
use Rattle.plan_methods.specs.declared.Totals.{Totals}

-- what a call that plans answers and leaves in the lent plan
pub record LeavesPlan (t : Table) (r : Result Totals Refusal) (before after : List ℕ) : Type 0 where
  -- "The answer holds the kept count and total cost, both fixed by that definition"
  pub answer : r ≡ Ok (record { kept = kept_count t; cost = cost_of t (kept t) })
  -- "one byte a link, 1 kept and 0 rested; bytes beyond the links stay untouched"
  pub bytes : (i : ℕ) → i < t.links → item after i ≡ plan_byte (kept t i)
  pub beyond : (i : ℕ) → t.links ≤ i → item after i ≡ item before i
  pub long : length after ≡ length before
  -- the links that these bytes keep meet the counted needs, and none of them is awake for nothing (02, No. 14)
  pub needs_met : Meets t (is_kept after)
  pub none_for_nothing : NoneForNothing t (is_kept after)

module _ (x : Slices) where
  abbrev t : Table
  t = table_of x

  pub record Demand2 : Type 0 where
    -- "The plan is what remains when links are gone through from dearest to cheapest, by 01's order, and a link is rested exactly when both ends still have more links than they need."
    pub by_rule : PlanRule t (rested t)
    pub only_by_rule : (r : ℕ → Bool) → PlanRule t r → (i : ℕ) → i < x.links → r i ≡ rested t i
    -- the same counted against the spares, and by no other set
    pub by_spares : Criterion t (rested t)
    pub only_by_spares : (r : ℕ → Bool) → Criterion t r → (i : ℕ) → i < x.links → r i ≡ rested t i
    -- 02, No. 1: a short probe "has spare 0, keeps all its links": with what both calls leave, below
    pub short_keeps : ShortKeeps t
    -- "Offers by turn, and the published S-LSE method, both give this plan for every legal table."
    pub by_offers : (stand held : ℕ → ℕ → Bool) → Settled t stand held
        → (i : ℕ) → i < x.links → (stand (t.low i) i ≡ rested t i) × (stand (t.high i) i ≡ rested t i)
    pub by_slse : (i : ℕ) → i < x.links → slse t i ≡ kept t i
    -- what `plan_by_turns` and `plan_by_slse` answer and leave, in every lent plan and working bytes that are long enough; else 8, and nothing changes
    pub turns_call : (r : Result Totals Refusal) (before after work work' : List ℕ) → PlansByTurns 256 2048 x r before after work work'
        → x.links ≤ length before → 4 * x.links ≤ length work → LeavesPlan t r before after × (work' ≡ replicate (length work) 0)
    pub turns_no_room : (r : Result Totals Refusal) (before after work work' : List ℕ) → PlansByTurns 256 2048 x r before after work work'
        → (length before < x.links) ⊎ (length work < 4 * x.links) → (r ≡ Err Slice) × (after ≡ before) × (work' ≡ work)
    pub slse_call : (r : Result Totals Refusal) (before after : List ℕ) → PlansBySlse 256 2048 x r before after
        → x.links ≤ length before → LeavesPlan t r before after
    pub slse_no_room : (r : Result Totals Refusal) (before after : List ℕ) → PlansBySlse 256 2048 x r before after
        → length before < x.links → (r ≡ Err Slice) × (after ≡ before)
    -- both give the same answer and, into one lent plan, the same bytes
    pub both_same : (r r' : Result Totals Refusal) (before after after' work work' : List ℕ)
        → PlansBySlse 256 2048 x r before after → PlansByTurns 256 2048 x r' before after' work work'
        → 4 * x.links ≤ length work → (r ≡ r') × (after ≡ after')
    -- "Every table text read is written back the same": every text, from any slices it was read into, into any text that is long enough
    pub read_written : ReadThenWrite
    -- "every legal table written reads back": written into any text that is long enough, read into any slices that hold it
    pub written_read : (w : Result ℕ Refusal) (out out' : List ℕ) (r : Result TableHead Refusal) (b b' : Lent)
        → WriteTable x w out out'
        → text_end t ≤ length out
        → HoldsTable x.probes x.links b
        → ReadTable (take (text_end t) out') r b b'
        → (w ≡ Ok (text_end t)) × (r ≡ answered x.number x.probes x.links (text_end t))
        × Same (table_of (lent_slices x.number x.probes x.links b')) t
