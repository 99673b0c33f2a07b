-- The plans of the well-head display: 02, No. 11, "A display with less memory". The theorem is `display_plans`; tables alone are in table_display.
use Rattle.std.specs.Prelude.{ℕ, ◌*◌, ◌≤◌, ◌≡◌, true, false, List, ◌++◌, length, drop, Result, Err}
use Rattle.table.specs.Slices.{Slices, table_of, slices_room_fault}
use Rattle.lines.specs.Digits.{line_fault}
use Rattle.table.specs.Text.{of_text}
use Rattle.table_read.specs.Reading.{Lent}
use Rattle.table_laws.specs.Functions.{lent_slices, HoldsTable}
use Rattle.table_display.specs.Display.{over}
use Rattle.plan_methods.specs.Planning.{PlansBySlse, PlansByTurns}
use Rattle.plan_methods.specs.declared.Totals.{Totals}
use Rattle.refusals.specs.declared.Refusal.{Refusal}
use Rattle.refusals.specs.declared.Refusal.TheVariants.{Size, Slice}
use Rattle.output.specs.Output.{refusal_line}
use Rattle.output.specs.declared.Output.{Output}
use Rattle.output.specs.declared.Output.TheVariants.{Length}
use Rattle.plan_output.specs.Output.{output_of, PrintsText}

-- "Each caller is held to its own pair, by the refusal that 01 already has for the header": of slices with room for their table, and of a text with a good header line
pub record PlansHeld (pmax lmax : ℕ) : Type 0 where
  pub slse : (x : Slices) (r : Result Totals Refusal) (plan after : List ℕ) → over pmax lmax (table_of x) ≡ true → slices_room_fault x ≡ 0 → x.links ≤ length plan
      → PlansBySlse pmax lmax x r plan after → (r ≡ Err Size) × (after ≡ plan)
  pub turns : (x : Slices) (r : Result Totals Refusal) (plan after work after-work : List ℕ) → over pmax lmax (table_of x) ≡ true → slices_room_fault x ≡ 0
      → x.links ≤ length plan → 4 * x.links ≤ length work
      → PlansByTurns pmax lmax x r plan after work after-work → (r ≡ Err Size) × (after ≡ plan) × (after-work ≡ work)
  pub print : (s : List ℕ) (r : Output) (out after : List ℕ) → over pmax lmax (of_text s) ≡ true → line_fault s 0 12 ≡ 0 → 5 ≤ length out
      → PrintsText pmax lmax s r out after → (r ≡ Length 5) × (after ≡ refusal_line 3 ++ drop 5 out)

-- "A table within the smaller pair gives the same plan to both": the calls of the display and the full ones answer the same kept count and cost, or the same refusal, and leave the same.

-- of slices
pub record SamePlan (x : Slices) : Type 0 where
  pub slse : (r r' : Result Totals Refusal) (plan after after' : List ℕ) → PlansBySlse 16 40 x r plan after → PlansBySlse 256 2048 x r' plan after' → (r ≡ r') × (after ≡ after')
  pub turns : (r r' : Result Totals Refusal) (plan after after' work cleared cleared' : List ℕ) → PlansByTurns 16 40 x r plan after work cleared → PlansByTurns 256 2048 x r' plan after' work cleared'
      → (r ≡ r') × (after ≡ after') × (cleared ≡ cleared')

-- of a text
pub record SamePrint (s : List ℕ) : Type 0 where
  pub output : output_of 16 40 s ≡ output_of 256 2048 s
  pub print : (r r' : Output) (out after after' : List ℕ) → PrintsText 16 40 s r out after → PrintsText 256 2048 s r' out after' → (r ≡ r') × (after ≡ after')

-- "slices for 16 probes and 40 links are never too short for it": 40 bytes of the plan and 160 working bytes, with any table within the pair in the lent slices a
pub record PlansEnough (a : Lent) : Type 0 where
  pub slse : (number probes links : ℕ) (r : Result Totals Refusal) (plan after : List ℕ) → let x = lent_slices number probes links a in
      over 16 40 (table_of x) ≡ false → 40 ≤ length plan → PlansBySlse 16 40 x r plan after → r ≡ Err Slice → ⊥
  pub turns : (number probes links : ℕ) (r : Result Totals Refusal) (plan after work cleared : List ℕ) → let x = lent_slices number probes links a in
      over 16 40 (table_of x) ≡ false → 40 ≤ length plan → 160 ≤ length work → PlansByTurns 16 40 x r plan after work cleared → r ≡ Err Slice → ⊥

-- in whole; 686 bytes are 22, 13 a link and 9 a probe
pub record DisplayPlans : Type 0 where
  pub held : (pmax lmax : ℕ) → PlansHeld pmax lmax
  pub same_plan : (x : Slices) → over 16 40 (table_of x) ≡ false → SamePlan x
  pub same_print : (s : List ℕ) → over 16 40 (of_text s) ≡ false → SamePrint s
  pub enough : (a : Lent) → HoldsTable 16 40 a → PlansEnough a
  pub printed : (s : List ℕ) (r : Output) (out after : List ℕ) → 686 ≤ length out → PrintsText 16 40 s r out after → r ≡ Length (length (output_of 16 40 s))
