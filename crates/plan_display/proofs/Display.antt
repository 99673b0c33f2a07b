-- The plans of the display: held to their own pair, the same as the full ones within it, and slices of its size are never too short.
use Prim.Native.Nat.{ℕ, ◌*◌, ◌≤◌}
use mathlib.Core.Path.{◌≡◌, sym, ◌∙◌, ap}
use mathlib.Core.Bool.{Bool, true, false, cond}
use mathlib.Core.List.{List}
use native.Mathlib.Omega.{arith}
use lib.Dec.{eqb}
use lib.ListN.{length}
use Rattle.table.specs.Table.{Table}
use Rattle.table.specs.Slices.{Slices, table_of, slice_fault}
use Rattle.table.specs.Text.{of_text}
use Rattle.table_read.specs.Reading.{Lent}
use Rattle.table_write.proofs.Answers.{room_enough}
use Rattle.table_laws.specs.Functions.{lent_slices, HoldsTable}
use Rattle.table_display.specs.Display.{over}
use Rattle.table_laws.proofs.Reading.{answer_refused}
use Rattle.table_display.proofs.Display.{within, held_to_pair, same_table, same_text, fault_most}
use Rattle.plan_methods.specs.Planning.{planning_reply, plan_fault, turns_fault, Plans, PlansAndClears, PlansBySlse, PlansByTurns}
use Rattle.plan_methods.specs.declared.Totals.{Totals}
use Rattle.std.specs.Prelude.{Result, Ok, Err}
use Rattle.refusals.specs.declared.Refusal.{Refusal}
use Rattle.refusals.specs.declared.Refusal.TheVariants.{Size, Slice}
use Rattle.refusals.proofs.Laws.{of_its_number}
use Rattle.plan_methods.proofs.Answers.{plans_answer}
use Rattle.output.specs.Output.{refusal_line, Prints}
use Rattle.output.proofs.Printing.{prints_answer, long_enough}
use Rattle.plan_output.specs.Output.{output_of, PrintsText}
use Rattle.plan_output.proofs.Most.{always_printed}
use Rattle.plan_display.specs.Display.{PlansHeld, SamePlan, SamePrint, PlansEnough, DisplayPlans}

plans_three : (t : Table) (r : Result Totals Refusal) (plan after : List ℕ) → Plans 3 t r plan after → (r ≡ Err Size) × (after ≡ plan)
plans_three t r plan after p = (plans_answer p ∙ ap Err (of_its_number Size), p.plan)

-- with room for the plan, and for the working bytes, the fault is that of the table's slices
module _ (pmax lmax : ℕ) (x : Slices) (plan : ℕ) (room : x.links ≤ plan) where
  plan_enough : plan_fault pmax lmax x plan ≡ slice_fault pmax lmax x
  plan_enough = room_enough plan x.links (slice_fault pmax lmax x) room

  turns_enough : (work : ℕ) → 4 * x.links ≤ work → turns_fault pmax lmax x plan work ≡ slice_fault pmax lmax x
  turns_enough work l = room_enough work (4 * x.links) (plan_fault pmax lmax x plan) l ∙ plan_enough

plans_held : (pmax lmax : ℕ) → PlansHeld pmax lmax
plans_held pmax lmax =
    record {
      slse = λ x r plan after o room fits p.
          plans_three (table_of x) r plan after (rw (plan_enough pmax lmax x (length plan) fits ∙ (held_to_pair pmax lmax).slices x o room) at p);
      turns = λ x r plan after work after-work o room fits long p.
          let q : PlansAndClears 3 (table_of x) r plan after work after-work = rw (turns_enough pmax lmax x (length plan) fits (length work) long ∙ (held_to_pair pmax lmax).slices x o room) at p in
          let a = plans_three (table_of x) r plan after q.plans in
          (a.0, a.1, q.cleared);
      print = λ s r out after o line room p.
          let q : Prints 0 (refusal_line 3) r out after = rw ((held_to_pair pmax lmax).text false s o line, long_enough (length out) (refusal_line 3) room) at p in
          (prints_answer q, q.out);
    }

same_answer : (fault : ℕ) (t : Table) (r r' : Result Totals Refusal) (plan after after' : List ℕ) → Plans fault t r plan after → Plans fault t r' plan after' → (r ≡ r') × (after ≡ after')
same_answer fault t r r' plan after after' p q = (plans_answer p ∙ sym (plans_answer q), p.plan ∙ sym q.plan)

same_plan : (x : Slices) → over 16 40 (table_of x) ≡ false → SamePlan x
same_plan x o =
    record {
      slse = λ r r' plan after after' p q. same_answer _ (table_of x) r r' plan after after' (rw (same_table x o).fault at p) q;
      turns = λ r r' plan after after' work cleared cleared' p q.
          let p' : PlansByTurns 256 2048 x r plan after work cleared = rw (same_table x o).fault at p in
          let a = same_answer _ (table_of x) r r' plan after after' p'.plans q.plans in
          (a.0, a.1, p'.cleared ∙ sym q.cleared);
    }

same_print : (s : List ℕ) → over 16 40 (of_text s) ≡ false → SamePrint s
same_print s o =
    record {
      output = output;
      print = λ r r' out after after' p q.
          let p' : PrintsText 256 2048 s r out after = rw output at p in
          (prints_answer p' ∙ sym (prints_answer q), p'.out ∙ sym q.out);
    }
  where
    output : output_of 16 40 s ≡ output_of 256 2048 s
    output = rw ((same_text s o).fault false)

module _ (a : Lent) (holds : HoldsTable 16 40 a) (number probes links : ℕ) (o : over 16 40 (table_of (lent_slices number probes links a)) ≡ false) where
  abbrev x : Slices
  x = lent_slices number probes links a

  few : links ≤ 40
  few = (within 16 40 (table_of x) o).1

  slse_not : (r : Result Totals Refusal) (plan after : List ℕ) → 40 ≤ length plan → PlansBySlse 16 40 x r plan after → r ≡ Err Slice → ⊥
  slse_not r plan after fits p e =
      let k = few in
      let n = (answer_refused (eqb (plan_fault 16 40 x (length plan)) 0) _ 8 _ (ap planning_reply (sym e) ∙ p.answer)).1 in
      let q = plan_enough 16 40 x (length plan) (omega arith) in
      let l = fault_most a holds number probes links o in
      omega arith

  turns_not : (r : Result Totals Refusal) (plan after work cleared : List ℕ) → 40 ≤ length plan → 160 ≤ length work → PlansByTurns 16 40 x r plan after work cleared → r ≡ Err Slice → ⊥
  turns_not r plan after work cleared fits long p e =
      let k = few in
      let n = (answer_refused (eqb (turns_fault 16 40 x (length plan) (length work)) 0) _ 8 _ (ap planning_reply (sym e) ∙ p.plans.answer)).1 in
      let q = turns_enough 16 40 x (length plan) (omega arith) (length work) (omega arith) in
      let l = fault_most a holds number probes links o in
      omega arith

plans_enough : (a : Lent) → HoldsTable 16 40 a → PlansEnough a
plans_enough a holds =
    record {
      slse = λ number probes links r plan after o. slse_not a holds number probes links o r plan after;
      turns = λ number probes links r plan after work cleared o. turns_not a holds number probes links o r plan after work cleared;
    }

pub display_plans : DisplayPlans
display_plans =
    record {
      held = plans_held;
      same_plan = same_plan;
      same_print = same_print;
      enough = plans_enough;
      printed = λ s r out after l p. always_printed 16 40 s r out after l p;
    }
