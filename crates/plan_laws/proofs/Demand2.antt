-- Demand 2: the claims put together. What a call leaves is read off its promise, at the fault that its lengths give.
use Prim.Native.Nat.{ℕ, ◌*◌, ◌≤◌, ◌<◌}
use mathlib.Core.Path.{◌≡◌, refl, sym, ◌∙◌, ap}
use mathlib.Core.Logic.{◌⊎◌, inl, inr}
use mathlib.Core.Bool.{Bool, true, false, cond}
use mathlib.Core.List.{List}
use lib.Dec.{ltb, eqb}
use lib.ListN.{length}
use borrow.Author.Tests.{le-ltb, lt-ltb}
use Rattle.std.specs.Prelude.{Ok}
use Rattle.range.specs.First.{or_else}
use Rattle.range.specs.Lists.{stored}
use Rattle.range.proofs.Lists.{length_stored, stored_at, stored_beyond}
use Rattle.table.specs.Table.{Table}
use Rattle.table.specs.Slices.{Slices, table_of, slices_fault}
use Rattle.table.specs.Text.{text_end}
use Rattle.table.specs.Same.{FourDigits}
use Rattle.table.specs.Legal.{Legal}
use Rattle.table.proofs.LegalLaws.{legal_table}
use Rattle.table.proofs.Slices.{legal_slices}
use Rattle.table_write.specs.Writing.{write_fault}
use Rattle.table_laws.proofs.Functions.{read_then_write, write_then_read}
use Rattle.plan_theory.specs.Plan.{kept, kept_count, cost_of, plan_byte, is_kept}
use Rattle.plan_theory.proofs.Plan.{stored_kept, at_same, plan_rule, only_by_rule, plan_criterion, plan_unique, plan_meets}
use Rattle.plan_theory.proofs.Settled.{settled_is_plan}
use Rattle.plan_theory.proofs.Bound.{short_keeps, same_none_for_nothing}
use Rattle.plan_theory.proofs.Slse.{slse_is_plan}
use Rattle.plan_methods.specs.Planning.{plan_fault, turns_fault, Plans}
use Rattle.plan_methods.specs.declared.Totals.{Totals}
use Rattle.std.specs.Prelude.{Result, Ok, Err}
use Rattle.refusals.specs.declared.Refusal.{Refusal}
use Rattle.refusals.specs.declared.Refusal.TheVariants.{Slice}
use Rattle.refusals.proofs.Laws.{refusal_of, of_its_number}
use Rattle.plan_methods.proofs.Answers.{plans_answer}
use Rattle.table_write.proofs.Answers.{writes_answer}
use Rattle.plan_laws.specs.Demand2.{LeavesPlan, Demand2}

-- what a call leaves, by its fault
module _ (fault : ℕ) (t : Table) (r : Result Totals Refusal) (before after : List ℕ) (p : Plans fault t r before after) where
  answered : r ≡ cond (eqb fault 0) (Ok (record { kept = kept_count t; cost = cost_of t (kept t) })) (Err (refusal_of fault))
  answered = plans_answer p

  plans_none : fault ≡ 0 → Legal t → t.links ≤ length before → LeavesPlan t r before after
  plans_none z legal room =
      let byte : ℕ → ℕ = λ i. plan_byte (kept t i) in
      let e : after ≡ stored byte t.links before = rw z at p.plan in
      let same = stored_kept (kept t) t.links before after room e in
      record {
        answer = answered ∙ rw z;
        bytes = λ i l. rw e (stored_at byte t.links before i room l);
        beyond = λ i l. rw e (stored_beyond byte t.links before i l);
        long = rw e (length_stored byte t.links before);
        needs_met = λ v l. rw (at_same t (is_kept after) (kept t) same v) (plan_meets t legal v l);
        none_for_nothing = same_none_for_nothing t legal (is_kept after) same;
      }

  plans_short : fault ≡ 8 → (r ≡ Err Slice) × (after ≡ before)
  plans_short z = (answered ∙ rw z (ap Err (of_its_number Slice)), p.plan ∙ rw z)

-- 8 comes first, whatever stands before it
short_then : (b : Bool) → or_else (cond b 8 0) 8 ≡ 8
short_then true = refl
short_then false = refl

-- the fault of each call, by the lengths of what it was lent
module _ (x : Slices) (fine : slices_fault x ≡ 0) where
  slse_none : (plan : ℕ) → x.links ≤ plan → plan_fault 256 2048 x plan ≡ 0
  slse_none plan l = rw (le-ltb plan x.links l) fine

  slse_eight : (plan : ℕ) → plan < x.links → plan_fault 256 2048 x plan ≡ 8
  slse_eight plan l = rw (lt-ltb plan x.links l)

  turns_none : (plan work : ℕ) → x.links ≤ plan → 4 * x.links ≤ work → turns_fault 256 2048 x plan work ≡ 0
  turns_none plan work l m = rw (le-ltb work (4 * x.links) m) (slse_none plan l)

  turns_eight : (plan work : ℕ) → (plan < x.links) ⊎ (work < 4 * x.links) → turns_fault 256 2048 x plan work ≡ 8
  turns_eight plan work (inl l) = rw (slse_eight plan l) (short_then (ltb work (4 * x.links)))
  turns_eight plan work (inr l) = rw (lt-ltb work (4 * x.links) l)

pub demand_2 : (x : Slices) → slices_fault x ≡ 0 → FourDigits (table_of x) → Demand2 x
demand_2 x fine fits =
    let t = table_of x in
    let legal = (legal_slices 256 2048 x fine).legal in
    let order = (legal_table 256 2048 t legal).order in
    record {
      by_rule = plan_rule t order;
      only_by_rule = only_by_rule t order;
      by_spares = plan_criterion t order;
      only_by_spares = plan_unique t order;
      short_keeps = short_keeps t legal;
      by_offers = settled_is_plan t order;
      by_slse = slse_is_plan t order;
      turns_call = λ r before after work work' p room bytes.
          let z = turns_none x fine (length before) (length work) room bytes in
          (plans_none (turns_fault 256 2048 x (length before) (length work)) t r before after p.plans z legal room, p.cleared ∙ rw z);
      turns_no_room = λ r before after work work' p short.
          let z = turns_eight x fine (length before) (length work) short in
          let left = plans_short (turns_fault 256 2048 x (length before) (length work)) t r before after p.plans z in
          (left.0, left.1, p.cleared ∙ rw z);
      slse_call = λ r before after p room.
          plans_none (plan_fault 256 2048 x (length before)) t r before after p (slse_none x fine (length before) room) legal room;
      slse_no_room = λ r before after p short.
          plans_short (plan_fault 256 2048 x (length before)) t r before after p (slse_eight x fine (length before) short);
      both_same = λ r r' before after after' work work' p q bytes.
          -- with working bytes that are long enough, both have one fault
          let fault = plan_fault 256 2048 x (length before) in
          let plans : Plans fault t r' before after' = rw (le-ltb (length work) (4 * x.links) bytes) at q.plans in
          (answered fault t r before after p ∙ sym (answered fault t r' before after' plans), p.plan ∙ sym plans.plan);
      read_written = read_then_write;
      written_read = λ w out out' r b b' write enough holds read.
          let none : write_fault 256 2048 x (length out) ≡ 0 = rw (le-ltb (length out) (text_end t) enough) fine in
          let whole : w ≡ Ok (text_end t) = writes_answer write ∙ rw none in
          let back = write_then_read x (text_end t) b b' out out' r fits (rw whole at write) holds read in
          (whole, back.0, back.1);
    }
