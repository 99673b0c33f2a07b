-- How the code comes to its answer, and what the answer then is.
use Prim.Native.Nat.{ℕ, ◌*◌, ◌≤◌, ◌<◌}
use mathlib.Core.Path.{◌≡◌, ◌∙◌, ap}
use mathlib.Core.Bool.{Bool, true, false, cond}
use mathlib.Core.List.{List, [], ◌∷◌}
use native.Mathlib.Omega.{arith}
use lib.Dec.{eqb}
use lib.ListN.{length, replicate}
use native.Mathlib.Decide.{dec_lt}
use borrow.Author.Tests.{ne_eqb, lt-ltb}
use Rattle.range.specs.Sum.{weigh, count}
use Rattle.range.specs.Lists.{stored}
use Rattle.std.specs.Prelude.{Result, Ok, Err, IsErrAnd}
use Rattle.std.proofs.lemmas.Result.{err_from_is_err_and}
use Rattle.refusals.specs.Refusals.{number_of}
use Rattle.refusals.specs.declared.Refusal.{Refusal}
use Rattle.refusals.proofs.Laws.{number_some, refusal_of, answer_is}
use Rattle.range.proofs.Sums.{weigh_same}
use Rattle.range.proofs.Faults.{or_left, or_right}
use Rattle.table.specs.Table.{Table, of_slices, dearer}
use Rattle.table.specs.Legal.{table_fault, lent_fault}
use Rattle.table.specs.Slices.{Slices, table_of, slices_room_fault, slice_fault}
use Rattle.table.proofs.Accepted.{table_wider}
use Rattle.table.proofs.Slices.{legal_slices}
use Rattle.plan_theory.specs.Plan.{kept, rested, kept_count, cost_of, plan_byte, is_kept}
use Rattle.plan_theory.proofs.Plan.{stored_kept}
use Rattle.plan_methods.specs.Planning.{plan_fault, turns_fault, planning_reply, plan_values, Plans, PlansAndClears}
use Rattle.plan_methods.specs.declared.Totals.{Totals}

pub plans_refused : (fault : ℕ) (t : Table) (r : Result Totals Refusal) (e : Refusal) (plan : List ℕ) → IsErrAnd r (λ y. y ≡ e) → number_of e ≡ fault → Plans fault t r plan plan
plans_refused fault t r e plan x n =
    let p = err_from_is_err_and r x in
    let k = ne_eqb fault 0 (λ z. number_some e (n ∙ z)) in
    record { answer = rw (p.1, p.2, k, n); plan = rw k }

pub plans_made : (fault : ℕ) (t : Table) (r : Totals) (plan plan' : List ℕ) → fault ≡ 0 → t.links ≤ length plan
    → plan' ≡ stored (λ i. plan_byte (kept t i)) t.links plan
    → r ≡ record { kept = count t.links (is_kept plan'); cost = weigh t.links (is_kept plan') t.cost }
    → Plans fault t (Ok r) plan plan'
plans_made fault t r plan plan' z room p e =
    record {
      answer =
          ap (λ (s : Totals). planning_reply (Ok s)) e
          ∙ rw (z, weigh_same t.links (is_kept plan') (kept t) (λ i. 1) same, weigh_same t.links (is_kept plan') (kept t) t.cost same);
      plan = rw z p;
    }
  where
    same : (i : ℕ) → i < t.links → is_kept plan' i ≡ kept t i
    same = stored_kept (kept t) t.links plan plan' room p

-- the plan does not depend on the table's number
pub numbered : (other number probes links : ℕ) (needs lows highs costs plan plan' : List ℕ) → plan' ≡ stored (λ i. plan_byte (kept (of_slices other probes links needs lows highs costs) i)) links plan
    → plan' ≡ stored (λ i. plan_byte (kept (of_slices number probes links needs lows highs costs) i)) links plan
unfolding rested dearer
numbered other number probes links needs lows highs costs plan plan' e = e

pub turns_refused : (fault : ℕ) (t : Table) (r : Result Totals Refusal) (e : Refusal) (plan work : List ℕ) → IsErrAnd r (λ y. y ≡ e) → number_of e ≡ fault
    → PlansAndClears fault t r plan plan work work
turns_refused fault t r e plan work x n =
    record { plans = plans_refused fault t r e plan x n; cleared = rw (ne_eqb fault 0 (λ z. number_some e (n ∙ z))) }

pub turns_made : (fault : ℕ) (t : Table) (r : Result Totals Refusal) (plan plan' work work' : List ℕ) → fault ≡ 0 → Plans fault t r plan plan' → work' ≡ replicate (length work) 0
    → PlansAndClears fault t r plan plan' work work'
turns_made fault t r plan plan' work work' z p w = record { plans = p; cleared = rw z w }

lent_good : (lent needed : ℕ) → lent_fault lent needed ≡ 0 → needed ≤ lent
lent_good lent needed e = go (dec_lt lent needed)
  where
    go : Dec (lent < needed) → needed ≤ lent
    go (yes l) = let a : ◌≡◌ {A = ℕ} 8 0 = rw (lt-ltb lent needed l) at e in absurd (omega arith)
    go (no n) = omega arith

-- what a call that is not refused has: a table within the limits, and so within the full ones, with room for it and its plan
pub record Passed (pmax lmax : ℕ) (x : Slices) (plan : ℕ) : Type 0 where
  pub legal : table_fault 256 2048 (table_of x) ≡ 0
  pub room : slices_room_fault x ≡ 0
  pub few : x.probes ≤ pmax
  pub within : x.links ≤ lmax
  pub in_plan : x.links ≤ plan

pub passed : (pmax lmax : ℕ) (x : Slices) (plan : ℕ) → pmax ≤ 256 → lmax ≤ 2048 → plan_fault pmax lmax x plan ≡ 0 → Passed pmax lmax x plan
passed pmax lmax x plan p l e =
    let s = or_right (lent_fault plan x.links) (slice_fault pmax lmax x) e in
    let k = legal_slices pmax lmax x s in
    record {
      legal = table_wider pmax lmax 256 2048 (table_of x) p l k.legal;
      room = or_left (slices_room_fault x) (table_fault pmax lmax (table_of x)) s;
      few = k.few;
      within = k.within;
      in_plan = lent_good plan x.links (or_left (lent_fault plan x.links) (slice_fault pmax lmax x) e);
    }

-- and one with working bytes
pub turns_passed : (pmax lmax : ℕ) (x : Slices) (plan work : ℕ) → turns_fault pmax lmax x plan work ≡ 0 → (4 * x.links ≤ work) × (plan_fault pmax lmax x plan ≡ 0)
turns_passed pmax lmax x plan work e = (
  lent_good work (4 * x.links) (or_left (lent_fault work (4 * x.links)) (plan_fault pmax lmax x plan) e),
  or_right (lent_fault work (4 * x.links)) (plan_fault pmax lmax x plan) e,
)

same_totals : (a b : Totals) → a.kept ≡ b.kept → a.cost ≡ b.cost → a ≡ b
same_totals a b k c =
    let with_kept : ℕ → Totals = λ n. record { kept = n; cost = a.cost } in
    let with_cost : ℕ → Totals = λ n. record { kept = b.kept; cost = n } in
    ap with_kept k ∙ ap with_cost c

-- the answer, by the fault found
pub plans_answer : {fault : ℕ} {t : Table} {r : Result Totals Refusal} {plan plan' : List ℕ} → Plans fault t r plan plan'
    → r ≡ cond (eqb fault 0) (Ok (record { kept = kept_count t; cost = cost_of t (kept t) })) (Err (refusal_of fault))
plans_answer {fault} {t} {r} p = answer_is (λ (s : Totals). s.kept ∷ s.cost ∷ []) (record { kept = kept_count t; cost = cost_of t (kept t) }) r fault (λ y e. same_totals y _ (cc) (cc)) p.answer
