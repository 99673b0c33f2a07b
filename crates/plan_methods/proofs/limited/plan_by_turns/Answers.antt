use Prim.Native.Nat.{ℕ}
use mathlib.Core.Path.{sym, ◌∙◌}
use native.Mathlib.Omega.{arith}
use lib.ListN.{length, length-replicate}
use Rattle.table.specs.Slices.{as_slices, table_of}
use Rattle.plan_methods.specs.Planning.{turns_fault}
use Rattle.plan_methods.proofs.Answers.{turns_refused, turns_passed, passed}
use Rattle.plan_methods.proofs.limited.plan_by_turns.Goals as goal

pub returns-in_err-check_turns : goal.returns-in_err-check_turns
returns-in_err-check_turns g c = turns_refused _ _ _ _ _ _ c.from_residual.ensures.1 c.in_err-check_turns.ensures

pub turns_answer-requires : goal.turns_answer-requires
turns_answer-requires g c =
    let a = c.args in
    let x = as_slices a.table in
    let both = turns_passed g.row.PMAX g.row.LMAX x (length a.plan.now) (length a.work.now) (sym c.in_ok-check_turns.ensures) in
    let k = passed g.row.PMAX g.row.LMAX x (length a.plan.now) (omega arith) (omega arith) both.1 in
    let l = length-replicate {A = ℕ} g.row.LMAX 0 in
    let p = length-replicate {A = ℕ} g.row.PMAX 0 in
    let m = length-replicate {A = ℕ} g.row.MARKS 0 in
    let s = length-replicate {A = ℕ} g.row.SITE 0 in (
      k.legal,
      k.room,
      k.in_plan,
      both.0,
      record {
        in_spares = omega arith;
        in_marks = omega arith;
        in_site = omega arith;
        in_order = omega arith;
        in_half = omega arith;
        base = (omega arith, omega arith);
      },
    )

pub returns : goal.returns
returns g c =
    rw (sym c.in_ok-check_turns.ensures) (c.turns_answer.ensures c.args.table.number)
