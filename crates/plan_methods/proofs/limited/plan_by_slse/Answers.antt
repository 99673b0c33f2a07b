use Prim.Native.Nat.{ℕ}
use mathlib.Core.Path.{sym, ◌∙◌}
use native.Mathlib.Omega.{arith}
use lib.ListN.{length, length-replicate}
use Rattle.table.specs.Slices.{as_slices, table_of}
use Rattle.plan_methods.specs.Planning.{plan_fault}
use Rattle.plan_methods.proofs.Answers.{plans_refused, passed}
use Rattle.plan_methods.proofs.limited.plan_by_slse.Goals as goal

pub returns-in_err-check_plan : goal.returns-in_err-check_plan
returns-in_err-check_plan g c = plans_refused _ _ _ _ _ c.from_residual.ensures.1 c.in_err-check_plan.ensures

pub slse_answer-requires : goal.slse_answer-requires
slse_answer-requires g c =
    let a = c.args in
    let k = passed g.row.PMAX g.row.LMAX (as_slices a.table) (length a.plan.now) (omega arith) (omega arith) (sym c.in_ok-check_plan.ensures) in
    let l = length-replicate {A = ℕ} g.row.LMAX 0 in
    let p = length-replicate {A = ℕ} g.row.PMAX 0 in
    record {
      probes = a.table.probes;
      legal = k.legal;
      room = k.room;
      in_counts = omega arith;
      in_plan = k.in_plan;
      in_order = omega arith;
      in_half = omega arith;
      base = (omega arith, omega arith);
    }

pub returns : goal.returns
returns g c =
    let a = c.args in
    let e = sym c.in_ok-check_plan.ensures in
    let k = passed g.row.PMAX g.row.LMAX (as_slices a.table) (length a.plan.now) (omega arith) (omega arith) e in
    let p = length-replicate {A = ℕ} g.row.PMAX 0 in
    rw e (c.slse_answer.ensures a.table.number a.table.probes (omega arith) k.legal)
