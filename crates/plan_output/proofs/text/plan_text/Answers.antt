use Prim.Native.Nat.{ℕ}
use native.Mathlib.Omega.{arith}
use lib.ListN.{length-replicate}
use Rattle.table_read.specs.Reading.{Lent}
use Rattle.plan_output.proofs.Reading.{refusal_printed, plan_printed, print_ready}
use Rattle.plan_output.proofs.text.plan_text.Goals as goal

pub print_plan-requires : goal.print_plan-requires
print_plan-requires g c =
    let a = c.args in
    let k = c.read_limited-read in
    let b : Lent = record { needs = k.new.needs; lows = k.new.lows; highs = k.new.highs; costs = k.new.costs } in
    let f = print_ready g.row.PMAX g.row.LMAX a.text.now _ b k.ensures (omega arith) (omega arith) _ c.in-Ok.is in
    let l = length-replicate {A = ℕ} g.row.LMAX 0 in
    let p = length-replicate {A = ℕ} g.row.PMAX 0 in
    (f.0, omega (arith, f.1), omega (arith, f.1), omega (arith, f.1), omega arith, omega arith, omega (arith, f.2))

pub returns-in-Ok : goal.returns-in-Ok
returns-in-Ok g c =
    let a = c.args in
    let k = c.read_limited-read in
    let b : Lent = record { needs = k.new.needs; lows = k.new.lows; highs = k.new.highs; costs = k.new.costs } in
    plan_printed g.row.PMAX g.row.LMAX a.text.now _ b k.ensures (omega arith) (omega arith) _ c.in-Ok.is _ a.out.now _ c.print_plan.ensures

pub returns-in-Err : goal.returns-in-Err
returns-in-Err g c =
    let a = c.args in
    let k = c.read_limited-read in
    let b : Lent = record { needs = k.new.needs; lows = k.new.lows; highs = k.new.highs; costs = k.new.costs } in
    refusal_printed g.row.PMAX g.row.LMAX a.text.now _ b k.ensures _ _ a.out.now _ c.in-Err.is (rw (← c.number.ensures) c.print_refusal.ensures)
