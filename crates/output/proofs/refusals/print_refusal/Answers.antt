use mathlib.Core.Path.{refl}
use native.Mathlib.Omega.{arith}
use lib.ListN.{length}
use Rattle.output.specs.Output.{refusal_line}
use Rattle.output.proofs.Printing.{prints_refused, prints_done, too_short, long_enough}
use Rattle.output.proofs.refusals.print_refusal.Goals as goal

pub returns-then-out-lt5 : goal.returns-then-out-lt5
returns-then-out-lt5 c =
    let a = c.args in
    prints_refused _ 8 _ a.out.now (too_short (length a.out.now) (refusal_line a.fault) c.if-out-lt5.true) (λ z. omega arith)

pub returns : goal.returns
returns c =
    let a = c.args in
    let l = c.if-out-lt5.false in
    prints_done _ 5 _ a.out.now _ (long_enough (length a.out.now) (refusal_line a.fault) l) refl l c.put_refusal.ensures
