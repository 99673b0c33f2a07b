use mathlib.Core.Path.{◌≡◌}
use native.Mathlib.Omega.{arith}
use borrow.Author.Tests.{eq-eqb, ne_eqb}
use Rattle.table.proofs.Lengths.{length_triple}
use Rattle.plan_lines.proofs.kept_lines.put_link.Goals as goal

pub returns-then-byte-ne1 : goal.returns-then-byte-ne1
returns-then-byte-ne1 c =
    let n = ne_eqb c.args.byte 1 c.if-byte-ne1.true in
    (rw n, rw n (omega arith))

pub put_triple-requires : goal.put_triple-requires
put_triple-requires c =
    let a = c.args in
    let one : a.byte ≡ 1 = omega arith in
    let p = rw (eq-eqb a.byte 1 one) at c.requires in
    let l = length_triple a.low a.high a.cost in
    omega arith

pub returns : goal.returns
returns c =
    let a = c.args in
    let one : a.byte ≡ 1 = omega arith in
    let n = eq-eqb a.byte 1 one in
    let l = length_triple a.low a.high a.cost in
    (rw n c.put_triple.ensures, rw n (omega arith))
