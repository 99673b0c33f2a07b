use borrow.Author.Rules.{rules}
use mathlib.Core.Path.{sym, ◌∙◌}
use mathlib.Core.List.{[]}
use native.Mathlib.Omega.{arith}
use borrow.Author.Tests.{eq-eqb, ne_eqb, le-ltb, lt-ltb}
use Rattle.table.specs.Table.{Table, of_slices}
use Rattle.fleet.proofs.Checks.{line_checked}
use Rattle.fleet.proofs.line_checks.check_line.Goals as goal

pub returns-then-frame-gt3 : goal.returns-then-frame-gt3
returns-then-frame-gt3 c =
    let a = c.args in
    let t : Table = of_slices a.number a.probes a.links [] a.lows.now a.highs.now [] in
    let k = c.if-frame-gt3.true in
    rw c.refused.ensures (λ l reads. line_checked t l a.frame reads 9 (rw (le-ltb a.frame.kind 4 (omega arith))), λ y m. absurd (omega arith))

pub returns-then-frame-wide : goal.returns-then-frame-wide
returns-then-frame-wide c =
    let a = c.args in
    let t : Table = of_slices a.number a.probes a.links [] a.lows.now a.highs.now [] in
    let k = c.if-frame-gt3.false in
    rw c.refused-then-frame-wide.ensures (λ l reads. line_checked t l a.frame reads 23 (rw (lt-ltb a.frame.kind 4 (omega arith), ne_eqb _ _ (λ q. c.if-frame-wide.true (q ∙ sym c.wide.ensures)))), λ y m. absurd (omega arith))

pub returns : goal.returns
returns c =
    let a = c.args in
    let t : Table = of_slices a.number a.probes a.links [] a.lows.now a.highs.now [] in
    let k = c.if-frame-gt3.false in
    (λ l reads. line_checked t l a.frame reads _ (rw (lt-ltb a.frame.kind 4 (omega arith), eq-eqb _ _ (c.if-frame-wide.false ∙ c.wide.ensures)) c.find_ends.ensures.0), c.find_ends.ensures.1)
