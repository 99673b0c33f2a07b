use mathlib.Core.Path.{sym, ◌∙◌}
use mathlib.Core.List.{[]}
use native.Mathlib.Omega.{arith}
use Rattle.table.specs.Table.{of_slices}
use Rattle.table_links.proofs.Own.{is_next_own}
use Rattle.table_links.proofs.ends.next_own.Goals as goal

pub returns-then-touches : goal.returns-then-touches
returns-then-touches c =
    let a = c.args in
    is_next_own (of_slices 0 0 a.links [] a.lows.now a.highs.now []) a.probe a.from c.requires.2 c.loop-i.i
    (record { behind = omega arith; within = omega arith; inside = λ l. sym c.touches.ensures ∙ c.if-touches.true; before = c.loop-i.invariant })

pub returns : goal.returns
returns c =
    let a = c.args in
    is_next_own (of_slices 0 0 a.links [] a.lows.now a.highs.now []) a.probe a.from c.requires.2 a.links
    (record { behind = c.requires.2; within = omega arith; inside = λ m. absurd (omega arith); before = λ j m n. c.loop-i.invariant j m (omega arith) })
