use mathlib.Core.Path.{sym, ◌∙◌}
use Prim.Native.Nat.{◌<◌}
use native.Mathlib.Omega.{arith}
use Rattle.table_links.proofs.Search.{link_found, no_link}
use Rattle.table_links.proofs.pairs.link_of.Goals as goal

pub returns-then-links-i : goal.returns-then-links-i
returns-then-links-i c =
    let a = c.args in
    no_link a.links a.lows.now a.highs.now c.requires.0 a.low a.high c.requires.1 (λ l. let e = c.first_from-i.ensures in let t = c.if-links-i.true in absurd (omega arith))

pub returns-then-joins : goal.returns-then-joins
returns-then-joins c =
    let a = c.args in
    let e = c.first_from-i.ensures in
    let l : c.first_from-i.result < a.links = let t = c.if-links-i.false in omega arith in
    e ∙ link_found a.links a.lows.now a.highs.now c.requires.0 a.low a.high c.requires.1 (rw e at l) (rw e at (sym c.joins.ensures ∙ c.if-joins.true))

pub returns : goal.returns
returns c =
    let a = c.args in
    let e = c.first_from-i.ensures in
    no_link a.links a.lows.now a.highs.now c.requires.0 a.low a.high c.requires.1 (λ l. rw e at (sym c.joins.ensures ∙ c.if-joins.false))
