use mathlib.Core.Path.{◌∙◌}
use native.Mathlib.Omega.{arith}
use Rattle.table_links.proofs.Search.{between_swap}
use Rattle.table_links.proofs.pairs.between.Goals as goal

pub link_of-requires : goal.link_of-requires
link_of-requires c =
    (c.requires, c.if-a-b.true)

pub returns-then-a-b : goal.returns-then-a-b
returns-then-a-b c = c.link_of.ensures

pub link_of-requires-2 : goal.link_of-requires-2
link_of-requires-2 c =
    (c.requires, let t = c.if-a-b.false in omega arith)

pub returns : goal.returns
returns c =
    let a = c.args in c.link_of-2.ensures ∙ between_swap a.links a.lows.now a.highs.now a.b a.a
