use mathlib.Core.Path.{refl}
use Rattle.range.specs.Lists.{joined}
use Rattle.table.specs.Table.{item}
use Rattle.table.specs.Text.{triple_line}
use Rattle.table.proofs.Lengths.{length_triple}
use Rattle.range.proofs.Sets.{joined_then}
use Rattle.table_write.proofs.text.put_links.Goals as goal

pub loop-i-init : goal.loop-i-init
unfolding joined
loop-i-init c = refl

pub loop-i-preserved : goal.loop-i-preserved
loop-i-preserved c =
    let a = c.args in
    let stored = rw c.link_start.ensures at c.put_triple.ensures in
    joined_then (λ k. triple_line (item a.lows.now k) (item a.highs.now k) (item a.costs.now k)) 13 _ _ _ _ _ (λ k. length_triple (item a.lows.now k) (item a.highs.now k) (item a.costs.now k)) c.loop-i.invariant stored
