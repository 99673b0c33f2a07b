use mathlib.Core.Path.{refl}
use Rattle.range.specs.Lists.{joined}
use Rattle.table.specs.Table.{item}
use Rattle.table.specs.Text.{need_line}
use Rattle.table.proofs.Lengths.{length_need}
use Rattle.range.proofs.Sets.{joined_then}
use Rattle.table_write.proofs.text.put_needs.Goals as goal

pub loop-v-init : goal.loop-v-init
unfolding joined
loop-v-init c = refl

pub loop-v-preserved : goal.loop-v-preserved
loop-v-preserved c =
    let stored = rw c.need_start.ensures at c.put_need.ensures in
    joined_then (λ u. need_line (item c.args.needs.now u)) 5 _ _ _ _ _ (λ u. length_need (item c.args.needs.now u)) c.loop-v.invariant stored
