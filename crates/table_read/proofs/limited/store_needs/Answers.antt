use mathlib.Core.Path.{refl, sym, ◌∙◌}
use native.Mathlib.Omega.{arith}
use Rattle.range.specs.Lists.{stored}
use Rattle.range.proofs.Lists.{stored_next}
use Rattle.table.specs.Text.{of_text, need_start}
use Rattle.table_read.proofs.Lines.{field_there, need_read}
use Rattle.table_read.proofs.limited.store_needs.Goals as goal

pub loop-v-init : goal.loop-v-init
unfolding stored
loop-v-init c = refl

pub field-requires : goal.field-requires
field-requires c =
    let v = c.loop-v.v in
    field_there c.args.text.now (need_start v) 4 _ (c.requires.2 v c.loop-v-test.true) (omega arith) (omega arith)

pub loop-v-preserved : goal.loop-v-preserved
loop-v-preserved c =
    let s = c.args.text.now in
    let v = c.loop-v.v in
    rw (c.loop-v.invariant, c.field.ensures ∙ need_read s v _ (omega arith)) (sym (stored_next (of_text s).need v c.args.needs.now))
