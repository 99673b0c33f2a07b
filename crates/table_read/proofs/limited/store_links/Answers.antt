use mathlib.Core.Path.{refl, sym, ◌∙◌}
use native.Mathlib.Omega.{arith}
use Rattle.range.specs.Lists.{stored}
use Rattle.range.proofs.Lists.{stored_next}
use Rattle.table.specs.Text.{of_text, link_start}
use Rattle.table_read.proofs.Lines.{field_there, low_read, high_read, cost_read}
use Rattle.table_read.proofs.limited.store_links.Goals as goal

pub loop-i-init : goal.loop-i-init
unfolding stored
loop-i-init c = (refl, refl, refl)

pub field-requires : goal.field-requires
field-requires c =
    let a = c.args in
    let i = c.loop-i.i in
    field_there a.text.now (link_start a.probes i) 12 _ (c.requires.6 i c.loop-i-test.true) (omega arith) (omega arith)

pub field-requires-in-loop-i : goal.field-requires-in-loop-i
field-requires-in-loop-i c =
    let a = c.args in
    let i = c.loop-i.i in
    field_there a.text.now (link_start a.probes i) 12 _ (c.requires.6 i c.loop-i-test.true) (omega arith) (omega arith)

pub field-requires-in-loop-i-2 : goal.field-requires-in-loop-i-2
field-requires-in-loop-i-2 c =
    let a = c.args in
    let i = c.loop-i.i in
    field_there a.text.now (link_start a.probes i) 12 _ (c.requires.6 i c.loop-i-test.true) (omega arith) (omega arith)

pub loop-i-preserved : goal.loop-i-preserved
loop-i-preserved c =
    let a = c.args in
    let s = a.text.now in
    let t = of_text s in
    let i = c.loop-i.i in (
      rw (c.loop-i.invariant.0, c.field.ensures ∙ low_read s a.probes i _ c.requires.5 (omega arith)) (sym (stored_next t.low i a.lows.now)),
      rw (c.loop-i.invariant.1, c.field-in-loop-i.ensures ∙ high_read s a.probes i _ c.requires.5 (omega arith)) (sym (stored_next t.high i a.highs.now)),
      rw (c.loop-i.invariant.2, c.field-in-loop-i-2.ensures ∙ cost_read s a.probes i _ c.requires.5 (omega arith)) (sym (stored_next t.cost i a.costs.now)),
    )
