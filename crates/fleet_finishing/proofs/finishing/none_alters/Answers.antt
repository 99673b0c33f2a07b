use Prim.Native.Nat.{◌+◌, ◌*◌}
use mathlib.Core.Path.{sym, ◌∙◌}
use Rattle.range.proofs.Bools.{or_intro_left, or_intro_right}
use Rattle.table.specs.Table.{item}
use Rattle.fleet_theory.specs.Fleet.{may_alter}
use Rattle.fleet_finishing.proofs.Finished.{some_counted, alters_of}
use Rattle.fleet_finishing.proofs.finishing.none_alters.Goals as goal

pub returns-then-may_alter : goal.returns-then-may_alter
returns-then-may_alter c =
    some_counted c.args.links (alters_of c.args.rec.now) c.loop-i.i c.loop-i-test.true (or_intro_left _ _ (sym c.may_alter.ensures ∙ c.if-may_alter.true))

pub returns-then-may_alter-2 : goal.returns-then-may_alter-2
returns-then-may_alter-2 c =
    let i = c.loop-i.i in
    let r = c.args.rec.now in
    some_counted c.args.links (alters_of r) i c.loop-i-test.true (or_intro_right (may_alter (item r (8 * i)) (item r (8 * i + 1))) (may_alter (item r (8 * i + 2)) (item r (8 * i + 3))) (sym c.may_alter-in-loop-i.ensures ∙ c.if-may_alter-2.true))
