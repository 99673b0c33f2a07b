use mathlib.Core.Path.{sym, ◌∙◌, ap}
use native.Mathlib.Omega.{arith}
use Rattle.plan_turns_search.specs.Record.{at_target}
use Rattle.plan_turns_search.proofs.Record.{opposite_half}
use Rattle.plan_turns_search.proofs.Chain.{falls, held_at, held_cheapest, held_step}
use Rattle.plan_turns_search.proofs.search.cheapest.Goals as goal

pub loop-f-init : goal.loop-f-init
loop-f-init c =
    let p = c.requires in
    held_at _ p.0.fits _ p.0.inv _ p.3 _ (rw c.of_probe-f.ensures (p.1.lasts _ p.2))

pub overflow_mul-opposite : goal.overflow_mul-opposite
overflow_mul-opposite c = omega (arith, opposite_half c.loop-f.f)

pub overflow_add-opposite : goal.overflow_add-opposite
overflow_add-opposite c = omega (arith, opposite_half c.loop-f.f)

pub bounds-rec-opposite : goal.bounds-rec-opposite
bounds-rec-opposite c = omega (arith, opposite_half c.loop-f.f)

pub loop-f-smaller : goal.loop-f-smaller
loop-f-smaller c =
    falls _ _ _ _ c.requires.0.fits.up c.loop-f.f _ c.loop-f.invariant.below c.of_direction-f.ensures

pub loop-f-preserved : goal.loop-f-preserved
loop-f-preserved c =
    let p = c.requires in
    held_step _ p.0.fits _ p.0.inv _ c.loop-f.f c.loop-f.invariant p.4 (λ z. c.loop-f-test.true (ap (at_target c.args.rec.now) c.opposite.ensures ∙ p.0.paired.twin _ ∙ z)) p.3 _ c.of_direction-f.ensures

pub returns : goal.returns
returns c =
    let p = c.requires.0 in
    (held_cheapest _ p.fits _ p.inv _ c.loop-f.f c.loop-f.invariant (sym (ap (at_target c.args.rec.now) c.opposite.ensures ∙ p.paired.twin _) ∙ c.loop-f-test.false), c.loop-f.invariant)
