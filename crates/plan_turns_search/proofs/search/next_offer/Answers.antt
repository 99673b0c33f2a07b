use Prim.Native.Nat.{ℕ, ◌*◌, ◌<◌}
use mathlib.Core.Path.{◌≡◌, sym, ◌∙◌, ap}
use mathlib.Core.List.{List}
use native.Mathlib.Omega.{arith}
use borrow.Author.Tests.{ltb-true, ltb-false}
use Rattle.plan_turns_search.specs.Record.{at_source, at_target, links_of, target_of, site_of, mark, OffersReady, MarksAgree}
use Rattle.plan_turns_search.specs.Offers.{holds}
use Rattle.plan_turns_search.proofs.Record.{opposite_half}
use Rattle.plan_turns_search.proofs.Chain.{falls, walk_next, walk_found, walk_end, taken_free, held_wanted, held_refuses, held_next}
use Rattle.plan_turns_search.proofs.search.next_offer.Goals as goal

-- what the end of e holds
held_at_end : {x r marks : List ℕ} → OffersReady x r → MarksAgree x r marks → (e v : ℕ) → e < 2 * links_of x → v ≡ target_of x e → mark marks v 1 ≡ holds (site_of x) (at_source r) v
held_at_end p k e v l is = k.held v (rw is (p.fits.ends e l))

pub search-init : goal.search-init
search-init c =
    (ap (λ x. 2 * x) c.entry-dirs.ensures, rw c.of_probe-e.ensures (c.requires.1.cursors c.args.u c.requires.2))

pub search-smaller-then-rec-d-ne0 : goal.search-smaller-then-rec-d-ne0
search-smaller-then-rec-d-ne0 c = falls _ _ _ _ c.requires.0.fits.down c.search.e _ (omega arith) c.of_direction-e.ensures

pub search-preserved-then-rec-d-ne0 : goal.search-preserved-then-rec-d-ne0
search-preserved-then-rec-d-ne0 c =
    (c.search.invariant.0, walk_next _ c.requires.0.fits _ c.args.u c.search.e _ (omega arith) c.search.invariant.1 (λ z. absurd (c.if-rec-d-ne0.true z)) c.of_direction-e.ensures)

pub loop-d-init : goal.loop-d-init
loop-d-init c =
    let p = c.requires in
    let v = c.of_direction-v in
    let e = c.search.e in
    (c.search.invariant.0, rw c.of_probe-f.ensures (p.1.lasts v.result (rw v.ensures (p.0.fits.ends e (omega arith))) e (omega arith) (sym v.ensures)))

pub search-smaller : goal.search-smaller
search-smaller c = falls _ _ _ _ c.requires.0.fits.down c.search.e _ (omega arith) c.of_direction-e.ensures

pub search-preserved : goal.search-preserved
search-preserved c =
    let p = c.requires.0 in
    let v = c.of_direction-v in
    let e = c.search.e in
    let m = held_at_end p c.requires.1 e v.result (omega arith) v.ensures in (
      c.loop-d.invariant.0,
      walk_next _ p.fits _ c.args.u e _ (omega arith) c.search.invariant.1
          (λ z. held_refuses _ p.fits _ p.inv v.result c.loop-d.f c.loop-d.invariant.1 (omega arith) e (omega arith) (sym v.ensures) (λ y. omega arith) (ltb-false _ _ (sym c.cheaper.ensures ∙ c.loop-d-test.false))) c.of_direction-e.ensures,
    )

pub overflow_mul-opposite : goal.overflow_mul-opposite
overflow_mul-opposite c = omega (arith, opposite_half c.loop-d.f)

pub overflow_add-opposite : goal.overflow_add-opposite
overflow_add-opposite c = omega (arith, opposite_half c.loop-d.f)

pub bounds-rec-opposite : goal.bounds-rec-opposite
bounds-rec-opposite c = omega (arith, opposite_half c.loop-d.f)

pub loop-d-smaller : goal.loop-d-smaller
loop-d-smaller c =
    falls _ _ _ _ c.requires.0.fits.up c.loop-d.f _ c.loop-d.invariant.1.below c.of_direction-f.ensures

pub loop-d-preserved : goal.loop-d-preserved
loop-d-preserved c =
    let p = c.requires.0 in
    let v = c.of_direction-v in
    let e = c.search.e in
    let m = held_at_end p c.requires.1 e v.result (omega arith) v.ensures in (
      c.loop-d.invariant.0,
      held_next _ p.fits _ p.inv v.result c.loop-d.f c.loop-d.invariant.1 (omega arith)
          (λ z. c.if-rec-opposite-eq1.false (ap (at_target c.args.rec.now) c.opposite.ensures ∙ p.paired.twin _ ∙ z)) e (omega arith) (sym v.ensures) (ltb-true _ _ (sym c.cheaper.ensures ∙ c.loop-d-test.true)) _ c.of_direction-f.ensures,
    )

pub returns-after-search : goal.returns-after-search
returns-after-search c =
    let p = c.requires.0 in
    let e = c.search.invariant.0 in
    (rw e (walk_end _ p.fits _ c.args.u p.inv c.search.e (omega arith) c.search.invariant.1), omega arith)

pub returns-then-of_probe-spare_of : goal.returns-then-of_probe-spare_of
returns-then-of_probe-spare_of c =
    let p = c.requires.0 in
    let v = c.of_direction-v in
    let e = c.search.e in
    let m = held_at_end p c.requires.1 e v.result (omega arith) v.ensures in
    (walk_found _ p.fits _ c.args.u p.inv e (omega arith) c.search.invariant.1 c.if-rec-d-ne0.false (taken_free _ p.fits _ p.inv v.result e _ (sym v.ensures) m (omega arith)), omega arith)

pub returns-then-rec-opposite-eq1 : goal.returns-then-rec-opposite-eq1
returns-then-rec-opposite-eq1 c =
    let p = c.requires.0 in
    let e = c.search.e in
    (walk_found _ p.fits _ c.args.u p.inv e (omega arith) c.search.invariant.1 c.if-rec-d-ne0.false (held_wanted _ p.fits _ p.inv _ c.loop-d.f c.loop-d.invariant.1 e (sym c.of_direction-v.ensures) (ltb-true _ _ (sym c.cheaper.ensures ∙ c.loop-d-test.true)) (sym (ap (at_target c.args.rec.now) c.opposite.ensures ∙ p.paired.twin _) ∙ c.if-rec-opposite-eq1.true)), omega arith)
