use Rattle.std.proofs.Common.{◌≡◌, ℕ, ◌+◌, ◌*◌, ◌<◌, List, set, sym, ◌∙◌, ap, arith}
use Rattle.plan_turns_search.specs.Chain.{opposite}
use Rattle.plan_turns_search.specs.Record.{at_source, probes_of, target_of, source_of, spare_of, site_of, mark, put, links_of, MarksAgree, Displaces}
use Rattle.plan_turns_search.specs.Offers.{stands, HeldSearch}
use Rattle.plan_turns_search.proofs.Record.{source_below, opposite_half, opposite_source}
use Rattle.plan_turns_search.proofs.MarkLaws.{less_at, cursor_moved, held_moved}
use Rattle.plan_turns_search.proofs.Steps.{offered_none, offered_take, taken_kept, displaces, some_held, displaced_ready, displaced_room, displaced_fewer, displaced_offered, held_stands, displaced_kept}
use Rattle.plan_turns.proofs.offers.+displace_make_offer.Goals as goal

-- the maker of an offer is the source of its direction
maker : (x : List ℕ) (against d w : ℕ) → d ≡ opposite against → w ≡ target_of x against → w ≡ source_of x d
maker x against d w ed ew = ew ∙ sym (ap (source_of x) ed ∙ opposite_source x against)

-- the cursor of the end that displaces stands at its cheapest held offer
moved : {x r marks : List ℕ} (marks' : List ℕ) (d v f : ℕ) → Displaces x r d → MarksAgree x r marks → v ≡ target_of x d → HeldSearch (site_of x) (at_source r) v f → marks' ≡ set marks (4 * v + 3) f → MarksAgree x r marks'
moved marks' d v f at k ev h e = held_moved _ _ _ k v f (rw ev (at.ready.fits.ends d at.next.below)) h marks' e

pub displace-of_direction-u-requires : goal.displace-of_direction-u-requires
displace-of_direction-u-requires t c =
    let p = c.requires.0 in
    omega (arith, opposite_half c.args.d, p.next.below, p.ready.fits.room)

pub displace-cheapest-against-requires : goal.displace-cheapest-against-requires
displace-cheapest-against-requires t c =
    let p = c.requires in
    let v = c.of_direction-v in
    (p.0.ready, p.1, rw v.ensures (p.0.ready.fits.ends c.args.d p.0.next.below), some_held _ _ c.args.d v.result p.0 v.ensures, rw v.ensures p.0.full)

pub displace-take_one-requires : goal.displace-take_one-requires
displace-take_one-requires t c =
    let p = c.requires in
    let v = c.of_direction-v in
    let f = c.cheapest-against in
    let w = c.of_direction-w in
    let x = c.opposite-2 in
    let k = moved _ c.args.d v.result f.result p.0 p.1 v.ensures f.ensures.1 c.set_of_probe.ensures in
    let l = p.0.ready.fits.ends f.result f.ensures.1.below in
    let n = k.standing w.result (rw w.ensures l) in
    let some = held_stands c.args.site.now c.args.rec.now v.result x.result w.result (rw x.ensures f.ensures.0) (maker _ _ _ _ x.ensures w.ensures) in
    (omega arith, omega arith)

pub displace-add_one-requires : goal.displace-add_one-requires
displace-add_one-requires t c =
    let a = c.args in
    let p = c.requires in
    let u = c.of_direction-u in
    let v = c.of_direction-v in
    let f = c.cheapest-against in
    let w = c.of_direction-w in
    let eu : u.result ≡ source_of a.site.now a.d = u.ensures ∙ ap (target_of a.site.now) c.opposite.ensures in
    let lu = rw (← eu) at (source_below a.site.now p.0.ready.fits a.d p.0.next.below) in
    let lw = p.0.ready.fits.ends f.result f.ensures.1.below in
    let k = moved _ a.d v.result f.result p.0 p.1 v.ensures f.ensures.1 c.set_of_probe.ensures in
    let m = less_at c.set_of_probe.new.marks c.take_one.new.counts (4 * w.result + 0) (4 * u.result + 0) (omega arith) c.take_one.ensures in
    let n = k.standing u.result lu in
    let r = rw (← eu) at p.0.room in
    let fits = (c.type_inv.site (8 * links_of a.site.now + u.result + 2)).fits in
    (omega arith, omega arith)

pub displace-make_offer-again-requires : goal.displace-make_offer-again-requires
displace-make_offer-again-requires t c =
    let a = c.args in
    let p = c.requires in
    let u = c.of_direction-u in
    let v = c.of_direction-v in
    let f = c.cheapest-against in
    let w = c.of_direction-w in
    let x = c.opposite-2 in
    let eu : u.result ≡ source_of a.site.now a.d = u.ensures ∙ ap (target_of a.site.now) c.opposite.ensures in
    let ew = maker a.site.now f.result x.result w.result x.ensures w.ensures in
    let lw = rw (← w.ensures) at (p.0.ready.fits.ends f.result f.ensures.1.below) in
    let low = rw (← x.ensures) at f.ensures.0 in
    let k = moved _ a.d v.result f.result p.0 p.1 v.ensures f.ensures.1 c.set_of_probe.ensures in
    let bytes = c.put-2.ensures ∙ ap (λ (y : List ℕ). put y a.d 1) c.put.ensures in
    let kept = displaced_kept _ _ a.d _ p.0 v.ensures x.result low _ (λ z. omega arith) (λ z. omega arith) _ bytes w.result u.result ew eu _ k _ _ c.take_one.ensures c.add_one.ensures in
    let fewer = displaced_fewer _ _ a.d _ p.0 v.ensures x.result low _ (λ z. omega arith) (λ z. omega arith) _ bytes in
    let r = displaced_room _ _ a.d _ p.0 v.ensures x.result low _ (λ z. omega arith) (λ z. omega arith) _ bytes w.result ew in
    let n = kept.standing w.result lw in
    let m = c.decreases in
    (omega arith, (displaced_ready _ _ a.d _ p.0 v.ensures x.result low _ (λ z. omega arith) (λ z. omega arith) _ bytes, kept, lw, omega arith))

pub displace-returns : goal.displace-returns
displace-returns t c =
    let a = c.args in
    let v = c.of_direction-v in
    let f = c.cheapest-against in
    let w = c.of_direction-w in
    let x = c.opposite-2 in
    let ew = maker a.site.now f.result x.result w.result x.ensures w.ensures in
    let low = rw (← x.ensures) at f.ensures.0 in
    let bytes = c.put-2.ensures ∙ ap (λ (y : List ℕ). put y a.d 1) c.put.ensures in
    let again = c.make_offer-again.ensures in
    (displaced_offered _ _ a.d _ c.requires.0 v.ensures x.result low _ (λ z. omega arith) (λ z. omega arith) _ bytes w.result ew _ _ again.0, again.1)

-- u stands below its spare
below_spare : {x r marks : List ℕ} (u : ℕ) → MarksAgree x r marks → u < probes_of x → mark marks u 0 < spare_of x u → stands (site_of x) (at_source r) u < spare_of x u
below_spare u k l m = let n = k.standing u l in omega arith

pub make_offer-returns-then-entry-d : goal.make_offer-returns-then-entry-d
make_offer-returns-then-entry-d t c =
    let u = c.args.u in
    let p = c.requires in
    let d = c.next_offer-d in
    (offered_none _ _ u d.result p.0 d.ensures.0 (omega arith), cursor_moved _ _ _ p.1 p.0 u d.result p.2 d.ensures.0 _ c.set_of_probe.ensures)

pub make_offer-returns-then-held-spare_of : goal.make_offer-returns-then-held-spare_of
make_offer-returns-then-held-spare_of t c =
    let u = c.args.u in
    let p = c.requires in
    let d = c.next_offer-d in
    let v = c.of_direction-v in
    let lv = rw (← v.ensures) at (p.0.fits.ends d.result (omega arith)) in
    let kept = cursor_moved _ _ _ p.1 p.0 u d.result p.2 d.ensures.0 _ c.set_of_probe.ensures in
    let o = offered_take _ _ u d.result v.result _ _ p.0 (below_spare u p.1 p.2 p.3) d.ensures.0 (omega arith) v.ensures (c.of_probe-held.ensures ∙ kept.held v.result lv) c.spare_of.ensures c.if-held-spare_of.true _ c.put.ensures in
    (o, taken_kept _ _ u d.result v.result p.0 d.ensures.0 (omega arith) v.ensures p.2 _ kept _ c.add_one.new.counts _ c.put.ensures c.add_one.ensures c.add_one-then-held-spare_of.ensures o.made.grows)

pub make_offer-displace-requires : goal.make_offer-displace-requires
make_offer-displace-requires t c =
    let u = c.args.u in
    let p = c.requires in
    let d = c.next_offer-d in
    let v = c.of_direction-v in
    let lv = rw (← v.ensures) at (p.0.fits.ends d.result (omega arith)) in
    let kept = cursor_moved _ _ _ p.1 p.0 u d.result p.2 d.ensures.0 _ c.set_of_probe.ensures in
    let m = c.decreases in
    (omega arith, (displaces _ _ u d.result v.result p.0 (below_spare u p.1 p.2 p.3) d.ensures.0 (omega arith) v.ensures _ _ (c.of_probe-held.ensures ∙ kept.held v.result lv) c.spare_of.ensures c.if-held-spare_of.false, kept))
