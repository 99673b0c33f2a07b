use Prim.Native.Nat.{ℕ, ◌*◌, ◌/◌, ◌<◌}
use mathlib.Core.Path.{◌≡◌, ◌∙◌, ap}
use native.Mathlib.Omega.{arith}
use Rattle.table.specs.Table.{item}
use Rattle.plan_turns_search.specs.Record.{of_direction, mark}
use Rattle.plan_turns_search.proofs.Build.{round_below, site_built, marks_built}
use Rattle.plan_turns_search.proofs.Storing.{first_marks}
use Rattle.plan_turns_search.proofs.chains.link_up.Goals as goal

pub chain_links-requires : goal.chain_links-requires
chain_links-requires c =
    let p = c.requires in
    let m = c.start_marks in
    (omega arith, p.0, p.2, p.3, omega arith, omega arith, λ i l. ((p.6 i l).0, omega (arith, (p.6 i l).1)), c.order_links.ensures.below, λ v l. omega (arith, first_marks c.args.marks.now m.new.marks m.ensures v 2 (omega arith) (omega arith)))

pub chain_links-requires-2 : goal.chain_links-requires-2
chain_links-requires-2 c =
    let a = c.args in
    let p = c.requires in
    let m = c.start_marks in
    let o = c.order_links in
    let h = c.turn_round in (
      omega arith,
      p.0,
      p.2,
      p.3,
      omega arith,
      omega arith,
      λ i l. ((p.6 i l).0, omega (arith, (p.6 i l).1)),
      round_below a.links a.costs.now p.0 (λ i. (c.type_inv.costs i).fits) o.new.order o.ensures o.new.half h.new.to (omega arith) h.ensures,
      λ v l. omega (arith, first_marks a.marks.now m.new.marks m.ensures v 3 (omega arith) (omega arith), c.chain_links.ensures.1 v 3 (omega arith) (λ z. omega arith)),
    )

pub returns : goal.returns
returns c =
    let a = c.args in
    let p = c.requires in
    let m = c.start_marks in
    let o = c.order_links in
    let d = c.chain_links in
    let h = c.turn_round in
    let u = c.chain_links-2 in
    let s = c.put_site in
    let cheap : (i : ℕ) → item a.costs.now i < 65536 = λ i. (c.type_inv.costs i).fits in
    let up = rw (ap (λ (x : ℕ). x / 4) d.auto.marks) at u.ensures.0 in
    let stay : (x : ℕ) → x < 2 * a.links → of_direction s.new.site x 2 ≡ of_direction d.new.site x 2 = λ x l. s.ensures.1 x 2 (omega arith) (omega arith) l ∙ u.ensures.2 x 2 (omega arith) (λ z. omega arith) in
    let stay-up : (x : ℕ) → x < 2 * a.links → of_direction s.new.site x 3 ≡ of_direction u.new.site x 3 = λ x l. s.ensures.1 x 3 (omega arith) (omega arith) l in
    let same : (v j : ℕ) → j < 2 → mark u.new.marks v j ≡ mark m.new.marks v j = λ v j b. u.ensures.1 v j (omega arith) (λ z. omega arith) ∙ d.ensures.1 v j (omega arith) (λ z. omega arith) in
    let first = first_marks a.marks.now m.new.marks m.ensures in (
      site_built a.links _ p.0 cheap _ o.ensures _ _ (omega arith) h.ensures a.probes _ _ _ _ s.ensures.0 p.6 _ _ _ _ _ (omega arith) d.ensures.0 up stay stay-up p.1 (omega arith),
      s.ensures.0,
      marks_built a.links _ p.0 cheap _ o.ensures _ _ (omega arith) h.ensures a.probes _ _ _ _ s.ensures.0 p.6 _ _ _ _ _ (omega arith) d.ensures.0 up stay stay-up
          (λ v l. (same v 0 (omega arith) ∙ first v 0 (omega arith) (omega arith), same v 1 (omega arith) ∙ first v 1 (omega arith) (omega arith))) (λ v. u.ensures.1 v 2 (omega arith) (λ z. omega arith)),
    )
