use Prim.Native.Nat.{ℕ, ◌≤◌}
use mathlib.Core.Path.{◌∙◌, ap}
use mathlib.Core.List.{List}
use native.Mathlib.Omega.{arith}
use lib.ListN.{length, get_or}
use Rattle.range.proofs.Lists.{zeros_at, stored_at}
use Rattle.plan_slse.proofs.Turns.{kept_bytes}
use Rattle.plan_slse.proofs.passes.plan_in_order.Goals as goal

pub add_links-requires : goal.add_links-requires
add_links-requires c =
    let a = c.args in
    let cl = c.clear in
    let z = c.clear_counts in
    let room = c.requires.1 in
    let k = cl.auto.plan in (
      rw z.auto.counts c.requires.0,
      omega arith,
      λ j l. ap (λ (x : List ℕ). get_or x j 0) cl.ensures ∙ stored_at (λ (i : ℕ). 0) a.table.links a.plan.now j room l,
      λ v l. ap (λ (x : List ℕ). get_or x v 0) z.ensures ∙ zeros_at (length a.counts.now) v,
    )

pub remove_links-requires : goal.remove_links-requires
remove_links-requires c =
    let room = c.requires.1 in
    let k = c.clear.auto.plan in
    let k₂ = c.add_links.auto.plan in
    let k₃ = c.add_links.auto.counts ∙ c.clear_counts.auto.counts in
    (rw k₃ c.requires.0, omega arith)

pub returns : goal.returns
returns c =
    let a = c.args in
    let cl = c.clear in
    let ad = c.add_links in
    let k = c.clear_counts.auto.counts in
    let k₂ = ad.auto.counts in
    let room : a.table.links ≤ length cl.new.plan = omega (arith, cl.auto.plan, c.requires.1) in
    λ probes costs wide is.
    let added_is = ad.ensures probes costs (omega (arith, wide, k)) is in
    kept_bytes probes a.table.links a.table.needs.now a.table.lows.now a.table.highs.now costs is.0 a.plan.now _ _ _ c.requires.1 cl.ensures added_is.0
    (c.remove_links.ensures probes costs (omega (arith, wide, k, k₂)) is (λ j l. ap (λ (x : List ℕ). get_or x j 0) added_is.0 ∙ stored_at _ a.table.links cl.new.plan j room l) added_is.1)
