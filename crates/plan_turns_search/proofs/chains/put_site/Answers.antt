use native.Mathlib.Omega.{arith}
use Rattle.plan_turns_search.proofs.Storing.{site_of_links, chains_put}
use Rattle.plan_turns_search.proofs.chains.put_site.Goals as goal

pub returns : goal.returns
returns c =
    let a = c.args in
    let p = c.requires in
    let s₁ = c.put_links in
    let s₂ = c.put_spares in
    let s₃ = c.store in
    let s₄ = c.store-2 in
    let n = s₁.auto.site in
    let m = s₂.auto.site in
    let room = p.6 in (
      site_of_links a.probes a.links a.lows.now a.highs.now a.costs.now a.spares.now a.site.now s₁.new.site s₂.new.site s₃.new.numbers s₄.new.numbers (omega arith) s₃.auto.numbers s₁.ensures s₂.ensures s₃.ensures s₄.ensures,
      chains_put a.probes a.links a.lows.now a.highs.now a.costs.now a.spares.now a.site.now s₁.new.site s₂.new.site s₃.new.numbers s₄.new.numbers (omega arith) s₃.auto.numbers s₁.ensures s₂.ensures s₃.ensures s₄.ensures,
    )
