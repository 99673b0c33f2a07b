use mathlib.Core.Path.{◌∙◌}
use Rattle.plan_turns_search.proofs.Storing.{link_put}
use Rattle.plan_turns_search.proofs.chains.put_link.Goals as goal

pub returns : goal.returns
returns c =
    let a = c.args in
    let s₁ = c.set_of_direction in
    let s₂ = c.set_of_direction-2 in
    let s₃ = c.set_of_direction-3 in
    let s₄ = c.set_of_direction-4 in
    link_put a.site.now s₁.new.site s₂.new.site s₃.new.site s₄.new.site a.i a.low a.high a.cost c.requires.0 s₁.ensures s₂.ensures s₃.ensures s₄.ensures s₁.auto.site (s₂.auto.site ∙ s₁.auto.site) (s₃.auto.site ∙ s₂.auto.site ∙ s₁.auto.site)
