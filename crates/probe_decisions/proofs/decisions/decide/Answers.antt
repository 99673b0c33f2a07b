use borrow.Author.Rules.{rules}
use native.Mathlib.Omega.{arith}
use mathlib.Core.Path.{refl, sym, ◌∙◌}
use Rattle.probe_decisions.proofs.DecisionLaws.{unseen_is, refused_is}
use Rattle.probe_decisions.proofs.decisions.decide.Goals as goal

pub has-requires : goal.has-requires
has-requires c =
    let w = rw c.in-Offer.is at c.requires.1 in
    omega (arith, c.requires.0.in_held)

pub returns-then-has : goal.returns-then-has
returns-then-has c =
    let w = rw c.in-Offer.is at c.requires.1 in
    ((λ t end. rw (c.in-Offer.is, unseen_is end _ w, sym c.has.ensures ∙ c.if-has.true)), (λ f. refl))

pub has-requires-in-Offer : goal.has-requires-in-Offer
has-requires-in-Offer c =
    let w = rw c.in-Offer.is at c.requires.1 in
    omega (arith, c.requires.0.in_refused_in)

pub returns-then-has-2 : goal.returns-then-has-2
returns-then-has-2 c =
    let w = rw c.in-Offer.is at c.requires.1 in
    ((λ t end. rw (c.in-Offer.is, unseen_is end _ w, sym c.has.ensures ∙ c.if-has.false, sym c.has-in-Offer.ensures ∙ c.if-has-2.true)), (λ f. refl))

pub decide_offer-requires : goal.decide_offer-requires
decide_offer-requires c =
    let r = c.requires.0 in
    let w = rw c.in-Offer.is at c.requires.1 in
    (record { few = r.few; in_costs = r.in_costs; in_own = r.in_own; in_standing = r.in_held; in_refused_out = r.in_held; in_held = r.in_held; in_refused_in = r.in_held }, w)

pub has-requires-in-Refusal : goal.has-requires-in-Refusal
has-requires-in-Refusal c =
    let w = rw c.in-Refusal.is at c.requires.1 in
    omega (arith, c.requires.0.in_refused_out)

pub returns-then-has-3 : goal.returns-then-has-3
returns-then-has-3 c =
    ((λ t end. rw (c.in-Refusal.is, refused_is end _, sym c.has-in-Refusal.ensures ∙ c.if-has-3.true)), (λ f. refl))

pub returns-in-Opening : goal.returns-in-Opening
returns-in-Opening c =
    let a = c.args in
    ((λ t end. rw c.in-Opening.is (c.decide_opening.ensures t a.held.now a.refused_in.now end)), (λ f. absurd (rw c.in-Opening.is at f)))

pub returns-else-has-2 : goal.returns-else-has-2
returns-else-has-2 c =
    let a = c.args in
    let w = rw c.in-Offer.is at c.requires.1 in
    ((λ t end. rw (c.in-Offer.is, unseen_is end _ w, sym c.has.ensures ∙ c.if-has.false, sym c.has-in-Offer.ensures ∙ c.if-has-2.false) (c.decide_offer.ensures t a.standing.now a.refused_out.now a.refused_in.now end)), (λ f. refl))

pub returns-else-has-3 : goal.returns-else-has-3
returns-else-has-3 c =
    ((λ t end. rw (c.in-Refusal.is, refused_is end _, sym c.has-in-Refusal.ensures ∙ c.if-has-3.false)), (λ f. refl))
