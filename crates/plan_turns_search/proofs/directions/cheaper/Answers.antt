use mathlib.Core.Path.{sym, ◌∙◌}
use Rattle.plan_turns_search.proofs.Record.{key_by_cost, key_by_place}
use Rattle.plan_turns_search.proofs.directions.cheaper.Goals as goal

pub returns-then-of_f-of_d : goal.returns-then-of_f-of_d
returns-then-of_f-of_d c =
    let a = c.args in
    let p = c.requires in
    sym (key_by_place a.site.now a.f a.d p.2 p.3 (sym c.of_direction-of_f.ensures ∙ c.if-of_f-of_d.true ∙ c.of_direction-of_d.ensures))

pub returns : goal.returns
returns c =
    let a = c.args in
    let p = c.requires in
    rw (c.of_direction-of_f.ensures, c.of_direction-of_d.ensures) (sym (key_by_cost a.site.now a.f a.d p.2 p.3 (λ z. c.if-of_f-of_d.false (c.of_direction-of_f.ensures ∙ z ∙ sym c.of_direction-of_d.ensures))))
