use mathlib.Core.Path.{◌∙◌, ap}
use Prim.Native.Nat.{ℕ, ◌+◌, ◌*◌}
use Rattle.table.specs.Table.{item}
use Rattle.plan_turns_search.proofs.directions.spare_of.Goals as goal

pub returns : goal.returns
returns c =
    let a = c.args in
    c.entry-2.ensures ∙ ap (λ (n : ℕ). item a.site.now (8 * n + a.v + 2)) c.entry.ensures
