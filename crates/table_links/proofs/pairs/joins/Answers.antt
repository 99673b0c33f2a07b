use mathlib.Core.Path.{sym, ◌∙◌}
use Rattle.table_links.proofs.pairs.joins.Goals as goal

pub returns-then-are_ends : goal.returns-then-are_ends
returns-then-are_ends c =
    rw (← c.wide-low.ensures, ← c.wide-high.ensures, sym c.are_ends.ensures ∙ c.if-are_ends.true)

pub returns : goal.returns
returns c =
    rw (← c.wide-low.ensures, ← c.wide-high.ensures, sym c.are_ends.ensures ∙ c.if-are_ends.false) c.are_ends-2.ensures
