use mathlib.Core.Path.{◌≡◌}
use native.Mathlib.Omega.{arith}
use borrow.Author.Tests.{lt-ltb, le-ltb, eq-eqb, ne_eqb}
use Rattle.table_links.proofs.pairs.is_earlier.Goals as goal

pub returns-then-here-low : goal.returns-then-here-low
returns-then-here-low c = rw (← c.wide-here.ensures, lt-ltb _ _ c.if-here-low.true)

pub returns-then-low-here : goal.returns-then-low-here
returns-then-low-here c =
    rw (← c.wide-here.ensures, le-ltb _ _ c.if-here-low.false, ne_eqb c.wide-here.result c.args.low (λ q. let k = c.if-low-here.true in omega arith))

pub returns : goal.returns
returns c =
    let same : c.wide-here.result ≡ c.args.low = let k = c.if-low-here.false in let j = c.if-here-low.false in omega arith in
    rw (← c.wide-here.ensures, le-ltb _ _ c.if-here-low.false, eq-eqb _ _ same, ← c.wide.ensures)
