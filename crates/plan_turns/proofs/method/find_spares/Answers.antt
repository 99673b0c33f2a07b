use borrow.Author.Rules.{rules}
use Prim.Native.Nat.{ℕ}
use mathlib.Core.Path.{◌∙◌, ap}
use mathlib.Core.List.{List}
use native.Mathlib.Omega.{arith}
use lib.ListN.{length}
use Rattle.range.proofs.Lists.{zeros_at}
use Rattle.table.specs.Table.{item}
use Rattle.table.proofs.Faults.{links_ends, ends_within}
use Rattle.plan_turns_search.proofs.Plan.{spares_right}
use Rattle.plan_turns.proofs.method.find_spares.Goals as goal

pub count_degrees-requires : goal.count_degrees-requires
count_degrees-requires c =
    let a = c.args in
    let z = c.clear_counts in
    let n = z.auto.counts in
    (search rules, search rules, search rules, ends_within a.probes a.links (length z.new.counts) (item a.lows.now) (item a.highs.now) c.requires.5 (omega (arith, c.requires.3)), λ v. ap (λ (x : List ℕ). item x v) z.ensures ∙ zeros_at (length a.spares.now) v)

pub returns : goal.returns
returns c =
    let a = c.args in
    let n = c.count_degrees in
    spares_right a.probes a.links a.needs.now a.lows.now a.highs.now n.new.counts _ (links_ends a.probes a.links (item a.lows.now) (item a.highs.now) c.requires.5) n.ensures (omega (arith, n.auto.counts, c.clear_counts.auto.counts, c.requires.3)) c.take_needs.ensures
