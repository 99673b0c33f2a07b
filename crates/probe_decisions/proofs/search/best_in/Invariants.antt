-- Invariant: the place is that of a bit that is set, or behind the last, and the best so far is the one found among the links before it. Measure: the places left.
use borrow.Author.Rules.{rules}
use Prim.Native.Nat.{ℕ, ◌+◌, ◌*◌, ◌-◌, ◌≤◌, ◌<◌}
use mathlib.Core.Path.{◌≡◌, sym, ◌∙◌}
use mathlib.Core.Logic.{⊎_elim}
use mathlib.Core.Bool.{Bool, true, cond}
use mathlib.Core.List.{List}
use native.Mathlib.Omega.{arith}
use lib.ListN.{length}
use borrow.Author.Tests.{lt-ltb, le-ltb}
use Rattle.range.specs.Choice.{best}
use Rattle.range.proofs.Choice.{Found, found_start}
use Rattle.bit_maps.specs.BitMap.{bit, next_bit}
use Rattle.table.specs.Table.{item, dearer_by_place}
use Rattle.probe_decisions.proofs.SearchLaws.{next_is, lesser, found_to, found_before, found_behind}
use Rattle.probe_decisions.proofs.search.best_in.Given as goal

abbrev pub order : Bool → List ℕ → ℕ → ℕ → Bool
order cheapest costs k b = cond cheapest (dearer_by_place (item costs) b k) (dearer_by_place (item costs) k b)

abbrev pub invariant-loop-i : goal.invariant-loop-i
invariant-loop-i l = (l.i ≤ 64 * length l.map) × (l.i < 64 * length l.map → bit l.map l.i ≡ true) × Found (order l.cheapest l.costs) (bit l.map) l.links (lesser l.i l.links) l.best

abbrev pub decreases-loop-i : goal.decreases-loop-i
decreases-loop-i l = 64 * length l.map - l.i
