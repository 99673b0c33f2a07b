-- Invariant: record, output and place are those after the bytes before `at`, and `next` is the end of the line from there. Measure: the bytes that are left.
use borrow.Author.Rules.{rules}
use Prim.Native.Nat.{◌+◌, ◌-◌, ◌≤◌}
use mathlib.Core.Path.{◌≡◌, refl, ◌∙◌, ap}
use mathlib.Core.Logic.{⊎_elim}
use mathlib.Core.List.{[]}
use native.Mathlib.Omega.{arith}
use lib.ListN.{length, take, drop}
use Rattle.table.specs.Slices.{as_slices}
use Rattle.script_theory.specs.Script.{after_line, after_piece}
use Rattle.script_steps.specs.Within.{under_way, Buffered}
use Rattle.script_steps.specs.Closing.{closed_length}
use Rattle.script_steps.proofs.PieceLaws.{at_most}
use Rattle.script_steps.proofs.Closing.{end_within, none_taken, next_taken, still_usable, line_refused}
use Rattle.script_steps.proofs.steps.take_lines.Given as goal

abbrev pub invariant-loop-at : goal.invariant-loop-at
invariant-loop-at l =
    (l.at ≤ length l.piece) × (l.next ≡ l.at + closed_length (drop l.at l.piece))
    × Buffered (after_piece (as_slices l.counted.table) 1024 (under_way l.initial.place.progress l.initial.rec []) (take l.at l.piece)) l.initial.place.at l.place l.rec [] l.initial.out l.out
    × (length l.rec ≡ length l.initial.rec) × (length l.out ≡ length l.initial.out)

abbrev pub decreases-loop-at : goal.decreases-loop-at
decreases-loop-at l = length l.piece - l.at
