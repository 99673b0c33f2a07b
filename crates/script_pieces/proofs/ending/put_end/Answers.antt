-- with and without the refusal of an unfinished line
use borrow.Author.Rules.{rules}
use mathlib.Core.Path.{◌≡◌, sym, ◌∙◌, ap}
use mathlib.Core.Bool.{Bool, true, false, cond}
use Prim.Native.Nat.{◌+◌}
use native.Mathlib.Omega.{arith}
use lib.Dec.{eqb}
use Rattle.table.specs.Slices.{slices_of}
use Rattle.script_lines.specs.Fitting.{capped}
use Rattle.script_lines.proofs.Fitting.{capped_below, stored_fits, stored_short}
use Rattle.script_theory.specs.Script.{end_text}
use Rattle.script_pieces.proofs.Ends.{end_then, length_end, end_most}
use Rattle.script_pieces.proofs.ending.put_end.Goals as goal

eleven : (b : Bool) → cond b 0 5 + 11 ≡ cond b 11 16
eleven true = omega arith
eleven false = omega arith

pub overflow_add-end : goal.overflow_add-end
overflow_add-end c =
    let n = end_most (eqb c.args.held 0) in
    omega (arith, c.requires.4, c.end_length.ensures)

pub returns-then-out-end : goal.returns-then-out-end
returns-then-out-end c =
    let a = c.args in
    let e = c.end_length.ensures in (
      λ number costs.
          let x = slices_of number a.probes a.links a.needs.now a.lows.now a.highs.now costs in
          let n = length_end x a.rec.now a.held a.changed in
          sym (stored_short a.out.now a.at (end_text x a.rec.now a.held a.changed) (omega (arith, c.if-out-end.true))),
      c.cap.ensures ∙ ap capped (omega arith),
    )

pub put_unclosed-next-requires : goal.put_unclosed-next-requires
put_unclosed-next-requires c =
    let n = eleven (eqb c.args.held 0) in
    omega (arith, c.if-out-end.false, c.end_length.ensures)

pub put_last-requires : goal.put_last-requires
put_last-requires c =
    let u = c.put_unclosed-next in
    let n = eleven (eqb c.args.held 0) in
    omega (arith, c.if-out-end.false, c.end_length.ensures, u.ensures.1, u.auto.out)

pub returns : goal.returns
returns c =
    let a = c.args in
    let u = c.put_unclosed-next in
    let e = c.end_length.ensures in (
      λ number costs.
          let x = slices_of number a.probes a.links a.needs.now a.lows.now a.highs.now costs in
          let n = length_end x a.rec.now a.held a.changed in
          end_then x a.rec.now a.held a.changed _ a.at _ a.out.now _ _ (c.is_finished-done.ensures number costs) u.ensures.0 u.ensures.1 c.put_last.ensures
          ∙ sym (stored_fits a.out.now a.at (end_text x a.rec.now a.held a.changed) (omega (arith, c.if-out-end.false))),
      sym (capped_below (a.at + cond (eqb a.held 0) 11 16) (omega (arith, c.if-out-end.false, c.well_formed.1.1.1.1.1.1.1.1.1.0)) ∙ omega arith),
    )
