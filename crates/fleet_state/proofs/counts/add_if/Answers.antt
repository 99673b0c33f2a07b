use mathlib.Core.Path.{sym}
use native.Mathlib.Nat.{add-zero}
use lib.ListN.{get_or}
use lib.Seq.{set-get_or}
use borrow.Author.Tests.{eq-eqb, ne_eqb}
use Rattle.fleet_state.proofs.counts.add_if.Goals as goal

pub returns-then-byte-value : goal.returns-then-byte-value
returns-then-byte-value c = rw (eq-eqb _ _ c.if-byte-value.true)

pub returns-else-byte-value : goal.returns-else-byte-value
returns-else-byte-value c =
    let a = c.args in
    rw (ne_eqb _ _ c.if-byte-value.false, add-zero (get_or a.counts.now a.v 0)) (sym (set-get_or a.counts.now a.v 0))
