use borrow.Author.Rules.{rules}
use native.Mathlib.Omega.{arith}
use Rattle.probe_exports.proofs.packed_hearing.Goals as goal

pub overflow_add-result : goal.overflow_add-result
overflow_add-result c =
    let p = c.requires _ c.in-Heard.is in omega arith

pub returns-in-Heard : goal.returns-in-Heard
returns-in-Heard c = simp c.in-Heard.is (omega arith)
