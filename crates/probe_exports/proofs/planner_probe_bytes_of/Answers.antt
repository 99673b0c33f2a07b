use borrow.Author.Rules.{rules}
use mathlib.Core.Path.{◌∙◌, ap}
use Rattle.packed_answers.specs.Packed.{packed_value}
use Rattle.probe_exports.proofs.planner_probe_bytes_of.Goals as goal

pub returns : goal.returns
returns c =
    let turned = c.bytes_of.ensures in
    record { answer = c.packed_turning.ensures ∙ ap packed_value turned.answer; bytes_after_lem = turned.bytes_after_lem }
