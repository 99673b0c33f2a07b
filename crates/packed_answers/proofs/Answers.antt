-- How the code comes to a packed answer of what is printed.
use Prim.Native.Nat.{ℕ}
use mathlib.Core.Path.{◌≡◌, ◌∙◌, ap}
use mathlib.Core.List.{List}
use Rattle.output.specs.Output.{output_reply, Prints}
use Rattle.output.specs.declared.Output.{Output}
use Rattle.packed_answers.specs.Packed.{packed_value, PrintsPacked}

pub prints_packed : (fault : ℕ) (printed : List ℕ) (a : Output) (r : ℕ) (before after : List ℕ) → Prints fault printed a before after → r ≡ packed_value (output_reply a)
    → PrintsPacked fault printed r before after
prints_packed fault printed a r before after g e = record { answer = e ∙ ap packed_value g.answer; out = g.out }
