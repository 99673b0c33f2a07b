-- What a program writes of an output slice: all that a call printed into it. That the system's write took it is assumed.
use Rattle.std.specs.Prelude.{ℕ, ◌≡◌, List, length, take}
use Rattle.output.specs.Output.{Prints}
use Rattle.output.specs.declared.Output.TheVariants.{Length}

pub record Wrote (printed written : List ℕ) : Type 0 where
  pub out : List ℕ
  pub out' : List ℕ
  pub prints : Prints 0 printed (Length (length written)) out out'
  pub start_of_slice : written ≡ take (length written) out'
