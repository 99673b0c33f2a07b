-- A text longer than any table's: what is printed depends on its first 27,923 bytes alone.
use Prim.Native.Nat.{ℕ, ◌<◌}
use mathlib.Core.Path.{◌≡◌}
use mathlib.Core.Bool.{false}
use mathlib.Core.List.{List}
use native.Mathlib.Omega.{arith}
use lib.ListN.{length, take}
use borrow.Author.Tests.{eqb-true, ne_eqb}
use Rattle.table.specs.Text.{of_text, text_fault, text_end}
use Rattle.table.proofs.Accepted.{text_good}
use Rattle.table_text.proofs.Good.{text_head}
use Rattle.table_laws.proofs.Long.{long_text}
use Rattle.plan_output.specs.Output.{output_of}

module _ (s : List ℕ) (l : 27922 < length s) where
  refused : text_fault 256 2048 false s ≡ 0 → ⊥
  refused e =
      let z = (text_head 256 2048 false s e).size in
      let k = eqb-true (length s) (text_end (of_text s)) (text_good 256 2048 false s e).end in
      omega arith

  pub long_output : output_of 256 2048 s ≡ output_of 256 2048 (take 27923 s)
  long_output = rw (← long_text s l, ne_eqb (text_fault 256 2048 false s) 0 refused)
