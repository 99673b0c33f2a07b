-- What is written of an output slice is what was printed.
use Prim.Native.Nat.{ℕ}
use mathlib.Core.Path.{◌≡◌, ◌∙◌, ap}
use mathlib.Core.List.{List}
use lib.ListN.{length, take, drop}
use lib.Seq.{take-append_seam}
use Rattle.standard_io.specs.Writing.{Wrote}

pub wrote_is : (printed written : List ℕ) → Wrote printed written → written ≡ printed
wrote_is printed written w =
    let k : length written ≡ length printed = (let e = w.prints.answer in cc) in
    w.start_of_slice ∙ ap (λ (n : ℕ). take n w.out') k ∙ ap (take (length printed)) w.prints.out ∙ take-append_seam printed (drop (length printed) w.out)
