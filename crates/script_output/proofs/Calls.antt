-- One call after the other: the next starts where the last one ended. With the law `any_pieces`, a text given in any pieces prints what it prints whole.
use Prim.Native.Nat.{ℕ, ◌≤◌}
use mathlib.Core.Path.{◌≡◌, ◌∙◌}
use mathlib.Core.List.{List, ◌++◌}
use lib.ListN.{length, drop}
use lib.Seq.{take-take, take-append_seam}
use Rattle.script_theory.specs.Script.{Script, carried}
use Rattle.script_output.specs.Handling.{before}

-- the slices and the answer of a call, given to the next
pub next_call : (q : Script) (line : List ℕ) → length q.held ≤ 16
    → before (record { used = q.used; held = length q.held; changed = q.changed }) q.bytes (q.held ++ drop (length q.held) line) ≡ carried q
next_call q line l =
    let n : ℕ = length q.held in
    let rest : List ℕ = drop n line in
    rw (take-take n 16 (q.held ++ rest) l ∙ take-append_seam q.held rest)
