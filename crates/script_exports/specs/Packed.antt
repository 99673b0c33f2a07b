-- What the functions of a script for C and Rust promise: the answer as one number, and the lent slices as the functions that are called leave them.
-- A refusal is its number; any other answer is `answer_base` or more.
use Rattle.std.specs.Prelude.{ℕ, ◌≡◌, cond, List, ◌∷◌, ◌++◌, eqb, length, drop}
use Rattle.range.specs.First.{or_else}
use Rattle.range.specs.Reply.{reply_of}
use Rattle.table.specs.Table.{item}
use Rattle.table.specs.Legal.{lent_fault}
use Rattle.table.specs.Slices.{Slices}
use Rattle.output.specs.Output.{printed_into}
use Rattle.script_theory.specs.Script.{Script, after_piece}
use Rattle.script_steps.specs.declared.Progress.{Progress}
use Rattle.script_output.specs.Handling.{before, piece_call_fault, piece_values}
use Rattle.packed_answers.specs.Packed.{packed_value}

-- the three numbers of a script's progress: entries used, bytes held, changes
abbrev pub progress_of : List ℕ → Progress
progress_of n = record { used = item n 0; held = item n 1; changed = item n 2 }

-- a piece handled: 8 for fewer than three numbers comes first; the numbers beyond them stay
pub record PiecePacked (fault : ℕ) (q : Script) (r : ℕ) (rec rec' line line' numbers numbers' out out' : List ℕ) : Type 0 where
  pub answer : r ≡ packed_value (reply_of fault (piece_values q))
  pub numbers_after : numbers' ≡ cond (eqb fault 0) (q.used ∷ length q.held ∷ q.changed ∷ drop 3 numbers) numbers
  pub record_after_lem : rec' ≡ cond (eqb fault 0) q.bytes rec
  pub line_after : line' ≡ cond (eqb fault 0) (q.held ++ drop (length q.held) line) line
  pub out_after_lem : out' ≡ printed_into fault q.out out

abbrev pub HandlesPiecePacked : Slices → List ℕ → ℕ → List ℕ → List ℕ → List ℕ → List ℕ → List ℕ → List ℕ → List ℕ → List ℕ → Type 0
HandlesPiecePacked x piece r rec rec' line line' numbers numbers' out out' =
    PiecePacked (or_else (lent_fault (length numbers) 3) (piece_call_fault x (progress_of numbers) piece rec line out))
    (after_piece x 1024 (before (progress_of numbers) rec line) piece) r rec rec' line line' numbers numbers' out out'
