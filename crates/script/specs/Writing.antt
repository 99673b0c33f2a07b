-- What the script program writes, over any list of reads that together give the input. Of known bytes the program's run is promised; what the system's read gave and its write took, no promise tells.
use Rattle.std.specs.Prelude.{ℕ, ◌≤◌, ◌<◌, ◌≡◌, true, List, ◌++◌, length, take, replicate, Option, IfSome, Err}
use Rattle.std.specs.Io.KnownBytes.{Consumes, Appends, IsAtEnd}
use Rattle.table.specs.Slices.{Slices}
use Rattle.refusals.specs.Refusals.{number_of}
use Rattle.refusals.specs.declared.Refusal.{Refusal}
use Rattle.table_read.specs.Reading.{Lent, lent_of, answered, ReadsTable}
use Rattle.table_laws.specs.Functions.{lent_slices}
use Rattle.output.specs.Output.{refusal_line, Prints}
use Rattle.output.specs.declared.Output.TheVariants.{Length}
use Rattle.script_theory.specs.Script.{end_text, script_output}
use Rattle.script_output.specs.Handling.{end_call_fault}
use Rattle.script_calls.specs.Calls.{PieceCall, fresh_piece, PieceCalls, left_after_pieces, text_of_pieces, printed_by_pieces}
use Rattle.script_table.specs.Reading.{table_text}
use Rattle.script.specs.declared.Ending.{Ending}
use Rattle.script.specs.declared.Ending.TheVariants as ending

-- pieces handled as `script_piece` promises, then the promise of `script_end` on what they left: it has printed n bytes into `out'`
pub record Answered (x : Slices) (n : ℕ) (out' : List ℕ) : Type 0 where
  pub line : List ℕ
  pub long : 16 ≤ length line
  pub calls : List PieceCall
  pub kept : PieceCalls x (fresh_piece x line) calls
  pub out : List ℕ
  pub end : (let b = left_after_pieces (fresh_piece x line) calls in
      let printed = end_text x b.bytes b.progress.held b.progress.changed in
      Prints (end_call_fault x b.bytes printed out) printed (Length n) out out')

abbrev pub AnswersScript : Slices → Ending → List ℕ → Type 0
AnswersScript x (ending.Printed n) out' = Answered x n out'
AnswersScript x ending.Failed out' = Unit {0}

-- of known bytes: those read are the text of the pieces, and what these printed was written; at the end none are left, if the slice to read into has room
abbrev pub MovesScript : (x : Slices) (e : Ending) (out' : List ℕ) → AnswersScript x e out' → ℕ → Option (List ℕ) → Option (List ℕ) → Option (List ℕ) → Option (List ℕ) → Type 0
MovesScript x (ending.Printed n) out' a room unread unread' written written' =
    Consumes unread unread' (text_of_pieces a.calls) × Appends written written' (printed_by_pieces a.calls) × (0 < room → IsAtEnd unread')
MovesScript x ending.Failed out' a room unread unread' written written' = Unit {0}

-- both, of the same pieces
pub record AnswersInput (x : Slices) (e : Ending) (out' : List ℕ) (room : ℕ) (unread unread' written written' : Option (List ℕ)) : Type 0 where
  pub answers : AnswersScript x e out'
  pub moved : MovesScript x e out' answers room unread unread' written written'

-- the count of bytes that are left to write
unfoldable pub left_to_write : Ending → ℕ
left_to_write (ending.Printed n) = n
left_to_write ending.Failed = 0

-- the program's slices before the table is read into them
abbrev pub zero_slices : Lent
zero_slices = lent_of (replicate 256 0) (replicate 2048 0) (replicate 2048 0) (replicate 2048 0)

-- "The script program reads a table and, after its closing line, script lines .. For each it prints the entry"; "a refused table prints only that"
-- The table is read from its own bytes into slices b, by `read_table_prefix`; then the calls, whose pieces are the rest of the input, and the end print all that the input prints.
pub record ScriptWrites (input : List ℕ) : Type 0 where
  pub refused : (n : Refusal) (b : Lent) → ReadsTable 256 2048 true (table_text input) (Err n) zero_slices b → refusal_line (number_of n) ≡ script_output input
  pub writes : (number probes links rest : ℕ) (b : Lent) → ReadsTable 256 2048 true (table_text input) (answered number probes links rest) zero_slices b
      → (n : ℕ) (out' : List ℕ) (a : Answered (lent_slices number probes links b) n out') → table_text input ++ text_of_pieces a.calls ≡ input
      → printed_by_pieces a.calls ++ take n out' ≡ script_output input

-- what is left to write is written; nothing is where a read or write failed
abbrev pub WritesEnding : Ending → List ℕ → Option (List ℕ) → Option (List ℕ) → Type 0
WritesEnding (ending.Printed n) out written written' = Appends written written' (take n out)
WritesEnding ending.Failed out written written' = ⊥

-- behind a table's own text that was read, of known bytes that are still to be read: what the whole input prints
abbrev pub WritesBehind : List ℕ → Option (List ℕ) → Option (List ℕ) → Option (List ℕ) → Type 0
WritesBehind text unread written written' = IfSome unread (λ rest. table_text (text ++ rest) ≡ text → Appends written written' (script_output (text ++ rest)))

-- of known bytes: all that they print is written
abbrev pub WritesAll : Option (List ℕ) → Option (List ℕ) → Option (List ℕ) → Type 0
WritesAll unread written written' = IfSome unread (λ input. Appends written written' (script_output input))
