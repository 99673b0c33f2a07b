-- What the script program has handled of the text behind its table, over any list of reads.
use Rattle.std.specs.Prelude.{ℕ, ◌<◌, ◌≡◌, List, Option}
use Rattle.std.specs.Io.KnownBytes.{Consumes, Appends, IsAtEnd}
use Rattle.table.specs.Slices.{Slices}
use Rattle.script_calls.specs.Calls.{PieceCall, PieceLeft, fresh_piece, PieceCalls, left_after_pieces, text_of_pieces, printed_by_pieces}
use Rattle.script_reads.specs.declared.Stop.{Stop}
use Rattle.script_reads.specs.declared.Stop.TheVariants as stop

-- pieces were handled as `script_piece` promises, one after the other from a fresh fleet on, and these left b
pub record HandledBy (x : Slices) (line : List ℕ) (b : PieceLeft) : Type 0 where
  pub calls : List PieceCall
  pub kept : PieceCalls x (fresh_piece x line) calls
  pub left : left_after_pieces (fresh_piece x line) calls ≡ b

-- at the input's end, record, line and progress are as the calls left them
abbrev pub HandlesReads : Slices → Stop → List ℕ → List ℕ → List ℕ → Type 0
HandlesReads x (stop.AtEnd p) line rec' line' = HandledBy x line (record { progress = p; bytes = rec'; line = line' })
HandlesReads x stop.Failed line rec' line' = Unit {0}

-- of known bytes: those read are the text of the pieces handled, and what these printed was written; at the end none are left, if the slice to read into has room
abbrev pub MovesReads : (x : Slices) (s : Stop) (line rec' line' : List ℕ) → HandlesReads x s line rec' line' → ℕ → Option (List ℕ) → Option (List ℕ) → Option (List ℕ) → Option (List ℕ) → Type 0
MovesReads x (stop.AtEnd p) line rec' line' h room unread unread' written written' =
    Consumes unread unread' (text_of_pieces h.calls) × Appends written written' (printed_by_pieces h.calls) × (0 < room → IsAtEnd unread')
MovesReads x stop.Failed line rec' line' h room unread unread' written written' = Unit {0}

-- both, of the same pieces
pub record HandlesInput (x : Slices) (s : Stop) (line rec' line' : List ℕ) (room : ℕ) (unread unread' written written' : Option (List ℕ)) : Type 0 where
  pub handled : HandlesReads x s line rec' line'
  pub moved : MovesReads x s line rec' line' handled room unread unread' written written'
