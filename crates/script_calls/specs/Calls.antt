-- Calls of a script, one after the other: `script_piece` for each piece of the text behind a table, and `script_end` at the text's end.
-- "Every call gets the same legal table, in slices that 8 lets pass, and the record and log as the last call left them": so also the unfinished line and the progress.
use Rattle.std.specs.Prelude.{ℕ, ◌≤◌, ◌<◌, ◌%◌, ◌≡◌, List, [], ◌∷◌, ◌++◌, length, take}
use Rattle.lines.specs.Line.{lines_from}
use Rattle.table.specs.Slices.{Slices}
use Rattle.output.specs.Output.{Prints}
use Rattle.output.specs.declared.Output.{Output}
use Rattle.output.specs.declared.Output.TheVariants.{Length, Refused as Unprinted}
use Rattle.fleet_theory.specs.Fleet.{State, start, run, all_changes}
use Rattle.fleet_calls.specs.Calls.{SameTable}
use Rattle.script_theory.specs.Script.{after_piece, end_text, script_text}
use Rattle.script_steps.specs.declared.Progress.{Progress}
use Rattle.script_output.specs.Handling.{before, HandlesPiece, end_call_fault}
use Rattle.script_output.specs.declared.Handling.{Handling}
use Rattle.script_output.specs.declared.Handling.TheVariants.{Printed, Refused}

-- a call of `script_piece`: its slices of the table, its piece, the output slice lent, its answer, and the lent slices at its exit
pub record PieceCall : Type 0 where
  pub slices : Slices
  pub piece : List ℕ
  pub out : List ℕ
  pub answer : Handling
  pub bytes : List ℕ
  pub line : List ℕ
  pub out' : List ℕ

-- what the last call left: the progress, the record, and the slice that keeps an unfinished line
pub record PieceLeft : Type 0 where
  pub progress : Progress
  pub bytes : List ℕ
  pub line : List ℕ

abbrev pub fresh_piece : Slices → List ℕ → PieceLeft
fresh_piece x line = record { progress = record { used = 0; held = 0; changed = 0 }; bytes = (start x).bytes; line = line }

-- a refused call leaves the progress as it was
abbrev pub progress_left : Progress → Handling → Progress
progress_left p (Printed length q) = q
progress_left p (Refused n) = p

abbrev pub left_by_piece : PieceLeft → PieceCall → PieceLeft
left_by_piece b c = record { progress = progress_left b.progress c.answer; bytes = c.bytes; line = c.line }

-- the call gets the table of x and what the last one left, and does what `script_piece` promises
pub record KeptPiece (x : Slices) (b : PieceLeft) (c : PieceCall) : Type 0 where
  pub same_table : SameTable c.slices x
  pub promise : HandlesPiece c.slices b.progress c.piece c.answer b.bytes c.bytes b.line c.line c.out c.out'

abbrev pub PieceCalls : Slices → PieceLeft → List PieceCall → Type 0
PieceCalls x b [] = Unit
PieceCalls x b (c ∷ cs) = KeptPiece x b c × PieceCalls x (left_by_piece b c) cs

abbrev pub left_after_pieces : PieceLeft → List PieceCall → PieceLeft
left_after_pieces b [] = b
left_after_pieces b (c ∷ cs) = left_after_pieces (left_by_piece b c) cs

-- pieces, each with slices of the table of x and an output slice; calls can be made for any of them (`piece_callable`)
abbrev pub GivenPieces : Slices → List (Slices × List ℕ × List ℕ) → Type 0
GivenPieces x [] = Unit
GivenPieces x (g ∷ gs) = SameTable g.0 x × GivenPieces x gs

abbrev pub pieces_given : List PieceCall → List (Slices × List ℕ × List ℕ)
pieces_given [] = []
pieces_given (c ∷ cs) = (c.slices, c.piece, c.out) ∷ pieces_given cs

-- the text of the pieces that were handled: a refused call has done nothing, and its piece may be given again
abbrev pub handled_piece : Handling → List ℕ → List ℕ
handled_piece (Printed length q) piece = piece
handled_piece (Refused n) piece = []

abbrev pub text_of_pieces : List PieceCall → List ℕ
text_of_pieces [] = []
text_of_pieces (c ∷ cs) = handled_piece c.answer c.piece ++ text_of_pieces cs

-- what a call has printed: the start of its output slice
abbrev pub printed_piece : Handling → List ℕ → List ℕ
printed_piece (Printed length q) out = take length out
printed_piece (Refused n) out = []

abbrev pub printed_by_pieces : List PieceCall → List ℕ
printed_by_pieces [] = []
printed_by_pieces (c ∷ cs) = printed_piece c.answer c.out' ++ printed_by_pieces cs

abbrev pub printed_end : Output → List ℕ → List ℕ
printed_end (Length length) out = take length out
printed_end (Unprinted n) out = []

-- the calls `cs` from a fresh fleet on, with a slice of 16 bytes or more for an unfinished line; the theorem is `script_of_calls`
module _ (x : Slices) (line : List ℕ) (cs : List PieceCall) where
  abbrev left_at : List PieceCall → PieceLeft
  left_at earlier = left_after_pieces (fresh_piece x line) earlier

  abbrev after : PieceLeft
  after = left_at cs

  -- the lines of the text of the pieces, and the run over them; a last one without its line feed is refused and changes nothing
  abbrev lines : List (List ℕ)
  lines = lines_from [] (text_of_pieces cs)

  abbrev reached : State
  reached = run x 1024 (start x) lines

  pub record ScriptOfCalls : Type 0 where
    -- a call is refused by 8 alone, where its output slice is shorter than what its piece prints
    pub refused_no_room : (earlier later : List PieceCall) (c : PieceCall) → cs ≡ earlier ++ c ∷ later → (n : ℕ) → c.answer ≡ Refused n
        → (let b = left_at earlier in (n ≡ 8) × (length c.out < length (after_piece x 1024 (before b.progress b.bytes b.line) c.piece).out))
    -- and every such call is refused: it leaves what the last one left, and its output slice as it was
    pub no_room_refused : (earlier later : List PieceCall) (c : PieceCall) → cs ≡ earlier ++ c ∷ later
        → (let b = left_at earlier in length c.out < length (after_piece x 1024 (before b.progress b.bytes b.line) c.piece).out
        → (c.answer ≡ Refused 8) × (left_by_piece b c ≡ b) × (c.out' ≡ c.out))
    -- the record, the used entries and the changes, as far as eight digits print them, are the run's
    pub bytes : after.bytes ≡ reached.bytes
    pub used : after.progress.used ≡ length reached.log
    pub changed : after.progress.changed ≡ all_changes x 1024 (start x) lines % 4294967296
    -- in slices y of the table, `script_end` is called on what they left, with room: all print, one behind the other, what the text of the pieces prints whole
    pub prints : (y : Slices) → SameTable y x → (r : Output) (out out' : List ℕ)
        → (let printed = end_text y after.bytes after.progress.held after.progress.changed in
        Prints (end_call_fault y after.bytes printed out) printed r out out'
        → length printed ≤ length out → printed_by_pieces cs ++ printed_end r out' ≡ script_text x 1024 (text_of_pieces cs))
