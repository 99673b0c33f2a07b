-- Calls can be made: for any pieces, each in any slices of the table and with any output slice, on what the last one left. So no statement about calls is hollow.
use Prim.Native.Nat.{ℕ}
use mathlib.Core.Path.{◌≡◌, refl, ap}
use mathlib.Core.Bool.{Bool, true, false, cond}
use mathlib.Core.List.{List, [], ◌∷◌, ◌++◌}
use lib.Dec.{eqb}
use lib.ListN.{length, drop}
use Rattle.range.specs.Reply.{refusal, values}
use Rattle.table.specs.Slices.{Slices}
use Rattle.output.specs.Output.{printed_into}
use Rattle.fleet_calls.specs.Calls.{SameTable}
use Rattle.script_theory.specs.Script.{Script, after_piece}
use Rattle.script_output.specs.Handling.{before, handling_reply, piece_values, piece_call_fault}
use Rattle.script_output.specs.declared.Handling.TheVariants.{Printed, Refused}
use Rattle.script_output.proofs.Answers.{progress_after}
use Rattle.script_calls.specs.Calls.{PieceCall, PieceLeft, left_by_piece, KeptPiece, PieceCalls, GivenPieces, pieces_given}

-- the call of a piece that does what `script_piece` promises
abbrev made_piece : PieceLeft → Slices → List ℕ → List ℕ → PieceCall
made_piece b y piece out =
    let fault = piece_call_fault y b.progress piece b.bytes b.line out in
    let q = after_piece y 1024 (before b.progress b.bytes b.line) piece in
    record {
      slices = y;
      piece = piece;
      out = out;
      answer = cond (eqb fault 0) (Printed (length q.out) (progress_after q)) (Refused fault);
      bytes = cond (eqb fault 0) q.bytes b.bytes;
      line = cond (eqb fault 0) (q.held ++ drop (length q.held) b.line) b.line;
      out' = printed_into fault q.out out;
    }

made_reply : (fault : ℕ) (q : Script) (none : Bool)
    → handling_reply (cond none (Printed (length q.out) (progress_after q)) (Refused fault)) ≡ cond none (values (piece_values q)) (refusal fault)
made_reply fault q true = refl
made_reply fault q false = refl

made_kept : (x y : Slices) → SameTable y x → (b : PieceLeft) (piece out : List ℕ) → KeptPiece x b (made_piece b y piece out)
made_kept x y same b piece out =
    let fault = piece_call_fault y b.progress piece b.bytes b.line out in
    let q = after_piece y 1024 (before b.progress b.bytes b.line) piece in
    record { same_table = same; promise = record { answer = made_reply fault q (eqb fault 0); record_after_lem = refl; line_after = refl; out_after_lem = refl } }

pub piece_callable : (x : Slices) (b : PieceLeft) (gs : List (Slices × List ℕ × List ℕ)) → GivenPieces x gs
    → (cs : List PieceCall) × (pieces_given cs ≡ gs) × PieceCalls x b cs
piece_callable x b [] k = ([], refl, tt)
piece_callable x b ((y, piece, out) ∷ gs) k =
    let c = made_piece b y piece out in
    let rest = piece_callable x (left_by_piece b c) gs k.1 in
    (c ∷ rest.0, ap (λ (hs : List (Slices × List ℕ × List ℕ)). (y, piece, out) ∷ hs) rest.1, (made_kept x y k.0 b piece out, rest.2))
