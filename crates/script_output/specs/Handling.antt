-- What the calls of a script promise: the answer, and every lent slice at exit.
use Rattle.std.specs.Prelude.{ℕ, ◌≡◌, cond, List, [], ◌∷◌, ◌++◌, eqb, length, take, drop}
use Rattle.range.specs.First.{or_else}
use Rattle.range.specs.Reply.{Reply, refusal, values, reply_of}
use Rattle.fleet_theory.specs.Fleet.{fleet_fault}
use Rattle.table.specs.Legal.{lent_fault}
use Rattle.table.specs.Slices.{Slices, table_of, slices_fault}
use Rattle.output.specs.Output.{output_fault, printed_into}
use Rattle.script_theory.specs.Script.{Script, after_piece}
use Rattle.script_steps.specs.declared.Progress.{Progress}
use Rattle.script_output.specs.declared.Handling.{Handling}
use Rattle.script_output.specs.declared.Handling.TheVariants as handling

-- the script under way before a call: of an unfinished line at most 16 bytes are held
abbrev pub before : Progress → List ℕ → List ℕ → Script
before p rec line = record { bytes = rec; used = p.used; changed = p.changed; held = take p.held (take 16 line); out = [] }

-- the table's checks, then 20, 21, 22
abbrev pub site_fault : Slices → List ℕ → ℕ
site_fault x rec = or_else (slices_fault x) (fleet_fault (table_of x) rec)

-- The fault of a piece behind the script p, with so many bytes for an unfinished line and so many for what is printed: "a lent .. output slice too short".
-- 8 for fewer than 16 bytes for an unfinished line comes first; 8 for what is printed comes last, exactly where it is longer than its slice.
abbrev pub piece_fault : Slices → Script → List ℕ → ℕ → ℕ → ℕ
piece_fault x p piece line room = or_else (lent_fault line 16) (or_else (site_fault x p.bytes) (output_fault room (after_piece x 1024 p piece).out))

-- the answer's values: the length printed, and how far the script has come
abbrev pub handling_reply : Handling → Reply
handling_reply (handling.Printed n p) = values (n ∷ p.used ∷ p.held ∷ p.changed ∷ [])
handling_reply (handling.Refused n) = refusal n

-- of the script q after a piece
abbrev pub piece_values : Script → List ℕ
piece_values q = length q.out ∷ q.used ∷ length q.held ∷ q.changed ∷ []

-- a piece handled: the script q after it, or the refusal alone and every slice unchanged
pub record Handles (fault : ℕ) (q : Script) (r : Handling) (rec rec' line line' out out' : List ℕ) : Type 0 where
  pub answer : handling_reply r ≡ reply_of fault (piece_values q)
  pub record_after_lem : rec' ≡ cond (eqb fault 0) q.bytes rec
  pub line_after : line' ≡ cond (eqb fault 0) (q.held ++ drop (length q.held) line) line
  pub out_after_lem : out' ≡ printed_into fault q.out out

abbrev pub piece_call_fault : Slices → Progress → List ℕ → List ℕ → List ℕ → List ℕ → ℕ
piece_call_fault x p piece rec line out = piece_fault x (before p rec line) piece (length line) (length out)

-- the fault of the text's end: the length of what it prints does not depend on the table, so 8 comes first
abbrev pub end_call_fault : Slices → List ℕ → List ℕ → List ℕ → ℕ
end_call_fault x rec printed out = or_else (output_fault (length out) printed) (site_fault x rec)

-- "For each it prints the entry .. A refused line prints its refusal and the script goes on." "Its log has 1,024 entries."
abbrev pub HandlesPiece : Slices → Progress → List ℕ → Handling → List ℕ → List ℕ → List ℕ → List ℕ → List ℕ → List ℕ → Type 0
HandlesPiece x p piece r rec rec' line line' out out' =
    Handles (piece_call_fault x p piece rec line out) (after_piece x 1024 (before p rec line) piece) r rec rec' line line' out out'
