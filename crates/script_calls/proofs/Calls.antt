-- Calls of a script are the script over the text of their pieces: by induction on the calls. Before each, what the last one left is a script under way whose record passes 20 to 22.
use Prim.Native.Nat.{ℕ, ◌≤◌, ◌<◌}
use mathlib.Core.Path.{◌≡◌, refl, sym, ◌∙◌, ap}
use mathlib.Core.Logic.{◌⊎◌, inl, inr}
use mathlib.Core.Bool.{Bool, true, false, true≢false}
use mathlib.Core.List.{List, [], ◌∷◌, ◌++◌, append_assoc}
use native.Mathlib.Omega.{arith}
use lib.Dec.{ltb}
use lib.ListN.{length, take, drop, length-append, length-drop}
use lib.Seq.{take-take, take-append_seam, length-take-le}
use borrow.Author.Tests.{le-ltb, lt-ltb, ltb-true}
use Rattle.range.specs.First.{or_else}
use Rattle.range.proofs.Bools.{decided}
use Rattle.range.proofs.Faults.{or_none}
use Rattle.table.specs.Slices.{Slices, table_of, slices_fault}
use Rattle.table.specs.Legal.{lent_fault}
use Rattle.output.specs.Output.{output_fault, Prints}
use Rattle.output.specs.declared.Output.{Output}
use Rattle.output.proofs.Printing.{prints_answer, long_enough}
use Rattle.fleet_theory.specs.Fleet.{fleet_fault, start}
use Rattle.fleet_theory.proofs.Run.{start_holds, fleet_passes}
use Rattle.fleet_calls.specs.Calls.{SameTable}
use Rattle.fleet_calls.proofs.Same.{same_fleet}
use Rattle.fleet_calls.proofs.Promises.{same_fine}
use Rattle.script_theory.specs.Script.{Script, script_text, after_piece, begun, end_text, together, carried, printed_by}
use Rattle.script_theory.proofs.Pieces.{in_pieces, carried_piece, reached, any_pieces}
use Rattle.script_steps.proofs.PieceLaws.{usable_piece, held_few}
use Rattle.script_output.specs.Handling.{before, site_fault, Handles, piece_call_fault, end_call_fault}
use Rattle.script_output.specs.declared.Handling.{Handling}
use Rattle.script_output.specs.declared.Handling.TheVariants.{Printed, Refused}
use Rattle.script_output.proofs.Answers.{progress_after, handles_answer}
use Rattle.script_output.proofs.Calls.{next_call}
use Rattle.script_calls.specs.Calls.{PieceCall, PieceLeft, fresh_piece, left_by_piece, KeptPiece, PieceCalls, left_after_pieces, handled_piece, text_of_pieces, printed_piece, printed_by_pieces, printed_end, ScriptOfCalls}
use Rattle.script_calls.proofs.Same.{same_after_piece, same_end}

-- the script under way that a call gets
abbrev script_of : PieceLeft → Script
script_of b = before b.progress b.bytes b.line

-- the pieces that were handled
abbrev with_piece : Handling → List ℕ → List (List ℕ) → List (List ℕ)
with_piece (Printed length q) piece rest = piece ∷ rest
with_piece (Refused n) piece rest = rest

abbrev pieces_of : List PieceCall → List (List ℕ)
pieces_of [] = []
pieces_of (c ∷ cs) = with_piece c.answer c.piece (pieces_of cs)

with_together : (a : Handling) (piece : List ℕ) (rest : List (List ℕ)) → together (with_piece a piece rest) ≡ handled_piece a piece ++ together rest
unfolding together
with_together (Printed length q) piece rest = refl
with_together (Refused n) piece rest = refl

pieces_together : (cs : List PieceCall) → together (pieces_of cs) ≡ text_of_pieces cs
unfolding together
pieces_together [] = refl
pieces_together (c ∷ cs) = with_together c.answer c.piece (pieces_of cs) ∙ ap (λ (rest : List ℕ). handled_piece c.answer c.piece ++ rest) (pieces_together cs)

-- one call more, behind the others
pub calls_more : (x : Slices) (b : PieceLeft) (cs : List PieceCall) (c : PieceCall) → PieceCalls x b cs → KeptPiece x (left_after_pieces b cs) c → PieceCalls x b (cs ++ (c ∷ []))
calls_more x b [] c k last = (last, tt)
calls_more x b (d ∷ cs) c k last = (k.0, calls_more x (left_by_piece b d) cs c k.1 last)

pub left_more : (b : PieceLeft) (cs : List PieceCall) (c : PieceCall) → left_after_pieces b (cs ++ (c ∷ [])) ≡ left_by_piece (left_after_pieces b cs) c
left_more b [] c = refl
left_more b (d ∷ cs) c = left_more (left_by_piece b d) cs c

module _ (x : Slices) (fine : slices_fault x ≡ 0) where
  -- what a call leaves, for the next one
  record Left (b : PieceLeft) : Type 0 where
    pub long : 16 ≤ length b.line
    pub few : b.progress.held ≤ 16
    pub passes : fleet_fault (table_of x) b.bytes ≡ 0

  held_length : (b : PieceLeft) → Left b → length (script_of b).held ≡ b.progress.held
  held_length b l =
      let n = b.progress.held in
      ap length (take-take n 16 b.line l.few) ∙ length-take-le n b.line (let few = l.few in let long = l.long in omega (arith, few, long))

  -- the script after a call's piece
  abbrev after : PieceLeft → PieceCall → Script
  after b c = after_piece x 1024 (script_of b) c.piece

  -- a call has printed, or its output slice is too short and nothing has changed
  data Called (b : PieceLeft) (c : PieceCall) : Type 0 where
    printed : c.answer ≡ Printed (length (after b c).out) (progress_after (after b c)) → c.bytes ≡ (after b c).bytes
        → c.line ≡ (after b c).held ++ drop (length (after b c).held) b.line → c.out' ≡ (after b c).out ++ drop (length (after b c).out) c.out → Called b c
    short : c.answer ≡ Refused 8 → c.bytes ≡ b.bytes → c.line ≡ b.line → c.out' ≡ c.out → length c.out < length (after b c).out → Called b c

  module _ (b : PieceLeft) (l : Left b) (c : PieceCall) (k : KeptPiece x b c) where
    fine' : slices_fault c.slices ≡ 0
    fine' = same_fine x c.slices fine k.same_table

    same_after : after_piece c.slices 1024 (script_of b) c.piece ≡ after b c
    same_after = same_after_piece c.slices x k.same_table.same fine' fine 1024 (script_of b) c.piece

    passes' : fleet_fault (table_of c.slices) b.bytes ≡ 0
    passes' = same_fleet (table_of c.slices) (table_of x) k.same_table.same b.bytes ∙ l.passes

    site_none : site_fault c.slices b.bytes ≡ 0
    site_none = or_none (slices_fault c.slices) (fleet_fault (table_of c.slices) b.bytes) fine' ∙ passes'

    line_none : lent_fault (length b.line) 16 ≡ 0
    line_none = rw (le-ltb (length b.line) 16 l.long)

    -- the only fault that is left is 8 of the output slice
    fault_is : piece_call_fault c.slices b.progress c.piece b.bytes b.line c.out ≡ output_fault (length c.out) (after b c).out
    fault_is =
        let last : Slices → ℕ = λ y. output_fault (length c.out) (after_piece y 1024 (script_of b) c.piece).out in
        or_none (lent_fault (length b.line) 16) (or_else (site_fault c.slices b.bytes) (last c.slices)) line_none
        ∙ or_none (site_fault c.slices b.bytes) (last c.slices) site_none
        ∙ ap (λ (q : Script). output_fault (length c.out) q.out) same_after

    handles : Handles (output_fault (length c.out) (after b c).out) (after b c) c.answer b.bytes c.bytes b.line c.line c.out c.out'
    handles = rw (fault_is, same_after) at k.promise

    called : Called b c
    called = go (decided (ltb (length c.out) (length (after b c).out)))
      where
        go : (ltb (length c.out) (length (after b c).out) ≡ true) ⊎ (ltb (length c.out) (length (after b c).out) ≡ false) → Called b c
        go (inl e) = let h = rw e at handles in short (handles_answer h) h.record_after_lem h.line_after h.out_after_lem (ltb-true _ _ e)
        go (inr e) = let h = rw e at handles in printed (handles_answer h) h.record_after_lem h.line_after h.out_after_lem

    held_16 : length (after b c).held ≤ 16
    held_16 = held_few x 1024 (script_of b) c.piece (let m = held_length b l in let n = l.few in omega (arith, m, n))

    line_long : 16 ≤ length ((after b c).held ++ drop (length (after b c).held) b.line)
    line_long =
        let held = (after b c).held in
        let n = length-append held (drop (length held) b.line) in
        let m = length-drop (length held) b.line in
        let long = l.long in
        omega (arith, n, m, long)

    left_next : Left (left_by_piece b c)
    left_next = go called
      where
        go : Called b c → Left (left_by_piece b c)
        go (printed a r line o) = record { long = rw line line_long; few = rw a held_16; passes = rw r (usable_piece x 1024 fine (script_of b) c.piece l.passes) }
        go (short a r line o s) = record { long = rw line l.long; few = rw a l.few; passes = rw r l.passes }

    printed_next : c.answer ≡ Printed (length (after b c).out) (progress_after (after b c)) → c.bytes ≡ (after b c).bytes
        → c.line ≡ (after b c).held ++ drop (length (after b c).held) b.line → script_of (left_by_piece b c) ≡ carried (after b c)
    printed_next a r line = rw (a, r, line) (next_call (after b c) b.line held_16)

    -- the script under way after it is that after its piece, and the pieces behind it
    under_way_lem : (rest : List ℕ)
        → carried (after_piece x 1024 (script_of (left_by_piece b c)) rest) ≡ carried (after_piece x 1024 (script_of b) (handled_piece c.answer c.piece ++ rest))
    under_way_lem rest = go called
      where
        go : Called b c → carried (after_piece x 1024 (script_of (left_by_piece b c)) rest) ≡ carried (after_piece x 1024 (script_of b) (handled_piece c.answer c.piece ++ rest))
        go (printed a r line o) =
            ap (λ (p : Script). carried (after_piece x 1024 p rest)) (printed_next a r line)
            ∙ carried_piece x 1024 (after b c) rest
            ∙ ap carried (sym (in_pieces x 1024 (script_of b) c.piece rest))
            ∙ ap (λ (r : Handling). carried (after_piece x 1024 (script_of b) (handled_piece r c.piece ++ rest))) (sym a)
        go (short a r line o s) = rw (a, r, line)

    -- what it prints, before what the others print
    step : (cs : List PieceCall) (end : List ℕ) → printed_by_pieces cs ++ end ≡ printed_by x 1024 (script_of (left_by_piece b c)) (pieces_of cs)
        → (printed_piece c.answer c.out' ++ printed_by_pieces cs) ++ end ≡ printed_by x 1024 (script_of b) (with_piece c.answer c.piece (pieces_of cs))
    unfolding printed_by
    step cs end rest = go called rest
      where
        go : Called b c → printed_by_pieces cs ++ end ≡ printed_by x 1024 (script_of (left_by_piece b c)) (pieces_of cs)
            → (printed_piece c.answer c.out' ++ printed_by_pieces cs) ++ end ≡ printed_by x 1024 (script_of b) (with_piece c.answer c.piece (pieces_of cs))
        go (printed a r line o) is =
            let q = after b c in
            let next = printed_next a r line in
            let own : take (length q.out) c.out' ≡ q.out = rw o (take-append_seam q.out (drop (length q.out) c.out)) in
            rw (a, own) (append_assoc q.out (printed_by_pieces cs) end ∙ ap (λ (z : List ℕ). q.out ++ z) (is ∙ ap (λ (p : Script). printed_by x 1024 p (pieces_of cs)) next))
        go (short a r line o s) is = rw a (is ∙ ap (λ (p : Script). printed_by x 1024 p (pieces_of cs)) (rw (a, r, line)))

  -- what the end prints
  abbrev end_of : PieceLeft → List ℕ
  end_of b = end_text x b.bytes b.progress.held b.progress.changed

  calls_print : (b : PieceLeft) → Left b → (cs : List PieceCall) → PieceCalls x b cs
      → printed_by_pieces cs ++ end_of (left_after_pieces b cs) ≡ printed_by x 1024 (script_of b) (pieces_of cs)
  unfolding printed_by
  calls_print b l [] k = ap (λ (n : ℕ). end_text x b.bytes n b.progress.changed) (sym (held_length b l))
  calls_print b l (c ∷ cs) k =
      step b l c k.0 cs (end_of (left_after_pieces (left_by_piece b c) cs)) (calls_print (left_by_piece b c) (left_next b l c k.0) cs k.1)

  calls_reach : (b : PieceLeft) → Left b → (cs : List PieceCall) → PieceCalls x b cs
      → script_of (left_after_pieces b cs) ≡ carried (after_piece x 1024 (script_of b) (text_of_pieces cs))
  unfolding after_piece
  calls_reach b l [] k = refl
  calls_reach b l (c ∷ cs) k = calls_reach (left_by_piece b c) (left_next b l c k.0) cs k.1 ∙ under_way_lem b l c k.0 (text_of_pieces cs)

  left_after : (b : PieceLeft) → Left b → (cs : List PieceCall) → PieceCalls x b cs → Left (left_after_pieces b cs)
  left_after b l [] k = l
  left_after b l (c ∷ cs) k = left_after (left_by_piece b c) (left_next b l c k.0) cs k.1

  -- the call at a place
  at_place : (b : PieceLeft) → Left b → (earlier later : List PieceCall) (c : PieceCall) → PieceCalls x b (earlier ++ c ∷ later)
      → (let b' = left_after_pieces b earlier in Left b' × KeptPiece x b' c)
  at_place b l [] later c k = (l, k.0)
  at_place b l (d ∷ earlier) later c k = at_place (left_by_piece b d) (left_next b l d k.0) earlier later c k.1

  refused_here : (b : PieceLeft) → Left b → (c : PieceCall) → KeptPiece x b c → (n : ℕ) → c.answer ≡ Refused n → (n ≡ 8) × (length c.out < length (after b c).out)
  refused_here b l c k n e = go (called b l c k)
    where
      same : (m : ℕ) → Refused n ≡ Refused m → n ≡ m
      same m e = ap refusal e
        where
          refusal : Handling → ℕ
          refusal (Printed length q) = 0
          refusal (Refused k) = k

      go : Called b c → (n ≡ 8) × (length c.out < length (after b c).out)
      go (printed a r line o) = absurd (unlike (sym a ∙ e))
        where
          is_printed : Handling → Bool
          is_printed (Printed length q) = true
          is_printed (Refused k) = false

          unlike : Printed (length (after b c).out) (progress_after (after b c)) ≡ Refused n → ⊥
          unlike e = true≢false (ap is_printed e)
      go (short a r line o s) = (same 8 (sym e ∙ a), s)

  short_here : (b : PieceLeft) → Left b → (c : PieceCall) → KeptPiece x b c → length c.out < length (after b c).out
      → (c.answer ≡ Refused 8) × (left_by_piece b c ≡ b) × (c.out' ≡ c.out)
  short_here b l c k few =
      let h = rw (lt-ltb (length c.out) (length (after b c).out) few) at (handles b l c k) in
      let a = handles_answer h in
      (a, rw (a, h.record_after_lem, h.line_after), h.out_after_lem)

module _ (x : Slices) (fine : slices_fault x ≡ 0) (line : List ℕ) (long : 16 ≤ length line) (cs : List PieceCall) (k : PieceCalls x (fresh_piece x line) cs) where
  abbrev fresh : PieceLeft
  fresh = fresh_piece x line

  left : Left x fine fresh
  left = record { long = long; few = omega arith; passes = fleet_passes x fine (start x) (start_holds x fine) }

  pub passes_after : fleet_fault (table_of x) (left_after_pieces fresh cs).bytes ≡ 0
  passes_after = (left_after x fine fresh left cs k).passes

  -- from the start
  is_reached : script_of (left_after_pieces fresh cs) ≡ carried (after_piece x 1024 (begun x) (text_of_pieces cs))
  is_reached = calls_reach x fine fresh left cs k

  end_prints : (y : Slices) → SameTable y x → (r : Output) (out out' : List ℕ)
      → (let b = left_after_pieces fresh cs in let printed = end_text y b.bytes b.progress.held b.progress.changed in
      Prints (end_call_fault y b.bytes printed out) printed r out out' → length printed ≤ length out → printed_end r out' ≡ end_of x fine b)
  end_prints y same r out out' p room =
      let b = left_after_pieces fresh cs in
      let printed = end_text y b.bytes b.progress.held b.progress.changed in
      let fine' = same_fine x y fine same in
      let passes = same_fleet (table_of y) (table_of x) same.same b.bytes ∙ passes_after in
      let site = or_none (slices_fault y) (fleet_fault (table_of y) b.bytes) fine' ∙ passes in
      let none : end_call_fault y b.bytes printed out ≡ 0 = or_none (output_fault (length out) printed) (site_fault y b.bytes) (long_enough (length out) printed room) ∙ site in
      let h = rw none at p in
      rw (prints_answer h, h.out) (take-append_seam printed (drop (length printed) out)) ∙ same_end y x same.same fine' fine 1024 b.bytes b.progress.held b.progress.changed

  pub script_of_calls : ScriptOfCalls x line cs
  script_of_calls =
      record {
        refused_no_room = λ earlier later c is n e.
            let at = at_place x fine fresh left earlier later c (rw is at k) in
            refused_here x fine (left_after_pieces fresh earlier) at.0 c at.1 n e;
        no_room_refused = λ earlier later c is few.
            let at = at_place x fine fresh left earlier later c (rw is at k) in
            short_here x fine (left_after_pieces fresh earlier) at.0 c at.1 few;
        bytes = ap (λ (p : Script). p.bytes) is_reached ∙ (reached x 1024 fine (text_of_pieces cs)).0;
        used = ap (λ (p : Script). p.used) is_reached ∙ (reached x 1024 fine (text_of_pieces cs)).1;
        changed = ap (λ (p : Script). p.changed) is_reached ∙ (reached x 1024 fine (text_of_pieces cs)).2;
        prints = λ y same r out out' p room.
            ap (λ (end : List ℕ). printed_by_pieces cs ++ end) (end_prints y same r out out' p room)
            ∙ calls_print x fine fresh left cs k
            ∙ any_pieces x 1024 fine (pieces_of cs)
            ∙ ap (script_text x 1024) (pieces_together cs);
      }
