-- A script under way and its end are the same in any slices of the table: by induction on the bytes of a piece.
use Prim.Native.Nat.{ℕ, ◌+◌, ◌%◌}
use mathlib.Core.Path.{◌≡◌, refl, ◌∙◌, ap}
use mathlib.Core.Bool.{cond}
use mathlib.Core.List.{List, [], ◌∷◌, ◌++◌}
use lib.Dec.{eqb}
use lib.ListN.{take}
use Rattle.range.specs.Sum.{sum}
use Rattle.table.specs.Same.{Same}
use Rattle.table.specs.Slices.{Slices, table_of, slices_fault}
use Rattle.output.specs.Output.{refusal_line}
use Rattle.wake_log.specs.declared.Answer.{Answer}
use Rattle.probe_frame.specs.Frame.{Frame, frame_of}
use Rattle.fleet_theory.specs.Fleet.{event_fault, frame_changes}
use Rattle.fleet_calls.proofs.Same.{same_finished}
use Rattle.fleet_calls.proofs.Promises.{same_event_fault, same_answer, same_record_after}
use Rattle.script_theory.specs.Script.{answer_line, last_line, Script, answered, bytes_after, after_line, after_byte, after_piece, end_text}

-- a script after a line, by what the line gives
abbrev after_answer : Script → Frame → ℕ → List ℕ → Answer → ℕ → Script
after_answer p f fault bytes answer links =
    record {
      bytes = bytes;
      used = p.used + cond (eqb fault 0) 1 0;
      changed = (p.changed + sum links (frame_changes f p.bytes bytes)) % 4294967296;
      held = [];
      out = p.out ++ answer_line answer;
    }

module _ (x y : Slices) (same : Same (table_of x) (table_of y)) (fine : slices_fault x ≡ 0) (fine' : slices_fault y ≡ 0) (room : ℕ) where
  same_after_line : (p : Script) (l : List ℕ) → after_line x room p l ≡ after_line y room p l
  same_after_line p l =
      let fault : Slices → ℕ = λ z. event_fault z p.bytes p.used room l in
      ap (λ (n : ℕ). after_answer p (frame_of l) n (bytes_after x room p l) (answered x room p l) x.links) (same_event_fault x y same fine fine' p.used room l p.bytes)
      ∙ ap (λ (r : List ℕ). after_answer p (frame_of l) (fault y) r (answered x room p l) x.links) (same_record_after x y same fine fine' p.used room l p.bytes)
      ∙ ap (λ (a : Answer). after_answer p (frame_of l) (fault y) (bytes_after y room p l) a x.links) (same_answer x y same fine fine' p.used room l p.bytes)
      ∙ ap (λ (n : ℕ). after_answer p (frame_of l) (fault y) (bytes_after y room p l) (answered y room p l) n) same.links

  same_after_byte : (p : Script) (b : ℕ) → after_byte x room p b ≡ after_byte y room p b
  same_after_byte p b =
      let h = p.held ++ (b ∷ []) in
      ap (λ (q : Script). cond (eqb b 10) q (record { bytes = p.bytes; used = p.used; changed = p.changed; held = take 16 h; out = p.out })) (same_after_line p h)

  pub same_after_piece : (p : Script) (a : List ℕ) → after_piece x room p a ≡ after_piece y room p a
  unfolding after_piece
  same_after_piece p [] = refl
  same_after_piece p (b ∷ a) = ap (λ (q : Script). after_piece x room q a) (same_after_byte p b) ∙ same_after_piece (after_byte y room p b) a

  pub same_end : (bytes : List ℕ) (held changed : ℕ) → end_text x bytes held changed ≡ end_text y bytes held changed
  same_end bytes held changed = ap (λ done. cond (eqb held 0) [] (refusal_line 1) ++ last_line done changed) (same_finished (table_of x) (table_of y) same bytes)
