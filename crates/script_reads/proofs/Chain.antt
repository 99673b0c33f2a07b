-- What was read so far was handled in pieces, each as `script_piece` promises, one after the other.
use Prim.Native.Nat.{ℕ, ◌≤◌}
use mathlib.Core.Path.{◌≡◌, sym, ◌∙◌, ap, subst}
use mathlib.Core.List.{List, [], ◌∷◌, ◌++◌}
use lib.ListN.{length, take}
use Rattle.std.specs.Prelude.{Option}
use Rattle.std.proofs.Common.{append-nil, append_assoc}
use Rattle.std.specs.Io.KnownBytes.{Consumes, Appends}
use Rattle.std.proofs.KnownBytes.{Consumes-nil, Consumes-trans, Appends-nil, Appends-trans}
use Rattle.fleet_theory.specs.Fleet.{fleet_fault, start}
use Rattle.table.specs.Slices.{Slices, table_of, slices_fault}
use Rattle.script_steps.specs.declared.Progress.{Progress}
use Rattle.script_output.specs.Handling.{HandlesPiece}
use Rattle.script_output.specs.declared.Handling.TheVariants.{Printed}
use Rattle.script_calls.specs.Calls.{PieceCall, PieceLeft, fresh_piece, left_by_piece, KeptPiece, handled_piece, printed_piece, text_of_pieces, printed_by_pieces}
use Rattle.fleet_calls.proofs.Promises.{same_self}
use Rattle.script_calls.proofs.Calls.{calls_more, left_more, passes_after}
use Rattle.script_reads.specs.Handled.{HandledBy}

-- what a turn goes on from
abbrev pub left_of : Progress → List ℕ → List ℕ → PieceLeft
left_of p rec line = record { progress = p; bytes = rec; line = line }

module _ (x : Slices) (fine : slices_fault x ≡ 0) (line₀ : List ℕ) where
  pub handled_none : (rec : List ℕ) → rec ≡ (start x).bytes → HandledBy x line₀ (left_of (record { used = 0; held = 0; changed = 0 }) rec line₀)
  handled_none rec e = record { calls = []; kept = tt; left = ap (λ (z : List ℕ). left_of (record { used = 0; held = 0; changed = 0 }) z line₀) (sym e) }

  pub handled_more : (p p' : Progress) (rec rec' line line' piece out out' : List ℕ) (n : ℕ) → HandledBy x line₀ (left_of p rec line)
      → HandlesPiece x p piece (Printed n p') rec rec' line line' out out' → HandledBy x line₀ (left_of p' rec' line')
  handled_more p p' rec rec' line line' piece out out' n h promise =
      let c : PieceCall = record { slices = x; piece = piece; out = out; answer = Printed n p'; bytes = rec'; line = line'; out' = out' } in
      let fresh = fresh_piece x line₀ in
      let last : KeptPiece x (left_of p rec line) c = record { same_table = same_self x fine; promise = promise } in
      record {
        calls = h.calls ++ (c ∷ []);
        kept = calls_more x fresh h.calls c h.kept (subst (λ (b : PieceLeft). KeptPiece x b c) (sym h.left) last);
        left = left_more fresh h.calls c ∙ ap (λ (b : PieceLeft). left_by_piece b c) h.left;
      }

  pub handled_usable : (p : Progress) (rec line : List ℕ) → 16 ≤ length line₀ → HandledBy x line₀ (left_of p rec line) → fleet_fault (table_of x) rec ≡ 0
  handled_usable p rec line long h =
      ap (λ (b : PieceLeft). fleet_fault (table_of x) b.bytes) (sym h.left) ∙ passes_after x fine line₀ long h.calls h.kept

-- one call more: its piece, and what it printed
text_more : (cs : List PieceCall) (c : PieceCall) → text_of_pieces (cs ++ (c ∷ [])) ≡ text_of_pieces cs ++ handled_piece c.answer c.piece
text_more [] c = append-nil (handled_piece c.answer c.piece)
text_more (d ∷ cs) c =
    ap (λ l. handled_piece d.answer d.piece ++ l) (text_more cs c) ∙ sym (append_assoc (handled_piece d.answer d.piece) (text_of_pieces cs) (handled_piece c.answer c.piece))

printed_more : (cs : List PieceCall) (c : PieceCall) → printed_by_pieces (cs ++ (c ∷ [])) ≡ printed_by_pieces cs ++ printed_piece c.answer c.out'
printed_more [] c = append-nil (printed_piece c.answer c.out')
printed_more (d ∷ cs) c =
    ap (λ l. printed_piece d.answer d.out' ++ l) (printed_more cs c) ∙ sym (append_assoc (printed_piece d.answer d.out') (printed_by_pieces cs) (printed_piece c.answer c.out'))

-- the pieces handled are what was read of known bytes, and what they printed is what was written
pub record Turned (x : Slices) (line₀ : List ℕ) (b : PieceLeft) (unread unread' written written' : Option (List ℕ)) : Type 0 where
  pub handled : HandledBy x line₀ b
  pub read : Consumes unread unread' (text_of_pieces handled.calls)
  pub wrote : Appends written written' (printed_by_pieces handled.calls)

module _ (x : Slices) (fine : slices_fault x ≡ 0) (line₀ : List ℕ) where
  pub turned_none : (rec : List ℕ) (unread written : Option (List ℕ)) → rec ≡ (start x).bytes
      → Turned x line₀ (left_of (record { used = 0; held = 0; changed = 0 }) rec line₀) unread unread written written
  unfolding handled_none
  turned_none rec unread written e = record { handled = handled_none x fine line₀ rec e; read = Consumes-nil unread; wrote = Appends-nil written }

  pub turned_more : (p p' : Progress) (rec rec' line line' piece out out' : List ℕ) (n : ℕ) (unread₀ unread unread' written₀ written written' : Option (List ℕ))
      → Turned x line₀ (left_of p rec line) unread₀ unread written₀ written
      → HandlesPiece x p piece (Printed n p') rec rec' line line' out out' → Consumes unread unread' piece → Appends written written' (take n out')
      → Turned x line₀ (left_of p' rec' line') unread₀ unread' written₀ written'
  unfolding handled_more
  turned_more p p' rec rec' line line' piece out out' n unread₀ unread unread' written₀ written written' h promise read write =
      let c : PieceCall = record { slices = x; piece = piece; out = out; answer = Printed n p'; bytes = rec'; line = line'; out' = out' } in
      record {
        handled = handled_more x fine line₀ p p' rec rec' line line' piece out out' n h.handled promise;
        read = subst (Consumes unread₀ unread') (sym (text_more h.handled.calls c)) (Consumes-trans unread₀ unread unread' (text_of_pieces h.handled.calls) piece h.read read);
        wrote = subst (Appends written₀ written') (sym (printed_more h.handled.calls c)) (Appends-trans written₀ written written' (printed_by_pieces h.handled.calls) (take n out') h.wrote write);
      }
