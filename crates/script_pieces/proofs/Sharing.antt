-- A line that two pieces share, and a whole piece, in the buffers.
use Prim.Native.Nat.{ℕ, ◌+◌, ◌-◌, ◌≤◌, ◌<◌}
use mathlib.Core.Path.{◌≡◌, sym, ◌∙◌, ap}
use mathlib.Core.List.{List, [], ◌++◌}
use native.Mathlib.Omega.{arith}
use lib.ListN.{length, take, drop, length-drop, take-append-drop}
use lib.Seq.{sets, take-nil, take_all, take-add, drop-drop, length-take-le}
use Rattle.table.specs.Slices.{Slices}
use Rattle.script_lines.specs.Fitting.{capped}
use Rattle.script_theory.specs.Script.{Script, after_line, after_piece, carried}
use Rattle.script_theory.proofs.Pieces.{in_pieces, onto, piece_onto, carried_onto, line_cut, held_bytes, holding}
use Rattle.script_steps.specs.Within.{under_way, Buffered}
use Rattle.script_steps.specs.declared.Progress.{Progress}
use Rattle.script_steps.specs.declared.Place.{Place}
use Rattle.script_steps.specs.declared.Lines.{Lines}
use Rattle.script_steps.specs.Closing.{closed_length, Closed}
use Rattle.script_steps.proofs.PieceLaws.{held_few}
use Rattle.script_steps.proofs.Holding.{joined_count, joined_after, joined_part}
use Rattle.script_steps.proofs.Closing.{none_closed, taken_line, buffered_then, buffered_none, bare_held}

-- with no byte held, any line does
any_line : (q : Script) (from : ℕ) (r : Place) (rec line out₀ out : List ℕ) → Buffered q from r rec [] out₀ out → Buffered q from r rec line out₀ out
any_line q from r rec line out₀ out b =
    let none = bare_held q from r rec out₀ out b in
    let z : r.progress.held ≡ 0 = b.held ∙ ap length none in
    record { bytes = b.bytes; used = b.used; changed = b.changed; held = b.held; kept = rw z (sym none); at = b.at; printed = b.printed }

-- The line that a piece shares with those before it.
module _ (x : Slices) (pr : Progress) (rec line piece out : List ℕ) (few : pr.held ≤ 16) (long : pr.held ≤ length line) where
  abbrev p : Script
  p = under_way pr rec line

  pub none_shared : Buffered (after_piece x 1024 p (take 0 piece)) 0 (record { at = 0; progress = pr }) rec line out out
  unfolding after_piece
  none_shared = buffered_none pr 0 rec line out (omega arith) (length-take-le pr.held line long)

  pub shared_taken : (end n : ℕ) (r : Place) (joined₁ joined₂ rec' out' : List ℕ) → length joined₁ ≡ 16 → take pr.held joined₁ ≡ take pr.held line
      → joined₂ ≡ sets joined₁ pr.held (take (16 - pr.held) (take end piece)) → n ≡ pr.held + length (take (16 - pr.held) (take end piece))
      → end ≡ 0 + closed_length piece → (end ≡ 0 → ⊥) → Buffered (after_line x 1024 (under_way pr rec []) (take n joined₂)) 0 r rec' [] out out'
      → (r.progress.held ≡ 0) × Buffered (after_piece x 1024 p (take end piece)) 0 r rec' line out out'
  shared_taken end n r joined₁ joined₂ rec' out' size same stored count e some b =
      let h = take pr.held line in
      let l = take end piece in
      let m = length-take-le pr.held line long in
      let z : end ≡ closed_length piece = omega arith in
      let cut = joined_part joined₁ joined₂ l pr.held n few (omega arith) stored count ∙ ap (λ (k : List ℕ). take 16 (k ++ l)) same in
      let is : after_piece x 1024 p l ≡ after_line x 1024 p (h ++ l) = rw z (taken_line x 1024 p piece (omega arith) (omega arith)) in
      let line_is : after_line x 1024 (under_way pr rec []) (take n joined₂) ≡ after_line x 1024 p (h ++ l) = rw cut (line_cut x 1024 p (h ++ l)) in
      (b.held, rw is (any_line (after_line x 1024 p (h ++ l)) 0 r rec' line out out' (rw line_is at b)))

-- the lines behind the one shared
module _ (x : Slices) (p : Script) (piece : List ℕ) where
  pub closed_then : (end : ℕ) (reached : Place) (behind : Lines) (rec rec' line out₀ out out' : List ℕ) → end ≤ length piece → reached.progress.held ≡ 0
      → length out ≡ length out₀ → length out₀ < 9223372036854775808
      → Buffered (after_piece x 1024 p (take end piece)) 0 reached rec line out₀ out
      → Closed x (under_way reached.progress rec []) (take (length piece - end) (drop end piece)) reached.at behind rec' [] out out'
      → Closed x p piece 0 (record { place = behind.place; rest = end + behind.rest }) rec' line out₀ out'
  closed_then end reached behind rec rec' line out₀ out out' l none long most b c =
      let s = drop end piece in
      let n = length-drop end piece in
      let q = after_piece x 1024 p (take end piece) in
      let d : Closed x (under_way reached.progress rec []) s reached.at behind rec' [] out out' = rw (take_all (length piece - end) s (omega arith)) at c in
      let rest = behind.rest in
      let w = after_piece x 1024 (carried q) (take rest s) in
      let empty : q.held ≡ [] = sym b.kept ∙ ap (λ (k : ℕ). take k line) none in
      let same : under_way reached.progress rec [] ≡ carried q = rw (b.bytes, b.used, b.changed, empty, take-nil reached.progress.held) in
      let after : Buffered w reached.at behind.place rec' line out out' =
      any_line w reached.at behind.place rec' line out out' (rw same at d.buffered) in
      let is : after_piece x 1024 p (take (end + rest) piece) ≡ onto x 1024 q.out w =
      ap (λ (z : List ℕ). after_piece x 1024 p z) (take-add end rest piece) ∙ in_pieces x 1024 p (take end piece) (take rest s)
      ∙ ap (λ (z : Script). after_piece x 1024 z (take rest s)) (sym (carried_onto x 1024 q)) ∙ piece_onto x 1024 q.out (carried q) (take rest s) in
      record {
        within = (let k = d.within in omega arith);
        unclosed = rw (← drop-drop rest end piece) d.unclosed;
        buffered = rw is (buffered_then x 1024 q w 0 reached behind.place rec rec' line line out₀ out out' long most b after);
      }

  -- the bytes behind the last closed line are held
  pub rest_held : (rest : ℕ) → length p.held ≤ 16 → closed_length (drop rest piece) ≡ 0
      → (let q = after_piece x 1024 p (take rest piece) in after_piece x 1024 p piece ≡ holding x 1024 q (take 16 (q.held ++ drop rest piece)))
  rest_held rest few none =
      sym (ap (λ (z : List ℕ). after_piece x 1024 p z) (take-append-drop rest piece)) ∙ in_pieces x 1024 p (take rest piece) (drop rest piece)
      ∙ held_bytes x 1024 (after_piece x 1024 p (take rest piece)) (drop rest piece) (none_closed (drop rest piece) none) (held_few x 1024 p (take rest piece) few)

  -- and print nothing
  pub piece_counted : (r : Lines) (rec line out₀ out : List ℕ) → length p.held ≤ 16 → Closed x p piece 0 r rec line out₀ out
      → r.place.at ≡ capped (length (after_piece x 1024 p piece).out)
  piece_counted r rec line out₀ out few c =
      let same = ap (λ (q : Script). length q.out) (rest_held r.rest few c.unclosed) in
      c.buffered.at ∙ ap capped (omega arith)

  pub closed_few : (r : Lines) (rec line out₀ out : List ℕ) → length p.held ≤ 16 → Closed x p piece 0 r rec line out₀ out → r.place.progress.held ≤ 16
  closed_few r rec line out₀ out few c = let b = c.buffered.held in let k = held_few x 1024 p (take r.rest piece) few in omega arith

  pub piece_taken : (r : Lines) (n : ℕ) (rec line line' out₀ out : List ℕ) → length p.held ≤ 16 → 16 ≤ length line → Closed x p piece 0 r rec line out₀ out
      → (let h = r.place.progress.held in
      let bytes = take (length piece - r.rest) (drop r.rest piece) in
      let q = after_piece x 1024 p piece in
      line' ≡ sets line h (take (16 - h) bytes) → n ≡ h + length (take (16 - h) bytes)
      → Buffered q 0 (record { at = r.place.at; progress = record { used = r.place.progress.used; held = n; changed = r.place.progress.changed } }) rec line' out₀ out
      × (line' ≡ q.held ++ drop (length q.held) line))
  piece_taken r n rec line line' out₀ out few long c stored count =
      let h = r.place.progress.held in
      let b = c.buffered in
      let bytes = drop r.rest piece in
      let m = length-drop r.rest piece in
      let whole = take_all (length piece - r.rest) bytes (omega arith) in
      let s : line' ≡ sets line h (take (16 - h) bytes) = rw whole at stored in
      let k : n ≡ h + length (take (16 - h) bytes) = rw whole at count in
      let less = closed_few r rec line out₀ out few c in
      let is = rest_held r.rest few c.unclosed in
      rw is (rw (← b.kept) (
        record {
          bytes = b.bytes;
          used = b.used;
          changed = b.changed;
          held = joined_count line line' bytes h n less long s k;
          kept = joined_part line line' bytes h n less long s k;
          at = b.at;
          printed = b.printed;
        },
        joined_after line line' bytes h n less long s k,
      ))
