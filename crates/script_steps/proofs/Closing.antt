-- The lines that a piece closes, in the buffers.
use Prim.Native.Nat.{ℕ, ◌+◌, ◌-◌, ◌≤◌, ◌<◌}
use mathlib.Core.Path.{◌≡◌, refl, sym, ◌∙◌, ap}
use mathlib.Core.Bool.{Bool, true, false, cond}
use mathlib.Core.List.{List, [], ◌∷◌, ◌++◌}
use native.Mathlib.Nat.{add-zero}
use native.Mathlib.Numerals.{add-one}
use native.Mathlib.Omega.{arith}
use native.Mathlib.Decide.{dec_lt}
use lib.Dec.{ltb}
use lib.ListN.{length, take, drop, length-append, length-drop}
use lib.Seq.{take-nil, take-add, length-take-le}
use borrow.Author.Tests.{lt-ltb, le-ltb, ltb-false}
use Rattle.range.proofs.Sets.{sets_then}
use Rattle.lines.specs.Line.{here, until_feed, line_at}
use Rattle.lines.specs.Fields.{line_bytes}
use Rattle.std.specs.Prelude.{None}
use Rattle.lines.specs.declared.Found.{Found}
use Rattle.lines.proofs.Feeds.{until_le}
use Rattle.lines.proofs.Lines.{There, there}
use Rattle.fleet_theory.specs.Fleet.{fleet_fault}
use Rattle.table.specs.Slices.{Slices, table_of, slices_fault}
use Rattle.output.specs.Output.{refusal_line}
use Rattle.script_lines.specs.Fitting.{capped, stored_within}
use Rattle.script_lines.proofs.Fitting.{capped_below, capped_is, capped_add}
use Rattle.script_theory.specs.Script.{Script, after_line, after_piece, carried}
use Rattle.script_theory.proofs.Lines.{Unclosed, unclosed_start, closed_start}
use Rattle.script_theory.proofs.Pieces.{in_pieces, onto, closed_line}
use Rattle.script_steps.specs.Within.{under_way, Buffered}
use Rattle.script_steps.specs.declared.Progress.{Progress}
use Rattle.script_steps.specs.declared.Place.{Place}
use Rattle.script_steps.specs.Closing.{closed_length}
use Rattle.script_steps.proofs.Printing.{refused_buffered}
use Rattle.script_steps.proofs.PieceLaws.{usable_piece, changed_small}

-- The first line of a text.
module _ (s : List ℕ) where
  pub closed_within : closed_length s ≤ length s
  closed_within = go (dec_lt (until_feed s) (length s))
    where
      go : Dec (until_feed s < length s) → closed_length s ≤ length s
      go (yes l) = rw (lt-ltb (until_feed s) (length s) l) (omega arith)
      go (no d) = rw (le-ltb (until_feed s) (length s) (omega arith)) (omega arith)

  pub none_closed : closed_length s ≡ 0 → Unclosed s
  none_closed e = go (dec_lt (until_feed s) (length s)) e
    where
      go : Dec (until_feed s < length s) → closed_length s ≡ 0 → Unclosed s
      go (yes l) z = let w = rw (lt-ltb (until_feed s) (length s) l) at z in absurd (omega arith)
      go (no d) z = let k = until_le s in omega arith

  some_closed : 0 < closed_length s → take (closed_length s) s ≡ take (until_feed s) s ++ (10 ∷ [])
  some_closed some = go (dec_lt (until_feed s) (length s)) some
    where
      go : Dec (until_feed s < length s) → 0 < closed_length s → take (closed_length s) s ≡ take (until_feed s) s ++ (10 ∷ [])
      go (yes l) k = rw (lt-ltb (until_feed s) (length s) l, add-one (until_feed s)) (closed_start s l)
      go (no d) k = let w = rw (le-ltb (until_feed s) (length s) (omega arith)) at k in absurd (omega arith)

next_is : (s : List ℕ) (at start len : ℕ) → There s at start len → (line_at s at).next ≡ at + closed_length (drop at s)
unfolding line_at
next_is s at start len t =
    let u : ℕ = until_feed (drop at s) in
    let n = length-drop at s in
    let w = t.within in
    let k = t.closes in
    rw (lt-ltb (at + u) (length s) (omega arith), lt-ltb u (length (drop at s)) (omega arith)) (omega arith)

missing_is : (s : List ℕ) (at : ℕ) → (line_at s at).line ≡ None → at ≡ at + closed_length (drop at s)
unfolding line_at
missing_is s at h = go (ltb (at + until_feed (drop at s)) (length s)) refl h
  where
    go : (b : Bool) → ltb (at + until_feed (drop at s)) (length s) ≡ b
        → (cond {A = Found} b (record { line = here at (until_feed (drop at s)); next = at + until_feed (drop at s) + 1 }) (record { line = None; next = length s })).line ≡ None
        → at ≡ at + closed_length (drop at s)
    go true t k = let z : ◌≡◌ {A = ℕ} 0 1 = cc in absurd (omega arith)
    go false t k =
        let u : ℕ = until_feed (drop at s) in
        let n = length-drop at s in
        let w = ltb-false (at + u) (length s) t in
        rw (le-ltb u (length (drop at s)) (omega arith)) (omega arith)

-- the end of the line from an offset on
pub end_within : (s : List ℕ) (at : ℕ) → at ≤ length s → at + closed_length (drop at s) ≤ length s
end_within s at l = let k = closed_within (drop at s) in let n = length-drop at s in omega arith

pub end_here : (s : List ℕ) (at : ℕ) (f : Found) (start len : ℕ) → f ≡ line_at s at → f.line ≡ here start len → f.next ≡ at + closed_length (drop at s)
end_here s at f start len e h = ap (λ (g : Found). g.next) e ∙ ends (ap (λ (g : Found). g.line) (sym e) ∙ h)
  where
    ends : (line_at s at).line ≡ here start len → (line_at s at).next ≡ at + closed_length (drop at s)
    ends k = next_is s at start len (there s at start len k)

pub end_missing : (s : List ℕ) (at : ℕ) (f : Found) → f ≡ line_at s at → f.line ≡ None → at ≡ at + closed_length (drop at s)
end_missing s at f e h = missing_is s at (ap (λ (g : Found). g.line) (sym e) ∙ h)

module _ (x : Slices) (room : ℕ) where
  -- the bytes up to a line feed, behind those held, are a line
  pub taken_line : (p : Script) (s : List ℕ) → 0 < closed_length s → length p.held ≤ 16
      → after_piece x room p (take (closed_length s) s) ≡ after_line x room p (p.held ++ take (closed_length s) s)
  taken_line p s some few = rw (some_closed s some) (closed_line x room p (take (until_feed s) s) (unclosed_start s) few)

-- what is printed and counted behind what was
module _ (x : Slices) (room : ℕ) (q w : Script) (from : ℕ) (r r' : Place) (rec rec' line line' out₀ out out' : List ℕ) where
  pub buffered_then : length out ≡ length out₀ → length out₀ < 9223372036854775808 → Buffered q from r rec line out₀ out → Buffered w r.at r' rec' line' out out'
      → Buffered (onto x room q.out w) from r' rec' line' out₀ out'
  buffered_then long most b h =
      let n = length-append q.out w.out in
      let m : from + length q.out + length w.out ≡ from + length (q.out ++ w.out) = omega arith in
      record {
        bytes = h.bytes;
        used = h.used;
        changed = h.changed;
        held = h.held;
        kept = h.kept;
        at = h.at ∙ ap (λ (k : ℕ). capped (k + length w.out)) b.at ∙ capped_add (from + length q.out) (length w.out) ∙ ap capped m;
        printed = λ fits.
            let e = b.at ∙ capped_below (from + length q.out) (omega arith) in
            sets_then out₀ out out' from r.at q.out w.out (b.printed (omega arith)) e (h.printed (omega arith));
      }

-- nothing is taken yet
pub buffered_none : (pr : Progress) (at : ℕ) (rec line out : List ℕ) → at ≤ 9223372036854775808 → length (take pr.held line) ≡ pr.held
    → Buffered (under_way pr rec line) at (record { at = at; progress = pr }) rec line out out
buffered_none pr at rec line out counted few =
    record { bytes = refl; used = refl; changed = refl; held = sym few; kept = refl; at = sym (ap capped (add-zero at) ∙ capped_is at counted); printed = λ fits. refl }

none_held : (n : ℕ) (line : List ℕ) → n ≡ 0 → length (take n line) ≡ n
none_held n line e = rw e

-- no byte is held where there is no line
pub bare_held : (q : Script) (from : ℕ) (r : Place) (rec out₀ out : List ℕ) → Buffered q from r rec [] out₀ out → q.held ≡ []
bare_held q from r rec out₀ out b = sym b.kept ∙ take-nil r.progress.held

-- the lines of a piece, one after the other
module _ (x : Slices) (p : Script) (piece : List ℕ) (from : ℕ) where
  abbrev at_line : ℕ → Script
  at_line at = after_piece x 1024 p (take at piece)

  line_taken : (at : ℕ) (r r' : Place) (rec rec' out₀ out out' : List ℕ) → 0 < closed_length (drop at piece) → length out ≡ length out₀ → length out₀ < 9223372036854775808
      → Buffered (at_line at) from r rec [] out₀ out
      → Buffered (after_line x 1024 (under_way r.progress rec []) (take (closed_length (drop at piece)) (drop at piece))) r.at r' rec' [] out out'
      → Buffered (at_line (at + closed_length (drop at piece))) from r' rec' [] out₀ out'
  line_taken at r r' rec rec' out₀ out out' some long most b h =
      let q = at_line at in
      let n = closed_length (drop at piece) in
      let l = take n (drop at piece) in
      let none = bare_held q from r rec out₀ out b in
      let same : after_line x 1024 (under_way r.progress rec []) l ≡ after_line x 1024 (carried q) l = rw (b.bytes, b.used, b.changed) in
      let is : at_line (at + n) ≡ onto x 1024 q.out (after_line x 1024 (carried q) l) =
      ap (λ (z : List ℕ). after_piece x 1024 p z) (take-add at n piece) ∙ in_pieces x 1024 p (take at piece) l
      ∙ taken_line x 1024 q (drop at piece) some (rw none (omega arith)) ∙ rw none in
      rw is (buffered_then x 1024 q (after_line x 1024 (carried q) l) from r r' rec rec' [] [] out₀ out out' long most b (rw same at h))

  pub next_taken : (at next : ℕ) (r r' : Place) (rec rec' out₀ out out' : List ℕ) → next ≡ at + closed_length (drop at piece) → at < next → length out ≡ length out₀ → length out₀ < 9223372036854775808
      → Buffered (at_line at) from r rec [] out₀ out
      → Buffered (after_line x 1024 (under_way r.progress rec []) (take (next - at) (drop at piece))) r.at r' rec' [] out out'
      → Buffered (at_line next) from r' rec' [] out₀ out'
  next_taken at next r r' rec rec' out₀ out out' e l long most b h =
      let d : next - at ≡ closed_length (drop at piece) = omega arith in
      rw e (line_taken at r r' rec rec' out₀ out out' (omega arith) long most b (rw d at h))

-- a record that was usable is still
pub still_usable : (x : Slices) (p : Script) (a : List ℕ) (from : ℕ) (r : Place) (rec line out₀ out : List ℕ) → slices_fault x ≡ 0 → fleet_fault (table_of x) p.bytes ≡ 0
    → Buffered (after_piece x 1024 p a) from r rec line out₀ out → fleet_fault (table_of x) rec ≡ 0
still_usable x p a from r rec line out₀ out fine good b = rw b.bytes (usable_piece x 1024 fine p a good)

-- no line is taken yet
pub none_taken : (x : Slices) (piece : List ℕ) (start : Place) (rec out : List ℕ) → start.progress.held ≡ 0 → start.at ≤ 9223372036854775808
    → Buffered (after_piece x 1024 (under_way start.progress rec []) (take 0 piece)) start.at start rec [] out out
unfolding after_piece
none_taken x piece start rec out none counted = buffered_none start.progress start.at rec [] out counted (none_held start.progress.held [] none)

-- a line of a piece that is not of a frame's length, refused where it stands
pub line_refused : (x : Slices) (p : Script) (piece : List ℕ) (from at next : ℕ) (r r' : Place) (rec out₀ out out' : List ℕ) → slices_fault x ≡ 0 → fleet_fault (table_of x) rec ≡ 0
    → p.changed < 4294967296 → Buffered (after_piece x 1024 p (take at piece)) from r rec [] out₀ out → next ≤ length piece → at ≤ next → (next - at ≡ 15 → ⊥)
    → (out' ≡ stored_within out r.at (refusal_line 1)) × (r'.at ≡ capped (r.at + 5)) × (r'.progress ≡ record { used = r.progress.used; held = 0; changed = r.progress.changed })
    → Buffered (after_line x 1024 (under_way r.progress rec []) (take (next - at) (drop at piece))) r.at r' rec [] out out'
line_refused x p piece from at next r r' rec out₀ out out' fine good small b within l n e =
    let d = length-drop at piece in
    let k = length-take-le (next - at) (drop at piece) (omega arith) in
    let c = changed_small x 1024 p (take at piece) small in
    let few : r.progress.changed < 4294967296 = rw b.changed c in
    refused_buffered x fine r.progress 1024 r.at (take (next - at) (drop at piece)) rec rec out out' good r' (λ z. n (omega arith)) few refl e.0 e.1 e.2

-- a line that a piece closes, where it stands, is its bytes alone
pub closed_bytes : (s : List ℕ) (at : ℕ) → 0 < closed_length (drop at s) → take (closed_length (drop at s)) (drop at s) ≡ line_bytes s at
closed_bytes s at some = go (dec_lt (until_feed (drop at s)) (length (drop at s)))
  where
    go : Dec (until_feed (drop at s) < length (drop at s)) → take (closed_length (drop at s)) (drop at s) ≡ line_bytes s at
    go (yes l) = rw (lt-ltb (until_feed (drop at s)) (length (drop at s)) l)
    go (no n) = let none = rw (le-ltb (until_feed (drop at s)) (length (drop at s)) (omega arith)) at some in absurd (omega arith)
