-- The text's end in the buffer, and a script from its start.
use Prim.Native.Nat.{ℕ, zero, suc, ◌+◌, ◌*◌, ◌≤◌, ◌<◌}
use mathlib.Core.Path.{◌≡◌, refl, sym, ◌∙◌, ap}
use mathlib.Core.Bool.{Bool, true, false, cond}
use mathlib.Core.Logic.{◌⊎◌, inl, inr}
use mathlib.Core.List.{List, [], ◌∷◌, ◌++◌}
use native.Mathlib.Omega.{arith}
use lib.Dec.{eqb}
use lib.ListN.{length, take, drop, replicate, length-append, length-drop, drop_of_length-le}
use lib.Seq.{sets}
use borrow.Author.Tests.{ne_eqb}
use Rattle.range.proofs.Sets.{sets_then}
use Rattle.output.specs.Output.{refusal_line}
use Rattle.fleet_theory.specs.Fleet.{fleet_fault, start, finished}
use Rattle.table.specs.Slices.{Slices, table_of, slices_fault}
use Rattle.fleet_theory.proofs.Run.{slices_legal, start_holds, fleet_passes}
use Rattle.table.proofs.LegalLaws.{legal_table}
use Rattle.script_lines.specs.Fitting.{capped, stored_within}
use Rattle.script_lines.proofs.Lines.{length_last}
use Rattle.script_lines.proofs.Fitting.{capped_below, capped_add, stored_fits}
use Rattle.script_theory.specs.Script.{Script, last_line, end_text, script_text, after_piece, begun}
use Rattle.script_theory.proofs.Pieces.{whole}
use Rattle.script_steps.proofs.PieceLaws.{piece_short}
use Rattle.script_steps.proofs.Closing.{bare_held}
use Rattle.script_pieces.proofs.Sharing.{rest_held}
use Rattle.script_steps.specs.declared.Lines.{Lines}
use Rattle.script_steps.specs.Closing.{Closed}
use Rattle.script_steps.specs.Within.{under_way}
use Rattle.script_steps.specs.declared.Progress.{Progress}

module _ (x : Slices) (bytes : List ℕ) (held changed : ℕ) where
  abbrev unclosed : List ℕ
  unclosed = cond (eqb held 0) [] (refusal_line 1)

  length_unclosed : length unclosed ≡ cond (eqb held 0) 0 5
  length_unclosed = go (eqb held 0)
    where
      go : (b : Bool) → length (cond b [] (refusal_line 1)) ≡ cond b 0 5
      go true = refl
      go false = refl

  pub end_then : (done : Bool) (at next : ℕ) (l l₁ l₂ : List ℕ) → done ≡ finished (table_of x) bytes → l₁ ≡ sets l at unclosed → next ≡ at + cond (eqb held 0) 0 5
      → l₂ ≡ sets l₁ next (last_line done changed) → l₂ ≡ sets l at (end_text x bytes held changed)
  end_then done at next l l₁ l₂ d s₁ n s₂ =
      let k = length_unclosed in
      rw (← d) (sets_then l l₁ l₂ at next unclosed (last_line done changed) s₁ (n ∙ ap (λ (m : ℕ). at + m) (sym k)) s₂)

  pub length_end : length (end_text x bytes held changed) ≡ cond (eqb held 0) 11 16
  length_end =
      length-append unclosed (last_line (finished (table_of x) bytes) changed)
      ∙ (let a = length_last (finished (table_of x) bytes) changed in
      let b = length_unclosed in
      go (eqb held 0) b a)
    where
      go : (b : Bool) → length unclosed ≡ cond b 0 5 → length (last_line (finished (table_of x) bytes) changed) ≡ 11
          → length unclosed + length (last_line (finished (table_of x) bytes) changed) ≡ cond b 11 16
      go true u l = omega arith
      go false u l = omega arith

-- an unfinished line, which prints five bytes more, has a byte
end_few : (held : ℕ) → cond (eqb held 0) 11 16 ≤ 5 * held + 11
end_few zero = omega arith
end_few (suc held) = rw (ne_eqb (suc held) 0 (λ e. omega arith)) (omega arith)

pub end_most : (b : Bool) → cond b 11 16 ≤ 16
end_most true = omega arith
end_most false = omega arith

zeros_part : (n m : ℕ) → n ≤ m → ◌≡◌ {A = List ℕ} (take n (replicate m 0)) (replicate n 0)
zeros_part zero m l = refl
zeros_part (suc n) zero l = absurd (omega arith)
zeros_part (suc n) (suc m) l = ap (λ (z : List ℕ). 0 ∷ z) (zeros_part n m (omega arith))

pub links_within : (x : Slices) → slices_fault x ≡ 0 → x.links ≤ 2048
links_within x fine = (legal_table 256 2048 (table_of x) (slices_legal x fine)).size.within

some_left : (l : List ℕ) → 0 < length l → length (take 16 l) ≡ 0 → ⊥
some_left [] some e = absurd (omega arith)
some_left (a ∷ l) some e = absurd (omega arith)

-- a script from its start
module _ (x : Slices) (fine : slices_fault x ≡ 0) (within : 8 * x.links ≤ 16384) where
  abbrev zeros : List ℕ
  zeros = take (8 * x.links) (replicate 16384 0)

  pub zeros_are : zeros ≡ (start x).bytes
  zeros_are = zeros_part (8 * x.links) 16384 within

  pub zeros_pass : fleet_fault (table_of x) zeros ≡ 0
  zeros_pass = rw zeros_are (fleet_passes x fine (start x) (start_holds x fine))

  module _ (text : List ℕ) where
    abbrev q : Script
    q = after_piece x 1024 (begun x) text

    -- all of the text is taken, and where its end is printed; `unclosed` is 0 where no line is left unclosed
    pub record Ready (rec out out' : List ℕ) (at unclosed changed : ℕ) : Type 0 where
      pub bytes : rec ≡ q.bytes
      pub left : eqb unclosed 0 ≡ eqb (length q.held) 0
      pub changes : changed ≡ q.changed
      pub at_end : at ≡ capped (0 + length q.out)
      pub printed : 0 + length q.out ≤ length out → out' ≡ sets out 0 q.out

    -- all lines, and what is left
    pub all_ready : (p : Progress) → (p.used ≡ 0) × (p.held ≡ 0) × (p.changed ≡ 0) → (r : Lines) (rec out out' : List ℕ) (unclosed : ℕ)
        → Closed x (under_way p zeros []) text 0 r rec [] out out' → ((r.rest < length text) × (unclosed ≡ 1)) ⊎ ((length text ≤ r.rest) × (unclosed ≡ 0))
        → Ready rec out out' r.place.at unclosed r.place.progress.changed
    all_ready p none r rec out out' unclosed c end =
        let from_start : under_way p zeros [] ≡ begun x = rw (none.0, none.1, none.2, zeros_are) in
        let d : Closed x (begun x) text 0 r rec [] out out' = rw from_start at c in
        let b = d.buffered in
        let m = after_piece x 1024 (begun x) (take r.rest text) in
        let empty = bare_held m 0 r.place rec out out' b in
        let is = rest_held x (begun x) text r.rest (omega arith) d.unclosed in
        let held : q.held ≡ take 16 (drop r.rest text) = ap (λ (s : Script). s.held) is ∙ ap (λ (h : List ℕ). take 16 (h ++ drop r.rest text)) empty in
        record {
          bytes = b.bytes ∙ sym (ap (λ (s : Script). s.bytes) is);
          left = rw held (go end);
          changes = b.changed ∙ sym (ap (λ (s : Script). s.changed) is);
          at_end = rw is b.at;
          printed = rw is b.printed;
        }
      where
        go : ((r.rest < length text) × (unclosed ≡ 1)) ⊎ ((length text ≤ r.rest) × (unclosed ≡ 0)) → eqb unclosed 0 ≡ eqb (length (take 16 (drop r.rest text))) 0
        go (inl (l, e)) = rw e (sym (ne_eqb (length (take 16 (drop r.rest text))) 0 (some_left (drop r.rest text) (let n = length-drop r.rest text in omega arith))))
        go (inr (l, e)) = rw (e, drop_of_length-le text l)

    module _ (rec out out₁ out₂ : List ℕ) (at unclosed changed : ℕ) (h : Ready rec out out₁ at unclosed changed) where
      lengths : 0 + length q.out + cond (eqb unclosed 0) 11 16 ≡ length (script_text x 1024 text)
      lengths =
          let n = length-append q.out (end_text x q.bytes (length q.held) q.changed) in
          let m = length_end x q.bytes (length q.held) q.changed in
          let k : ◌≡◌ {A = ℕ} (cond (eqb unclosed 0) 11 16) (cond (eqb (length q.held) 0) 11 16) = rw h.left in
          let w = ap length (whole x 1024 fine text) in
          omega arith

      pub all_length : (n : ℕ) → n ≡ capped (at + cond (eqb unclosed 0) 11 16) → n ≡ capped (length (script_text x 1024 text))
      all_length n e =
          let last : ℕ = cond (eqb unclosed 0) 11 16 in
          e ∙ ap (λ (k : ℕ). capped (k + last)) h.at_end ∙ capped_add (0 + length q.out) last ∙ ap capped lengths

      pub all_printed : length out₁ ≡ length out → length out < 9223372036854775808 → out₂ ≡ stored_within out₁ at (end_text x rec unclosed changed)
          → length (script_text x 1024 text) ≤ length out → out₂ ≡ sets out 0 (script_text x 1024 text)
      all_printed long most e fits =
          let last = end_text x rec unclosed changed in
          let n = lengths in
          let m = length_end x rec unclosed changed in
          let exact = h.at_end ∙ capped_below (0 + length q.out) (omega arith) in
          let s : out₂ ≡ sets out₁ at last = e ∙ stored_fits out₁ at last (omega arith) in
          rw (← whole x 1024 fine text)
          (sets_then out out₁ out₂ 0 at q.out (end_text x q.bytes (length q.held) q.changed) (h.printed (omega arith)) exact
          (rw (← h.bytes, ← h.left, ← h.changes) s))

  -- five bytes for each byte, and 11, hold all that is printed
  pub script_short : (text : List ℕ) → length (script_text x 1024 text) ≤ 5 * length text + 11
  script_short text =
      let q = after_piece x 1024 (begun x) text in
      let n = length-append q.out (end_text x q.bytes (length q.held) q.changed) in
      let m = length_end x q.bytes (length q.held) q.changed in
      let w = ap length (whole x 1024 fine text) in
      let s = piece_short x 1024 (begun x) text in
      let k = end_few (length q.held) in
      omega arith
