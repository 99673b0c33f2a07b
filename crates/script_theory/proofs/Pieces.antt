-- A script handled in pieces prints what it prints handled whole.
use Prim.Native.Nat.{ℕ, ◌+◌, ◌%◌, ◌≤◌, ◌<◌}
use mathlib.Core.Path.{◌≡◌, refl, sym, ◌∙◌, ap}
use mathlib.Core.Logic.{◌⊎◌, inl, inr}
use mathlib.Core.Bool.{true, false, cond, true≢false}
use mathlib.Core.List.{List, [], ◌∷◌, ◌++◌, append-nil, append_assoc}
use native.Mathlib.Omega.{arith}
use lib.Dec.{eqb}
use lib.ListN.{length, take, length-append}
use lib.Seq.{take_all}
use borrow.Author.Tests.{ne_eqb}
use Rattle.range.specs.Sum.{sum}
use Rattle.range.proofs.Bools.{decided}
use Rattle.range.specs.First.{or_else}
use Rattle.range.proofs.Faults.{or_right}
use Rattle.range.proofs.Sums.{sum_add, none_count}
use Rattle.lines.specs.Line.{lines_from}
use Rattle.probe_frame.specs.Frame.{frame_of, frame_fault}
use Rattle.fleet_theory.specs.Fleet.{fleet_fault, entry_by, fault_of, State, start, accepted, answer_to, next, run, frame_changes, changes, all_changes, finished}
use Rattle.table.specs.Slices.{Slices, table_of, slices_fault}
use Rattle.fleet_theory.proofs.Changes.{no_frame_changes}
use Rattle.fleet_theory.proofs.Run.{HoldsAfter, start_holds, fault_is, next_holds}
use Rattle.script_theory.specs.Script.{answer_line, printed, last_line, script_text, Script, after_line, after_byte, after_piece, begun, end_text, together, carried, printed_by}
use Rattle.script_theory.proofs.Lines.{same_digits, Unclosed, unclosed_none, unclosed_next, unclosed_rest, unclosed_refused, short_take, take_again, short_or_long}

module _ (x : Slices) (room : ℕ) where
  pub in_pieces : (p : Script) (a b : List ℕ) → after_piece x room p (a ++ b) ≡ after_piece x room (after_piece x room p a) b
  unfolding after_piece
  in_pieces p [] b = refl
  in_pieces p (c ∷ a) b = in_pieces (after_byte x room p c) a b

  -- with more printed before it
  abbrev pub onto : List ℕ → Script → Script
  onto o p = record { bytes = p.bytes; used = p.used; changed = p.changed; held = p.held; out = o ++ p.out }

  byte_onto : (o : List ℕ) (p : Script) (b : ℕ) → after_byte x room (onto o p) b ≡ onto o (after_byte x room p b)
  byte_onto o p b = go (decided (eqb b 10))
    where
      go : (eqb b 10 ≡ true) ⊎ (eqb b 10 ≡ false) → after_byte x room (onto o p) b ≡ onto o (after_byte x room p b)
      go (inl e) = rw (e, append_assoc o p.out _)
      go (inr e) = rw e

  pub carried_onto : (q : Script) → onto q.out (carried q) ≡ q
  carried_onto q = rw (append-nil q.out)

  pub piece_onto : (o : List ℕ) (p : Script) (a : List ℕ) → after_piece x room (onto o p) a ≡ onto o (after_piece x room p a)
  unfolding after_piece
  piece_onto o p [] = refl
  piece_onto o p (b ∷ a) = ap (λ (q : Script). after_piece x room q a) (byte_onto o p b) ∙ piece_onto o (after_byte x room p b) a

  -- what was printed before does not bear on what is carried on
  pub carried_piece : (q : Script) (a : List ℕ) → carried (after_piece x room (carried q) a) ≡ carried (after_piece x room q a)
  carried_piece q a = ap carried (sym (piece_onto q.out (carried q) a)) ∙ ap (λ (p : Script). carried (after_piece x room p a)) (carried_onto q)

  -- pieces one after the other print what they print together
  together_prints : (p : Script) (rest : List (List ℕ)) → p.out ≡ []
      → (let q = after_piece x room p (together rest) in printed_by x room p rest ≡ q.out ++ end_text x q.bytes (length q.held) q.changed)
  unfolding together printed_by after_piece
  together_prints p [] none = rw none
  together_prints p (a ∷ rest) none =
      let r = after_piece x room p a in
      let w = after_piece x room (carried r) (together rest) in
      let same : after_piece x room p (a ++ together rest) ≡ onto r.out w =
      in_pieces p a (together rest) ∙ ap (λ (q : Script). after_piece x room q (together rest)) (sym (carried_onto r)) ∙ piece_onto r.out (carried r) (together rest) in
      rw same
      (ap (λ (z : List ℕ). r.out ++ z) (together_prints (carried r) rest refl) ∙ sym (append_assoc r.out w.out (end_text x w.bytes (length w.held) w.changed)))

  -- a script under way beside the state of the list of lines
  abbrev beside : State → ℕ → List ℕ → List ℕ → Script
  beside s changed held out = record { bytes = s.bytes; used = length s.log; changed = changed; held = held; out = out }

  line_beside : (s : State) (c : ℕ) (h o l : List ℕ)
      → after_line x room (beside s c h o) l ≡ beside (next x room s l) ((c + sum x.links (frame_changes (frame_of l) s.bytes (next x room s l).bytes)) % 4294967296) [] (o ++ answer_line (answer_to x room s l))
  unfolding next
  line_beside s c h o l = go (decided (eqb (fault_of x room s l) 0))
    where
      go : (eqb (fault_of x room s l) 0 ≡ true) ⊎ (eqb (fault_of x room s l) 0 ≡ false)
          → after_line x room (beside s c h o) l
          ≡ (let s' = cond (eqb (fault_of x room s l) 0) (accepted x s l) s in
          beside s' ((c + sum x.links (frame_changes (frame_of l) s.bytes s'.bytes)) % 4294967296) [] (o ++ answer_line (answer_to x room s l)))
      go (inl e) =
          let n : length s.log + 1 ≡ length (accepted x s l).log = sym (length-append s.log (entry_by (table_of x) s.bytes (frame_of l) ∷ [])) in
          rw (e, n)
      go (inr e) = let n : length s.log + 0 ≡ length s.log = omega arith in rw (e, n)

  -- lines of a wrong length do the same
  refused_same : (p : Script) (l l' : List ℕ) → frame_fault l ≡ 1 → frame_fault l' ≡ 1 → after_line x room p l ≡ after_line x room p l'
  refused_same p l l' e e' =
      let fleet = fleet_fault (table_of x) p.bytes in
      let some : eqb (or_else (slices_fault x) (or_else fleet 1)) 0 ≡ false =
      ne_eqb (or_else (slices_fault x) (or_else fleet 1)) 0
      (λ z. let a = or_right fleet 1 (or_right (slices_fault x) (or_else fleet 1) z) in omega arith) in
      rw (e, e', some, no_frame_changes (frame_of l) p.bytes x.links, no_frame_changes (frame_of l') p.bytes x.links)

  -- 16 bytes of a line do as the line
  pub line_cut : (p : Script) (h : List ℕ) → after_line x room p (take 16 h) ≡ after_line x room p h
  line_cut p h = go (short_or_long h)
    where
      go : (take 16 h ≡ h) ⊎ ((frame_fault (take 16 h) ≡ 1) × (frame_fault h ≡ 1)) → after_line x room p (take 16 h) ≡ after_line x room p h
      go (inl e) = rw e
      go (inr (a, c)) = refused_same p (take 16 h) h a c

  line_capped : (p : Script) (h : List ℕ) (b : ℕ) → after_line x room p (take 16 h ++ (b ∷ [])) ≡ after_line x room p (h ++ (b ∷ []))
  line_capped p h b =
      sym (line_cut p (take 16 h ++ (b ∷ []))) ∙ ap (λ (l : List ℕ). after_line x room p l) (take_again h (b ∷ [])) ∙ line_cut p (h ++ (b ∷ []))

  -- with other bytes of an unfinished line
  abbrev pub holding : Script → List ℕ → Script
  holding p h = record { bytes = p.bytes; used = p.used; changed = p.changed; held = h; out = p.out }

  -- bytes without a line feed are held, 16 in all
  pub held_bytes : (p : Script) (l : List ℕ) → Unclosed l → length p.held ≤ 16 → after_piece x room p l ≡ holding p (take 16 (p.held ++ l))
  unfolding after_piece
  held_bytes p [] u few = rw (append-nil p.held, take_all 16 p.held few)
  held_bytes p (b ∷ l) u few =
      let r = unclosed_rest b l u in
      let h = p.held ++ (b ∷ []) in
      let i = held_bytes (holding p (take 16 h)) l r.1 (short_take 16 h).1 in
      rw r.0 (i ∙ rw (take_again h l, append_assoc p.held (b ∷ []) l))

  -- a line feed behind them closes the line
  pub closed_line : (p : Script) (l : List ℕ) → Unclosed l → length p.held ≤ 16 → after_piece x room p (l ++ (10 ∷ [])) ≡ after_line x room p (p.held ++ (l ++ (10 ∷ [])))
  unfolding after_piece
  closed_line p l u few =
      in_pieces p l (10 ∷ []) ∙ ap (λ (q : Script). after_piece x room q (10 ∷ [])) (held_bytes p l u few) ∙ line_capped p (p.held ++ l) 10
      ∙ rw (append_assoc p.held l (10 ∷ []))

  changes_first : (s : State) (l : List ℕ) (ls : List (List ℕ))
      → all_changes x room s (l ∷ ls) ≡ sum x.links (frame_changes (frame_of l) s.bytes (next x room s l).bytes) + all_changes x room (next x room s l) ls
  unfolding changes
  changes_first s l ls = sum_add x.links (frame_changes (frame_of l) s.bytes (next x room s l).bytes) (changes x room (next x room s l) ls)

  changes_none : (s : State) → all_changes x room s [] ≡ 0
  unfolding changes
  changes_none s = none_count x.links (λ i. false) (λ i l e. true≢false (sym e))

  module _ (fine : slices_fault x ≡ 0) where
    -- all that is printed, from a state and the bytes of an unfinished line
    abbrev Prints : State → ℕ → List ℕ → List ℕ → List ℕ → Type 0
    Prints s c h o text =
        let q = after_piece x room (beside s c (take 16 h) o) text in
        let ls = lines_from h text in
        q.out ++ end_text x q.bytes (length q.held) q.changed ≡ o ++ (printed x room s ls ++ last_line (finished (table_of x) (run x room s ls).bytes) (c + all_changes x room s ls))

    -- a line without its line feed is refused by 1 and leaves the state
    unclosed_fault : (s : State) → HoldsAfter (table_of x) s → (h : List ℕ) → Unclosed h → fault_of x room s h ≡ 1
    unclosed_fault s hs h u = let one = fault_is x fine s hs room h in one ∙ rw (unclosed_refused h u)

    refused_stays : (s : State) (l : List ℕ) → fault_of x room s l ≡ 1 → (next x room s l ≡ s) × (all_changes x room s (l ∷ []) ≡ 0)
    unfolding next
    refused_stays s l f =
        let stays : next x room s l ≡ s = rw f in
        let n = changes_first s l [] in
        let m = ap (λ (s' : State). sum x.links (frame_changes (frame_of l) s.bytes s'.bytes) + all_changes x room s' []) stays in
        let k = changes_none s in
        let w = no_frame_changes (frame_of l) s.bytes x.links in
        (stays, omega arith)

    ends : (s : State) → HoldsAfter (table_of x) s → (c : ℕ) (h o : List ℕ) → Unclosed h → Prints s c h o []
    unfolding after_piece lines_from printed run next
    ends s hs c [] o u = let z : c + all_changes x room s [] ≡ c = (let n = changes_none s in omega arith) in rw z
    ends s hs c (a ∷ h) o u =
        let f = unclosed_fault s hs (a ∷ h) u in
        let z : c + all_changes x room s ((a ∷ h) ∷ []) ≡ c = (let n = (refused_stays s (a ∷ h) f).1 in omega arith) in
        rw (ne_eqb (length (a ∷ h)) 0 (λ e. omega arith), ne_eqb (length (a ∷ take 15 h)) 0 (λ e. omega arith), z, f)

    by_text : (s : State) → HoldsAfter (table_of x) s → (c : ℕ) (h o text : List ℕ) → Unclosed h → Prints s c h o text
    unfolding after_piece lines_from printed run
    by_text s hs c h o [] u = ends s hs c h o u
    by_text s hs c h o (b ∷ bs) u = go (decided (eqb b 10)) (λ s' hs' c' h' o' u'. by_text s' hs' c' h' o' bs u')
      where
        l : List ℕ
        l = h ++ (b ∷ [])

        go : (eqb b 10 ≡ true) ⊎ (eqb b 10 ≡ false)
            → ((s' : State) → HoldsAfter (table_of x) s' → (c' : ℕ) (h' o' : List ℕ) → Unclosed h' → Prints s' c' h' o' bs)
            → (let q = after_piece x room (after_byte x room (beside s c (take 16 h) o) b) bs in
            let ls = cond (eqb b 10) (l ∷ lines_from [] bs) (lines_from l bs) in
            q.out ++ end_text x q.bytes (length q.held) q.changed ≡ o ++ (printed x room s ls ++ last_line (finished (table_of x) (run x room s ls).bytes) (c + all_changes x room s ls)))
        go (inl e) rest =
            let s' = next x room s l in
            let k : ℕ = sum x.links (frame_changes (frame_of l) s.bytes s'.bytes) in
            let ls = lines_from [] bs in
            let a = answer_line (answer_to x room s l) in
            let done = last_line (finished (table_of x) (run x room s' ls).bytes) in
            let c' : ℕ = (c + k) % 4294967296 in
            let r = rest s' (next_holds x fine s hs room l) c' [] (o ++ a) unclosed_none in
            let n = changes_first s l ls in
            let m : (c' + all_changes x room s' ls) % 4294967296 ≡ (c + all_changes x room s (l ∷ ls)) % 4294967296 = omega arith in
            let d = same_digits (c' + all_changes x room s' ls) (c + all_changes x room s (l ∷ ls)) m in
            rw (e, line_capped (beside s c (take 16 h) o) h b, line_beside s c (take 16 h) o l, ← d)
            (r ∙ append_assoc o a (printed x room s' ls ++ done (c' + all_changes x room s' ls))
            ∙ ap (λ (z : List ℕ). o ++ z) (sym (append_assoc a (printed x room s' ls) (done (c' + all_changes x room s' ls)))))
        go (inr e) rest = rw (e, take_again h (b ∷ [])) (rest s hs c l o (unclosed_next h b u e))

    -- record, used entries and changes, from a state and the bytes of an unfinished line
    abbrev Reaches : State → ℕ → List ℕ → List ℕ → List ℕ → Type 0
    Reaches s c h o text =
        let q = after_piece x room (beside s c (take 16 h) o) text in
        let ls = lines_from h text in
        (q.bytes ≡ (run x room s ls).bytes) × (q.used ≡ length (run x room s ls).log) × (q.changed ≡ (c + all_changes x room s ls) % 4294967296)

    ends_reached : (s : State) → HoldsAfter (table_of x) s → (c : ℕ) → c < 4294967296 → (h o : List ℕ) → Unclosed h → Reaches s c h o []
    unfolding after_piece lines_from run
    ends_reached s hs c small [] o u = let n = changes_none s in (refl, refl, omega arith)
    ends_reached s hs c small (a ∷ h) o u =
        let stays = refused_stays s (a ∷ h) (unclosed_fault s hs (a ∷ h) u) in
        let n = stays.1 in
        rw (ne_eqb (length (a ∷ h)) 0 (λ e. omega arith)) (ap (λ (s' : State). s'.bytes) (sym stays.0), ap (λ (s' : State). length s'.log) (sym stays.0), omega arith)

    reached_by : (s : State) → HoldsAfter (table_of x) s → (c : ℕ) → c < 4294967296 → (h o text : List ℕ) → Unclosed h → Reaches s c h o text
    unfolding after_piece lines_from run
    reached_by s hs c small h o [] u = ends_reached s hs c small h o u
    reached_by s hs c small h o (b ∷ bs) u = go (decided (eqb b 10)) (λ s' hs' c' small' h' o' u'. reached_by s' hs' c' small' h' o' bs u')
      where
        l : List ℕ
        l = h ++ (b ∷ [])

        go : (eqb b 10 ≡ true) ⊎ (eqb b 10 ≡ false)
            → ((s' : State) → HoldsAfter (table_of x) s' → (c' : ℕ) → c' < 4294967296 → (h' o' : List ℕ) → Unclosed h' → Reaches s' c' h' o' bs)
            → (let q = after_piece x room (after_byte x room (beside s c (take 16 h) o) b) bs in
            let ls = cond (eqb b 10) (l ∷ lines_from [] bs) (lines_from l bs) in
            (q.bytes ≡ (run x room s ls).bytes) × (q.used ≡ length (run x room s ls).log) × (q.changed ≡ (c + all_changes x room s ls) % 4294967296))
        go (inl e) rest =
            let s' = next x room s l in
            let k : ℕ = sum x.links (frame_changes (frame_of l) s.bytes s'.bytes) in
            let ls = lines_from [] bs in
            let c' : ℕ = (c + k) % 4294967296 in
            let r = rest s' (next_holds x fine s hs room l) c' (omega arith) [] (o ++ answer_line (answer_to x room s l)) unclosed_none in
            let n = changes_first s l ls in
            let m : (c' + all_changes x room s' ls) % 4294967296 ≡ (c + all_changes x room s (l ∷ ls)) % 4294967296 = omega arith in
            rw (e, line_capped (beside s c (take 16 h) o) h b, line_beside s c (take 16 h) o l) (r.0, r.1, r.2 ∙ m)
        go (inr e) rest = rw (e, take_again h (b ∷ [])) (rest s hs c small l o (unclosed_next h b u e))

    -- after a text from the start, record, used entries and changes are those of the run over its lines
    pub reached : (text : List ℕ) → (let q = after_piece x room (begun x) text in
        let ls = lines_from [] text in
        (q.bytes ≡ (run x room (start x) ls).bytes) × (q.used ≡ length (run x room (start x) ls).log) × (q.changed ≡ all_changes x room (start x) ls % 4294967296))
    reached text =
        let r = reached_by (start x) (start_holds x fine) 0 (omega arith) [] [] text unclosed_none in
        let z : 0 + all_changes x room (start x) (lines_from [] text) ≡ all_changes x room (start x) (lines_from [] text) = omega arith in
        (r.0, r.1, r.2 ∙ ap (λ (n : ℕ). n % 4294967296) z)

    -- a text handled byte by byte from the start, then ended, prints what it prints whole
    pub whole : (text : List ℕ) → (let q = after_piece x room (begun x) text in q.out ++ end_text x q.bytes (length q.held) q.changed ≡ script_text x room text)
    unfolding script_text
    whole text =
        let z : 0 + all_changes x room (start x) (lines_from [] text) ≡ all_changes x room (start x) (lines_from [] text) = omega arith in
        rw (← z) (by_text (start x) (start_holds x fine) 0 [] [] text unclosed_none)

    -- and so does a text given in any pieces, one after the other
    pub any_pieces : (rest : List (List ℕ)) → printed_by x room (begun x) rest ≡ script_text x room (together rest)
    any_pieces rest = together_prints (begun x) rest refl ∙ whole (together rest)
