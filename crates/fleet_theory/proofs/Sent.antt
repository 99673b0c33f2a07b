-- Refused links and byte 2; truly sent frames, their marks and refusal 27. A mark that is 1 stays 1; it became 1 at a moment at which its byte permitted the frame.
use Prim.Native.Nat.{ℕ, ◌*◌, ◌/◌, ◌<◌}
use mathlib.Core.Path.{◌≡◌, refl, sym, ◌∙◌, ap}
use mathlib.Core.Logic.{◌↔◌, ◌⊎◌, inl, inr}
use mathlib.Core.Bool.{Bool, true, false, cond}
use mathlib.Core.List.{List, [], ◌∷◌}
use native.Mathlib.Omega.{arith}
use native.Mathlib.Decide.{dec_lt, ℕ_discrete}
use lib.Dec.{ltb}
use lib.ListN.{length, get_or-eq_default}
use borrow.Author.Tests.{eq-eqb, ne_eqb}
use Rattle.range.specs.First.{or_else}
use Rattle.range.proofs.Faults.{or_none, or_some}
use Rattle.table.specs.Table.{Table, item}
use Rattle.table.specs.Legal.{Legal}
use Rattle.plan_theory.specs.Plan.{kept}
use Rattle.plan_theory.specs.Criterion.{Across}
use Rattle.plan_theory.proofs.Settled.{near}
use Rattle.probe_frame.specs.Frame.{Frame, frame_of}
use Rattle.wake_log.specs.declared.Entry.{Entry}
use Rattle.wake_log.specs.declared.Answer.{Answer}
use Rattle.wake_log.specs.declared.Answer.TheVariants.{Logged, Refused}
use Rattle.wake_log.specs.Entry.{answer_of}
use Rattle.probe_rules.specs.declared.Event.TheVariants.{Offer, Refusal}
use Rattle.probe_rules.specs.Frames.{heard_of}
use Rattle.probe_rules.specs.Within.{OwnLink}
use Rattle.probe.specs.declared.Kind.{Kind}
use Rattle.probe.specs.declared.Kind.TheVariants as kind
use Rattle.probe.specs.Answers.{asked_frame}
use Rattle.probe.proofs.Calls.{asked_event_lem}
use Rattle.table.proofs.LegalLaws.{legal_table}
use Rattle.fleet_theory.proofs.EndBytes.{far}
use Rattle.fleet_theory.specs.Fleet.{marks, event_line_fault, entry_by, State, start, fault_of, answer_to, next, run}
use Rattle.table.specs.Slices.{Slices, table_of, slices_fault}
use Rattle.fleet_theory.specs.Words.{IsFrame, FrameOfTable, MaySend, TrulySent, frame_mark, RefusedIn, IsOpening, IsRestart, TrulySentLine, Usable}
use Rattle.fleet_theory.specs.ClaimsOfRun.{moments}
use Rattle.fleet_theory.proofs.Own.{out_of, in_of, out_mark, in_mark, own_or_not, in_mark_reads}
use Rattle.fleet_theory.proofs.Bytes.{ByteOf, an_out, an_in, an_out_mark, an_in_mark, byte_of}
use Rattle.fleet_theory.proofs.Marked.{PairAfter}
use Rattle.fleet_theory.proofs.Lines.{line_frame, line_number}
use Rattle.fleet_theory.proofs.Events.{Says, an_opening, a_restart, an_offer, a_refusal, says, may_offer, may_refuse, unsent_of}
use Rattle.fleet_theory.proofs.Run.{slices_legal, room_left_fault, HoldsAfter, start_out_mark, start_in_mark, start_holds, fault_is, next_holds, next_marks, run_holds}

-- the number of a refusal
abbrev number_of : Answer → ℕ
number_of (Logged e) = 0
number_of (Refused n) = n

answer_number : (fault : ℕ) (e : Entry) → number_of (answer_of fault e) ≡ fault
answer_number fault e = go (ℕ_discrete fault 0)
  where
    go : Dec (fault ≡ 0) → number_of (answer_of fault e) ≡ fault
    go (yes z) = rw (eq-eqb fault 0 z) (sym z)
    go (no d) = rw (ne_eqb fault 0 d)

module _ (x : Slices) (fine : slices_fault x ≡ 0) where
  abbrev t : Table
  t = table_of x

  legal : Legal t
  legal = slices_legal x fine

  -- a refused link is kept by the plan, and a byte 2 stands on no other
  module _ (s : State) (h : HoldsAfter t s) where
    pub refused_is_kept : (i : ℕ) → i < x.links → RefusedIn t i s.log → kept t i ≡ true
    refused_is_kept i l a =
        let r = s.bytes in
        let b = h.log_in i l a in
        let (w, x) = marked_end b.0 (in_mark_own b.0 i b.1) in
        rw (h.good.refused_kept w i l (near x) (b.0, x, b.1))
      where
        -- a mark stands on an own link
        in_mark_own : (p j : ℕ) → in_mark t s.bytes p j ≡ 1 → OwnLink t p j
        in_mark_own p j e = go (own_or_not t p j)
          where
            go : OwnLink t p j ⊎ (OwnLink t p j → ⊥) → OwnLink t p j
            go (inl c) = c
            go (inr c) = absurd (let z = (in_mark_reads t).no_byte s.bytes p j c in omega arith)

        marked_end : (p : ℕ) → OwnLink t p i → (w : ℕ) × Across t i w p
        marked_end p c = far t p i c.1

    pub two_is_refused : (j : ℕ) → item s.bytes j ≡ 2 → RefusedIn t (j / 8) s.log
    two_is_refused j e = go (dec_lt j (8 * x.links))
      where
        by : ByteOf t s.bytes j → RefusedIn t (j / 8) s.log
        by (an_out p f) =
            let d = h.good.learnt p (j / 8) (sym f ∙ e) in
            h.in_log d.0 (j / 8) d.2
        by (an_in p f) = h.in_log p (j / 8) ((h.marked.ins p (j / 8)).marked (sym f ∙ e))
        by (an_out_mark p f) = absurd (let a = (h.marked.outs p (j / 8)).mark_small in omega arith)
        by (an_in_mark p f) = absurd (let a = (h.marked.ins p (j / 8)).mark_small in omega arith)

        go : Dec (j < 8 * x.links) → RefusedIn t (j / 8) s.log
        go (yes l) = by (byte_of t (legal_table 256 2048 t legal) s.bytes j l)
        go (no d) =
            let a = h.long in
            let z = get_or-eq_default s.bytes 0 {n = j} (omega arith) in
            absurd (omega arith)

  module _ (room : ℕ) where
    -- a frame of the table, by the byte that permits it while it is v, and the mark of that byte
    module _ (f : Frame) (v : ℕ) (byte mark : List ℕ → ℕ) (may : (r : List ℕ) → MaySend t r f ↔ (byte r ≡ v))
        (after : (s : State) → HoldsAfter t s → (l : List ℕ) → PairAfter v (mark s.bytes) (byte (next x room s l).bytes) (mark (next x room s l).bytes))
        (marks : (s : State) → HoldsAfter t s → byte s.bytes ≡ v → mark s.bytes ≡ 1) where
      -- what may be sent at the first moment
      sent_first : (s : State) (ls : List (List ℕ)) → MaySend t s.bytes f → TrulySent t f (moments x room s ls)
      unfolding moments
      sent_first s [] m = inl m
      sent_first s (l ∷ ls) m = inl m

      mark_stays : (s : State) → HoldsAfter t s → (ls : List (List ℕ)) → mark s.bytes ≡ 1 → mark (run x room s ls).bytes ≡ 1
      unfolding run
      mark_stays s h [] e = e
      mark_stays s h (l ∷ ls) e = mark_stays (next x room s l) (next_holds x fine s h room l) ls ((after s h l).law.1 (inl e))

      sent_mark : (s : State) → HoldsAfter t s → (ls : List (List ℕ)) → TrulySent t f (moments x room s ls) → mark (run x room s ls).bytes ≡ 1
      unfolding moments run
      sent_mark s h [] (inl m) = marks s h ((may s.bytes).0 m)
      sent_mark s h [] (inr m) = elim m [ ]
      sent_mark s h (l ∷ ls) (inl m) = mark_stays s h (l ∷ ls) (marks s h ((may s.bytes).0 m))
      sent_mark s h (l ∷ ls) (inr m) = sent_mark (next x room s l) (next_holds x fine s h room l) ls m

      mark_sent : (s : State) → HoldsAfter t s → (ls : List (List ℕ)) → mark (run x room s ls).bytes ≡ 1 → (mark s.bytes ≡ 1) ⊎ TrulySent t f (moments x room s ls)
      unfolding moments run
      mark_sent s h [] e = inl e
      mark_sent s h (l ∷ ls) e = go (mark_sent s' (next_holds x fine s h room l) ls e)
        where
          s' : State
          s' = next x room s l

          since : (mark s.bytes ≡ 1) ⊎ (byte s'.bytes ≡ v) → (mark s.bytes ≡ 1) ⊎ TrulySent t f (s.bytes ∷ moments x room s' ls)
          since (inl b) = inl b
          since (inr b) = inr (inr (sent_first s' ls ((may s'.bytes).1 b)))

          go : (mark s'.bytes ≡ 1) ⊎ TrulySent t f (moments x room s' ls) → (mark s.bytes ≡ 1) ⊎ TrulySent t f (s.bytes ∷ moments x room s' ls)
          go (inl b) = since ((after s h l).law.0 b)
          go (inr m) = inr (inr m)

      -- from the start on the mark is 1 exactly when the frame is truly sent
      mark_says : mark (start x).bytes ≡ 0 → (ls : List (List ℕ)) → (mark (run x room (start x) ls).bytes ≡ 1) ↔ TrulySent t f (moments x room (start x) ls)
      mark_says none ls = (λ e. go (mark_sent (start x) (start_holds x fine) ls e), sent_mark (start x) (start_holds x fine) ls)
        where
          go : (mark (start x).bytes ≡ 1) ⊎ TrulySent t f (moments x room (start x) ls) → TrulySent t f (moments x room (start x) ls)
          go (inl e) = absurd (omega arith)
          go (inr m) = m

    -- an offer and a refusal
    module _ (f : Frame) (frame : FrameOfTable t f) (i : ℕ) (ls : List (List ℕ)) where
      abbrev reached : List ℕ
      reached = (run x room (start x) ls).bytes

      offer_says : heard_of t f ≡ Offer i → (out_mark t reached f.from i ≡ 1) ↔ TrulySent t f (moments x room (start x) ls)
      offer_says is =
          mark_says f 1 (λ r. out_of t r f.from i) (λ r. out_mark t r f.from i) (λ r. ((may_offer t f i is r).0, (may_offer t f i is r).1 frame))
          (λ s h l. (next_marks x fine s h room l).outs f.from i) (λ s h. (h.marked.outs f.from i).marked) (start_out_mark x f.from i) ls

      refusal_says : heard_of t f ≡ Refusal i → (in_mark t reached f.from i ≡ 1) ↔ TrulySent t f (moments x room (start x) ls)
      refusal_says is =
          mark_says f 2 (λ r. in_of t r f.from i) (λ r. in_mark t r f.from i) (λ r. ((may_refuse t f i is r).0, (may_refuse t f i is r).1 frame))
          (λ s h l. (next_marks x fine s h room l).ins f.from i) (λ s h. (h.marked.ins f.from i).marked) (start_in_mark x f.from i) ls

    -- 02, No. 2: what a mark says
    pub marks_are_sent : (ls : List (List ℕ)) (k : Kind) (p i : ℕ) → OwnLink t p i
        → (frame_mark k (marks t p (run x room (start x) ls).bytes) i ≡ 1) ↔ TrulySent t (asked_frame t p k i) (moments x room (start x) ls)
    marks_are_sent ls kind.Offer p i own =
        offer_says (asked_frame t p kind.Offer i) (refl, inl refl) i ls (asked_event_lem t legal p i own kind.Offer)
    marks_are_sent ls kind.Refusal p i own =
        refusal_says (asked_frame t p kind.Refusal i) (refl, inr refl) i ls (asked_event_lem t legal p i own kind.Refusal)

    -- a line after a list of lines
    module _ (ls : List (List ℕ)) (l : List ℕ) where
      abbrev s : State
      s = run x room (start x) ls

      abbrev f : Frame
      f = frame_of l

      abbrev unsent : ℕ
      unsent = unsent_of t s.bytes f

      abbrev Truly : Type 0
      Truly = TrulySent t f (moments x room (start x) ls)

      -- an opening, a restart, or a frame that 27 turns down exactly when it is not truly sent
      data Sending : Type 0 where
        opens : f.kind ≡ 0 → Sending
        restarted : f.kind ≡ 3 → Sending
        sent : IsFrame f → unsent ≡ 0 → Truly → Sending
        not_sent : IsFrame f → unsent ≡ 27 → (Truly → ⊥) → Sending

      sending : f.number ≡ t.number → Says t f → Sending
      sending number (an_opening k b v) = opens k
      sending number (a_restart k b v) = restarted k
      sending number (an_offer i k b a v is) = go (ℕ_discrete (out_mark t s.bytes f.from i) 1)
        where
          go : Dec (out_mark t s.bytes f.from i ≡ 1) → Sending
          go (yes e) = sent (inl k) (rw (v, e)) ((offer_says f (number, inl k) i ls is).0 e)
          go (no d) = not_sent (inl k) (rw (v, ne_eqb (out_mark t s.bytes f.from i) 1 d)) (λ m. d ((offer_says f (number, inl k) i ls is).1 m))
      sending number (a_refusal i k b a v is) = go (ℕ_discrete (in_mark t s.bytes f.from i) 1)
        where
          go : Dec (in_mark t s.bytes f.from i ≡ 1) → Sending
          go (yes e) = sent (inr k) (rw (v, e)) ((refusal_says f (number, inr k) i ls is).0 e)
          go (no d) = not_sent (inr k) (rw (v, ne_eqb (in_mark t s.bytes f.from i) 1 d)) (λ m. d ((refusal_says f (number, inr k) i ls is).1 m))

      abbrev full : ℕ
      full = room_left_fault (length s.log) room

      fault : fault_of x room s l ≡ or_else (event_line_fault t l) (or_else unsent full)
      fault = fault_is x fine s (run_holds x fine room (start x) (start_holds x fine) ls) room l

      -- the number of the answer is the line's fault
      answered : number_of (answer_to x room s l) ≡ fault_of x room s l
      answered = answer_number (fault_of x room s l) (entry_by t s.bytes f)

      answer_refused : (n : ℕ) → fault_of x room s l ≡ n → (n ≡ 0 → ⊥) → answer_to x room s l ≡ Refused n
      answer_refused n e d = rw (e, ne_eqb n 0 d)

      line_refused : (event_line_fault t l ≡ 0 → ⊥) → answer_to x room s l ≡ Refused (event_line_fault t l)
      line_refused e = answer_refused (event_line_fault t l) (fault ∙ or_some (event_line_fault t l) (or_else unsent full) e) e

      module _ (e : event_line_fault t l ≡ 0) where
        here : Sending
        here = sending (line_number t l e) (says t l e)

        refused_27 : unsent ≡ 27 → answer_to x room s l ≡ Refused 27
        refused_27 z = answer_refused 27 (fault ∙ or_none (event_line_fault t l) (or_else unsent full) e ∙ rw z) (λ y. omega arith)

        pub by_27 : IsFrame f → (answer_to x room s l ≡ Refused 27) ↔ (Truly → ⊥)
        by_27 frame = go frame here
          where
            not_full : full ≡ 27 → ⊥
            not_full = part (ltb (length s.log) room)
              where
                part : (b : Bool) → ◌≡◌ {A = ℕ} (cond b 0 26) 27 → ⊥
                part true z = omega arith
                part false z = omega arith

            go : IsFrame f → Sending → (answer_to x room s l ≡ Refused 27) ↔ (Truly → ⊥)
            go (inl k) (opens z) = absurd (omega arith)
            go (inr k) (opens z) = absurd (omega arith)
            go (inl k) (restarted z) = absurd (omega arith)
            go (inr k) (restarted z) = absurd (omega arith)
            go k (sent is z m) = (
              λ a. absurd (not_full (sym (fault ∙ or_none (event_line_fault t l) (or_else unsent full) e ∙ or_none unsent full z) ∙ sym answered ∙ ap number_of a)),
              λ d. absurd (d m),
            )
            go k (not_sent is z d) = (λ a. d, λ c. refused_27 z)

      -- a line that is neither an opening nor a restart nor a truly sent frame is turned down
      pub unsent_turned_down : (IsOpening t l → ⊥) → (IsRestart t l → ⊥) → (TrulySentLine t l (moments x room (start x) ls) → ⊥) → (n : ℕ) × (answer_to x room s l ≡ Refused n)
      unsent_turned_down no-opening no-restart no_frame = go (ℕ_discrete (event_line_fault t l) 0)
        where
          past : event_line_fault t l ≡ 0 → Sending → (n : ℕ) × (answer_to x room s l ≡ Refused n)
          past e (opens z) = absurd (no-opening (e, z))
          past e (restarted z) = absurd (no-restart (e, z))
          past e (sent is z m) = absurd (no_frame (line_frame t l e, m))
          past e (not_sent is z d) = (27, refused_27 e z)

          go : Dec (event_line_fault t l ≡ 0) → (n : ℕ) × (answer_to x room s l ≡ Refused n)
          go (yes e) = past e (here e)
          go (no e) = (event_line_fault t l, line_refused e)

      -- and an accepted line is one of them
      pub logged_usable : (entry : Entry) → answer_to x room s l ≡ Logged entry → Usable t l (moments x room (start x) ls) ⊎ IsRestart t l
      logged_usable entry is = go (ℕ_discrete (event_line_fault t l) 0)
        where
          never : (n : ℕ) → (n ≡ 0 → ⊥) → answer_to x room s l ≡ Refused n → ⊥
          never n d e = d (sym (ap number_of e) ∙ ap number_of is)

          past : event_line_fault t l ≡ 0 → Sending → Usable t l (moments x room (start x) ls) ⊎ IsRestart t l
          past e (opens z) = inl (inl (e, z))
          past e (restarted z) = inr (e, z)
          past e (sent k z m) = inl (inr (line_frame t l e, m))
          past e (not_sent k z d) = absurd (never 27 (λ y. omega arith) (refused_27 e z))

          go : Dec (event_line_fault t l ≡ 0) → Usable t l (moments x room (start x) ls) ⊎ IsRestart t l
          go (yes e) = past e (here e)
          go (no e) = absurd (never (event_line_fault t l) e (line_refused e))
