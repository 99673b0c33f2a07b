-- What holds at each moment of a list of lines.
use Prim.Native.Nat.{ℕ, ◌*◌, ◌<◌}
use mathlib.Core.Path.{◌≡◌, refl, sym, ◌∙◌, ap, subst}
use mathlib.Core.Logic.{◌⊎◌, inl, inr}
use mathlib.Core.Bool.{true, false, cond}
use mathlib.Core.List.{List, [], ◌∷◌, ◌++◌}
use native.Mathlib.Omega.{arith}
use native.Mathlib.Decide.{ℕ_discrete}
use lib.Dec.{ltb, eqb}
use lib.ListN.{length, length-replicate}
use borrow.Author.Tests.{ltb-true, lt-ltb, le-ltb, eqb-true, eq-eqb, ne_eqb}
use Rattle.range.specs.First.{or_else, first}
use Rattle.range.proofs.Bools.{unless_none, decided}
use Rattle.range.proofs.Faults.{or_left, or_right, or_none, none_first}
use Rattle.range.proofs.Lists.{zeros_at}
use Rattle.table.specs.Table.{Table, spare}
use Rattle.table.specs.Legal.{Legal}
use Rattle.probe_record.specs.Record.{standing, held, spare_fault}
use Rattle.probe_frame.specs.Frame.{frame_of}
use Rattle.wake_log.specs.declared.Entry.{Entry}
use Rattle.wake_log.specs.declared.What.TheVariants as what
use Rattle.wake_log.specs.declared.Answer.TheVariants.{Logged}
use Rattle.probe_rules.specs.declared.Outcome.{Outcome}
use Rattle.probe_rules.specs.Rules.{what_of, entry_of}
use Rattle.probe_rules.specs.Within.{OwnLink}
use Rattle.fleet_theory.proofs.EndState.{SameBytes, idle, FleetInv, EverOffered, Refused}
use Rattle.table.proofs.LegalLaws.{legal_table}
use Rattle.fleet_theory.proofs.EndKeep.{inv_step, inv_same, inv_marks}
use Rattle.fleet_theory.proofs.EndWipe.{inv_wipe}
use Rattle.fleet_theory.proofs.EndRise.{fresh_inv}
use Rattle.fleet_theory.specs.Fleet.{own, link_bytes_fault, fleet_fault, restarts, event_line_fault, outcome_of, alter_fleet, wiped, entry_by, State, start, fault_of, answer_to, accepted, next, run}
use Rattle.table.proofs.Slices.{legal_slices}
use Rattle.table.specs.Slices.{Slices, table_of, slices_fault}
use Rattle.fleet_theory.specs.Words.{RefusedIn, Refuses, IsRestart}
use Rattle.fleet_theory.proofs.Own.{out_of, in_of, out_mark, in_mark, own_or_not, ReadsAt, out_reads, in_reads, out_mark_reads, in_mark_reads}
use Rattle.fleet_theory.proofs.Bytes.{length_altered, altered_in_mark}
use Rattle.fleet_theory.proofs.Wipe.{length_wiped, wiped_out, wiped_in, wiped_out_else, wiped_in_else, wiped_out_mark, wiped_in_mark}
use Rattle.fleet_theory.proofs.Marked.{MarkedBytes, marked_passes, MarksAfter, marks_fit, marks_unaltered, marks_altered, marks_wiped}
use Rattle.fleet_theory.proofs.Connect.{OfferMarked, RefusalMarked, Steps, StepBy}
use Rattle.fleet_theory.proofs.Events.{unsent_of, NotUnsent, line_step, altered_restart, entry_restart, altered_event, entry_event}
use Rattle.fleet_theory.proofs.Log.{in_before, in_new, before_or_new, mark_new, new_mark}

pub slices_legal : (x : Slices) → slices_fault x ≡ 0 → Legal (table_of x)
slices_legal x e = (legal_slices 256 2048 x e).legal

pub record HoldsAfter (t : Table) (s : State) : Type 0 where
  pub long : length s.bytes ≡ 8 * t.links
  pub marked : MarkedBytes t s.bytes
  pub good : FleetInv t (OfferMarked t s.bytes) (RefusalMarked t s.bytes) (out_of t s.bytes) (in_of t s.bytes)
  -- a link that an entry says refused has a mark of an inbound byte, and each such mark has its entry
  pub log_in : (i : ℕ) → i < t.links → RefusedIn t i s.log → (p : ℕ) × (in_mark t s.bytes p i ≡ 1)
  pub in_log : (p i : ℕ) → in_mark t s.bytes p i ≡ 1 → RefusedIn t i s.log

stays : (t : Table) (r : List ℕ) → Steps t r r
stays t r = idle (λ p i. refl) (λ p i. refl)

-- 26, with `used` of `room` entries used
abbrev pub room_left_fault : ℕ → ℕ → ℕ
room_left_fault used room = cond (ltb used room) 0 26

-- a line that is accepted
pub record Passed (x : Slices) (room : ℕ) (s : State) (l : List ℕ) : Type 0 where
  pub line : event_line_fault (table_of x) l ≡ 0
  pub sent : NotUnsent (table_of x) s.bytes (frame_of l)
  pub free : length s.log < room

-- at the start each byte is 0
module _ (x : Slices) where
  start_byte : {k m : ℕ} {at : ℕ → ℕ → ℕ} {byte : List ℕ → ℕ → ℕ → ℕ} → ReadsAt (table_of x) k m at byte → SameBytes (byte (start x).bytes) (λ p i. 0)
  start_byte {at = at} {byte} reads p i = go (own_or_not (table_of x) p i)
    where
      go : OwnLink (table_of x) p i ⊎ (OwnLink (table_of x) p i → ⊥) → byte (start x).bytes p i ≡ 0
      go (inl a) = reads.own_byte (start x).bytes p i a ∙ zeros_at (8 * x.links) (at p i)
      go (inr a) = reads.no_byte (start x).bytes p i a

  pub start_out : SameBytes (out_of (table_of x) (start x).bytes) (λ p i. 0)
  start_out = start_byte (out_reads (table_of x))

  pub start_in : SameBytes (in_of (table_of x) (start x).bytes) (λ p i. 0)
  start_in = start_byte (in_reads (table_of x))

  pub start_out_mark : SameBytes (out_mark (table_of x) (start x).bytes) (λ p i. 0)
  start_out_mark = start_byte (out_mark_reads (table_of x))

  pub start_in_mark : SameBytes (in_mark (table_of x) (start x).bytes) (λ p i. 0)
  start_in_mark = start_byte (in_mark_reads (table_of x))

module _ (x : Slices) (fine : slices_fault x ≡ 0) where
  abbrev t : Table
  t = table_of x

  legal : Legal t
  legal = slices_legal x fine

  pub start_holds : HoldsAfter t (start x)
  start_holds =
      record {
        long = length-replicate (8 * x.links) 0;
        marked = record {
          outs = λ p i. rw (start_out x p i, start_out_mark x p i) (record { byte_small = omega arith; mark_small = omega arith; marked = λ e. absurd (omega arith) });
          ins = λ p i. rw (start_in x p i, start_in_mark x p i) (record { byte_small = omega arith; mark_small = omega arith; marked = λ e. absurd (omega arith) });
        };
        good = inv_same t (OfferMarked t r₀) (RefusalMarked t r₀) (λ p i. 0) (λ p i. 0) (out_of t r₀) (in_of t r₀) (start_out x) (start_in x)
            (fresh_inv t (OfferMarked t r₀) (RefusalMarked t r₀) (λ p i e. let z = start_out_mark x p i in omega arith)
            (λ p i g. let z = start_in_mark x g.0 i in let e = g.2 in omega arith));
        log_in = λ i l a. absurd a;
        in_log = λ p i e. absurd (let z = start_in_mark x p i in omega arith);
      }
    where
      r₀ : List ℕ
      r₀ = (start x).bytes

  module _ (s : State) (h : HoldsAfter t s) where
    abbrev r : List ℕ
    r = s.bytes

    -- 20 to 22 let each moment pass
    pub fleet_passes : fleet_fault t r ≡ 0
    fleet_passes =
        or_none (cond (eqb (length r) (8 * x.links)) 0 20) (or_else (first (link_bytes_fault r) x.links) (first probe x.probes))
        (rw (eq-eqb (length r) (8 * x.links) h.long))
        ∙ or_none (first (link_bytes_fault r) x.links) (first probe x.probes) (marked_passes t r (legal_table 256 2048 t legal) h.marked)
        ∙ none_first probe x.probes
        (λ p l. rw (le-ltb (spare t p) (standing t p (own t p r)) (h.good.standing p), le-ltb (spare t p) (held t p (own t p r)) (h.good.holding p)))
      where
        probe : ℕ → ℕ
        probe p = spare_fault t p (own t p r)

    -- so a line's fault is its own
    pub fault_is : (room : ℕ) (l : List ℕ)
        → fault_of x room s l ≡ or_else (event_line_fault t l) (or_else (unsent_of t r (frame_of l)) (room_left_fault (length s.log) room))
    fault_is room l = rw (fine, fleet_passes)

    module _ (room : ℕ) (l : List ℕ) where
      abbrev unsent : ℕ
      unsent = unsent_of t r (frame_of l)

      abbrev full : ℕ
      full = room_left_fault (length s.log) room

      pub passed : fault_of x room s l ≡ 0 → Passed x room s l
      passed e =
          let a = sym (fault_is room l) ∙ e in
          let b = or_right (event_line_fault t l) (or_else unsent full) a in
          record {
            line = or_left (event_line_fault t l) (or_else unsent full) a;
            sent = or_left unsent full b;
            free = ltb-true (length s.log) room (unless_none (ltb (length s.log) room) 25 (or_right unsent full b));
          }

      pub passed_fault : Passed x room s l → fault_of x room s l ≡ 0
      passed_fault a =
          fault_is room l
          ∙ or_none (event_line_fault t l) (or_else unsent full) a.line
          ∙ or_none unsent full a.sent
          ∙ rw (lt-ltb (length s.log) room a.free)

      pub next_accepted : Passed x room s l → next x room s l ≡ accepted x s l
      unfolding next
      next_accepted a = rw (passed_fault a)

      -- a line is accepted, or the state stays
      next_is : (Passed x room s l × (next x room s l ≡ accepted x s l)) ⊎ (next x room s l ≡ s)
      unfolding next
      next_is = go (ℕ_discrete (fault_of x room s l) 0)
        where
          go : Dec (fault_of x room s l ≡ 0)
              → (Passed x room s l × (cond (eqb (fault_of x room s l) 0) (accepted x s l) s ≡ accepted x s l)) ⊎ (cond (eqb (fault_of x room s l) 0) (accepted x s l) s ≡ s)
          go (yes e) = inl (passed e, rw e)
          go (no d) = inr (rw (ne_eqb (fault_of x room s l) 0 d))

      module _ (a : Passed x room s l) where
        abbrev step_by : StepBy t r (frame_of l).to (outcome_of t r (frame_of l))
        step_by = line_step t legal r h.long l a.line a.sent

        abbrev p : ℕ
        p = (frame_of l).to

        abbrev o : Outcome
        o = outcome_of t r (frame_of l)

        -- the states after an event of p, and after its restart
        abbrev evented : State
        evented = record { bytes = alter_fleet t p o r; log = s.log ++ (entry_of t p o ∷ []) }

        abbrev restart_entry : Entry
        restart_entry = record { probe = p; what = what.Restarted }

        abbrev restarted : State
        restarted = record { bytes = wiped t p r; log = s.log ++ (restart_entry ∷ []) }

        -- an accepted line is one of both
        abbrev Either : Type 0
        Either = ((restarts (frame_of l) ≡ true) × (accepted x s l ≡ restarted)) ⊎ ((restarts (frame_of l) ≡ false) × (accepted x s l ≡ evented))

        accepted_is : Either
        accepted_is = go (decided (restarts (frame_of l)))
          where
            state : {b b' : List ℕ} {e e' : Entry} → b ≡ b' → e ≡ e'
                → ◌≡◌ {A = State} (record { bytes = b; log = s.log ++ (e ∷ []) }) (record { bytes = b'; log = s.log ++ (e' ∷ []) })
            state e f = rw (e, f)

            go : (restarts (frame_of l) ≡ true) ⊎ (restarts (frame_of l) ≡ false)
                → Either
            go (inl e) = inl (e, state (altered_restart t r (frame_of l) e) (entry_restart t r (frame_of l) e))
            go (inr e) = inr (e, state (altered_event t r (frame_of l) e) (entry_event t r (frame_of l) e))

        -- each mark is 1 where it was 1 or its byte now permits the frame
        accepted_marks : MarksAfter t r (accepted x s l).bytes
        accepted_marks = go accepted_is
          where
            go : Either
                → MarksAfter t r (accepted x s l).bytes
            go (inl a) = subst (λ y. MarksAfter t r y.bytes) (sym a.1) (marks_wiped t r h.marked h.long p)
            go (inr a) = subst (λ y. MarksAfter t r y.bytes) (sym a.1) (marks_altered t r h.marked h.long p o step_by.own_links)

        event_good : FleetInv t (OfferMarked t evented.bytes) (RefusalMarked t evented.bytes) (out_of t evented.bytes) (in_of t evented.bytes)
        event_good =
            inv_marks t (EverOffered (OfferMarked t r) o') (Refused t (RefusalMarked t r) n') (OfferMarked t r') (RefusalMarked t r') o' n' (λ q i. ((m.outs q i).law.1, (m.outs q i).law.0))
            (λ q i. (denied q i, refused q i)) (inv_step t legal (OfferMarked t r) (RefusalMarked t r) (out_of t r) (in_of t r) o' n' h.good step_by.step)
          where
            r' : List ℕ
            r' = evented.bytes

            o' : ℕ → ℕ → ℕ
            o' = out_of t r'

            n' : ℕ → ℕ → ℕ
            n' = in_of t r'

            m : MarksAfter t r r'
            m = marks_altered t r h.marked h.long p o step_by.own_links

            denied : (q i : ℕ) → Refused t (RefusalMarked t r) n' q i → RefusalMarked t r' q i
            denied q i (inl (w, y, e)) = (w, y, (m.ins w i).law.1 (inl e))
            denied q i (inr (w, y, e)) = (w, y, (m.ins w i).law.1 (inr e))

            refused : (q i : ℕ) → RefusalMarked t r' q i → Refused t (RefusalMarked t r) n' q i
            refused q i (w, y, e) = go ((m.ins w i).law.0 e)
              where
                go : (in_mark t r w i ≡ 1) ⊎ (n' w i ≡ 2) → Refused t (RefusalMarked t r) n' q i
                go (inl f) = inl (w, y, f)
                go (inr f) = inr (w, y, f)

        event_holds : HoldsAfter t evented
        event_holds =
            record {
              long = length_altered t p o r ∙ h.long;
              marked = marks_fit (marks_altered t r h.marked h.long p o step_by.own_links);
              good = event_good;
              log_in = λ i li b. log_in i li (before_or_new t i (entry_of t p o) s.log b);
              in_log = λ q i e. in_log q i (mark_new t p (in_mark t r) o step_by.own_links q i (sym (altered_in_mark t p r h.long o step_by.own_links q i) ∙ e));
            }
          where
            r' : List ℕ
            r' = evented.bytes

            log_in : (i : ℕ) → i < x.links → RefusedIn t i s.log ⊎ Refuses t i p (what_of t p o) → (q : ℕ) × (in_mark t r' q i ≡ 1)
            log_in i li (inl b) =
                let q = h.log_in i li b in
                (q.0, ((marks_altered t r h.marked h.long p o step_by.own_links).ins q.0 i).law.1 (inl q.1))
            log_in i li (inr b) = (p, altered_in_mark t p r h.long o step_by.own_links p i ∙ new_mark t p (in_mark t r) legal o step_by.own_links i li b)

            in_log : (q i : ℕ) → (in_mark t r q i ≡ 1) ⊎ Refuses t i p (what_of t p o) → RefusedIn t i evented.log
            in_log q i (inl e) = in_before t i (entry_of t p o) s.log (h.in_log q i e)
            in_log q i (inr b) = in_new t i (entry_of t p o) s.log b

        restart_holds : HoldsAfter t restarted
        restart_holds =
            record {
              long = length_wiped t p r ∙ h.long;
              marked = marks_fit (marks_wiped t r h.marked h.long p);
              good = inv_marks t (OfferMarked t r) (RefusalMarked t r) (OfferMarked t r') (RefusalMarked t r') (out_of t r') (in_of t r')
                  (λ q i. (λ e. wiped_out_mark t p r q i ∙ e, λ e. sym (wiped_out_mark t p r q i) ∙ e))
                  (λ q i. (λ g. (g.0, g.1, wiped_in_mark t p r g.0 i ∙ g.2), λ g. (g.0, g.1, sym (wiped_in_mark t p r g.0 i) ∙ g.2)))
                  (inv_wipe t (OfferMarked t r) (RefusalMarked t r) (out_of t r) (in_of t r) (out_of t r') (in_of t r') p h.good (wiped_out t p r h.long) (wiped_in t p r h.long)
                  (wiped_out_else t p r h.long) (wiped_in_else t p r h.long));
              log_in = λ i li b. log_in i li (before_or_new t i restart_entry s.log b);
              in_log = λ q i e. in_before t i restart_entry s.log (h.in_log q i (sym (wiped_in_mark t p r q i) ∙ e));
            }
          where
            r' : List ℕ
            r' = restarted.bytes

            log_in : (i : ℕ) → i < x.links → RefusedIn t i s.log ⊎ ⊥ → (q : ℕ) × (in_mark t r' q i ≡ 1)
            log_in i li (inl b) = let q = h.log_in i li b in (q.0, wiped_in_mark t p r q.0 i ∙ q.1)
            log_in i li (inr b) = absurd b

        pub accepted_holds : HoldsAfter t (accepted x s l)
        accepted_holds = go accepted_is
          where
            go : Either → HoldsAfter t (accepted x s l)
            go (inl a) = subst (HoldsAfter t) (sym a.1) restart_holds
            go (inr a) = subst (HoldsAfter t) (sym a.1) event_holds

        -- one that is no restart is a step
        pub accepted_steps : restarts (frame_of l) ≡ false → Steps t r (accepted x s l).bytes
        accepted_steps e = subst (Steps t r) (sym (altered_event t r (frame_of l) e)) step_by.step

      pub next_holds : HoldsAfter t (next x room s l)
      next_holds = go next_is
        where
          go : (Passed x room s l × (next x room s l ≡ accepted x s l)) ⊎ (next x room s l ≡ s) → HoldsAfter t (next x room s l)
          go (inl (a, e)) = rw e (accepted_holds a)
          go (inr e) = rw e h

      pub next_marks : MarksAfter t r (next x room s l).bytes
      next_marks = go next_is
        where
          go : (Passed x room s l × (next x room s l ≡ accepted x s l)) ⊎ (next x room s l ≡ s) → MarksAfter t r (next x room s l).bytes
          go (inl (a, e)) = rw e (accepted_marks a)
          go (inr e) = rw e (marks_unaltered t r h.marked)

      -- an accepted restart wipes; any other line is a step
      abbrev pub WipesOrSteps : Type 0
      WipesOrSteps = ((restarts (frame_of l) ≡ true) × Passed x room s l × ((next x room s l).bytes ≡ wiped t (frame_of l).to r)) ⊎ Steps t r (next x room s l).bytes

      pub wipes_or_steps : WipesOrSteps
      wipes_or_steps = go next_is (decided (restarts (frame_of l)))
        where
          go : (Passed x room s l × (next x room s l ≡ accepted x s l)) ⊎ (next x room s l ≡ s) → (restarts (frame_of l) ≡ true) ⊎ (restarts (frame_of l) ≡ false)
              → WipesOrSteps
          go (inl (a, e)) (inl is) = inl (is, a, ap (λ y. y.bytes) e ∙ altered_restart t r (frame_of l) is)
          go (inl (a, e)) (inr is) = inr (rw e (accepted_steps a is))
          go (inr e) is = inr (rw e (stays t r))

      pub event_steps : (IsRestart t l → (e : Entry) → answer_to x room s l ≡ Logged e → ⊥) → Steps t r (next x room s l).bytes
      event_steps none = go wipes_or_steps
        where
          go : WipesOrSteps
              → Steps t r (next x room s l).bytes
          go (inl (is, a, e)) = absurd (none (a.line, eqb-true (frame_of l).kind 3 is) (entry_by t r (frame_of l)) (rw (passed_fault a) refl))
          go (inr step) = step

  pub run_holds : (room : ℕ) (s : State) → HoldsAfter t s → (ls : List (List ℕ)) → HoldsAfter t (run x room s ls)
  unfolding run
  run_holds room s h [] = h
  run_holds room s h (l ∷ ls) = run_holds room (next x room s l) (next_holds s h room l) ls
