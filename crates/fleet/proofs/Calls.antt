-- A line that is refused, and one that is accepted, by a fleet whose table and record are fine.
use Prim.Native.Nat.{ℕ, ◌≤◌, ◌<◌}
use mathlib.Core.Path.{◌≡◌, refl, sym, ◌∙◌, ap, ap₂}
use mathlib.Core.Bool.{Bool, true, false, cond}
use mathlib.Core.List.{List, [], ◌∷◌}
use lib.Dec.{ltb, eqb}
use lib.ListN.{length}
use borrow.Author.Tests.{lt-ltb, le-ltb, ne_eqb}
use native.Mathlib.Omega.{arith}
use Rattle.range.specs.First.{or_else}
use Rattle.range.specs.Reply.{refusal, values, reply_of}
use Rattle.range.proofs.Faults.{or_here, or_none, or_through}
use Rattle.table.specs.Table.{Table, of_slices, between}
use Rattle.table.specs.Slices.{slice_fault, Slices, table_of, slices_fault, slices_of}
use Rattle.probe_frame.specs.Frame.{Frame, frame_of, frame_read}
use Rattle.probe_frame.specs.declared.FrameLine.{FrameLine}
use Rattle.wake_log.specs.declared.Entry.{Entry}
use Rattle.wake_log.specs.declared.Answer.{Answer}
use Rattle.wake_log.specs.declared.Answer.TheVariants.{Logged, Refused}
use Rattle.wake_log.specs.declared.What.TheVariants.{Restarted}
use Rattle.wake_log.specs.Entry.{entry_values, answer_reply, answer_of}
use Rattle.wake_log.proofs.Answers.{answer_is, answer_reply_lem}
use mathlib.Core.Logic.{◌⊎◌, inl, inr}
use Rattle.range.proofs.Bools.{decided}
use Rattle.probe_rules.specs.declared.Event.{Event}
use Rattle.probe_rules.specs.declared.Event.TheVariants.{Opening, Offer, Refusal}
use Rattle.probe_rules.specs.declared.Outcome.{Outcome}
use Rattle.probe_rules.specs.Rules.{befalls, entry_of}
use Rattle.probe_rules.specs.Within.{EventWithin}
use Rattle.probe_rules.proofs.OutcomeLaws.{entry_same, befalls_same}
use Rattle.fleet_theory.specs.Fleet.{own, marks, fleet_fault, restarts, of_one_probe, event_line_fault, event_of, unsent_fault, event_fault, outcome_of, alter_fleet, wiped, altered_by, entry_by, State, fault_of, answer_to, accepted, next}
use Rattle.fleet.specs.declared.Finishing.{Finishing}
use Rattle.fleet.specs.declared.Finishing.TheVariants as finishing
use Rattle.fleet.specs.Answers.{Handled, finishing_reply}
use Rattle.fleet_theory.proofs.Own.{own_same, marks_same}
use Rattle.fleet_theory.proofs.Wipe.{wiped_same}

refused_answer : (fault n : ℕ) (vs : List ℕ) → n ≡ fault → (n ≡ 0 → ⊥) → answer_reply (Refused n) ≡ reply_of fault vs
refused_answer fault n vs e some = rw (← e, ne_eqb n 0 some)

stays : (fault n : ℕ) (r r' : List ℕ) → n ≡ fault → (n ≡ 0 → ⊥) → r ≡ cond (eqb fault 0) r' r
stays fault n r r' e some = rw (← e, ne_eqb n 0 some)

logged_answer : (fault : ℕ) (e e' : Entry) → fault ≡ 0 → e ≡ e' → answer_reply (Logged e) ≡ reply_of fault (entry_values e')
logged_answer fault e e' none is = rw (none, is)

altered : (fault : ℕ) (r r' r'' : List ℕ) → fault ≡ 0 → r'' ≡ r' → r'' ≡ cond (eqb fault 0) r' r
altered fault r r' r'' none is = rw none is

pub finishing_refused : (fault n : ℕ) (vs : List ℕ) → n ≡ fault → (n ≡ 0 → ⊥) → finishing_reply (finishing.Refused n) ≡ reply_of fault vs
finishing_refused fault n vs e some = rw (← e, ne_eqb n 0 some)

pub finishing_says : (fault : ℕ) (b b' : Bool) → fault ≡ 0 → b ≡ b' → finishing_reply (finishing.Says b) ≡ reply_of fault (cond b' 1 0 ∷ [])
finishing_says fault b b' none is = rw (none, is)

pub finishing_is : (q : Finishing) (fault : ℕ) (b : Bool) → finishing_reply q ≡ reply_of fault (cond b 1 0 ∷ []) → q ≡ cond (eqb fault 0) (finishing.Says b) (finishing.Refused fault)
finishing_is q fault b e = go q (eqb fault 0) b e
  where
    go : (q : Finishing) (none b : Bool) → finishing_reply q ≡ cond none (values (cond b 1 0 ∷ [])) (refusal fault) → q ≡ cond none (finishing.Says b) (finishing.Refused fault)
    go (finishing.Says true) true true e = refl
    go (finishing.Says true) true false e = let z : ◌≡◌ {A = ℕ} 0 1 = cc in absurd (omega arith)
    go (finishing.Says false) true true e = let z : ◌≡◌ {A = ℕ} 0 1 = cc in absurd (omega arith)
    go (finishing.Says false) true false e = refl
    go (finishing.Says a) false b e = let z : ◌≡◌ {A = ℕ} 0 1 = cc in absurd (omega arith)
    go (finishing.Refused n) true b e = let z : ◌≡◌ {A = ℕ} 0 1 = cc in absurd (omega arith)
    go (finishing.Refused n) false b e = cc

-- by its fault
pub refused_call : (x : Slices) (used room : ℕ) (line r : List ℕ) (n : ℕ) → n ≡ event_fault x r used room line → (n ≡ 0 → ⊥)
    → Handled x used room line (Refused n) r r
refused_call x used room line r n e some =
    record { answer = refused_answer (event_fault x r used room line) n _ e some; record_after_lem = stays (event_fault x r used room line) n r _ e some }

module _ (number probes links : ℕ) (needs lows highs costs : List ℕ) (used room : ℕ) (line r : List ℕ) where
  abbrev x : Slices
  x = slices_of number probes links needs lows highs costs

  abbrev t : Table
  t = table_of x

  abbrev f : Frame
  f = frame_of line

  abbrev unsent : ℕ
  unsent = unsent_fault (event_of t f) (marks t f.from r)

  pub state_refused : (n : ℕ) → n ≡ or_else (slices_fault x) (fleet_fault t r) → (n ≡ 0 → ⊥) → Handled x used room line (Refused n) r r
  state_refused n e some =
      refused_call x used room line r n
      (or_through n (slices_fault x) (fleet_fault t r) (or_else (event_line_fault t line) (or_else unsent (cond (ltb used room) 0 26))) e some) some

  -- 27, as the code finds it
  pub unsent_is : (n p : ℕ) (v : Event) → v ≡ event_of t f → p ≡ f.from → EventWithin links (event_of t f)
      → (EventWithin links v → n ≡ unsent_fault v (marks (of_slices 0 0 links [] lows highs []) p r)) → n ≡ unsent
  unsent_is n p v ev ep w e = e (rw ev w) ∙ rw (ev, ep, marks_same number probes links needs lows highs costs f.from r)

  module _ (fine : slices_fault x ≡ 0) (good : fleet_fault t r ≡ 0) where
    -- the fault is the line's
    of_line : (n : ℕ) → n ≡ or_else (event_line_fault t line) (or_else unsent (cond (ltb used room) 0 26)) → n ≡ event_fault x r used room line
    of_line n e =
        e
        ∙ sym (or_none (slices_fault x) (or_else (fleet_fault t r) (or_else (event_line_fault t line) (or_else unsent (cond (ltb used room) 0 26)))) fine
        ∙ or_none (fleet_fault t r) (or_else (event_line_fault t line) (or_else unsent (cond (ltb used room) 0 26))) good)

    pub line_refused : (n : ℕ) → n ≡ event_line_fault t line → (n ≡ 0 → ⊥) → Handled x used room line (Refused n) r r
    line_refused n e some = refused_call x used room line r n (of_line n (or_here n (event_line_fault t line) (or_else unsent (cond (ltb used room) 0 26)) e some)) some

    module _ (passed : event_line_fault t line ≡ 0) where
      pub unsent_refused : (n : ℕ) → n ≡ unsent → (n ≡ 0 → ⊥) → Handled x used room line (Refused n) r r
      unsent_refused n e some =
          refused_call x used room line r n
          (of_line n (or_here n unsent (cond (ltb used room) 0 26) e some ∙ sym (or_none (event_line_fault t line) (or_else unsent (cond (ltb used room) 0 26)) passed))) some

      module _ (sent : unsent ≡ 0) where
        last : (n : ℕ) → n ≡ cond (ltb used room) 0 26 → n ≡ event_fault x r used room line
        last n e =
            of_line n
            (e
            ∙ sym (or_none (event_line_fault t line) (or_else unsent (cond (ltb used room) 0 26)) passed
            ∙ or_none unsent (cond (ltb used room) 0 26) sent))

        pub full_refused : room ≤ used → Handled x used room line (Refused 26) r r
        full_refused l = refused_call x used room line r 26 (last 26 (rw (le-ltb used room l))) (λ z. omega arith)

        -- by the kind k, the probe p and the event v that the code found
        pub line_accepted : used < room → (k p : ℕ) (v : Event) → k ≡ f.kind → p ≡ f.to → v ≡ event_of t f → (e : Entry) (r' : List ℕ)
            → (let o = befalls t p v (own t p r) in
            (e ≡ cond (eqb k 3) (record { probe = p; what = Restarted }) (entry_of t p o)) × (r' ≡ cond (eqb k 3) (wiped t p r) (alter_fleet t p o r)))
            → Handled x used room line (Logged e) r r'
        line_accepted l k p v ek ep ev e r' is =
            record {
              answer = logged_answer (event_fault x r used room line) e (entry_by t r f) none (rw (ek, ep, ev) at is.0);
              record_after_lem = altered (event_fault x r used room line) r (altered_by t r f) r' none (rw (ek, ep, ev) at is.1);
            }
          where
            none : event_fault x r used room line ≡ 0
            none = sym (last 0 (rw (lt-ltb used room l)))

-- the answer, by the fault found
pub handled_answer : {x : Slices} {used room : ℕ} {line : List ℕ} {r : Answer} {before after : List ℕ} → Handled x used room line r before after
    → r ≡ answer_of (event_fault x before used room line) (entry_by (table_of x) before (frame_of line))
handled_answer {x} {used} {room} {line} {r} {before} h =
    answer_is r (event_fault x before used room line) (entry_by (table_of x) before (frame_of line)) h.answer

pub handled_is : (x : Slices) (used room : ℕ) (line : List ℕ) (r : Answer) (before after : List ℕ)
    → r ≡ answer_of (event_fault x before used room line) (entry_by (table_of x) before (frame_of line))
    → after ≡ cond (eqb (event_fault x before used room line) 0) (altered_by (table_of x) before (frame_of line)) before
    → Handled x used room line r before after
handled_is x used room line r before after e f =
    record {
      answer = answer_reply_lem r (event_fault x before used room line) (entry_by (table_of x) before (frame_of line)) e;
      record_after_lem = f;
    }

-- a line handled is a step of the list of lines
pub handled_next : (x : Slices) (room : ℕ) (s : State) (l : List ℕ) (r : Answer) (after : List ℕ) → Handled x (length s.log) room l r s.bytes after
    → (r ≡ answer_to x room s l) × (after ≡ (next x room s l).bytes)
unfolding next
handled_next x room s l r after h = (handled_answer h, h.record_after_lem ∙ go (eqb (fault_of x room s l) 0))
  where
    go : (b : Bool) → cond b (altered_by (table_of x) s.bytes (frame_of l)) s.bytes ≡ (cond b (accepted x s l) s).bytes
    go true = refl
    go false = refl

-- what a line past its checks says, by the frame that was read and the link that was found
pub record ReadSays (t : Table) (l : List ℕ) (r : FrameLine) (v : Event) : Type 0 where
  pub event : v ≡ event_of t (frame_of l)
  pub kind : r.kind ≡ (frame_of l).kind
  pub from : r.from ≡ (frame_of l).from
  pub to : r.to ≡ (frame_of l).to

pub read_says : (number probes links : ℕ) (needs lows highs costs l : List ℕ) (r : FrameLine) (link : ℕ) (v : Event) → frame_read r ≡ frame_of l
    → v ≡ cond (of_one_probe r.kind) Opening (cond (eqb r.kind 1) (Offer link) (Refusal link))
    → (of_one_probe r.kind ≡ false → link ≡ between (of_slices 0 probes links [] lows highs []) r.from r.to)
    → ReadSays (of_slices number probes links needs lows highs costs) l r v
read_says number probes links needs lows highs costs l r link v same e f =
    record {
      event = e ∙ go (decided (of_one_probe r.kind)) ∙ ap (event_of (of_slices number probes links needs lows highs costs)) same;
      kind = ap (λ (f : Frame). f.kind) same;
      from = ap (λ (f : Frame). f.from) same;
      to = ap (λ (f : Frame). f.to) same;
    }
  where
    go : (of_one_probe r.kind ≡ true) ⊎ (of_one_probe r.kind ≡ false)
        → cond (of_one_probe r.kind) Opening (cond (eqb r.kind 1) (Offer link) (Refusal link)) ≡ event_of (of_slices number probes links needs lows highs costs) (frame_read r)
    go (inl k) = rw k
    go (inr k) = rw (k, f k)
