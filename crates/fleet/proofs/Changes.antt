-- How many changes an event makes: as many as its entry says. Each byte stored anew is one; a mark is none.
use Prim.Native.Nat.{ℕ, ◌+◌, ◌*◌, ◌≤◌, ◌<◌}
use mathlib.Core.Path.{◌≡◌, refl, sym, ◌∙◌, ap, subst}
use mathlib.Core.Logic.{◌⊎◌, inl, inr}
use mathlib.Core.Bool.{true, false, cond, true≢false}
use mathlib.Core.List.{List}
use native.Mathlib.Omega.{arith}
use native.Mathlib.Decide.{ℕ_discrete}
use lib.Dec.{eqb}
use lib.ListN.{length, set, length-set}
use lib.Seq.{get_or-set_same, get_or-set_other}
use borrow.Author.Tests.{eq-eqb, ne_eqb}
use Rattle.range.specs.Sum.{sum}
use Rattle.range.proofs.Bools.{decided}
use Rattle.range.proofs.Sums.{sum_same, sum_add, sum_one, none_count}
use Rattle.table.specs.Table.{Table, item}
use Rattle.probe_record.specs.Record.{outbound, inbound}
use Rattle.probe_frame.specs.Frame.{Frame, frame_of}
use Rattle.wake_log.specs.declared.Entry.{Entry}
use Rattle.wake_log.specs.declared.Answer.{Answer}
use Rattle.wake_log.specs.Entry.{answer_of}
use Rattle.probe_rules.specs.declared.Event.{Event}
use Rattle.probe_rules.specs.declared.Outcome.{Outcome}
use Rattle.probe_rules.specs.declared.Outcome.TheVariants.{Opened, Enough, Taken, TakenDisplacing, Refused, RefusalLearnt, NoChange, AllTried}
use Rattle.probe_rules.specs.Rules.{what_of}
use Rattle.fleet_theory.specs.Fleet.{out_at, in_at, own, fleet_fault, restarts, event_fault, event_of, outcome_of, alter_fleet, altered_by, entry_by, differs, link_changes, frame_changes}
use Rattle.table.specs.Slices.{Slices, table_of, slices_fault}
use Rattle.fleet_theory.proofs.Own.{Place, ReadsAt, out_reads, in_reads, out_mark_reads, in_mark_reads}
use Rattle.fleet.proofs.Calls.{handled_answer}
use Rattle.probe_rules.specs.Within.{OwnLink, OwnOutcome}
use Rattle.probe_rules.proofs.Befalls.{Befell, opened, enough, all_tried, taken, displacing, refused, seen, learnt, known, befell}
use Rattle.fleet.proofs.Checks.{line_within}
use Rattle.fleet_theory.proofs.Events.{line_step, entry_restart, altered_event, entry_event}
use Rattle.fleet_theory.proofs.Changes.{no_changes, no_frame_changes}
use Rattle.fleet_theory.proofs.Run.{slices_legal}
use Rattle.fleet.specs.Answers.{Handled, changes_of, changes_by}
use Rattle.fleet_state.proofs.CheckLaws.{fleet_good}
use Rattle.fleet.proofs.Passing.{passed_line}

-- what an outcome stores differs from what stood there; e are the probe's own bytes
abbrev NewBytes : List ℕ → Outcome → Type 0
NewBytes e (Opened i) = outbound e i ≡ 1 → ⊥
NewBytes e Enough = Unit
NewBytes e (Taken i) = inbound e i ≡ 1 → ⊥
NewBytes e (TakenDisplacing i c) = (inbound e i ≡ 0) × (inbound e c ≡ 1)
NewBytes e (Refused i) = inbound e i ≡ 2 → ⊥
NewBytes e (RefusalLearnt i) = outbound e i ≡ 2 → ⊥
NewBytes e (NoChange i) = Unit
NewBytes e AllTried = Unit

befell_new : {t : Table} {p : ℕ} {e : List ℕ} {v : Event} {o : Outcome} → Befell t p e v o → NewBytes e o
befell_new (opened i a z m h) = λ q. omega arith
befell_new (enough m) = tt
befell_new (all_tried m h) = tt
befell_new (taken i z m) = λ q. omega arith
befell_new (displacing i c z m a y d h) = (z, y)
befell_new (refused i z m h) = λ q. omega arith
befell_new (seen i d) = tt
befell_new (learnt i d) = d
befell_new (known i y) = tt

same_byte : (r r' : List ℕ) (m : ℕ) → item r' m ≡ item r m → differs r r' m ≡ 0
same_byte r r' m e = rw (e, eq-eqb (item r m) (item r m) refl)

other_byte : (r r' : List ℕ) (m v : ℕ) → item r' m ≡ v → (item r m ≡ v → ⊥) → differs r r' m ≡ 1
other_byte r r' m v e d = rw (e, ne_eqb (item r m) v d)

-- no byte of a link differs
link_same : (r r' : List ℕ) (i : ℕ) → ((k : ℕ) → k < 4 → item r' (8 * i + k) ≡ item r (8 * i + k)) → link_changes r r' i ≡ 0
link_same r r' i same =
    sum_same 4 (λ k. differs r r' (8 * i + k)) (λ k. cond false 1 0) (λ k l. same_byte r r' (8 * i + k) (same k l)) ∙ none_count 4 (λ k. false) (λ k l e. true≢false (sym e))

-- one byte of a link is stored anew
link_one : (r : List ℕ) (i k v : ℕ) → k < 4 → 8 * i + k < length r → (item r (8 * i + k) ≡ v → ⊥) → link_changes r (set r (8 * i + k) v) i ≡ 1
link_one r i k v l within new =
    sum_same 4 (λ m. differs r (set r (8 * i + k) v) (8 * i + m)) (λ m. cond (eqb m k) 1 0) (λ m _. go m (ℕ_discrete m k)) ∙ sum_one 4 (λ m. 1) k l
  where
    go : (m : ℕ) → Dec (m ≡ k) → differs r (set r (8 * i + k) v) (8 * i + m) ≡ cond (eqb m k) 1 0
    go m (yes e) = rw (e, eq-eqb k k refl) (other_byte r (set r (8 * i + k) v) (8 * i + k) v (get_or-set_same r (8 * i + k) v 0 within) new)
    go m (no d) = rw (ne_eqb m k d) (same_byte r (set r (8 * i + k) v) (8 * i + m) (get_or-set_other r (8 * i + k) (8 * i + m) v 0 (λ e. d (omega arith))))

-- the changes of the first n links
abbrev total : ℕ → List ℕ → List ℕ → ℕ
total n r r' = sum n (link_changes r r')

module _ (n : ℕ) (r : List ℕ) where
  byte_change : (i k v : ℕ) → i < n → k < 4 → 8 * i + k < length r → (item r (8 * i + k) ≡ v → ⊥) → total n r (set r (8 * i + k) v) ≡ 1
  byte_change i k v l m within new =
      sum_same n (link_changes r (set r (8 * i + k) v)) (λ j. cond (eqb j i) 1 0) (λ j _. go j (ℕ_discrete j i)) ∙ sum_one n (λ j. 1) i l
    where
      go : (j : ℕ) → Dec (j ≡ i) → link_changes r (set r (8 * i + k) v) j ≡ cond (eqb j i) 1 0
      go j (yes e) = rw (e, eq-eqb i i refl) (link_one r i k v m within new)
      go j (no d) =
          rw (ne_eqb j i d)
          (link_same r (set r (8 * i + k) v) j (λ a b. get_or-set_other r (8 * i + k) (8 * j + a) v 0 (λ e. d (omega arith))))

  mark_change : (i k v : ℕ) → 4 ≤ k → k < 8 → total n r (set r (8 * i + k) v) ≡ 0
  mark_change i k v l m =
      sum_same n (link_changes r (set r (8 * i + k) v)) (λ j. cond false 1 0)
      (λ j _. link_same r (set r (8 * i + k) v) j (λ a b. get_or-set_other r (8 * i + k) (8 * j + a) v 0 (λ e. omega arith)))
      ∙ none_count n (λ j. false) (λ j k e. true≢false (sym e))

  -- a second byte is stored at another place
  changes_add : (r' : List ℕ) (j w : ℕ) → item r' j ≡ item r j → total n r (set r' j w) ≡ total n r r' + total n r' (set r' j w)
  changes_add r' j w same =
      sum_same n (link_changes r r'') (λ i. link_changes r r' i + link_changes r' r'' i) (λ i _. link i) ∙ sum_add n (link_changes r r') (link_changes r' r'')
    where
      r'' : List ℕ
      r'' = set r' j w

      at : (m : ℕ) → Dec (m ≡ j) → differs r r'' m ≡ differs r r' m + differs r' r'' m
      at m (yes e) = let a = same_byte r r' m (rw e same) in let b : item r m ≡ item r' m = rw e (sym same) in let c : differs r r'' m ≡ differs r' r'' m = rw b in omega arith
      at m (no d) = let a = same_byte r' r'' m (get_or-set_other r' j m w 0 d) in rw (a, get_or-set_other r' j m w 0 d) (omega arith)

      link : (i : ℕ) → link_changes r r'' i ≡ link_changes r r' i + link_changes r' r'' i
      link i =
          sum_same 4 (λ k. differs r r'' (8 * i + k)) (λ k. differs r r' (8 * i + k) + differs r' r'' (8 * i + k)) (λ k _. at (8 * i + k) (ℕ_discrete (8 * i + k) j))
          ∙ sum_add 4 (λ k. differs r r' (8 * i + k)) (λ k. differs r' r'' (8 * i + k))

module _ (t : Table) (p : ℕ) where
  -- an own byte, and an own mark
  module _ {k m : ℕ} {at : ℕ → ℕ → ℕ} {byte : List ℕ → ℕ → ℕ → ℕ} (reads : ReadsAt t k m at byte) (r : List ℕ) (i v : ℕ) (a : OwnLink t p i) where
    one_byte : k < 4 → m < 4 → length r ≡ 8 * t.links → (byte r p i ≡ v → ⊥) → total t.links r (set r (at p i) v) ≡ 1
    one_byte lk lm long new = go (reads.place p i a.1) (reads.own_byte r p i a)
      where
        go : Place t k m at p i → byte r p i ≡ item r (at p i) → total t.links r (set r (at p i) v) ≡ 1
        go (inl b) e = rw b.1 (byte_change t.links r i k v a.0 lk (omega (arith, a.0)) (λ z. new (e ∙ rw b.1 z)))
        go (inr b) e = rw b.1 (byte_change t.links r i m v a.0 lm (omega (arith, a.0)) (λ z. new (e ∙ rw b.1 z)))

    one_mark : 4 ≤ k → 4 ≤ m → total t.links r (set r (at p i) v) ≡ 0
    one_mark lk lm = go (reads.place p i a.1) reads.within
      where
        go : Place t k m at p i → (k < 8) × (m < 8) → total t.links r (set r (at p i) v) ≡ 0
        go (inl b) c = rw b.1 (mark_change t.links r i k v lk c.0)
        go (inr b) c = rw b.1 (mark_change t.links r i m v lm c.1)

  module _ (r : List ℕ) (long : length r ≡ 8 * t.links) where
    out_one : (i v : ℕ) → OwnLink t p i → (outbound (own t p r) i ≡ v → ⊥) → total t.links r (set r (out_at t p i) v) ≡ 1
    out_one i v a = one_byte (out_reads t) r i v a (omega arith) (omega arith) long

    in_one : (i v : ℕ) → OwnLink t p i → (inbound (own t p r) i ≡ v → ⊥) → total t.links r (set r (in_at t p i) v) ≡ 1
    in_one i v a = one_byte (in_reads t) r i v a (omega arith) (omega arith) long

  -- then a mark is set
  marked_too : (r r' : List ℕ) (j n : ℕ) → item r' j ≡ item r j → total t.links r r' ≡ n → total t.links r' (set r' j 1) ≡ 0 → total t.links r (set r' j 1) ≡ n
  marked_too r r' j n same e none = let a = changes_add t.links r r' j 1 same in omega arith

  -- the place of a mark is none of a byte's
  off : (r : List ℕ) (a v : ℕ) → item (set r a v) (a + 4) ≡ item r (a + 4)
  off r a v = get_or-set_other r a (a + 4) v 0 (λ e. omega arith)

  module _ (r : List ℕ) (long : length r ≡ 8 * t.links) where
    outcome_changes : (o : Outcome) → OwnOutcome t p o → NewBytes (own t p r) o → total t.links r (alter_fleet t p o r) ≡ changes_of (what_of t p o)
    outcome_changes (Opened i) a new =
        let at = out_at t p i in
        marked_too r (set r at 1) (at + 4) 1 (off r at 1) (out_one r long i 1 a new) (one_mark (out_mark_reads t) (set r at 1) i 1 a (omega arith) (omega arith))
    outcome_changes Enough a new = no_changes r t.links
    outcome_changes (Taken i) a new = in_one r long i 1 a new
    outcome_changes (TakenDisplacing i c) a new =
        marked_too r r'' (next + 4) 2 (marks_same_place) two (one_mark (in_mark_reads t) r'' c 1 a.1 (omega arith) (omega arith))
      where
        at : ℕ
        at = in_at t p i

        next : ℕ
        next = in_at t p c

        r' : List ℕ
        r' = set r at 1

        r'' : List ℕ
        r'' = set r' next 2

        apart : next ≡ at → ⊥
        apart e =
            let b = (in_reads t).own_byte r p i a.0 in
            let d = (in_reads t).own_byte r p c a.1 in
            let s = ap (item r) e in
            let z = new.0 in
            let one = new.1 in
            omega arith

        held : item r' next ≡ item r next
        held = get_or-set_other r at next 1 0 apart

        two : total t.links r r'' ≡ 2
        two =
            let add = changes_add t.links r r' next 2 held in
            let first = in_one r long i 1 a.0 (λ z. let y = new.0 in omega arith) in
            let second = in_one r' (length-set r at 1 ∙ long) c 2 a.1
            (λ z. let d = (in_reads t).own_byte r p c a.1 in let d' = (in_reads t).own_byte r' p c a.1 in let y = new.1 in let s = held in omega arith) in
            omega arith

        marks_same_place : item r'' (next + 4) ≡ item r (next + 4)
        marks_same_place =
            get_or-set_other r' next (next + 4) 2 0 (λ e. omega arith)
            ∙ get_or-set_other r at (next + 4) 1 0
            (λ e. mark_apart ((in_reads t).place p i a.0.1) ((in_reads t).place p c a.1.1) e)
          where
            mark_apart : Place t 3 1 (in_at t) p i → Place t 3 1 (in_at t) p c → next + 4 ≡ at → ⊥
            mark_apart (inl b) (inl d) e = let u = b.1 in let v = d.1 in omega arith
            mark_apart (inl b) (inr d) e = let u = b.1 in let v = d.1 in omega arith
            mark_apart (inr b) (inl d) e = let u = b.1 in let v = d.1 in omega arith
            mark_apart (inr b) (inr d) e = let u = b.1 in let v = d.1 in omega arith
    outcome_changes (Refused i) a new =
        let at = in_at t p i in
        marked_too r (set r at 2) (at + 4) 1 (off r at 2) (in_one r long i 2 a new) (one_mark (in_mark_reads t) (set r at 2) i 1 a (omega arith) (omega arith))
    outcome_changes (RefusalLearnt i) a new = out_one r long i 2 a new
    outcome_changes (NoChange i) a new = no_changes r t.links
    outcome_changes AllTried a new = no_changes r t.links

module _ (x : Slices) (fine : slices_fault x ≡ 0) (room : ℕ) where
  abbrev t : Table
  t = table_of x

  -- an accepted line makes as many changes as its entry says, and a refused one none
  pub line_changes : (r : List ℕ) → fleet_fault t r ≡ 0 → (used : ℕ) (l : List ℕ) (answer : Answer) (after : List ℕ) → Handled x used room l answer r after
      → sum x.links (frame_changes (frame_of l) r after) ≡ changes_by answer
  line_changes r good used l answer after h = rw (handled_answer h, h.record_after_lem) (go (ℕ_discrete (event_fault x r used room l) 0))
    where
      f : Frame
      f = frame_of l

      long : length r ≡ 8 * x.links
      long = (fleet_good t r good).0

      entry : Entry
      entry = entry_by t r f

      event : event_fault x r used room l ≡ 0 → sum x.links (link_changes r (alter_fleet t f.to (outcome_of t r f) r)) ≡ changes_of (what_of t f.to (outcome_of t r f))
      event e =
          let p = passed_line x r used room l e in
          let step = line_step t (slices_legal x fine) r long l p.0 p.1 in
          outcome_changes t f.to r long (outcome_of t r f) step.own_links (befell_new (befell t (slices_legal x fine) f.to (own t f.to r) (event_of t f) (line_within t l p.0)))

      passed : event_fault x r used room l ≡ 0 → sum x.links (frame_changes f r (altered_by t r f)) ≡ changes_of entry.what
      passed e = by (decided (restarts f))
        where
          by : (restarts f ≡ true) ⊎ (restarts f ≡ false) → sum x.links (frame_changes f r (altered_by t r f)) ≡ changes_of entry.what
          by (inl is) =
              subst (λ z. sum x.links (frame_changes f r (altered_by t r f)) ≡ changes_of z.what) (sym (entry_restart t r f is))
              (subst (λ b. sum x.links (λ i. cond b 0 (link_changes r (altered_by t r f) i)) ≡ 0) (sym is) (none_count x.links (λ i. false) (λ i k y. true≢false (sym y))))
          by (inr is) =
              subst (λ z. sum x.links (frame_changes f r (altered_by t r f)) ≡ changes_of z.what) (sym (entry_event t r f is))
              (subst (λ z. sum x.links (frame_changes f r z) ≡ changes_of (what_of t f.to (outcome_of t r f))) (sym (altered_event t r f is))
              (subst (λ b. sum x.links (λ i. cond b 0 (link_changes r (alter_fleet t f.to (outcome_of t r f) r) i)) ≡ changes_of (what_of t f.to (outcome_of t r f))) (sym is) (event e)))

      go : Dec (event_fault x r used room l ≡ 0)
          → sum x.links (frame_changes f r (cond (eqb (event_fault x r used room l) 0) (altered_by t r f) r)) ≡ changes_by (answer_of (event_fault x r used room l) entry)
      go (yes e) = rw e (passed e)
      go (no d) = rw (ne_eqb (event_fault x r used room l) 0 d) (no_frame_changes f r x.links)
