-- What the promises of a fleet's calls take from the slices: that no check of the table turns them down, and the table's own entries.
-- Entry and bytes are equal only where the fault is 0: then the line has passed its checks, so its probe and its link are the table's.
use Prim.Native.Nat.{ℕ}
use mathlib.Core.Path.{◌≡◌, refl, sym, ◌∙◌, ap, ap₂}
use mathlib.Core.Bool.{Bool, true, false, cond}
use mathlib.Core.List.{List}
use lib.Dec.{ltb, eqb}
use lib.ListN.{length, set}
use borrow.Author.Tests.{eqb-true}
use Rattle.range.specs.First.{or_else}
use Rattle.range.proofs.Faults.{or_left, or_none, or_same}
use Rattle.table.specs.Table.{Table}
use Rattle.table.specs.Legal.{table_fault}
use Rattle.table.specs.Same.{Same}
use Rattle.table.specs.Slices.{Slices, table_of, slices_fault, slices_room_fault}
use Rattle.table.proofs.Same.{same_fault}
use Rattle.probe_frame.specs.Frame.{Frame, frame_of}
use Rattle.wake_log.specs.declared.Entry.{Entry}
use Rattle.wake_log.specs.declared.Answer.{Answer}
use Rattle.wake_log.specs.declared.What.TheVariants.{Restarted}
use Rattle.wake_log.specs.Entry.{answer_of}
use Rattle.probe_rules.specs.declared.Event.{Event}
use Rattle.probe_rules.specs.declared.Outcome.{Outcome}
use Rattle.probe_rules.specs.Rules.{befalls, entry_of}
use Rattle.probe_rules.specs.Within.{Within}
use Rattle.probe_rules.proofs.OutcomeLaws.{befalls_within}
use Rattle.fleet_theory.specs.Fleet.{own, restarts, event_line_fault, event_of, event_fault, outcome_of, alter_fleet, altered_by, entry_by}
use Rattle.fleet_theory.proofs.Run.{slices_legal}
use Rattle.fleet.specs.Answers.{Handled}
use Rattle.fleet.proofs.Calls.{handled_answer, handled_is}
use Rattle.fleet.proofs.Checks.{line_to, line_within}
use Rattle.fleet.proofs.Passing.{passed_line}
use Rattle.fleet_log.specs.Logged.{LogsInFleet}
use Rattle.fleet_calls.specs.Calls.{SameTable}
use Rattle.fleet_calls.proofs.Same.{same_own, same_fleet, same_event, same_line, same_unsent, same_befalls, same_entry_lem, same_alter, same_wiped}

-- a legal table's slices that 8 lets pass have no fault
pub same_fine : (x y : Slices) → slices_fault x ≡ 0 → SameTable y x → slices_fault y ≡ 0
same_fine x y fine k =
    or_none (slices_room_fault y) (table_fault 256 2048 (table_of y)) k.passes_8 ∙ same_fault (table_of y) (table_of x) k.same 256 2048 ∙ slices_legal x fine

fine_room : (x : Slices) → slices_fault x ≡ 0 → slices_room_fault x ≡ 0
fine_room x fine = or_left (slices_room_fault x) (table_fault 256 2048 (table_of x)) fine

-- slices that pass have their own table
pub same_self : (x : Slices) → slices_fault x ≡ 0 → SameTable x x
same_self x fine =
    record {
      same = record { number = refl; probes = refl; links = refl; need = λ v l. refl; low = λ i l. refl; high = λ i l. refl; cost = λ i l. refl };
      passes_8 = fine_room x fine;
    }

-- two values that are taken where a fault is 0, and are equal there
where_none : {A : Type 0} (n m : ℕ) (a b c : A) → n ≡ m → (n ≡ 0 → a ≡ b) → cond (eqb n 0) a c ≡ cond (eqb m 0) b c
where_none n m a b c e h = go (eqb n 0) refl ∙ ap (λ (k : ℕ). cond (eqb k 0) b c) e
  where
    go : (z : Bool) → eqb n 0 ≡ z → cond z a c ≡ cond z b c
    go true q = h (eqb-true n 0 q)
    go false q = refl

answer_same : (n m : ℕ) (a b : Entry) → n ≡ m → (n ≡ 0 → a ≡ b) → answer_of n a ≡ answer_of m b
answer_same n m a b e h = go (eqb n 0) refl ∙ ap (λ (k : ℕ). answer_of k b) e
  where
    go : (z : Bool) → eqb n 0 ≡ z → answer_of n a ≡ answer_of n b
    go true q = ap (answer_of n) (h (eqb-true n 0 q))
    go false q = rw q

module _ (x y : Slices) (same : Same (table_of x) (table_of y)) (fine : slices_fault x ≡ 0) (fine' : slices_fault y ≡ 0) where
  abbrev t : Table
  t = table_of x

  abbrev u : Table
  u = table_of y

  module _ (used room : ℕ) (l r : List ℕ) where
    abbrev f : Frame
    f = frame_of l

    pub same_event_fault : event_fault x r used room l ≡ event_fault y r used room l
    same_event_fault =
        or_same (fine ∙ sym fine') (or_same (same_fleet t u same r) (or_same (same_line t u same l) (ap (λ (n : ℕ). or_else n (cond (ltb used room) 0 26)) (same_unsent t u same f r))))

    module _ (none : event_fault x r used room l ≡ 0) where
      line : event_line_fault t l ≡ 0
      line = (passed_line x r used room l none).0

      same_outcome : outcome_of t r f ≡ outcome_of u r f
      same_outcome =
          same_befalls t u same f.to (line_to t l line (slices_legal x fine)) (event_of t f) (line_within t l line) (own t f.to r)
          ∙ ap (λ (v : Event). befalls u f.to v (own t f.to r)) (same_event t u same f)
          ∙ ap (befalls u f.to (event_of u f)) (same_own t u same f.to r)

      within : Within t.links (outcome_of t r f)
      within = befalls_within t f.to (event_of t f) (own t f.to r) (line_within t l line)

      entries_same : entry_by t r f ≡ entry_by u r f
      entries_same =
          ap (cond (restarts f) (record { probe = f.to; what = Restarted })) (same_entry_lem t u same f.to (outcome_of t r f) within ∙ ap (entry_of u f.to) same_outcome)

      bytes_same : altered_by t r f ≡ altered_by u r f
      bytes_same =
          ap₂ (cond (restarts f)) (same_wiped t u same f.to r)
          (same_alter t u same f.to (outcome_of t r f) within r ∙ ap (λ (o : Outcome). alter_fleet u f.to o r) same_outcome)

    abbrev fault : Slices → ℕ
    fault z = event_fault z r used room l

    -- the answer, and the record after it
    pub same_answer : answer_of (fault x) (entry_by t r f) ≡ answer_of (fault y) (entry_by u r f)
    same_answer = answer_same (fault x) (fault y) (entry_by t r f) (entry_by u r f) same_event_fault entries_same

    pub same_record_after : cond (eqb (fault x) 0) (altered_by t r f) r ≡ cond (eqb (fault y) 0) (altered_by u r f) r
    same_record_after = where_none (fault x) (fault y) (altered_by t r f) (altered_by u r f) r same_event_fault bytes_same

    pub handled_same : (a : Answer) (r' : List ℕ) → Handled x used room l a r r' → Handled y used room l a r r'
    handled_same a r' h = handled_is y used room l a r r' (handled_answer h ∙ same_answer) (h.record_after_lem ∙ same_record_after)

  pub logs_same : (used : ℕ) (l : List ℕ) (a : Answer) (r r' : List ℕ) (log log' : List Entry) → LogsInFleet x used l a r r' log log' → LogsInFleet y used l a r r' log log'
  logs_same used l a r r' log log' h =
      record {
        handled = handled_same used (length log) l r a r' h.handled;
        log_after = h.log_after
            ∙ where_none (event_fault x r used (length log) l) (event_fault y r used (length log) l)
            (set log used (entry_by t r (frame_of l))) (set log used (entry_by u r (frame_of l))) log
            (same_event_fault used (length log) l r) (λ none. ap (set log used) (entries_same used (length log) l r none));
      }
