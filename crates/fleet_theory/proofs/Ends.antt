-- The ends called alone, by what holds at each moment of the run (`HoldsAfter`).
use Prim.Native.Nat.{ℕ, ◌+◌, ◌*◌, ◌≤◌, ◌<◌}
use mathlib.Core.Path.{◌≡◌, refl, sym, ◌∙◌, ap}
use mathlib.Core.Logic.{◌↔◌, ◌⊎◌, inl, inr}
use mathlib.Core.Bool.{Bool, true, false, true≢false}
use mathlib.Core.List.{List}
use native.Mathlib.Omega.{arith}
use native.Mathlib.Decide.{ℕ_discrete}
use lib.ListN.{length, length-replicate}
use lib.Seq.{sets}
use borrow.Author.Tests.{le-ltb, lt-ltb, eq-eqb, ne_eqb}
use Rattle.range.specs.First.{or_else}
use Rattle.range.proofs.Bools.{decided}
use Rattle.range.proofs.Faults.{or_left, or_right, or_none}
use Rattle.range.proofs.Lists.{zeros_at}
use Rattle.table.specs.Table.{Table, touches, between}
use Rattle.table.specs.Legal.{Legal, lent_fault}
use Rattle.plan_theory.specs.Criterion.{Across}
use Rattle.probe_frame.specs.Frame.{Frame, frame_of, frame_fault}
use Rattle.probe_record.specs.Record.{fresh, record_fault}
use Rattle.range.specs.Reply.{values}
use Rattle.wake_log.specs.declared.Answer.TheVariants.{Logged}
use Rattle.wake_log.specs.Entry.{entry_values}
use Rattle.probe_record.proofs.Bytes.{record_passes}
use Rattle.probe_rules.specs.declared.Event.{Event}
use Rattle.probe_rules.specs.declared.Event.TheVariants.{Opening}
use Rattle.probe_rules.specs.declared.Outcome.{Outcome}
use Rattle.probe_rules.specs.Rules.{befalls, alter, entry_of, sendable}
use Rattle.probe_rules.specs.Frames.{number_fault, heard_of}
use Rattle.probe_rules.specs.Within.{OwnLink, OwnOutcome}
use Rattle.probe_rules.proofs.Frames.{between_is}
use Rattle.probe.specs.declared.Kind.{Kind}
use Rattle.probe.specs.declared.Kind.TheVariants as kind
use Rattle.probe.specs.declared.Asked.{Asked}
use Rattle.probe.specs.declared.Asked.TheVariants as asked
use Rattle.probe_maps.specs.Maps.{Maps, bytes_of, maps_of, maps_fault, state_fault}
use Rattle.probe_maps.specs.MapRules.{befalls_maps}
use Rattle.probe_maps.specs.SameRecords.{SameRecord}
use Rattle.probe_maps.proofs.Faults.{turns_back}
use Rattle.probe_checks.specs.Checks as end
use Rattle.probe_checks.specs.Checks.{to_fault, probe_fault, own_link_fault, full_fault, heard_fault, hear_fault, open_fault, link_call_fault}
use Rattle.probe.specs.Answers.{opens_fault, hears_fault, ask_fault, AsksFor, asked_event, asked_frame, asked_line}
use Rattle.probe.proofs.Calls.{asked_event_lem}
use Rattle.probe.proofs.Answers.{asks_answer}
use Rattle.fleet_theory.specs.Fleet.{own, marks, restarts, event_kind_fault, event_ends_fault, event_of, outcome_of, alter_fleet, wiped, State, start, next, run}
use Rattle.table.specs.Slices.{Slices, table_of, slices_fault}
use Rattle.fleet_theory.specs.Words.{IsFrame, MaySend, IsRestart}
use Rattle.fleet_theory.specs.Ends.{SameAlone, MadeFresh, EndsAlone}
use Rattle.fleet_theory.proofs.Own.{out_of, in_of, length_own}
use Rattle.fleet_theory.proofs.Events.{Says, an_opening, a_restart, an_offer, a_refusal, says, line_step, altered_restart, entry_restart, altered_event, entry_event}
use Rattle.fleet_theory.proofs.Run.{slices_legal, HoldsAfter, Passed, passed, passed_fault, next_accepted, start_out, start_in, start_holds, run_holds}
use Rattle.probe_maps.proofs.Rounds.{pairs_equal}
use Rattle.fleet_theory.proofs.Alone.{own_altered, own_else, own_wiped, own_wiped_else, marks_wiped}

-- whether the line was written
abbrev is_written : Asked → Bool
is_written asked.Written = true
is_written asked.NotNow = false
is_written (asked.Refused n) = false

module _ (x : Slices) (fine : slices_fault x ≡ 0) (s : State) (h : HoldsAfter (table_of x) s) where
  abbrev t : Table
  t = table_of x

  abbrev r : List ℕ
  r = s.bytes

  legal : Legal t
  legal = slices_legal x fine

  -- 20, 21 and 22 let an end's own bytes pass
  own_passes : (p : ℕ) → record_fault t p (own t p r) ≡ 0
  own_passes p =
      record_passes t p (own t p r) (record {
        size = length_own t p r;
        bytes = λ i l. record {
          out_small = h.good.out_small p i;
          in_small = h.good.in_small p i;
          out_own = λ m. none (out_of t r p i) i (h.good.out_own p i) m (ℕ_discrete (out_of t r p i) 0);
          in_own = λ m. none (in_of t r p i) i (h.good.in_own p i) m (ℕ_discrete (in_of t r p i) 0);
        };
        standing_fits = h.good.standing p;
        held_fits = h.good.holding p;
      })
    where
      none : (byte i : ℕ) → ((byte ≡ 0 → ⊥) → OwnLink t p i) → touches t p i ≡ false → Dec (byte ≡ 0) → byte ≡ 0
      none byte i is-own m (yes z) = z
      none byte i is-own m (no d) = absurd (true≢false (sym (is-own d).1 ∙ m))

  -- so they let its maps pass, and nothing is lost in them
  abbrev maps : ℕ → Maps
  maps p = maps_of x.links (own t p r)

  state_passes : (p : ℕ) → state_fault x p (maps p) ≡ 0
  state_passes p = or_none (slices_fault x) (maps_fault t p (maps p)) fine ∙ (turns_back t p).bytes_there (own t p r) (own_passes p)

  maps_same : (p : ℕ) → SameRecord x.links (maps p) (own t p r)
  maps_same p = (turns_back t p).bytes_back (own t p r) (own_passes p)

  back : (p : ℕ) → own t p r ≡ bytes_of x.links (maps p)
  back p = (maps_same p).bytes_are

  not_full : (free : ℕ) → 0 < free → full_fault free ≡ 0
  not_full free k = rw (ne_eqb free 0 (λ z. omega arith))

  -- a line that is accepted
  module _ (room : ℕ) (l : List ℕ) (a : Passed x room s l) where
    abbrev f : Frame
    f = frame_of l

    abbrev p : ℕ
    p = f.to

    abbrev e : List ℕ
    e = own t p r

    opening_frame_or_restart : (f.kind ≡ 0) ⊎ (IsFrame f ⊎ IsRestart t l)
    opening_frame_or_restart = go (says t l a.line)
      where
        go : Says t f → (f.kind ≡ 0) ⊎ (IsFrame f ⊎ IsRestart t l)
        go (an_opening k b v) = inl k
        go (a_restart k b v) = inr (inr (a.line, k))
        go (an_offer i k b c v is) = inr (inl (inl k))
        go (a_refusal i k b c v is) = inr (inl (inr k))

    own_links : OwnOutcome t p (outcome_of t r f)
    own_links = (line_step t legal r h.long l a.line a.sent).own_links

    same_alone : (event : Event) (fault : ℕ) → restarts f ≡ false → event_of t f ≡ event → fault ≡ 0 → SameAlone x room s l event fault
    same_alone event fault some is none =
        record {
          no_fault = none;
          promised = record {
            answer = rw (passed_fault x fine s h room l a, entry_event t r f some, none) (ap (λ (o : Outcome). values (entry_values (entry_of t p o))) outcome);
            maps_after_lem = rw none (ap (maps_of x.links) (ap (own t p) after ∙ own_altered t p r h.long (outcome_of t r f) own_links ∙ altered));
          };
          others_same = λ q d. ap (own t q) after ∙ own_else t p r h.long (outcome_of t r f) own_links q d;
        }
      where
        after : (next x room s l).bytes ≡ alter_fleet t p (outcome_of t r f) r
        after = ap (λ y. y.bytes) (next_accepted x fine s h room l a) ∙ altered_event t r f some

        outcome : outcome_of t r f ≡ befalls_maps t p event (maps p)
        outcome = ap (λ (v : Event). befalls t p v e) is ∙ ap (befalls t p event) (back p)

        altered : alter (outcome_of t r f) e ≡ alter (befalls_maps t p event (maps p)) (bytes_of x.links (maps p))
        altered = ap (λ (o : Outcome). alter o e) outcome ∙ ap (alter (befalls_maps t p event (maps p))) (back p)

    restart_same : IsRestart t l → MadeFresh x room s l
    restart_same k =
        record {
          logged = rw (passed_fault x fine s h room l a) (ap Logged (entry_restart t r f (rw k.1)));
          own_fresh = ap (own t p) after ∙ own_wiped t p r h.long;
          others_same = λ q d. ap (own t q) after ∙ own_wiped_else t p r h.long q d;
          marks_stay = λ q. ap (marks t q) after ∙ marks_wiped t p r h.long q;
        }
      where
        after : (next x room s l).bytes ≡ wiped t p r
        after = ap (λ y. y.bytes) (next_accepted x fine s h room l a) ∙ altered_restart t r f (rw k.1)

    open_passes : p < t.probes → (free : ℕ) → 0 < free → opens_fault x p (maps p) free ≡ 0
    unfolding open_fault
    open_passes b free k =
        or_none (state_fault x p (maps p)) (or_else (probe_fault t p) (full_fault free)) (state_passes p)
        ∙ or_none (probe_fault t p) (full_fault free) (rw (lt-ltb p t.probes b))
        ∙ not_full free k

    opens_same : f.kind ≡ 0 → (free : ℕ) → 0 < free → SameAlone x room s l Opening (opens_fault x p (maps p) free)
    opens_same z free k = go (says t l a.line)
      where
        go : Says t f → SameAlone x room s l Opening (opens_fault x p (maps p) free)
        go (an_opening y b v) = same_alone Opening (opens_fault x p (maps p) free) (rw y) v (open_passes b free k)
        go (a_restart y b v) = absurd (omega arith)
        go (an_offer i y b c v is) = absurd (omega arith)
        go (a_refusal i y b c v is) = absurd (omega arith)

    -- the checks of a frame at the end that hears it are among those of its line
    heard_passes : IsFrame f → between t f.from p < t.links → heard_fault t p l ≡ 0
    unfolding heard_fault
    heard_passes frame b =
        let checks = or_else (event_kind_fault f) (or_else (number_fault t f) (event_ends_fault t f)) in
        let rest = or_right (event_kind_fault f) (or_else (number_fault t f) (event_ends_fault t f)) (or_right (frame_fault l) checks a.line) in
        or_none (frame_fault l) (or_else (end.frame_kind_fault f) (or_else (number_fault t f) (to_fault t p f))) (or_left (frame_fault l) checks a.line)
        ∙ or_none (end.frame_kind_fault f) (or_else (number_fault t f) (to_fault t p f)) (kinds frame)
        ∙ or_none (number_fault t f) (to_fault t p f) (or_left (number_fault t f) (event_ends_fault t f) rest)
        ∙ rw (eq-eqb p p refl, lt-ltb (between t f.from p) t.links b)
      where
        kinds : IsFrame f → end.frame_kind_fault f ≡ 0
        kinds (inl k) = rw k
        kinds (inr k) = rw k

    hear_passes : IsFrame f → between t f.from p < t.links → (free : ℕ) → 0 < free → hears_fault x p (maps p) l free ≡ 0
    unfolding hear_fault
    hear_passes frame b free k =
        or_none (state_fault x p (maps p)) (or_else (heard_fault t p l) (full_fault free)) (state_passes p)
        ∙ or_none (heard_fault t p l) (full_fault free) (heard_passes frame b)
        ∙ not_full free k

    hears_same : IsFrame f → (free : ℕ) → 0 < free → SameAlone x room s l (heard_of t f) (hears_fault x p (maps p) l free)
    hears_same frame free k = go frame (says t l a.line)
      where
        heard : (i : ℕ) → i < t.links → Across t i f.from p → event_of t f ≡ heard_of t f → restarts f ≡ false
            → SameAlone x room s l (heard_of t f) (hears_fault x p (maps p) l free)
        heard i b c is some =
            same_alone (heard_of t f) (hears_fault x p (maps p) l free) some is (hear_passes frame (rw (between_is t legal i f.from p b c) b) free k)

        go : IsFrame f → Says t f → SameAlone x room s l (heard_of t f) (hears_fault x p (maps p) l free)
        go (inl y) (an_opening z b v) = absurd (omega arith)
        go (inr y) (an_opening z b v) = absurd (omega arith)
        go (inl y) (a_restart z b v) = absurd (omega arith)
        go (inr y) (a_restart z b v) = absurd (omega arith)
        go y (an_offer i z b c v is) = heard i b c (v ∙ sym is) (rw z)
        go y (a_refusal i z b c v is) = heard i b c (v ∙ sym is) (rw z)

  -- an end that is asked for a frame on an own link
  module _ (p i : ℕ) (a : OwnLink t p i) where
    ask_passes : link_call_fault (state_fault x p (maps p)) t p i ≡ 0
    unfolding link_call_fault
    ask_passes = or_none (state_fault x p (maps p)) (own_link_fault t p i) (state_passes p) ∙ rw (lt-ltb i t.links a.0, a.1)

    module _ (k : Kind) where
      abbrev may : Bool
      may = sendable (asked_event k i) (own t p r)

      ask_may_send : (may ≡ true) ↔ MaySend t r (asked_frame t p k i)
      ask_may_send = (λ m. ((refl, framed k), rw (asked_event_lem t legal p i a k) m), λ m. rw (asked_event_lem t legal p i a k) at m.1)
        where
          framed : (k : Kind) → IsFrame (asked_frame t p k i)
          framed kind.Offer = inl refl
          framed kind.Refusal = inr refl

      module _ (out : List ℕ) (long : 15 ≤ length out) (answer : Asked) (out' : List ℕ) where
        none : ask_fault x p i (maps p) out ≡ 0
        none = or_none (lent_fault (length out) 15) (link_call_fault (state_fault x p (maps p)) t p i) (rw (le-ltb (length out) 15 long)) ∙ ask_passes

        ask_writes : AsksFor x p k i (maps p) answer out out'
            → ((answer ≡ asked.Written) × (out' ≡ sets out 0 (asked_line t p k i))) ↔ MaySend t r (asked_frame t p k i)
        ask_writes q = (λ w. ask_may_send.0 (go (decided may) w.0), λ m. written (ask_may_send.1 m))
          where
            by : (m : Bool) → may ≡ m → sendable (asked_event k i) (bytes_of x.links (maps p)) ≡ m
            by m is = ap (sendable (asked_event k i)) (sym (back p)) ∙ is

            go : (may ≡ true) ⊎ (may ≡ false) → answer ≡ asked.Written → may ≡ true
            go (inl m) w = m
            go (inr m) w = absurd (true≢false (sym (ap is_written w) ∙ ap is_written (rw (none, by false m) at (asks_answer q))))

            written : may ≡ true → (answer ≡ asked.Written) × (out' ≡ sets out 0 (asked_line t p k i))
            written m = (rw (none, by true m) at (asks_answer q), rw (none, by true m) at q.line)

own_start : (x : Slices) (p : ℕ) → own (table_of x) p (start x).bytes ≡ fresh (table_of x)
own_start x p =
    pairs_equal x.links (own (table_of x) p (start x).bytes) (fresh (table_of x)) (length_own (table_of x) p (start x).bytes) (length-replicate (2 * x.links) 0)
    (λ i l. start_out x p i ∙ sym (zeros_at (2 * x.links) (2 * i))) (λ i l. start_in x p i ∙ sym (zeros_at (2 * x.links) (2 * i + 1)))

pub ends_alone : (x : Slices) → slices_fault x ≡ 0 → (room : ℕ) (ls : List (List ℕ)) → EndsAlone x room ls
ends_alone x fine room ls =
    record {
      own_start = own_start x;
      own_same = λ xs ys e. maps_same x fine (after xs) (holds xs);
      opens_hears_or_restarts = λ xs ys l e n. opening_frame_or_restart x fine (after xs) (holds xs) room l (passed x fine (after xs) (holds xs) room l n);
      opens_alone = λ xs ys l e n. opens_same x fine (after xs) (holds xs) room l (passed x fine (after xs) (holds xs) room l n);
      hears_alone = λ xs ys l e n. hears_same x fine (after xs) (holds xs) room l (passed x fine (after xs) (holds xs) room l n);
      restarts_fresh = λ xs ys l e n. restart_same x fine (after xs) (holds xs) room l (passed x fine (after xs) (holds xs) room l n);
      asked_passes = λ xs ys e. ask_passes x fine (after xs) (holds xs);
      asked_may_send = λ xs ys e k p i a. ask_may_send x fine (after xs) (holds xs) p i a k;
      asked_writes = λ xs ys e k p i a. ask_writes x fine (after xs) (holds xs) p i a k;
    }
  where
    after : List (List ℕ) → State
    after xs = run x room (start x) xs

    holds : (xs : List (List ℕ)) → HoldsAfter (table_of x) (after xs)
    holds xs = run_holds x fine room (start x) (start_holds x fine) xs
