-- The ends called alone: what an end promises over slices of the table it promises over x, and there it is what the fleet does (`EndsAlone`).
use Prim.Native.Nat.{ℕ, ◌*◌, ◌≤◌, ◌<◌}
use mathlib.Core.Path.{◌≡◌, refl, sym, ◌∙◌, ap}
use mathlib.Core.Logic.{◌↔◌, ◌⊎◌, inl, inr}
use mathlib.Core.Bool.{Bool, cond, ◌&&◌}
use mathlib.Core.List.{List, [], ◌∷◌, ◌++◌, append-nil}
use native.Mathlib.Omega.{arith}
use lib.Dec.{ltb, eqb}
use lib.ListN.{length}
use lib.Seq.{sets}
use borrow.Author.Tests.{ltb-true}
use Rattle.range.specs.First.{or_else, first}
use Rattle.range.specs.Reply.{reply_of}
use Rattle.range.proofs.Faults.{or_same, first_same}
use Rattle.table.specs.Table.{Table, touches}
use Rattle.table.specs.Legal.{Legal, lent_fault}
use Rattle.table.proofs.LegalLaws.{legal_table}
use Rattle.plan_theory.proofs.Plan.{at_end}
use Rattle.table.specs.Same.{Same}
use Rattle.table.specs.Slices.{Slices, table_of, slices_fault}
use Rattle.probe_frame.specs.Frame.{Frame, frame_of, frame_fault}
use Rattle.probe_record.specs.Record.{fresh}
use Rattle.wake_log.specs.declared.Entry.{Entry}
use Rattle.wake_log.specs.declared.What.TheVariants.{Restarted}
use Rattle.wake_log.specs.declared.Answer.{Answer}
use Rattle.wake_log.specs.declared.Answer.TheVariants.{Logged}
use Rattle.wake_log.specs.Entry.{answer_of}
use Rattle.wake_log.proofs.Answers.{logged_is}
use Rattle.probe_rules.specs.declared.Event.{Event}
use Rattle.probe_rules.specs.declared.Event.TheVariants.{Opening}
use Rattle.probe_rules.specs.declared.Outcome.{Outcome}
use Rattle.probe_rules.specs.Rules.{befalls, entry_of, sendable, rests}
use Rattle.probe_rules.specs.Frames.{number_fault, heard_of}
use Rattle.probe_rules.specs.Within.{EventWithin, OwnLink}
use Rattle.probe_rules.proofs.OutcomeLaws.{befalls_within}
use Rattle.bit_maps.specs.BitMap.{words_for}
use Rattle.probe_maps.specs.Maps.{Maps, bytes_of, maps_of, maps_length_fault, is_own, bit_fault, ones_fault, maps_fault, state_fault}
use Rattle.probe_maps.specs.MapRules.{befalls_maps, alter_maps}
use Rattle.probe_maps.specs.SameRecords.{SameRecord}
use Rattle.probe_checks.specs.Checks.{frame_kind_fault, to_fault, probe_fault, full_fault, heard_fault, hear_fault, open_fault, link_call_fault}
use Rattle.probe.specs.declared.Kind.{Kind}
use Rattle.probe.specs.declared.Asked.{Asked}
use Rattle.probe.specs.declared.Asked.TheVariants.{Written}
use Rattle.probe.specs.declared.Resting.{Resting}
use Rattle.probe.specs.declared.Resting.TheVariants.{Rests}
use Rattle.probe.proofs.Answers.{befallen_answer, resting_is}
use Rattle.probe.specs.Answers.{Befallen, Asks, opens_fault, hears_fault, Opens, Hears, AsksFor, ask_fault, asked_event, asked_frame, asked_line, resting_reply, whether_rests}
use Rattle.fleet_theory.specs.Fleet.{own, marks, event_line_fault, event_of, State, start, fault_of, answer_to, next, run}
use Rattle.fleet_theory.specs.Words.{IsFrame, MaySend, end_rests, IsRestart}
use Rattle.fleet_theory.specs.Ends.{SameAlone, EndsAlone}
use Rattle.fleet_theory.proofs.Lines.{not_of_one_probe}
use Rattle.fleet_theory.proofs.Ends.{ends_alone}
use Rattle.fleet_theory.proofs.Run.{slices_legal}
use Rattle.fleet.proofs.Checks.{line_to, line_within}
use Rattle.fleet.proofs.Passing.{passed_line}
use Rattle.fleet_calls.specs.Calls.{SameTable, LoggedCall, LoggedLeft, fresh_logged, left_by_logged, LoggedCalls, left_after_logged, logged_lines}
use Rattle.fleet_calls.specs.Ends.{EndsOfCalls}
use Rattle.fleet_calls.proofs.Same.{and_under, same_between, same_heard, same_line, same_spare, same_befalls, same_entry_lem}
use Rattle.fleet_calls.proofs.Promises.{same_fine}
use Rattle.fleet_calls.proofs.Calls.{FollowsRun, entry_to, step_follows, kept_logs}
use Rattle.fleet_calls.proofs.Places.{calls_before, call_at, left_follows}

-- two tables with the same own entries
module _ (t u : Table) (same : Same t u) (p : ℕ) (l : p < t.probes) where
  same_own_link : (i : ℕ) → is_own t p i ≡ is_own u p i
  same_own_link i =
      and_under (ltb i t.links) (touches t p i) (touches u p i) (λ k. let m = ltb-true i t.links k in rw (same.low i m, same.high i m))
      ∙ ap (λ (n : ℕ). ltb i n && touches u p i) same.links

  same_maps : (m : Maps) → maps_fault t p m ≡ maps_fault u p m
  same_maps m = or_same words (or_same bits ones)
    where
      words : maps_length_fault t m ≡ maps_length_fault u m
      words = rw same.links

      bits : first (bit_fault t p m) (64 * words_for t.links) ≡ first (bit_fault u p m) (64 * words_for u.links)
      bits =
          first_same (bit_fault t p m) (bit_fault u p m) (64 * words_for t.links) (λ i k. rw (same_own_link i))
          ∙ ap (λ (n : ℕ). first (bit_fault u p m) (64 * words_for n)) same.links

      ones : ones_fault t p m ≡ ones_fault u p m
      ones = rw (same_spare t u same p l)

  same_open : (n m free : ℕ) → n ≡ m → open_fault n t p free ≡ open_fault m u p free
  unfolding open_fault
  same_open n m free is = or_same is (ap (λ (k : ℕ). or_else k (full_fault free)) probe)
    where
      probe : probe_fault t p ≡ probe_fault u p
      probe = rw same.probes

  same_hear : (n m : ℕ) (line : List ℕ) (free : ℕ) → n ≡ m → hear_fault n t p line free ≡ hear_fault m u p line free
  unfolding hear_fault heard_fault
  same_hear n m line free is =
      or_same is (ap (λ (k : ℕ). or_else k (full_fault free)) (ap (or_else (frame_fault line)) (ap (or_else (frame_kind_fault f)) (or_same number ends))))
    where
      f : Frame
      f = frame_of line

      number : number_fault t f ≡ number_fault u f
      number = rw same.number

      ends : to_fault t p f ≡ to_fault u p f
      ends = rw (same_between t u same f.from f.to, same.links)

  same_link_call : (n m i : ℕ) → n ≡ m → link_call_fault n t p i ≡ link_call_fault m u p i
  unfolding link_call_fault
  same_link_call n m i is = or_same is (ap (λ (b : Bool). cond b 0 24) (same_own_link i))

  -- what an end promises over the one it promises over the other
  module _ (n m : ℕ) (is : n ≡ m) (v w : Event) (events : v ≡ w) (within : EventWithin t.links v) (a : Answer) (before after : Maps) where
    outcomes : befalls_maps t p v before ≡ befalls_maps u p w before
    outcomes =
        same_befalls t u same p l v within (bytes_of t.links before)
        ∙ ap (λ (k : ℕ). befalls u p v (bytes_of k before)) same.links
        ∙ ap (λ (z : Event). befalls_maps u p z before) events

    befallen_same : Befallen n t p v a before after
        → (a ≡ answer_of m (entry_of u p (befalls_maps u p w before))) × (after ≡ cond (eqb m 0) (alter_maps u.links (befalls_maps u p w before) before) before)
    befallen_same h =
        let entry = same_entry_lem t u same p (befalls_maps t p v before) (befalls_within t p v (bytes_of t.links before) within) ∙ ap (entry_of u p) outcomes in (
          befallen_answer h ∙ ap (answer_of n) entry ∙ ap (λ (k : ℕ). answer_of k (entry_of u p (befalls_maps u p w before))) is,
          h.maps_after_lem
              ∙ ap (λ (o : Outcome). cond (eqb n 0) (alter_maps t.links o before) before) outcomes
              ∙ ap (λ (k : ℕ). cond (eqb n 0) (alter_maps k (befalls_maps u p w before) before) before) same.links
              ∙ ap (λ (k : ℕ). cond (eqb k 0) (alter_maps u.links (befalls_maps u p w before) before) before) is,
        )

  -- the line of a frame asked for on an own link
  same_asked : (k : Kind) (i : ℕ) → i < t.links → asked_line t p k i ≡ asked_line u p k i
  same_asked k i b = rw (same.number, same.low i b, same.high i b)

  asks_same : (n m : ℕ) → n ≡ m → (d e : List ℕ) → d ≡ e → (k : Kind) (i : ℕ) → i < t.links → (a : Asked) (out out' : List ℕ)
      → Asks n t p k i d a out out' → Asks m u p k i e a out out'
  asks_same n m is d e bytes k i b a out out' h =
      let may = sendable (asked_event k i) e in
      let may-be = ap (sendable (asked_event k i)) bytes in
      record {
        answer = h.answer ∙ ap (λ (z : Bool). reply_of n (cond z 1 0 ∷ [])) may-be ∙ ap (λ (j : ℕ). reply_of j (cond may 1 0 ∷ [])) is;
        line = h.line
            ∙ ap (λ (z : Bool). cond (eqb n 0 && z) (sets out 0 (asked_line t p k i)) out) may-be
            ∙ ap (λ (j : ℕ). cond (eqb j 0 && may) (sets out 0 (asked_line t p k i)) out) is
            ∙ ap (λ (line : List ℕ). cond (eqb m 0 && may) (sets out 0 line) out) (same_asked k i b);
      }

module _ (x : Slices) (fine : slices_fault x ≡ 0) (log : List Entry) where
  abbrev t : Table
  t = table_of x

  abbrev room : ℕ
  room = length log

  legal : Legal t
  legal = slices_legal x fine

  -- table and record, over slices of the table
  state_same : (y : Slices) → SameTable y x → (p : ℕ) → p < (table_of y).probes → (m : Maps) → state_fault y p m ≡ state_fault x p m
  state_same y same p below m = or_same (same_fine x y fine same ∙ sym fine) (same_maps (table_of y) t same.same p below m)

  -- a call at its place, accepted
  module _ (before later : List LoggedCall) (c : LoggedCall) (k : LoggedCalls x (fresh_logged x log) (before ++ c ∷ later)) (entry : Entry) (logged : c.answer ≡ Logged entry) where
    abbrev l : List ℕ
    l = c.line

    abbrev f : Frame
    f = frame_of l

    abbrev p : ℕ
    p = f.to

    abbrev s : State
    s = run x room (start x) (logged_lines before)

    abbrev left : LoggedLeft
    left = left_after_logged (fresh_logged x log) before

    follows : FollowsRun log s left
    follows = left_follows x fine log before (calls_before x (fresh_logged x log) before (c ∷ later) k)

    stepped : (c.answer ≡ answer_to x room s l) × FollowsRun log (next x room s l) (left_by_logged left c)
    stepped = step_follows x log s left c follows (kept_logs x fine left c (call_at x (fresh_logged x log) before later c k))

    none : fault_of x room s l ≡ 0
    none = (logged_is (fault_of x room s l) (entry_to x s l) entry (sym stepped.0 ∙ logged)).0

    line : event_line_fault t l ≡ 0
    line = (passed_line x s.bytes (length s.log) room l none).0

    alone : EndsAlone x room (logged_lines before ++ l ∷ [])
    alone = ends_alone x fine room (logged_lines before ++ l ∷ [])

    -- the end's answer and maps are those of the fleet
    abbrev SameMaps : Answer → Maps → Type 0
    SameMaps a maps' = (a ≡ c.answer) × (maps' ≡ maps_of x.links (own t p c.bytes))

    abbrev m : Maps
    m = maps_of x.links (own t p s.bytes)

    same_as_fleet : (v : Event) (fault : ℕ) → SameAlone x room s l v fault → (a : Answer) (maps' : Maps)
        → (a ≡ answer_of fault (entry_of t p (befalls_maps t p v m))) × (maps' ≡ cond (eqb fault 0) (alter_maps x.links (befalls_maps t p v m) m) m) → SameMaps a maps'
    same_as_fleet v fault h a maps' q = (
      q.0 ∙ sym (befallen_answer h.promised) ∙ sym stepped.0,
      q.1 ∙ sym h.promised.maps_after_lem ∙ ap (λ (bytes : List ℕ). maps_of x.links (own t p bytes)) (sym stepped.1.bytes),
    )

    module _ (y : Slices) (same : SameTable y x) (free : ℕ) (some : 0 < free) (a : Answer) (maps' : Maps) where
      abbrev u : Table
      u = table_of y

      below : p < u.probes
      below = rw same.same.probes (line_to t l line legal)

      states : state_fault y p m ≡ state_fault x p m
      states = state_same y same p below m

      opens_same : f.kind ≡ 0 → Opens y p free a (maps_of x.links (own t p left.bytes)) maps' → SameMaps a maps'
      opens_same kind h =
          let is = same_open u t same.same p below (state_fault y p m) (state_fault x p m) free states in
          same_as_fleet Opening (opens_fault x p m free) (alone.opens_alone (logged_lines before) [] l refl none kind free some) a maps'
          (befallen_same u t same.same p below (opens_fault y p m free) (opens_fault x p m free) is Opening Opening refl tt a m maps' (rw follows.bytes at h))

      hears_same : IsFrame f → Hears y p l free a (maps_of x.links (own t p left.bytes)) maps' → SameMaps a maps'
      hears_same frame h =
          let is = same_hear u t same.same p below (state_fault y p m) (state_fault x p m) l free states in
          same_as_fleet (heard_of t f) (hears_fault x p m l free) (alone.hears_alone (logged_lines before) [] l refl none frame free some) a maps'
          (befallen_same u t same.same p below (hears_fault y p m l free) (hears_fault x p m l free) is (heard_of u f) (heard_of t f) (same_heard u t same.same f) (within frame) a m maps' (rw follows.bytes at h))
        where
          in_line : EventWithin u.links (event_of u f)
          in_line = line_within u l (same_line u t same.same l ∙ line)

          within : IsFrame f → EventWithin u.links (heard_of u f)
          within frame = rw (not_of_one_probe f frame) at in_line

    others : (q : ℕ) → (q ≡ p → ⊥) → own t q c.bytes ≡ own t q left.bytes
    others q differs = ap (own t q) stepped.1.bytes ∙ go (alone.opens_hears_or_restarts (logged_lines before) [] l refl none) ∙ ap (own t q) (sym follows.bytes)
      where
        go : (f.kind ≡ 0) ⊎ (IsFrame f ⊎ IsRestart t l) → own t q (next x room s l).bytes ≡ own t q s.bytes
        go (inl kind) = (alone.opens_alone (logged_lines before) [] l refl none kind 1 (omega arith)).others_same q differs
        go (inr (inl frame)) = (alone.hears_alone (logged_lines before) [] l refl none frame 1 (omega arith)).others_same q differs
        go (inr (inr restart)) = (alone.restarts_fresh (logged_lines before) [] l refl none restart).others_same q differs

    restarted : IsRestart t l
        → (c.answer ≡ Logged (record { probe = p; what = Restarted })) × (own t p c.bytes ≡ fresh t) × ((q : ℕ) → marks t q c.bytes ≡ marks t q left.bytes)
    restarted restart =
        let h = alone.restarts_fresh (logged_lines before) [] l refl none restart in (
          stepped.0 ∙ h.logged,
          ap (own t p) stepped.1.bytes ∙ h.own_fresh,
          λ q. ap (marks t q) stepped.1.bytes ∙ h.marks_stay q ∙ ap (marks t q) (sym follows.bytes),
        )

  -- an own link's end is a probe
  own_below : (y : Slices) → SameTable y x → (p i : ℕ) → OwnLink t p i → p < (table_of y).probes
  own_below y same p i is-own =
      let ends = (legal_table 256 2048 t legal).ends i is-own.0 in
      let rises = ends.rises in
      rw same.same.probes (at_end t (λ v. v < t.probes) p i is-own.1 (omega (arith, ends.below)) ends.below)

  -- at any moment
  module _ (before : List LoggedCall) (calls : LoggedCalls x (fresh_logged x log) before) where
    abbrev now : List ℕ
    now = (run x room (start x) (logged_lines before)).bytes

    abbrev bytes : List ℕ
    bytes = (left_after_logged (fresh_logged x log) before).bytes

    abbrev maps : ℕ → Maps
    maps p = maps_of x.links (own t p now)

    bytes_same : bytes ≡ now
    bytes_same = (left_follows x fine log before calls).bytes

    alone_now : EndsAlone x room (logged_lines before)
    alone_now = ends_alone x fine room (logged_lines before)

    all_lines : logged_lines before ≡ logged_lines before ++ []
    all_lines = sym (append-nil (logged_lines before))

    turned_now : (p : ℕ) → SameRecord x.links (maps p) (own t p now)
    turned_now = alone_now.own_same (logged_lines before) [] all_lines

    own_turned : (p : ℕ) → SameRecord x.links (maps_of x.links (own t p bytes)) (own t p bytes)
    own_turned p = rw bytes_same (turned_now p)

    module _ (p i : ℕ) (is-own : OwnLink t p i) (y : Slices) (same : SameTable y x) where
      probe_below : p < (table_of y).probes
      probe_below = own_below y same p i is-own

      link_calls : link_call_fault (state_fault y p (maps p)) (table_of y) p i ≡ link_call_fault (state_fault x p (maps p)) t p i
      link_calls = same_link_call (table_of y) t same.same p probe_below (state_fault y p (maps p)) (state_fault x p (maps p)) i (state_same y same p probe_below (maps p))

      -- the links of the slices are the table's
      bytes_by : bytes_of y.links (maps p) ≡ bytes_of x.links (maps p)
      bytes_by = ap (λ (n : ℕ). bytes_of n (maps p)) same.same.links

      asked_same : (k : Kind) (out : List ℕ) → 15 ≤ length out → (a : Asked) (out' : List ℕ) → AsksFor y p k i (maps_of x.links (own t p bytes)) a out out'
          → ((a ≡ Written) × (out' ≡ sets out 0 (asked_line t p k i))) ↔ MaySend t bytes (asked_frame t p k i)
      asked_same k out long a out' h =
          let is : ask_fault y p i (maps p) out ≡ ask_fault x p i (maps p) out = ap (or_else (lent_fault (length out) 15)) link_calls in
          rw bytes_same
          (alone_now.asked_writes (logged_lines before) [] all_lines k p i is-own out long a out'
          (asks_same (table_of y) t same.same p probe_below (ask_fault y p i (maps p) out) (ask_fault x p i (maps p) out) is (bytes_of y.links (maps p)) (bytes_of x.links (maps p)) bytes_by k i
          (rw same.same.links is-own.0) a out out' (rw bytes_same at h)))

      rests_same : (q : Resting) → resting_reply q ≡ whether_rests y p (maps_of x.links (own t p bytes)) i → q ≡ Rests (end_rests t bytes p i)
      rests_same q h =
          let n = link_call_fault (state_fault y p (maps p)) (table_of y) p i in
          let passes : n ≡ 0 = link_calls ∙ alone_now.asked_passes (logged_lines before) [] all_lines p i is-own in
          let turned : bytes_of y.links (maps p) ≡ own t p now = bytes_by ∙ sym (turned_now p).bytes_are in
          rw bytes_same (resting_is q n (rests (bytes_of y.links (maps p)) i) (rw bytes_same at h) ∙ rw passes (ap (λ (e : List ℕ). Rests (rests e i)) turned))

  pub ends_of_calls : (cs : List LoggedCall) → LoggedCalls x (fresh_logged x log) cs → EndsOfCalls x log cs
  ends_of_calls cs k =
      record {
        own_same = λ before later is. own_turned before (calls_before x (fresh_logged x log) before later (rw is at k));
        opens_alone = λ before later c here kind y same free some a maps'. opens_same before later c (rw here.place at k) here.entry here.logged y same free some a maps' kind;
        hears_alone = λ before later c here frame y same free some a maps'. hears_same before later c (rw here.place at k) here.entry here.logged y same free some a maps' frame;
        others_same = λ before later c here. others before later c (rw here.place at k) here.entry here.logged;
        restarts_fresh = λ before later c here. restarted before later c (rw here.place at k) here.entry here.logged;
        asked_writes = λ before later is kind p i is-own y same. asked_same before (calls_before x (fresh_logged x log) before later (rw is at k)) p i is-own y same kind;
        rests_alone = λ before later is. rests_same before (calls_before x (fresh_logged x log) before later (rw is at k));
      }
