-- Calls, one after the other, are the run over their lines. By induction on the calls; what the last call left follows the state of the run (`FollowsRun`).
use Prim.Native.Nat.{ℕ, suc, ◌+◌, ◌<◌}
use mathlib.Core.Path.{◌≡◌, refl, sym, ◌∙◌, ap}
use mathlib.Core.Bool.{Bool, true, false, cond}
use mathlib.Core.List.{List, [], ◌∷◌, ◌++◌, append-nil}
use native.Mathlib.Omega.{arith}
use lib.Dec.{ltb, eqb}
use lib.ListN.{length, drop, get_or, set, length-append, length-set}
use lib.Seq.{append_snoc, drop-cons, take-append_seam, drop-append_seam, set-append_seam}
use borrow.Author.Tests.{ltb-true, eqb-true}
use Rattle.range.specs.First.{or_else}
use Rattle.range.proofs.Bools.{unless_none}
use Rattle.range.proofs.Faults.{or_right}
use Rattle.table.specs.Same.{Same}
use Rattle.table.specs.Table.{Table}
use Rattle.table.specs.Slices.{Slices, table_of, slices_fault}
use Rattle.probe_frame.specs.Frame.{frame_of}
use Rattle.wake_log.specs.declared.Entry.{Entry}
use Rattle.wake_log.specs.declared.Answer.{Answer}
use Rattle.wake_log.specs.declared.Answer.TheVariants.{Logged, Refused}
use Rattle.wake_log.specs.Log.{no_entry}
use Rattle.wake_log.specs.Entry.{accepted_by}
use Rattle.wake_log.proofs.Slots.{slot_used, slot_past_used, slot_of_used, slot_is}
use Rattle.fleet_theory.specs.Fleet.{marks, fleet_fault, event_line_fault, event_of, unsent_fault, entry_by, State, start, fault_of, answer_to, accepted, next, run}
use Rattle.fleet.proofs.Calls.{handled_next}
use Rattle.fleet_log.specs.Logged.{LogsInFleet}
use Rattle.fleet_calls.specs.Calls.{
  SameTable,
  entries_in,
  LoggedCall,
  LoggedLeft,
  fresh_logged,
  left_by_logged,
  KeptLogged,
  LoggedCalls,
  left_after_logged,
  logged_lines,
  logged_answers,
  answers_to,
  LoggedRun,
}
use Rattle.fleet_calls.proofs.Promises.{same_fine, logs_same}

-- the record and the count are those of the state, and so are the used entries of the log; the rest of it is as lent
pub record FollowsRun (log : List Entry) (s : State) (b : LoggedLeft) : Type 0 where
  pub bytes : b.bytes ≡ s.bytes
  pub used : b.used ≡ length s.log
  pub log_is : b.log ≡ s.log ++ drop (length s.log) log
  pub long : length b.log ≡ length log

-- an accepted line has room in the log
room_free : (x : Slices) (room : ℕ) (s : State) (l : List ℕ) → fault_of x room s l ≡ 0 → length s.log < room
room_free x room s l e =
    let t = table_of x in
    let f = frame_of l in
    let sent = unsent_fault (event_of t f) (marks t f.from s.bytes) in
    let full : ℕ = cond (ltb (length s.log) room) 0 26 in
    ltb-true (length s.log) room (unless_none (ltb (length s.log) room) 25
    (or_right sent full (or_right (event_line_fault t l) (or_else sent full) (or_right (fleet_fault t s.bytes) (or_else (event_line_fault t l) (or_else sent full)) (or_right (slices_fault x) (or_else (fleet_fault t s.bytes) (or_else (event_line_fault t l) (or_else sent full))) e)))))

-- the first free entry is stored
behind : (log es : List Entry) (e : Entry) → length es < length log
    → set (es ++ drop (length es) log) (length es) e ≡ (es ++ (e ∷ [])) ++ drop (length (es ++ (e ∷ []))) log
behind log es e l =
    let one : length (es ++ (e ∷ [])) ≡ suc (length es) = length-append es (e ∷ []) ∙ omega arith in
    ap (λ (rest : List Entry). set (es ++ rest) (length es) e) (drop-cons log (length es) no_entry l)
    ∙ set-append_seam es (get_or log (length es) no_entry) (drop (suc (length es)) log) e
    ∙ sym (append_snoc es e (drop (suc (length es)) log))
    ∙ ap (λ (n : ℕ). (es ++ (e ∷ [])) ++ drop n log) (sym one)

-- the entry of a line
abbrev pub entry_to : Slices → State → List ℕ → Entry
entry_to x s l = entry_by (table_of x) s.bytes (frame_of l)

-- the count goes up with the log
pub used_next : (x : Slices) (room : ℕ) (s : State) (l : List ℕ) → length s.log + accepted_by (answer_to x room s l) ≡ length (next x room s l).log
unfolding next
used_next x room s l = go (eqb (fault_of x room s l) 0)
  where
    go : (b : Bool) → length s.log + accepted_by (cond b (Logged (entry_to x s l)) (Refused (fault_of x room s l))) ≡ length (cond b (accepted x s l) s).log
    go true = sym (length-append s.log (entry_to x s l ∷ []))
    go false = omega arith

log_next : (x : Slices) (room : ℕ) (s : State) (l : List ℕ) (rest : List Answer) → (next x room s l).log ++ entries_in rest ≡ s.log ++ entries_in (answer_to x room s l ∷ rest)
unfolding next
log_next x room s l rest = go (eqb (fault_of x room s l) 0)
  where
    go : (b : Bool) → (cond b (accepted x s l) s).log ++ entries_in rest ≡ s.log ++ entries_in (cond b (Logged (entry_to x s l)) (Refused (fault_of x room s l)) ∷ rest)
    go true = append_snoc s.log (entry_to x s l) (entries_in rest)
    go false = refl

-- the log of the run has the entries of its answers
pub run_log : (x : Slices) (room : ℕ) (s : State) (ls : List (List ℕ)) → (run x room s ls).log ≡ s.log ++ entries_in (answers_to x room s ls)
unfolding run answers_to
run_log x room s [] = sym (append-nil s.log)
run_log x room s (l ∷ ls) = run_log x room (next x room s l) ls ∙ log_next x room s l (answers_to x room (next x room s l) ls)

-- a call is a step
module _ (x : Slices) (log : List Entry) (s : State) (b : LoggedLeft) (c : LoggedCall) (f : FollowsRun log s b)
    (h : LogsInFleet x b.used c.line c.answer b.bytes c.bytes b.log c.log) where
  abbrev room : ℕ
  room = length log

  abbrev l : List ℕ
  l = c.line

  stepped : (c.answer ≡ answer_to x room s l) × (c.bytes ≡ (next x room s l).bytes)
  stepped = handled_next x room s l c.answer c.bytes (rw (f.used, f.bytes, f.long) at h.handled)

  stored : c.log ≡ cond (eqb (fault_of x room s l) 0) (set b.log (length s.log) (entry_to x s l)) b.log
  stored = rw (f.used, f.bytes, f.long) at h.log_after

  log_follows : c.log ≡ (next x room s l).log ++ drop (length (next x room s l).log) log
  unfolding next
  log_follows = stored ∙ go (eqb (fault_of x room s l) 0) refl
    where
      e : Entry
      e = entry_to x s l

      go : (z : Bool) → eqb (fault_of x room s l) 0 ≡ z
          → cond z (set b.log (length s.log) e) b.log ≡ (cond z (accepted x s l) s).log ++ drop (length (cond z (accepted x s l) s).log) log
      go true fine = ap (λ (es : List Entry). set es (length s.log) e) f.log_is ∙ behind log s.log e (room_free x room s l (eqb-true (fault_of x room s l) 0 fine))
      go false fine = f.log_is

  long_stays : length c.log ≡ room
  long_stays = ap length stored ∙ go (eqb (fault_of x room s l) 0)
    where
      go : (z : Bool) → length (cond z (set b.log (length s.log) (entry_to x s l)) b.log) ≡ room
      go true = length-set b.log (length s.log) (entry_to x s l) ∙ f.long
      go false = f.long

  pub step_follows : (c.answer ≡ answer_to x room s l) × FollowsRun log (next x room s l) (left_by_logged b c)
  step_follows = (
    stepped.0,
    record {
      bytes = stepped.1;
      used = ap (λ (n : ℕ). n + accepted_by c.answer) f.used ∙ ap (λ (a : Answer). length s.log + accepted_by a) stepped.0 ∙ used_next x room s l;
      log_is = log_follows;
      long = long_stays;
    },
  )

-- two sets of slices with one table

same_through : (t u v : Table) → Same t u → Same u v → Same t v
same_through t u v e f =
    record {
      number = e.number ∙ f.number;
      probes = e.probes ∙ f.probes;
      links = e.links ∙ f.links;
      need = λ p l. e.need p l ∙ f.need p (rw e.probes at l);
      low = λ i l. e.low i l ∙ f.low i (rw e.links at l);
      high = λ i l. e.high i l ∙ f.high i (rw e.links at l);
      cost = λ i l. e.cost i l ∙ f.cost i (rw e.links at l);
    }

-- calls over the one are calls over the other
module _ (x y : Slices) (k : SameTable y x) where
  pub table_through : (z : Slices) → SameTable z y → SameTable z x
  table_through z j = record { same = same_through (table_of z) (table_of y) (table_of x) j.same k.same; passes_8 = j.passes_8 }

  pub calls_through : (b : LoggedLeft) (cs : List LoggedCall) → LoggedCalls y b cs → LoggedCalls x b cs
  calls_through b [] j = tt
  calls_through b (c ∷ cs) j =
      (record { same_table = table_through c.slices j.0.same_table; promise = j.0.promise }, calls_through (left_by_logged b c) cs j.1)

  pub fresh_through : (log : List Entry) → fresh_logged y log ≡ fresh_logged x log
  fresh_through log = rw k.same.links

pub fresh_follows : (x : Slices) (log : List Entry) → FollowsRun log (start x) (fresh_logged x log)
fresh_follows x log = record { bytes = refl; used = refl; log_is = refl; long = refl }

module _ (x : Slices) (fine : slices_fault x ≡ 0) where
  -- a promise over other slices of the table is one over x
  pub kept_logs : (b : LoggedLeft) (c : LoggedCall) → KeptLogged x b c → LogsInFleet x b.used c.line c.answer b.bytes c.bytes b.log c.log
  kept_logs b c k =
      logs_same c.slices x k.same_table.same (same_fine x c.slices fine k.same_table) fine b.used c.line c.answer b.bytes c.bytes b.log c.log k.promise

  pub calls_follow : (log : List Entry) (s : State) (b : LoggedLeft) → FollowsRun log s b → (cs : List LoggedCall) → LoggedCalls x b cs
      → (logged_answers cs ≡ answers_to x (length log) s (logged_lines cs)) × FollowsRun log (run x (length log) s (logged_lines cs)) (left_after_logged b cs)
  unfolding run answers_to
  calls_follow log s b f [] k = (refl, f)
  calls_follow log s b f (c ∷ cs) k =
      let one = step_follows x log s b c f (kept_logs b c k.0) in
      let rest = calls_follow log (next x (length log) s c.line) (left_by_logged b c) one.1 cs k.1 in
      (rw (one.0, rest.0), rest.1)

  pub logged_run : (log : List Entry) (cs : List LoggedCall) → LoggedCalls x (fresh_logged x log) cs → LoggedRun x log cs
  logged_run log cs k =
      let all = calls_follow log (start x) (fresh_logged x log) (fresh_follows x log) cs k in
      let f = all.1 in
      let after = left_after_logged (fresh_logged x log) cs in
      let es = (run x (length log) (start x) (logged_lines cs)).log in
      let rest = drop (length es) log in
      record {
        answers = all.0;
        bytes = f.bytes;
        used = f.used;
        used_within = rw (f.used, f.log_is) (let long = length-append es rest in omega arith);
        entries = rw (f.used, f.log_is) (take-append_seam es rest);
        entries_answered = rw (f.used, f.log_is) (take-append_seam es rest) ∙ run_log x (length log) (start x) (logged_lines cs) ∙ ap entries_in (sym all.0);
        entry_read = λ i r q l.
            let u = rw f.used at l in
            slot_is r after.log after.used i q ∙ rw (f.used, f.log_is) (slot_of_used es rest i ∙ slot_used es (length es) i u u);
        none_read = λ i r q l. slot_is r after.log after.used i q ∙ slot_past_used after.log after.used i l;
        free = rw (f.used, f.log_is) (drop-append_seam es rest);
        long = f.long;
      }
