-- The finish: when it is said, that it can be reached from each moment, and what the ends then rest.
use Prim.Native.Nat.{ℕ, zero, suc, ◌+◌, ◌*◌, ◌≤◌, ◌<◌}
use mathlib.Core.Path.{◌≡◌, refl, sym, ◌∙◌, ap}
use mathlib.Core.Logic.{◌⊎◌, inl, inr}
use mathlib.Core.Bool.{Bool, true, false, ◌&&◌, not, true≢false}
use mathlib.Core.List.{List, [], ◌∷◌, ◌++◌}
use native.Mathlib.Omega.{arith}
use lib.Dec.{eqb}
use lib.ListN.{length, length-append}
use borrow.Author.Tests.{eqb-true, eq-eqb, not-true}
use Rattle.range.proofs.Bools.{and_left, and_right, and_intro, decided, same_bool}
use Rattle.range.proofs.Sums.{weigh_same}
use Rattle.table.specs.Table.{Table, touches, counted_need, is_short}
use Rattle.table.specs.Legal.{Legal}
use Rattle.plan_theory.specs.Plan.{rested, kept, links_at, cost_of, Meets}
use Rattle.plan_theory.specs.Bounds.{NoneForNothing}
use Rattle.plan_theory.proofs.Plan.{touches_low, plan_meets}
use Rattle.plan_theory.proofs.Bound.{bound, short_keeps, same_none_for_nothing}
use Rattle.probe_frame.specs.Frame.{Frame, frame_of}
use Rattle.fleet_theory.proofs.EndState.{SameBytes, Quiet, Live, total}
use Rattle.table.proofs.LegalLaws.{legal_table}
use Rattle.fleet_theory.proofs.EndRise.{grows, total_most}
use Rattle.fleet_theory.proofs.EndFinish.{rested_in, finished_plan}
use Rattle.fleet_theory.proofs.EndQuiet.{quiet_step}
use Rattle.fleet_theory.proofs.EndLive.{live_or_quiet}
use Rattle.fleet_theory.specs.Fleet.{event_line_fault, entry_by, State, accepted, next, run, finished}
use Rattle.table.specs.Slices.{Slices, table_of, slices_fault}
use Rattle.fleet_theory.specs.Words.{MaySend, TrulySent, end_rests, Usable}
use Rattle.fleet_theory.specs.ClaimsOfRun.{moments, LeadsOn, NoRestart}
use Rattle.fleet_theory.proofs.Lines.{line_frame}
use Rattle.fleet_theory.proofs.Own.{out_of, in_of}
use Rattle.fleet_theory.proofs.Connect.{OfferMarked, RefusalMarked}
use Rattle.fleet_theory.proofs.Run.{slices_legal, HoldsAfter, Passed, passed_fault, next_accepted, accepted_holds, accepted_steps, next_holds, event_steps}
use Rattle.fleet_theory.proofs.Quiet.{quiet_finished, finished_quiet, quiet_stays}
use Rattle.fleet_theory.proofs.Live.{UsableNow, usable_event, usable_sent, Altering, live_line}

-- what may be sent now is truly sent
abbrev NowSent : Table → List ℕ → List (List ℕ) → Type 0
NowSent t r so_far = (f : Frame) → MaySend t r f → TrulySent t f so_far

last_sent : (t : Table) (r : List ℕ) (so_far : List (List ℕ)) → NowSent t r (so_far ++ (r ∷ []))
last_sent t r [] f m = inl m
last_sent t r (q ∷ so_far) f m = inr (last_sent t r so_far f m)

pub run_sent : (x : Slices) (room : ℕ) (s : State) (ls : List (List ℕ)) → NowSent (table_of x) (run x room s ls).bytes (moments x room s ls)
unfolding moments run
run_sent x room s [] f m = inl m
run_sent x room s (l ∷ ls) f m = inr (run_sent x room (next x room s l) ls f m)

module _ (x : Slices) (fine : slices_fault x ≡ 0) where
  abbrev t : Table
  t = table_of x

  legal : Legal t
  legal = slices_legal x fine

  module _ (s : State) (h : HoldsAfter t s) where
    abbrev r : List ℕ
    r = s.bytes

    abbrev Unaltered : Type 0
    Unaltered = (l : List ℕ) → event_line_fault t l ≡ 0 → UsableNow t r (frame_of l) → (room : ℕ) → length s.log < room → (next x room s l).bytes ≡ r

    usable_passed : (room : ℕ) (l : List ℕ) → event_line_fault t l ≡ 0 → UsableNow t r (frame_of l) → length s.log < room → Passed x room s l
    usable_passed room l e u free = record { line = e; sent = usable_sent t r l h.marked e u; free = free }

    pub finished_unaltered : finished t r ≡ true → Unaltered
    finished_unaltered e l line u room free =
        ap (λ s'. s'.bytes) (next_accepted x fine s h room l (usable_passed room l line u free)) ∙ quiet_stays t legal r (finished_quiet t legal r e) l line u

    pub unaltered_finished : x.number < 65536 → Unaltered → finished t r ≡ true
    unaltered_finished digits unaltered = go (live_or_quiet t (out_of t r) (in_of t r))
      where
        go : Live t (out_of t r) (in_of t r) ⊎ Quiet t (out_of t r) (in_of t r) → finished t r ≡ true
        go (inr quiet) = quiet_finished t legal r quiet
        go (inl live) =
            let (l, a) = live_line t legal r h.long h.marked digits live in
            let room = suc (length s.log) in
            let free : length s.log < room = omega arith in
            let e = sym (ap (λ s'. s'.bytes) (next_accepted x fine s h room l (usable_passed room l a.line a.usable free))) ∙ unaltered l a.line a.usable room free in
            absurd (a.alters (λ p i. ap (λ y. out_of t y p i) e) (λ p i. ap (λ y. in_of t y p i) e))

    abbrev o : ℕ → ℕ → ℕ
    o = out_of t r

    abbrev n : ℕ → ℕ → ℕ
    n = in_of t r

    -- finished or not, an end rests only what the plan rests
    rests : (i p : ℕ) → i < x.links → touches t p i ≡ true → end_rests t r p i ≡ true → rested t i ≡ true
    rests i p l at a =
        rested_in t legal (OfferMarked t r) (RefusalMarked t r) o n h.good p i l at (eqb-true (o p i) 1 (and_left (eqb (o p i) 1) (eqb (n p i) 1) a))
        (eqb-true (n p i) 1 (and_right (eqb (o p i) 1) (eqb (n p i) 1) a))

    pub short_rests_none : (p i : ℕ) → is_short t p ≡ true → i < x.links → touches t p i ≡ true → end_rests t r p i ≡ false
    short_rests_none p i short l at = go (decided (end_rests t r p i))
      where
        go : (end_rests t r p i ≡ true) ⊎ (end_rests t r p i ≡ false) → end_rests t r p i ≡ false
        go (inl a) = absurd (true≢false (sym (rests i p l at a) ∙ not-true (rested t i) ((short_keeps t legal).keeps_all p i short l at)))
        go (inr a) = a

    module _ (e : finished t r ≡ true) where
      pub ends_plan : (i p : ℕ) → i < x.links → touches t p i ≡ true → end_rests t r p i ≡ rested t i
      ends_plan i p l at = same_bool (end_rests t r p i) (rested t i) (rests i p l at) planned
        where
          planned : rested t i ≡ true → end_rests t r p i ≡ true
          planned a =
              let b = finished_plan t legal (OfferMarked t r) (RefusalMarked t r) o n h.good (finished_quiet t legal r e) p i l at a in
              and_intro (eq-eqb (o p i) 1 b.0) (eq-eqb (n p i) 1 b.1)

      pub needs_kept : (v : ℕ) → v < x.probes → counted_need t v ≤ links_at t (λ i. not (end_rests t r v i)) v
      needs_kept v l =
          let a = plan_meets t legal v l in
          let b = weigh_same x.links (λ i. touches t v i && not (end_rests t r v i)) (λ i. touches t v i && kept t i) (λ i. 1) (λ i k. go i k (decided (touches t v i))) in
          omega arith
        where
          go : (i : ℕ) → i < x.links → (touches t v i ≡ true) ⊎ (touches t v i ≡ false) → (touches t v i && not (end_rests t r v i)) ≡ (touches t v i && kept t i)
          go i k (inl at) = rw (at, ends_plan i v k at)
          go i k (inr at) = rw at

      -- the links that their low ends do not rest
      low_keeps : (i : ℕ) → i < x.links → not (end_rests t r (t.low i) i) ≡ kept t i
      low_keeps i k = rw (ends_plan i (t.low i) k (touches_low t i))

      pub cost_kept : (choice : ℕ → Bool) → Meets t choice → cost_of t (λ i. not (end_rests t r (t.low i) i)) ≤ 2 * cost_of t choice
      cost_kept choice meets =
          let a = bound t (legal_table 256 2048 t legal) choice meets in
          let b = weigh_same x.links (λ i. not (end_rests t r (t.low i) i)) (kept t) t.cost low_keeps in
          omega arith

      pub kept_none_for_nothing : NoneForNothing t (λ i. not (end_rests t r (t.low i) i))
      kept_none_for_nothing = same_none_for_nothing t legal (λ i. not (end_rests t r (t.low i) i)) low_keeps

  -- a finished fleet stays finished until a restart is accepted
  pub stays_finished : (room : ℕ) (s : State) → HoldsAfter t s → finished t s.bytes ≡ true → (ms : List (List ℕ)) → NoRestart x room (λ p. true) s ms
      → finished t (run x room s ms).bytes ≡ true
  unfolding run
  stays_finished room s h e [] none = e
  stays_finished room s h e (l ∷ ms) none =
      let r = s.bytes in
      let s' = next x room s l in
      let quiet = quiet_step t legal (OfferMarked t r) (RefusalMarked t r) (out_of t r) (in_of t r) h.good (finished_quiet t legal r e) (out_of t s'.bytes) (in_of t s'.bytes)
      (event_steps x fine s h room l (λ is. none.0 is refl)) in
      stays_finished room s' (next_holds x fine s h room l) (quiet_finished t legal s'.bytes quiet) ms none.1

  -- the sum of all bytes of a record
  abbrev total_of : List ℕ → ℕ
  total_of r = total t (out_of t r) (in_of t r)

  -- lines that lead to the finish, and the entries that they need
  abbrev Leads : State → Type 0
  Leads s =
      (ms : List (List ℕ)) × ((so_far : List (List ℕ)) → NowSent t s.bytes so_far → (room : ℕ) → length s.log + length ms ≤ room → LeadsOn x room so_far s ms)

  leads_on : x.number < 65536 → (b : ℕ) (s : State) → HoldsAfter t s → 8 * x.links < total_of s.bytes + b → Leads s
  leads_on digits zero s h few = let a = total_most t (OfferMarked t s.bytes) (RefusalMarked t s.bytes) (out_of t s.bytes) (in_of t s.bytes) h.good in absurd (omega arith)
  leads_on digits (suc b) s h few = go (leads_on digits b) (live_or_quiet t (out_of t s.bytes) (in_of t s.bytes))
    where
      go : ((s' : State) → HoldsAfter t s' → 8 * x.links < total_of s'.bytes + b → Leads s')
          → Live t (out_of t s.bytes) (in_of t s.bytes) ⊎ Quiet t (out_of t s.bytes) (in_of t s.bytes) → Leads s
      go on (inr quiet) = ([], λ so_far now-sent room fits. quiet_finished t legal s.bytes quiet)
      go on (inl live) = let (l, a) = live_line t legal s.bytes h.long h.marked digits live in first l a
        where
          first : (l : List ℕ) → Altering t s.bytes l → Leads s
          first l a = (l ∷ rest.0, then_on)
            where
              s' : State
              s' = accepted x s l

              passed : (room : ℕ) → length s.log < room → Passed x room s l
              passed room = usable_passed s h room l a.line a.usable

              one : Passed x (suc (length s.log)) s l
              one = passed (suc (length s.log)) (omega arith)

              more : total_of s.bytes < total_of s'.bytes
              more =
                  sure (grows t (OfferMarked t s.bytes) (RefusalMarked t s.bytes) (out_of t s.bytes) (in_of t s.bytes) (out_of t s'.bytes) (in_of t s'.bytes) h.good
                  (accepted_steps x fine s h (suc (length s.log)) l one (usable_event t s.bytes (frame_of l) a.usable)))
                where
                  sure : (SameBytes (out_of t s'.bytes) (out_of t s.bytes) × SameBytes (in_of t s'.bytes) (in_of t s.bytes)) ⊎ (total_of s.bytes < total_of s'.bytes)
                      → total_of s.bytes < total_of s'.bytes
                  sure (inl c) = absurd (a.alters c.0 c.1)
                  sure (inr c) = c

              rest : Leads s'
              rest = on s' (accepted_holds x fine s h (suc (length s.log)) l one) (let m = more in omega arith)

              then_on : (so_far : List (List ℕ)) → NowSent t s.bytes so_far → (room : ℕ) → length s.log + length (l ∷ rest.0) ≤ room
                  → LeadsOn x room so_far s (l ∷ rest.0)
              then_on so_far now-sent room fits =
                  let pass = passed room (omega arith) in
                  let long = length-append s.log (entry_by t s.bytes (frame_of l) ∷ []) in (
                    sent a.usable,
                    (entry_by t s.bytes (frame_of l), rw (passed_fault x fine s h room l pass) refl),
                    rw (next_accepted x fine s h room l pass) (rest.1 (so_far ++ (s'.bytes ∷ [])) (last_sent t s'.bytes so_far) room (omega arith)),
                  )
                where
                  sent : UsableNow t s.bytes (frame_of l) → Usable t l so_far
                  sent (inl z) = inl (a.line, z)
                  sent (inr m) = inr (line_frame t l a.line, now-sent (frame_of l) m)

  pub leads : x.number < 65536 → (s : State) → HoldsAfter t s → Leads s
  leads digits s h = leads_on digits (suc (8 * x.links)) s h (omega arith)
