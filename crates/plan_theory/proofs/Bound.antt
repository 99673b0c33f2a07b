-- The cost bound: the plan against any choice that meets the needs. With it what demand 3 says of the plan, what it keeps of a short probe, and 02, No. 14.
use Prim.Native.Nat.{ℕ, ◌+◌, ◌*◌, ◌≤◌, ◌<◌}
use mathlib.Core.Path.{◌≡◌, refl, sym, ◌∙◌}
use mathlib.Core.Logic.{◌⊎◌, inl, inr}
use mathlib.Core.Bool.{Bool, true, false, cond, ◌&&◌, ◌||◌, not, and_comm, true≢false}
use native.Mathlib.Omega.{arith}
use native.Mathlib.Decide.{dec_lt}
use lib.Dec.{leb, eqb}
use borrow.Author.Tests.{leb-true, le-leb, lt-ltb, not-true, eq-eqb}
use Rattle.range.specs.Sum.{sum, weigh, count}
use Rattle.range.proofs.Bools.{and_left, and_right, and_intro, or_intro_left, or_intro_right, and_skip, decided}
use Rattle.range.proofs.Sums.{sum_le, sum_add, sum_swap, sum_one, sum_at, weigh_le, weigh_same, weigh_split, weigh_dominated, count_none, count_less}
use Rattle.table.specs.Table.{Table, touches, counted_need, spare, is_short, dearer}
use Rattle.plan_theory.specs.Plan.{links_at, rested, kept, cost_of, has_fewer, without, is_needed, Meets}
use Rattle.plan_theory.proofs.Places.{Order, reversed, Last, last, all_before}
use Rattle.plan_theory.proofs.Order.{dearer_order, Dear, dear, on_dear}
use Rattle.table.specs.Legal.{Legal, RisingLinks, LegalTable}
use Rattle.table.proofs.LegalLaws.{legal_table}
use Rattle.table.proofs.Needs.{short_spare}
use Rattle.plan_theory.proofs.Plan.{at_same, at_split, at_both, touches_low, touches_high, plan_criterion, rested_at, rested_fits, plan_meets}
use Rattle.plan_theory.specs.Criterion.{dearer_in, dearer_at, UnderSpare}
use Rattle.plan_theory.specs.Bounds.{ShortKeeps, PlanBounds, NoneForNothing}

-- outside the choice, no probe has more links than its spare
abbrev pub WithinSpare : Table → (ℕ → Bool) → Type 0
WithinSpare t choice = (v : ℕ) → v < t.probes → links_at t (λ g. not (choice g)) v ≤ spare t v

-- one link at a probe, by tests: at it, blocked by it, rested or kept, chosen or not
flip : (a b c : Bool) → ((a && b) && c) ≡ ((a && c) && b)
flip true b c = and_comm b c
flip false b c = refl

only : (a b c d : Bool) → (a && (b && (c && d))) ≡ true → ((a && d) && c) ≡ true
only true true c d h = and_comm d c ∙ h
only true false c d h = absurd (true≢false (sym h))
only false b c d h = h

other : (a r c : Bool) → ((a && r) && c) ≡ true → (a && (c && not (not r))) ≡ true
other true true true h = refl
other true true false h = h
other true false c h = absurd (true≢false (sym h))
other false r c h = h

rests : (a r c : Bool) → (a && (c && not (not r))) ≡ true → (a && r) ≡ true
rests true true c h = refl
rests true false c h = and_right c false h
rests false r c h = h

-- v rests its spare of links that are dearer than i
abbrev RestsSpare : Table → ℕ → ℕ → Type 0
RestsSpare t i v = spare t v ≤ dearer_at t (rested t) i v

-- a kept link has an end that rests its spare of dearer ones
kept_end : (t : Table) → RisingLinks t → (i : ℕ) → i < t.links → kept t i ≡ true
    → RestsSpare t i (t.low i) ⊎ RestsSpare t i (t.high i)
kept_end t order i l k = go (dec_lt (dearer_at t (rested t) i (t.low i)) (spare t (t.low i))) (dec_lt (dearer_at t (rested t) i (t.high i)) (spare t (t.high i)))
  where
    go : Dec (UnderSpare t (rested t) i (t.low i)) → Dec (UnderSpare t (rested t) i (t.high i))
        → RestsSpare t i (t.low i) ⊎ RestsSpare t i (t.high i)
    go (yes a) (yes b) = absurd (true≢false (sym ((plan_criterion t order i l).1 (a, b)) ∙ not-true (rested t i) k))
    go (yes a) (no b) = inr (omega arith)
    go (no a) b = inl (omega arith)

module _ (t : Table) (s : LegalTable 256 2048 t) (choice : ℕ → Bool) (within : WithinSpare t choice) where
  abbrev order : Order t.links (dearer t)
  order = dearer_order t s.order

  -- the links at x that only the plan keeps, kept because x rests its spare of dearer ones
  abbrev only_plan_at : ℕ → ℕ → Bool
  only_plan_at x i = touches t x i && (leb (spare t x) (dearer_at t (rested t) i x) && without (kept t) choice i)

  -- the links at x that only the choice keeps
  abbrev only_choice_at : ℕ → ℕ → Bool
  only_choice_at x i = touches t x i && without choice (kept t) i

  -- At a probe x, by e, the dearest of those that only the plan keeps.
  module _ (x : ℕ) (lx : x < t.probes) (e : Last t.links (λ i j. dearer t j i) (only_plan_at x)) where
    -- x rests its spare of dearer links
    full : RestsSpare t e.at x
    full =
        let blocked = leb (spare t x) (dearer_at t (rested t) e.at x) in
        let only = without (kept t) choice e.at in
        leb-true (spare t x) (dearer_at t (rested t) e.at x) (and_left blocked only (and_right (touches t x e.at) (blocked && only) e.inside))

    -- every link that x rests is dearer
    rests_dearer : (g : ℕ) → g < t.links → (touches t x g && rested t g) ≡ true → dearer t g e.at ≡ true
    rests_dearer =
        all_before t.links (dearer t) order (λ g. touches t x g && rested t g) e.at
        (let a = rested_fits t s.order x in
        let b = full in
        let c = at_both t (λ g. dearer t g e.at) (rested t) x in
        omega arith)

    -- x has at most its spare outside the choice, and rests its spare
    few : count t.links (only_plan_at x) ≤ count t.links (only_choice_at x)
    few =
        let out = weigh_split t.links (λ i. touches t x i && not (choice i)) (rested t) (λ i. 1) in
        let rest = weigh_split t.links (λ i. touches t x i && rested t i) choice (λ i. 1) in
        let both = weigh_same t.links (λ i. (touches t x i && rested t i) && not (choice i)) (λ i. (touches t x i && not (choice i)) && rested t i) (λ i. 1)
        (λ i l. flip (touches t x i) (rested t i) (not (choice i))) in
        let stay = weigh_le t.links (only_plan_at x) (λ i. (touches t x i && not (choice i)) && not (rested t i)) (λ i. 1)
        (λ i l. only (touches t x i) (leb (spare t x) (dearer_at t (rested t) i x)) (not (rested t i)) (not (choice i))) in
        let go = weigh_le t.links (λ i. (touches t x i && rested t i) && choice i) (only_choice_at x) (λ i. 1)
        (λ i l. other (touches t x i) (rested t i) (choice i)) in
        let most = within x lx in
        let room = full in
        let dearest = weigh_le t.links (λ g. touches t x g && (dearer t g e.at && rested t g)) (λ g. touches t x g && rested t g) (λ i. 1)
        (λ g l. and_skip (touches t x g) (dearer t g e.at) (rested t g)) in
        omega arith

    -- e costs no less than those that only the plan keeps, and no more than those that only the choice keeps
    most : (i : ℕ) → i < t.links → only_plan_at x i ≡ true → t.cost i ≤ t.cost e.at
    most i l h = go (dec_lt (t.cost e.at) (t.cost i))
      where
        go : Dec (t.cost e.at < t.cost i) → t.cost i ≤ t.cost e.at
        go (yes more) =
            absurd (true≢false
            (sym (and_intro (on_dear t s.order i e.at l e.below (inl more)) h)
            ∙ count_none t.links (λ g. dearer t g e.at && only_plan_at x g) e.after i l))
        go (no more) = omega arith

    least : (i : ℕ) → i < t.links → only_choice_at x i ≡ true → t.cost e.at ≤ t.cost i
    least i l h = go (dear t s.order i e.at l e.below (rests_dearer i l (rests (touches t x i) (rested t i) (choice i) h)))
      where
        go : Dear t i e.at → t.cost e.at ≤ t.cost i
        go (inl a) = omega arith
        go (inr a) = omega arith

    at_most : weigh t.links (only_plan_at x) t.cost ≤ weigh t.links (only_choice_at x) t.cost
    at_most = weigh_dominated t.links (only_plan_at x) (only_choice_at x) t.cost (t.cost e.at) most least few

  at_probe : (x : ℕ) → x < t.probes → weigh t.links (only_plan_at x) t.cost ≤ weigh t.links (only_choice_at x) t.cost
  at_probe x lx = go (dec_lt 0 (count t.links (only_plan_at x)))
    where
      go : Dec (0 < count t.links (only_plan_at x)) → weigh t.links (only_plan_at x) t.cost ≤ weigh t.links (only_choice_at x) t.cost
      go (yes some) = at_most x lx (last t.links (λ i j. dearer t j i) (reversed order) (only_plan_at x) some)
      go (no none) =
          weigh_le t.links (only_plan_at x) (only_choice_at x) t.cost
          (λ i l h. absurd (true≢false (sym h ∙ count_none t.links (only_plan_at x) (omega arith) i l)))

  -- a link that only the plan keeps is kept because of one of its ends
  one_end : (i : ℕ) → i < t.links → cond (without (kept t) choice i) (t.cost i) 0 ≤ sum t.probes (λ x. cond (only_plan_at x i) (t.cost i) 0)
  one_end i l =
      part (without (kept t) choice i) (t.cost i) (sum t.probes (λ x. cond (only_plan_at x i) (t.cost i) 0))
      (λ only. either only (kept_end t s.order i l (and_left (kept t i) (not (choice i)) only)))
    where
      part : (b : Bool) (k n : ℕ) → (b ≡ true → k ≤ n) → cond b k 0 ≤ n
      part true k n h = h refl
      part false k n h = omega arith

      by : (x : ℕ) → x < t.probes → touches t x i ≡ true → RestsSpare t i x → without (kept t) choice i ≡ true
          → t.cost i ≤ sum t.probes (λ y. cond (only_plan_at y i) (t.cost i) 0)
      by x lx at full only =
          rw (and_intro at (and_intro (le-leb (spare t x) (dearer_at t (rested t) i x) full) only))
          at (sum_at t.probes (λ y. cond (only_plan_at y i) (t.cost i) 0) x lx)

      either : without (kept t) choice i ≡ true
          → RestsSpare t i (t.low i) ⊎ RestsSpare t i (t.high i)
          → t.cost i ≤ sum t.probes (λ y. cond (only_plan_at y i) (t.cost i) 0)
      either only (inl full) = let e = s.ends i l in by (t.low i) (omega arith) (touches_low t i) full only
      either only (inr full) = by (t.high i) (s.ends i l).below (touches_high t i) full only

  -- a link has two ends
  two_ends : (i : ℕ) → i < t.links
      → sum t.probes (λ x. cond (only_choice_at x i) (t.cost i) 0) ≤ cond (without choice (kept t) i) (t.cost i) 0 + cond (without choice (kept t) i) (t.cost i) 0
  two_ends i l =
      let k = cond (without choice (kept t) i) (t.cost i) 0 in
      let e = s.ends i l in
      let low = sum_one t.probes (λ x. k) (t.low i) (omega arith) in
      let high = sum_one t.probes (λ x. k) (t.high i) e.below in
      let both = sum_add t.probes (λ x. cond (eqb x (t.low i)) k 0) (λ x. cond (eqb x (t.high i)) k 0) in
      let all = sum_le t.probes (λ x. cond (only_choice_at x i) (t.cost i) 0) (λ x. cond (eqb x (t.low i)) k 0 + cond (eqb x (t.high i)) k 0)
      (λ x lx. part (eqb x (t.low i)) (eqb x (t.high i)) (without choice (kept t) i) (t.cost i)) in
      omega arith
    where
      part : (a b c : Bool) (n : ℕ) → cond ((a || b) && c) n 0 ≤ cond a (cond c n 0) 0 + cond b (cond c n 0) 0
      part true b c n = omega arith
      part false true c n = omega arith
      part false false c n = omega arith

  pub within_apart : cost_of t (without (kept t) choice) ≤ 2 * cost_of t (without choice (kept t))
  within_apart =
      let probes = sum_le t.probes (λ x. weigh t.links (only_plan_at x) t.cost) (λ x. weigh t.links (only_choice_at x) t.cost) at_probe in
      let from = sum_swap t.probes t.links (λ x i. cond (only_plan_at x i) (t.cost i) 0) in
      let to = sum_swap t.probes t.links (λ x i. cond (only_choice_at x i) (t.cost i) 0) in
      let low = sum_le t.links (λ i. cond (without (kept t) choice i) (t.cost i) 0) (λ i. sum t.probes (λ x. cond (only_plan_at x i) (t.cost i) 0)) one_end in
      let k : ℕ → ℕ = λ i. cond (without choice (kept t) i) (t.cost i) 0 in
      let high = sum_le t.links (λ i. sum t.probes (λ x. cond (only_choice_at x i) (t.cost i) 0)) (λ i. k i + k i) two_ends in
      let twice = sum_add t.links k k in
      omega arith

pub meets_within : (t : Table) (choice : ℕ → Bool) → Meets t choice → WithinSpare t choice
meets_within t choice meets v l =
    let a = at_split t choice v in
    let b = meets v l in
    omega arith

module _ (t : Table) (s : LegalTable 256 2048 t) (choice : ℕ → Bool) (meets : Meets t choice) where
  pub bound_apart : cost_of t (without (kept t) choice) ≤ 2 * cost_of t (without choice (kept t))
  bound_apart = within_apart t s choice (meets_within t choice meets)

  pub bound : cost_of t (kept t) ≤ 2 * cost_of t choice
  bound =
      let apart = bound_apart in
      let plan = weigh_split t.links (kept t) choice t.cost in
      let other = weigh_split t.links choice (kept t) t.cost in
      let both = weigh_same t.links (λ i. kept t i && choice i) (λ i. choice i && kept t i) t.cost (λ i l. and_comm (kept t i) (choice i)) in
      omega arith

-- Both bounds end in arithmetic: another factor is then refused with numbers that break it.
pub plan_bounds : (t : Table) → Legal t → PlanBounds t
plan_bounds t legal =
    record {
      needs_met = plan_meets t legal;
      cost_twice = λ choice meets. let b = bound t (legal_table 256 2048 t legal) choice meets in omega arith;
    }

-- no link at a probe with spare 0 has fewer rested dearer ones than the spare
pub short_keeps : (t : Table) → Legal t → ShortKeeps t
short_keeps t legal = record { no_spare = short_spare t; keeps_all = λ v i e l at. go v i e l at (decided (rested t i)) }
  where
    go : (v i : ℕ) → is_short t v ≡ true → i < t.links → touches t v i ≡ true → (rested t i ≡ true) ⊎ (rested t i ≡ false) → kept t i ≡ true
    go v i e l at (inl r) =
        let under = rested_at t (legal_table 256 2048 t legal).order i v l r at in
        let none = short_spare t v e in
        absurd (omega arith)
    go v i e l at (inr r) = rw r

-- without a kept link, the end that rests its spare has fewer than it needs
pub none_for_nothing : (t : Table) → Legal t → NoneForNothing t (kept t)
none_for_nothing t legal =
    record {
      each_needed = λ i l k. needed i l k (kept_end t s.order i l k);
      apart_twice = λ choice meets. let b = bound_apart t s choice meets in omega arith;
    }
  where
    s : LegalTable 256 2048 t
    s = legal_table 256 2048 t legal

    fewer : (i v : ℕ) → i < t.links → kept t i ≡ true → touches t v i ≡ true → RestsSpare t i v
        → has_fewer t (without (kept t) (eqb i)) v ≡ true
    fewer i v l k at full =
        let one_less_lem = count_less t.links (λ g. touches t v g && without (kept t) (eqb i) g) (λ g. touches t v g && kept t g) i
        (λ g b e. and_intro (and_left (touches t v g) _ e) (and_left (kept t g) _ (and_right (touches t v g) (without (kept t) (eqb i) g) e))) l
        (rw (eq-eqb i i refl, k, at)) (and_intro at k) in
        let dearer-ones = weigh_le t.links (λ g. touches t v g && dearer_in t (rested t) i g) (λ g. touches t v g && rested t g) (λ g. 1)
        (λ g b. and_skip (touches t v g) (dearer t g i) (rested t g)) in
        let split = at_split t (rested t) v in
        lt-ltb (links_at t (without (kept t) (eqb i)) v) (counted_need t v) (omega arith)

    needed : (i : ℕ) → i < t.links → kept t i ≡ true
        → RestsSpare t i (t.low i) ⊎ RestsSpare t i (t.high i) → is_needed t (kept t) i ≡ true
    needed i l k (inl full) = or_intro_left _ (has_fewer t (without (kept t) (eqb i)) (t.high i)) (fewer i (t.low i) l k (touches_low t i) full)
    needed i l k (inr full) = or_intro_right (has_fewer t (without (kept t) (eqb i)) (t.low i)) _ (fewer i (t.high i) l k (touches_high t i) full)

-- the same of every set with the plan's links
pub same_none_for_nothing : (t : Table) → Legal t → (plan : ℕ → Bool) → ((i : ℕ) → i < t.links → plan i ≡ kept t i) → NoneForNothing t plan
same_none_for_nothing t legal plan same =
    record {
      each_needed = λ i l k. rw (at i (t.low i), at i (t.high i)) (none.each_needed i l (sym (same i l) ∙ k));
      apart_twice = λ choice meets.
          rw (
            weigh_same t.links (without plan choice) (without (kept t) choice) t.cost (λ g b. rw (same g b)),
            weigh_same t.links (without choice plan) (without choice (kept t)) t.cost (λ g b. rw (same g b)),
          )
          (none.apart_twice choice meets);
    }
  where
    none : NoneForNothing t (kept t)
    none = none_for_nothing t legal

    at : (i v : ℕ) → links_at t (without plan (eqb i)) v ≡ links_at t (without (kept t) (eqb i)) v
    at i = at_same t (without plan (eqb i)) (without (kept t) (eqb i)) (λ g b. rw (same g b))
