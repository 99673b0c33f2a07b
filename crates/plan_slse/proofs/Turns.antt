-- What the turns of S-LSE's two ways leave in the plan's bytes and in the counts of links by probe.
use Prim.Native.Nat.{ℕ, ◌+◌, ◌-◌, ◌≤◌, ◌<◌}
use mathlib.Core.Path.{◌≡◌, refl, sym, ◌∙◌, ap}
use mathlib.Core.Logic.{◌⊎◌, inl, inr}
use mathlib.Core.Bool.{Bool, true, false, cond, ◌&&◌, ◌||◌, not, true≢false}
use mathlib.Core.List.{List}
use native.Mathlib.Omega.{arith}
use native.Mathlib.Decide.{ℕ_discrete}
use lib.Dec.{ltb, eqb}
use lib.ListN.{length, get_or, set}
use borrow.Author.Tests.{eq-eqb, ne_eqb}
use Rattle.range.specs.Lists.{stored}
use Rattle.range.proofs.Bools.{and_left, decided}
use Rattle.range.proofs.Sums.{weigh_more, weigh_same, count_less, none_count}
use Rattle.range.proofs.Lists.{stored_update, stored_same, stored_self, stored_again, length_stored}
use Rattle.table.specs.Table.{Table, item, of_slices, touches, dearer, cheaper}
use Rattle.table.specs.Legal.{table_fault, Ends, Size, RisingLinks, LegalTable}
use Rattle.table.proofs.DegreeLaws.{ends_changed}
use Rattle.plan_theory.specs.Pass.{place, pass_after}
use Rattle.plan_theory.specs.Plan.{links_at, has_fewer, added, has_more_added, removed, slse, kept, plan_byte}
use Rattle.plan_theory.proofs.Places.{Order, reversed, place_opposite}
use Rattle.plan_theory.proofs.Order.{dearer_order}
use Rattle.table.proofs.LegalLaws.{legal_table}
use Rattle.table.proofs.Needs.{over_given, under_given}
use Rattle.plan_theory.proofs.Plan.{stored_kept, at_same, at_split, touches_low, touches_high}
use Rattle.plan_theory.proofs.Slse.{slse_is_plan}
use Rattle.plan_theory.proofs.Pass.{early, pass_step}
use Rattle.plan_slse.specs.FromDearest.{InOrder, OrderFits}
use Rattle.plan_slse.specs.Steps.{either_below, both_over, one_more, one_less}

and_false : (b : Bool) → (b && false) ≡ false
and_false true = refl
and_false false = refl

and_true : (b : Bool) → (b && true) ≡ b
and_true true = refl
and_true false = refl

-- q is p with the link i more
record More (t : Table) (p q : ℕ → Bool) (i : ℕ) : Type 0 where
  pub out : p i ≡ false
  pub into : q i ≡ true
  pub same : (j : ℕ) → j < t.links → (j ≡ i → ⊥) → q j ≡ p j

-- a probe has one link more where it is an end
links_more : (t : Table) (p q : ℕ → Bool) (i v : ℕ) → i < t.links → More t p q i → links_at t q v ≡ links_at t p v + cond (touches t v i) 1 0
links_more t p q i v l m = go (decided (touches t v i))
  where
    go : (touches t v i ≡ true) ⊎ (touches t v i ≡ false) → links_at t q v ≡ links_at t p v + cond (touches t v i) 1 0
    go (inl e) =
        rw e
        (weigh_more t.links (λ j. touches t v j && p j) (λ j. touches t v j && q j) (λ j. 1) i l (rw (e, m.out)) (rw (e, m.into)) (λ j k d. rw (m.same j k d)))
    go (inr e) =
        rw e
        (weigh_same t.links (λ j. touches t v j && q j) (λ j. touches t v j && p j) (λ j. 1) (λ j k. other j k (ℕ_discrete j i))
        ∙ (let z : links_at t p v ≡ links_at t p v + 0 = omega arith in z))
      where
        other : (j : ℕ) → j < t.links → Dec (j ≡ i) → (touches t v j && q j) ≡ (touches t v j && p j)
        other j k (yes d) = rw (d, e)
        other j k (no d) = rw (m.same j k d)

-- One step of a pass, by its test.
module _ (t : Table) (before : ℕ → ℕ → Bool) (o : Order t.links before) (test : (ℕ → Bool) → ℕ → Bool) (k i : ℕ) (l : i < t.links) (e : place t.links before i ≡ k) where
  abbrev r : ℕ → Bool
  r = pass_after t.links before test k

  abbrev s : ℕ → Bool
  s = pass_after t.links before test (k + 1)

  step_more : test r i ≡ true → More t r s i
  step_more y =
      record {
        out = early t.links before o test k i (omega arith);
        into = pass_step t.links before o test k i l e i l ∙ rw (eq-eqb i i refl) y;
        same = λ j m d. pass_step t.links before o test k i l e j m ∙ rw (ne_eqb j i d);
      }

  step_same : test r i ≡ false → (j : ℕ) → j < t.links → s j ≡ r j
  step_same n j m = pass_step t.links before o test k i l e j m ∙ go (ℕ_discrete j i)
    where
      go : Dec (j ≡ i) → cond (eqb j i) (test r i) (r j) ≡ r j
      go (yes d) = rw (d, eq-eqb i i refl, n) (sym (early t.links before o test k i (omega arith)))
      go (no d) = rw (ne_eqb j i d)

-- a turn of the way up counts at most one more at a probe
pub one_more_most : (b : Bool) (counts counts' : List ℕ) (low high v n : ℕ) → Ends (length counts) low high → counts' ≡ cond b (one_more counts low high) counts
    → item counts v ≤ n → item counts' v ≤ n + 1
one_more_most true counts counts' low high v n ends e l =
    rw e (go (eqb v low || eqb v high) (ends_changed (λ n. n + 1) counts low high (let r = ends.rises in let k = ends.below in omega arith) ends.below ends.rises v))
  where
    go : (b : Bool) → item (one_more counts low high) v ≡ cond b (item counts v + 1) (item counts v) → item (one_more counts low high) v ≤ n + 1
    go true f = omega arith
    go false f = omega arith
one_more_most false counts counts' low high v n ends e l = rw e (omega arith)

module _ (probes links : ℕ) (needs lows highs costs : List ℕ) where
  abbrev pub t : Table
  t = of_slices 0 probes links needs lows highs costs

  -- the links added after k turns, and those removed
  abbrev pub up : ℕ → ℕ → Bool
  up k = pass_after links (cheaper t) (λ s g. has_fewer t s (t.low g) || has_fewer t s (t.high g)) k

  abbrev pub down : ℕ → ℕ → Bool
  down k = pass_after links (dearer t) (λ r g. added t g && (has_more_added t r (t.low g) && has_more_added t r (t.high g))) k

  pub record Up (k : ℕ) (plan₀ plan counts : List ℕ) : Type 0 where
    pub plans : plan ≡ stored (λ j. plan_byte (up k j)) links plan₀
    pub counted : (v : ℕ) → v < probes → item counts v ≡ links_at t (up k) v

  pub record Down (k : ℕ) (plan₀ plan counts : List ℕ) : Type 0 where
    pub plans : plan ≡ stored (λ j. plan_byte (added t j && not (down k j))) links plan₀
    pub counted : (v : ℕ) → v < probes → item counts v ≡ links_at t (added t) v - links_at t (down k) v

  module _ (rises : RisingLinks t) (k i : ℕ) (plan₀ plan counts : List ℕ) (l : i < links) (ends : Ends probes (item lows i) (item highs i)) (wide : probes ≤ length counts) (room : links ≤ length plan₀) where
    -- the counts after a link's turn
    more_at : (p q : ℕ → Bool) (v : ℕ) → More t p q i → item counts v ≡ links_at t p v → item (one_more counts (item lows i) (item highs i)) v ≡ links_at t q v
    more_at p q v m e =
        ends_changed (λ n. n + 1) counts (item lows i) (item highs i) (omega arith) (omega arith) ends.rises v
        ∙ go (touches t v i) (links_more t p q i v l m)
      where
        go : (b : Bool) → links_at t q v ≡ links_at t p v + cond b 1 0 → cond b (item counts v + 1) (item counts v) ≡ links_at t q v
        go true f = omega arith
        go false f = omega arith

    less_at : (a : ℕ) (p q : ℕ → Bool) (v : ℕ) → More t p q i → item counts v ≡ a - links_at t p v → item (one_less counts (item lows i) (item highs i)) v ≡ a - links_at t q v
    less_at a p q v m e =
        ends_changed (λ n. n - 1) counts (item lows i) (item highs i) (omega arith) (omega arith) ends.rises v
        ∙ go (touches t v i) (links_more t p q i v l m)
      where
        go : (b : Bool) → links_at t q v ≡ links_at t p v + cond b 1 0 → cond b (item counts v - 1) (item counts v) ≡ a - links_at t q v
        go true f = omega arith
        go false f = omega arith

    pub up_step : (plan' counts' : List ℕ) → Up k plan₀ plan counts → place links (cheaper t) i ≡ k
        → plan' ≡ cond (either_below counts needs (item lows i) (item highs i)) (set plan i 1) plan
        → counts' ≡ cond (either_below counts needs (item lows i) (item highs i)) (one_more counts (item lows i) (item highs i)) counts
        → Up (k + 1) plan₀ plan' counts'
    up_step plan' counts' was at p c = go (decided (either_below counts needs (item lows i) (item highs i)))
      where
        order : Order links (cheaper t)
        order = reversed (dearer_order t rises)

        -- an end of the link that is not yet added has fewer added links than links
        given : (v : ℕ) → v < probes → touches t v i ≡ true → ltb (item counts v) (item needs v) ≡ has_fewer t (up k) v
        given v n is =
            let e = early links (cheaper t) order (λ s g. has_fewer t s (t.low g) || has_fewer t s (t.high g)) k i (omega arith) in
            let less = count_less links (λ j. touches t v j && up k j) (touches t v) i (λ j m. and_left (touches t v j) (up k j)) l (rw e (and_false (touches t v i))) is in
            rw (was.counted v n) (sym (under_given t v (links_at t (up k) v) less))

        tested : either_below counts needs (item lows i) (item highs i) ≡ (has_fewer t (up k) (item lows i) || has_fewer t (up k) (item highs i))
        tested = rw (given (item lows i) (omega arith) (touches_low t i), given (item highs i) ends.below (touches_high t i))

        go : (either_below counts needs (item lows i) (item highs i) ≡ true) ⊎ (either_below counts needs (item lows i) (item highs i) ≡ false) → Up (k + 1) plan₀ plan' counts'
        go (inl y) =
            let m = step_more t (cheaper t) order (λ s g. has_fewer t s (t.low g) || has_fewer t s (t.high g)) k i l at (sym tested ∙ y) in
            record {
              plans =
                  p
                  ∙ rw (y, was.plans)
                  (stored_update (λ j. plan_byte (up k j)) (λ j. plan_byte (up (k + 1) j)) links plan₀ i 1 room l (ap plan_byte m.into) (λ j n d. ap plan_byte (m.same j n d)));
              counted = λ v n. rw (c, y) (more_at (up k) (up (k + 1)) v m (was.counted v n));
            }
        go (inr n) =
            let s = step_same t (cheaper t) order (λ s g. has_fewer t s (t.low g) || has_fewer t s (t.high g)) k i l at (sym tested ∙ n) in
            record {
              plans = p ∙ rw (n, was.plans) (stored_same (λ j. plan_byte (up k j)) (λ j. plan_byte (up (k + 1) j)) links plan₀ (λ j m. ap plan_byte (sym (s j m))));
              counted = λ v m. rw (c, n) (was.counted v m ∙ at_same t (up k) (up (k + 1)) (λ g h. sym (s g h)) v);
            }

    -- a byte 1 marks an added link whose turn has not come
    added_byte : Down k plan₀ plan counts → place links (dearer t) i ≡ k → eqb (item plan i) 1 ≡ added t i
    added_byte was at =
        let e = early links (dearer t) (dearer_order t rises) (λ r g. added t g && (has_more_added t r (t.low g) && has_more_added t r (t.high g))) k i (omega arith) in
        stored_kept (λ j. added t j && not (down k j)) links plan₀ plan room was.plans i l ∙ rw e (and_true (added t i))

    pub down_step : (plan' counts' : List ℕ) → Down k plan₀ plan counts → place links (dearer t) i ≡ k
        → plan' ≡ cond (eqb (item plan i) 1 && both_over counts needs (item lows i) (item highs i)) (set plan i 0) plan
        → counts' ≡ cond (eqb (item plan i) 1 && both_over counts needs (item lows i) (item highs i)) (one_less counts (item lows i) (item highs i)) counts
        → Down (k + 1) plan₀ plan' counts'
    down_step plan' counts' was at p c = go (decided (eqb (item plan i) 1 && both_over counts needs (item lows i) (item highs i)))
      where
        order : Order links (dearer t)
        order = dearer_order t rises

        given : (v : ℕ) → v < probes → ltb (item needs v) (item counts v) ≡ has_more_added t (down k) v
        given v n =
            let all = at_split t (added t) v in
            rw (was.counted v n) (sym (over_given t v (links_at t (added t) v - links_at t (down k) v) (omega arith)))

        tested : (eqb (item plan i) 1 && both_over counts needs (item lows i) (item highs i))
            ≡ (added t i && (has_more_added t (down k) (item lows i) && has_more_added t (down k) (item highs i)))
        tested = rw (added_byte was at, given (item lows i) (omega arith), given (item highs i) ends.below)

        go : ((eqb (item plan i) 1 && both_over counts needs (item lows i) (item highs i)) ≡ true) ⊎ ((eqb (item plan i) 1 && both_over counts needs (item lows i) (item highs i)) ≡ false)
            → Down (k + 1) plan₀ plan' counts'
        go (inl y) =
            let m = step_more t (dearer t) order (λ r g. added t g && (has_more_added t r (t.low g) && has_more_added t r (t.high g))) k i l at (sym tested ∙ y) in
            let gone : plan_byte (added t i && not (down (k + 1) i)) ≡ 0 = rw m.into (ap plan_byte (and_false (added t i))) in
            record {
              plans =
                  p
                  ∙ rw (y, was.plans)
                  (stored_update (λ j. plan_byte (added t j && not (down k j))) (λ j. plan_byte (added t j && not (down (k + 1) j))) links plan₀ i 0 room l gone
                  (λ j n d. ap (λ (b : Bool). plan_byte (added t j && not b)) (m.same j n d)));
              counted = λ v n. rw (c, y) (less_at (links_at t (added t) v) (down k) (down (k + 1)) v m (was.counted v n));
            }
        go (inr n) =
            let s = step_same t (dearer t) order (λ r g. added t g && (has_more_added t r (t.low g) && has_more_added t r (t.high g))) k i l at (sym tested ∙ n) in
            record {
              plans =
                  p
                  ∙ rw (n, was.plans)
                  (stored_same (λ j. plan_byte (added t j && not (down k j))) (λ j. plan_byte (added t j && not (down (k + 1) j))) links plan₀
                  (λ j m. ap (λ (b : Bool). plan_byte (added t j && not b)) (sym (s j m))));
              counted = λ v m. rw (c, n) (was.counted v m ∙ ap (λ (x : ℕ). links_at t (added t) v - x) (at_same t (down k) (down (k + 1)) (λ g h. sym (s g h)) v));
            }

  pub up_start : (plan counts : List ℕ) → links ≤ length plan → ((j : ℕ) → j < links → get_or plan j 0 ≡ 0) → ((v : ℕ) → v < probes → get_or counts v 0 ≡ 0) → Up 0 plan plan counts
  unfolding pass_after
  up_start plan counts room zero none =
      record {
        plans = stored_self (λ j. 0) links plan room zero;
        counted = λ v l. none v l ∙ sym (none_count links (λ j. touches t v j && false) (λ j m e. absurd (true≢false (sym e ∙ and_false (touches t v j)))));
      }

  -- What a legal table gives to a turn: the link in place k, by an entry of the order.
  module _ (legal : table_fault 256 2048 t ≡ 0) where
    pub whole : LegalTable 256 2048 t
    whole = legal_table 256 2048 t legal

    pub size : Size 256 2048 probes links
    size = whole.size

    pub up_place : (k i : ℕ) → 0 < k → k ≤ links → i < links → place links (dearer t) i ≡ k - 1 → place links (cheaper t) i ≡ links - k
    up_place k i some most l e =
        let o = place_opposite links (dearer t) (dearer_order t whole.order) i l in
        omega arith

    -- cleared, added, removed: the bytes are those of the plan
    pub kept_bytes : (plan plan₁ plan₂ plan₃ : List ℕ) → links ≤ length plan → plan₁ ≡ stored (λ j. 0) links plan → plan₂ ≡ stored (λ j. plan_byte (added t j)) links plan₁
        → plan₃ ≡ stored (λ j. plan_byte (slse t j)) links plan₂ → plan₃ ≡ stored (λ j. plan_byte (kept t j)) links plan
    kept_bytes plan plan₁ plan₂ plan₃ room e₁ e₂ e₃ =
        let all : ℕ → ℕ = λ j. plan_byte (slse t j) in
        let some : ℕ → ℕ = λ j. plan_byte (added t j) in
        let l = length_stored (λ j. 0) links plan in
        e₃
        ∙ ap (stored all links) e₂
        ∙ ap (λ (x : List ℕ). stored all links (stored some links x)) e₁
        ∙ stored_again some all links (stored (λ j. 0) links plan) (omega arith)
        ∙ stored_again (λ j. 0) all links plan room
        ∙ stored_same all (λ j. plan_byte (kept t j)) links plan (λ j k. ap plan_byte (slse_is_plan t whole.order j k))

  pub up_end : (plan₀ plan counts : List ℕ) → Up links plan₀ plan counts → (plan ≡ stored (λ j. plan_byte (added t j)) links plan₀) × ((v : ℕ) → v < probes → item counts v ≡ links_at t (added t) v)
  unfolding added
  up_end plan₀ plan counts was = (was.plans, was.counted)

  pub down_start : (plan counts : List ℕ) → links ≤ length plan → ((j : ℕ) → j < links → get_or plan j 0 ≡ plan_byte (added t j)) → ((v : ℕ) → v < probes → get_or counts v 0 ≡ links_at t (added t) v) → Down 0 plan plan counts
  unfolding pass_after
  down_start plan counts room own all =
      record {
        plans = stored_self (λ j. plan_byte (added t j && true)) links plan room (λ j l. own j l ∙ ap plan_byte (sym (and_true (added t j))));
        counted = λ v l.
            let z = none_count links (λ j. touches t v j && false) (λ j m e. absurd (true≢false (sym e ∙ and_false (touches t v j)))) in
            let e = all v l in
            omega arith;
      }

  pub down_end : (plan₀ plan counts : List ℕ) → Down links plan₀ plan counts → plan ≡ stored (λ j. plan_byte (slse t j)) links plan₀
  unfolding removed
  down_end plan₀ plan counts was = was.plans

  -- an order of a legal table fits slices that hold the table, with n counts
  pub order_fits : (order : List ℕ) (n : ℕ) → InOrder t order → links ≤ length order → probes ≤ length needs → links ≤ length lows → links ≤ length highs → probes ≤ n
      → OrderFits links n (length needs) order lows highs
  order_fits order n is in_order in_needs in_lows in_highs wide =
      let w = whole is.0 in
      record {
        few = w.size.within;
        in_order = in_order;
        in_lows = in_lows;
        in_highs = in_highs;
        below = λ k l. (is.1 k l).0;
        counted = λ i l. let e = w.ends i l in record { rises = e.rises; below = omega (arith, e.below) };
        needed = λ i l. let e = w.ends i l in omega (arith, e.below);
      }
