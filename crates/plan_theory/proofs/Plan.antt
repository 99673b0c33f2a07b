-- The plan: its rule and its criterion, that nothing else meets either, and that it meets the needs.
use Prim.Native.Nat.{ℕ, ◌+◌, ◌-◌, ◌≤◌, ◌<◌}
use mathlib.Core.Path.{◌≡◌, refl, sym, ◌∙◌}
use mathlib.Core.Logic.{◌↔◌, ◌⊎◌, inl, inr}
use mathlib.Core.Bool.{Bool, true, false, ◌&&◌, not}
use mathlib.Core.List.{List}
use native.Mathlib.Nat.{min-le_right}
use native.Mathlib.Omega.{arith}
use lib.Dec.{eqb}
use lib.ListN.{length}
use borrow.Author.Tests.{ltb-true, lt-ltb, eqb-true, eq-eqb}
use Rattle.range.specs.Sum.{count}
use Rattle.range.specs.Lists.{stored}
use Rattle.range.proofs.Bools.{and_left, and_right, and_intro, and_swap, or_intro_left, or_intro_right, or_cases, same_bool}
use Rattle.range.proofs.Sums.{weigh_same, weigh_split}
use Rattle.range.proofs.Lists.{stored_at}
use Rattle.table.specs.Table.{Table, touches, degree, counted_need, spare, dearer}
use Rattle.table.specs.Legal.{Legal, RisingLinks}
use Rattle.plan_theory.specs.Plan.{links_at, has_more, rested, kept, plan_byte, is_kept, Meets}
use Rattle.plan_theory.proofs.Places.{bounded}
use Rattle.plan_theory.proofs.Pass.{OnlyBelow, criterion, only_pass}
use Rattle.plan_theory.proofs.Order.{dearer_order}
use Rattle.table.proofs.LegalLaws.{legal_table}
use Rattle.plan_theory.specs.Criterion.{dearer_in, PlanRule, UnderSpare, Criterion}

byte_kept : (b : Bool) → eqb (plan_byte b) 1 ≡ b
byte_kept true = refl
byte_kept false = refl

-- a plan buffer with the bytes of a set keeps the links of the set
pub stored_kept : (s : ℕ → Bool) (links : ℕ) (plan plan' : List ℕ) → links ≤ length plan → plan' ≡ stored (λ i. plan_byte (s i)) links plan
    → (i : ℕ) → i < links → is_kept plan' i ≡ s i
stored_kept s links plan plan' room p i l = rw (p, stored_at (λ j. plan_byte (s j)) links plan i room l) (byte_kept (s i))

module _ (t : Table) where
  -- sets with the same links have as many at v
  pub at_same : (r s : ℕ → Bool) → ((g : ℕ) → g < t.links → r g ≡ s g) → (v : ℕ) → links_at t r v ≡ links_at t s v
  at_same r s h v = weigh_same t.links (λ i. touches t v i && r i) (λ i. touches t v i && s i) (λ i. 1) (λ i l. rw (h i l))

  -- the links at v are those of r and the others
  pub at_split : (r : ℕ → Bool) (v : ℕ) → degree t v ≡ links_at t r v + links_at t (λ g. not (r g)) v
  at_split r v = weigh_split t.links (touches t v) r (λ i. 1)

  -- the links at v that are in both sets
  pub at_both : (q r : ℕ → Bool) (v : ℕ) → count t.links (λ g. q g && (touches t v g && r g)) ≡ links_at t (λ g. q g && r g) v
  at_both q r v =
      weigh_same t.links (λ g. q g && (touches t v g && r g)) (λ g. touches t v g && (q g && r g)) (λ i. 1)
      (λ g l. and_swap (q g) (touches t v g) (r g))

  -- what holds at both ends of a link
  pub at_end : (P : ℕ → Type 0) (v i : ℕ) → touches t v i ≡ true → P (t.low i) → P (t.high i) → P v
  at_end P v i e a b = go (or_cases (eqb v (t.low i)) (eqb v (t.high i)) e)
    where
      go : (eqb v (t.low i) ≡ true) ⊎ (eqb v (t.high i) ≡ true) → P v
      go (inl q) = rw (eqb-true v (t.low i) q) a
      go (inr q) = rw (eqb-true v (t.high i) q) b

  pub touches_low : (i : ℕ) → touches t (t.low i) i ≡ true
  touches_low i = or_intro_left (eqb (t.low i) (t.low i)) (eqb (t.low i) (t.high i)) (eq-eqb (t.low i) (t.low i) refl)

  pub touches_high : (i : ℕ) → touches t (t.high i) i ≡ true
  touches_high i = or_intro_right (eqb (t.high i) (t.low i)) (eqb (t.high i) (t.high i)) (eq-eqb (t.high i) (t.high i) refl)

  more_under : (s : ℕ → Bool) (v : ℕ) → has_more t s v ≡ true → links_at t s v < spare t v
  more_under s v e = let a = ltb-true (counted_need t v) (degree t v - links_at t s v) e in omega arith

  under_more : (s : ℕ → Bool) (v : ℕ) → links_at t s v < spare t v → has_more t s v ≡ true
  under_more s v f = lt-ltb (counted_need t v) (degree t v - links_at t s v) (omega arith)

  -- both ends of i have more links than they need, with s rested
  abbrev pub both_more : (ℕ → Bool) → ℕ → Bool
  both_more s i = has_more t s (t.low i) && has_more t s (t.high i)

  more_below : OnlyBelow t.links both_more
  more_below r s h i = rw (at_same r s h (t.low i), at_same r s h (t.high i))

  -- the criterion is one test
  test_under : (s : ℕ → Bool) (i : ℕ) → (both_more s i ≡ true) ↔ ((links_at t s (t.low i) < spare t (t.low i)) × (links_at t s (t.high i) < spare t (t.high i)))
  test_under s i =
      let low = has_more t s (t.low i) in
      let high = has_more t s (t.high i) in (
        λ e. (more_under s (t.low i) (and_left low high e), more_under s (t.high i) (and_right low high e)),
        λ f. and_intro (under_more s (t.low i) f.0) (under_more s (t.high i) f.1),
      )

  -- the rule and the criterion say the same of every set
  rule_criterion : (r : ℕ → Bool) → PlanRule t r → Criterion t r
  rule_criterion r h i l =
      let both = test_under (dearer_in t r i) i in
      (λ e. both.0 (sym (h i l) ∙ e), λ f. h i l ∙ both.1 f)

  criterion_rule : (r : ℕ → Bool) → Criterion t r → PlanRule t r
  criterion_rule r c i l =
      let both = test_under (dearer_in t r i) i in
      same_bool (r i) (both_more (dearer_in t r i) i) (λ e. both.1 ((c i l).0 e)) (λ e. (c i l).1 (both.0 e))

module _ (t : Table) (rises : RisingLinks t) where
  pub plan_rule : PlanRule t (rested t)
  unfolding rested
  plan_rule = criterion t.links (dearer t) (dearer_order t rises) (both_more t) (more_below t)

  pub only_by_rule : (r : ℕ → Bool) → PlanRule t r → (i : ℕ) → i < t.links → r i ≡ rested t i
  unfolding rested
  only_by_rule r h = only_pass t.links (dearer t) (dearer_order t rises) (both_more t) (more_below t) r h

  pub plan_criterion : Criterion t (rested t)
  plan_criterion = rule_criterion t (rested t) plan_rule

  pub plan_unique : (r : ℕ → Bool) → Criterion t r → (i : ℕ) → i < t.links → r i ≡ rested t i
  plan_unique r c = only_by_rule r (criterion_rule t r c)

  -- a rested link has fewer dearer ones at each end than the spare
  pub rested_at : (i v : ℕ) → i < t.links → rested t i ≡ true → touches t v i ≡ true → UnderSpare t (rested t) i v
  rested_at i v l e at =
      let free = (plan_criterion i l).0 e in
      at_end t (λ x. UnderSpare t (rested t) i x) v i at free.0 free.1

  pub rested_fits : (v : ℕ) → links_at t (rested t) v ≤ spare t v
  rested_fits v =
      bounded t.links (dearer t) (dearer_order t rises) (λ g. touches t v g && rested t g) (spare t v)
      (λ i l e.
      let a = rested_at i v l (and_right (touches t v i) (rested t i) e) (and_left (touches t v i) (rested t i) e) in
      let b = at_both t (λ g. dearer t g i) (rested t) v in
      omega arith)

pub plan_meets : (t : Table) → Legal t → Meets t (kept t)
plan_meets t legal v l =
    let a = at_split t (rested t) v in
    let b = rested_fits t (legal_table 256 2048 t legal).order v in
    let c = min-le_right (t.need v) (degree t v) in
    omega arith
