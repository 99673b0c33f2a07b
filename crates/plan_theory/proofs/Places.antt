-- Counting over a strict total order of the numbers below m.
use Prim.Native.Nat.{ℕ, zero, suc, ◌+◌, ◌≤◌, ◌<◌}
use mathlib.Core.Path.{◌≡◌, refl, sym, ◌∙◌, ap}
use mathlib.Core.Logic.{◌⊎◌, inl, inr}
use mathlib.Core.Bool.{Bool, true, false, cond, ◌&&◌, and-true, true≢false}
use native.Mathlib.Omega.{arith}
use native.Mathlib.Decide.{dec_lt, ℕ_discrete}
use lib.Dec.{eqb}
use borrow.Author.Tests.{eqb-true, eq-eqb, ne_eqb}
use Rattle.range.specs.Sum.{count}
use Rattle.range.proofs.Bools.{and_left, and_right, and_intro, decided}
use Rattle.range.proofs.Sums.{sum_same, sum_add, sum_one, weigh_le, weigh_same, count_less, member, count_all}
use Rattle.plan_theory.specs.Pass.{place}

pub record Order (m : ℕ) (before : ℕ → ℕ → Bool) : Type 0 where
  pub irreflexive : (i : ℕ) → i < m → before i i ≡ false
  pub transitive : (i j k : ℕ) → i < m → j < m → k < m → before i j ≡ true → before j k ≡ true → before i k ≡ true
  pub total : (i j : ℕ) → i < m → j < m → (i ≡ j → ⊥) → (before i j ≡ true) ⊎ (before j i ≡ true)

pub reversed : {m : ℕ} {before : ℕ → ℕ → Bool} → Order m before → Order m (λ i j. before j i)
reversed o =
    record {
      irreflexive = o.irreflexive;
      transitive = λ i j k li lj lk e f. o.transitive k j i lk lj li f e;
      total = λ i j li lj n. o.total j i lj li (λ e. n (sym e));
    }

-- how g and e are ordered
pub data Side (before : ℕ → ℕ → Bool) (g e : ℕ) : Type 0 where
  here : eqb g e ≡ true → before g e ≡ false → before e g ≡ false → Side before g e
  earlier : eqb g e ≡ false → before g e ≡ true → before e g ≡ false → Side before g e
  later : eqb g e ≡ false → before g e ≡ false → before e g ≡ true → Side before g e

-- a member of p that no other comes after
pub record Last (m : ℕ) (before : ℕ → ℕ → Bool) (p : ℕ → Bool) : Type 0 where
  pub at : ℕ
  pub below : at < m
  pub inside : p at ≡ true
  pub after : count m (λ g. before at g && p g) ≡ 0

module _ (m : ℕ) (before : ℕ → ℕ → Bool) (o : Order m before) where
  pub one_way : (i j : ℕ) → i < m → j < m → before i j ≡ true → before j i ≡ false
  one_way i j li lj e = go (decided (before j i))
    where
      go : (before j i ≡ true) ⊎ (before j i ≡ false) → before j i ≡ false
      go (inl f) = absurd (true≢false (sym (o.transitive i j i li lj li e f) ∙ o.irreflexive i li))
      go (inr f) = f

  pub side : (g e : ℕ) → g < m → e < m → Side before g e
  side g e lg le = go (ℕ_discrete g e)
    where
      apart : (g ≡ e → ⊥) → (before g e ≡ true) ⊎ (before e g ≡ true) → Side before g e
      apart n (inl f) = earlier (ne_eqb g e n) f (one_way g e lg le f)
      apart n (inr f) = later (ne_eqb g e n) (one_way e g le lg f) f

      go : Dec (g ≡ e) → Side before g e
      go (yes q) =
          here (eq-eqb g e q) (ap (λ x. before x e) q ∙ o.irreflexive e le) (ap (λ x. before e x) q ∙ o.irreflexive e le)
      go (no n) = apart n (o.total g e lg le n)

  -- a set is what is before e, what is after it, and e
  pub split : (p : ℕ → Bool) (e : ℕ) → e < m
      → count m p ≡ count m (λ g. before g e && p g) + count m (λ g. before e g && p g) + cond (p e) 1 0
  split p e l =
      let all = sum_same m (λ g. cond (p g) 1 0) (λ g. (a g + b g) + c g) (λ g k. part (p g) (side g e k l)) in
      let two = sum_add m (λ g. a g + b g) c in
      let one = sum_add m a b in
      let at = sum_one m (λ g. cond (p g) 1 0) e l in
      omega arith
    where
      a : ℕ → ℕ
      a g = cond (before g e && p g) 1 0

      b : ℕ → ℕ
      b g = cond (before e g && p g) 1 0

      c : ℕ → ℕ
      c g = cond (eqb g e) (cond (p g) 1 0) 0

      part : {g : ℕ} (x : Bool) → Side before g e → cond x 1 0 ≡ (cond (before g e && x) 1 0 + cond (before e g && x) 1 0) + cond (eqb g e) (cond x 1 0) 0
      part x (here q f h) = rw (q, f, h) (omega arith)
      part x (earlier q f h) = rw (q, f, h) (omega arith)
      part x (later q f h) = rw (q, f, h) (omega arith)

  -- e itself, members before it and members after it
  pub three : (p q r : ℕ → Bool) (e : ℕ) → e < m → p e ≡ true → ((g : ℕ) → g < m → q g ≡ true → (before g e && p g) ≡ true)
      → ((g : ℕ) → g < m → r g ≡ true → (before e g && p g) ≡ true) → count m q + count m r < count m p
  three p q r e l i hq hr =
      let all = rw i at (split p e l) in
      let a = weigh_le m q (λ g. before g e && p g) (λ g. 1) hq in
      let b = weigh_le m r (λ g. before e g && p g) (λ g. 1) hr in
      omega arith

  -- the last member of a set
  pub last : (p : ℕ → Bool) → 0 < count m p → Last m before p
  last p some = let a = member m p some in walk (suc (rest a.0)) a.0 a.1 a.2 (omega arith)
    where
      rest : ℕ → ℕ
      rest e = count m (λ g. before e g && p g)

      walk : (k e : ℕ) → e < m → p e ≡ true → rest e < k → Last m before p
      walk zero e l i s = absurd (omega arith)
      walk (suc k) e l i s = go (walk k) (dec_lt 0 (rest e))
        where
          go : ((f : ℕ) → f < m → p f ≡ true → rest f < k → Last m before p) → Dec (0 < rest e) → Last m before p
          go on (yes z) =
              let f = member m (λ g. before e g && p g) z in
              let i = f.0 in
              let af = and_left (before e i) (p i) f.2 in
              let pf = and_right (before e i) (p i) f.2 in
              let less = count_less m (λ g. before i g && p g) (λ g. before e g && p g) i
              (λ g lg h.
              and_intro (o.transitive e i g l f.1 lg af (and_left (before i g) (p g) h)) (and_right (before i g) (p g) h))
              f.1 (rw (o.irreflexive i f.1)) f.2 in
              on i f.1 pf (omega arith)
          go on (no z) = record { at = e; below = l; inside = i; after = omega arith }

  -- fewer than b before each member: at most b in all
  pub bounded : (p : ℕ → Bool) (b : ℕ) → ((e : ℕ) → e < m → p e ≡ true → count m (λ g. before g e && p g) < b) → count m p ≤ b
  bounded p b h = go (dec_lt 0 (count m p))
    where
      go : Dec (0 < count m p) → count m p ≤ b
      go (yes z) =
          let e = last p z in
          let a = rw e.inside at (split p e.at e.below) in
          let few = h e.at e.below e.inside in
          let none = e.after in
          omega arith
      go (no z) = omega arith

  -- no fewer before e than in all: all are before e
  pub all_before : (p : ℕ → Bool) (e : ℕ) → count m p ≤ count m (λ g. before g e && p g) → (g : ℕ) → g < m → p g ≡ true → before g e ≡ true
  all_before p e many g l i = go (decided (before g e))
    where
      go : (before g e ≡ true) ⊎ (before g e ≡ false) → before g e ≡ true
      go (inl a) = a
      go (inr a) =
          let less = count_less m (λ x. before x e && p x) p g (λ x k. and_right (before x e) (p x)) l (rw a) i in
          absurd (omega arith)

  pub place_lt : (g i : ℕ) → g < m → i < m → before g i ≡ true → place m before g < place m before i
  place_lt g i lg li e =
      count_less m (λ x. before x g) (λ x. before x i) g (λ x l f. o.transitive x g i l lg li f e) lg (o.irreflexive g lg) e

  pub place_ge : (g i : ℕ) → g < m → i < m → before g i ≡ false → place m before i ≤ place m before g
  place_ge g i lg li e = go (side g i lg li)
    where
      go : Side before g i → place m before i ≤ place m before g
      go (here q f h) = let a = ap (place m before) (eqb-true g i q) in omega arith
      go (earlier q f h) = absurd (true≢false (sym f ∙ e))
      go (later q f h) = let a = place_lt i g li lg h in omega arith

  -- For loops that go through the numbers by their places.
  pub place_below : (i : ℕ) → i < m → place m before i < m
  place_below i l =
      let a = count_less m (λ g. before g i) (λ g. true) i (λ g k e. refl) l (o.irreflexive i l) refl in
      let b = count_all m in
      omega arith

  pub place_inj : (i j : ℕ) → i < m → j < m → place m before i ≡ place m before j → i ≡ j
  place_inj i j li lj e = go (side i j li lj)
    where
      go : Side before i j → i ≡ j
      go (here q f h) = eqb-true i j q
      go (earlier q f h) = let a = place_lt i j li lj f in absurd (omega arith)
      go (later q f h) = let a = place_lt j i lj li h in absurd (omega arith)

  -- the places from either side
  pub place_opposite : (i : ℕ) → i < m → suc (place m before i + place m (λ g j. before j g) i) ≡ m
  place_opposite i li =
      let a = split (λ g. true) i li in
      let b = weigh_same m (λ g. before g i && true) (λ g. before g i) (λ g. 1) (λ g l. and-true (before g i)) in
      let c = weigh_same m (λ g. before i g && true) (λ g. before i g) (λ g. 1) (λ g l. and-true (before i g)) in
      let d = count_all m in
      omega arith

  -- a rising row of m numbers below m has them all by their places
  pub place_sorted : (row : ℕ → ℕ) → ((k : ℕ) → k < m → row k < m) → ((k : ℕ) → suc k < m → before (row k) (row (suc k)) ≡ true)
      → (k : ℕ) → k < m → place m before (row k) ≡ k
  place_sorted row below rises k l =
      let a = up k l in
      let b = down m k l (omega arith) in
      omega arith
    where
      up : (k : ℕ) → k < m → k ≤ place m before (row k)
      up zero l = omega arith
      up (suc k) l =
          let a = up k (omega arith) in
          let b = place_lt (row k) (row (suc k)) (below k (omega arith)) (below (suc k) l) (rises k l) in
          omega arith

      down : (d k : ℕ) → k < m → m ≤ k + d → place m before (row k) ≤ k
      down zero k l s = absurd (omega arith)
      down (suc d) k l s = go (λ h. down d (suc k) h (omega arith)) (dec_lt (suc k) m)
        where
          go : (suc k < m → place m before (row (suc k)) ≤ suc k) → Dec (suc k < m) → place m before (row k) ≤ k
          go next (yes h) =
              let a = next h in
              let b = place_lt (row k) (row (suc k)) (below k l) (below (suc k) h) (rises k h) in
              omega arith
          go next (no h) = let a = place_below (row k) (below k l) in omega arith
