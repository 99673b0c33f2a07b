-- The plan of two tables that agree on their own entries. Both passes have made the same set after k steps, by induction on k.
use Prim.Native.Nat.{ℕ, zero, suc, ◌<◌}
use mathlib.Core.Path.{◌≡◌, refl, ◌∙◌, ap}
use mathlib.Core.Bool.{Bool, ◌&&◌}
use native.Mathlib.Omega.{arith}
use Rattle.range.specs.Sum.{count}
use Rattle.range.proofs.Sums.{weigh_same}
use Rattle.table.specs.Table.{Table, touches, degree, dearer}
use Rattle.table.specs.Legal.{Legal}
use Rattle.table.specs.Same.{Same}
use Rattle.table.proofs.LegalLaws.{legal_table}
use Rattle.table.proofs.Same.{degree_same}
use Rattle.plan_theory.specs.Pass.{pass_after, pass}
use Rattle.plan_theory.specs.Plan.{links_at, has_more, rested}

-- two passes whose order and tests agree below m
pass_same : (m : ℕ) (before before' : ℕ → ℕ → Bool) (test test' : (ℕ → Bool) → ℕ → Bool) → ((g i : ℕ) → g < m → i < m → before g i ≡ before' g i)
    → ((r s : ℕ → Bool) → ((g : ℕ) → g < m → r g ≡ s g) → (i : ℕ) → i < m → test r i ≡ test' s i)
    → (k i : ℕ) → i < m → pass_after m before test k i ≡ pass_after m before' test' k i
unfolding pass_after
pass_same m before before' test test' orders tests zero i l = refl
pass_same m before before' test test' orders tests (suc k) i l =
    let old = pass_same m before before' test test' orders tests k in
    rw (
      weigh_same m (λ g. before g i) (λ g. before' g i) (λ g. 1) (λ g lg. orders g i lg l),
      tests (λ g. pass_after m before test k g) (λ g. pass_after m before' test' k g) old i l,
      old i l,
    )

and_same : {a b c d : Bool} → a ≡ b → c ≡ d → (a && c) ≡ (b && d)
and_same e f = rw (e, f)

module _ (t u : Table) (same : Same t u) where
  pub dearer_same : (i j : ℕ) → i < t.links → j < t.links → dearer t i j ≡ dearer u i j
  unfolding dearer
  dearer_same i j li lj =
      rw (same.cost i li, same.cost j lj, same.low i li, same.low j lj, same.high i li, same.high j lj)

  pub same_degree : (v : ℕ) → degree t v ≡ degree u v
  same_degree v = degree_same t.links t.low u.low t.high u.high same.low same.high v ∙ ap (λ (n : ℕ). count n (touches u v)) same.links

  more_same : (r s : ℕ → Bool) → ((g : ℕ) → g < t.links → r g ≡ s g) → (v : ℕ) → v < t.probes → has_more t r v ≡ has_more u s v
  more_same r s h v l =
      let e : links_at t r v ≡ links_at u s v = weigh_same t.links (λ i. touches t v i && r i) (λ i. touches u v i && s i) (λ i. 1) (λ i k. rw (same.low i k, same.high i k, h i k)) ∙ ap (λ (n : ℕ). count n (λ i. touches u v i && s i)) same.links in
      rw (same.need v l, same_degree v, e)

  module _ (legal : Legal t) where
    tests_same : (r s : ℕ → Bool) → ((g : ℕ) → g < t.links → r g ≡ s g) → (i : ℕ) → i < t.links
        → (has_more t r (t.low i) && has_more t r (t.high i)) ≡ (has_more u s (u.low i) && has_more u s (u.high i))
    tests_same r s h i l =
        let e = (legal_table 256 2048 t legal).ends i l in
        let below = e.below in
        let rises = e.rises in
        and_same (more_same r s h (t.low i) (omega arith) ∙ ap (has_more u s) (same.low i l)) (more_same r s h (t.high i) below ∙ ap (has_more u s) (same.high i l))

    pub rested_same : (i : ℕ) → i < t.links → rested t i ≡ rested u i
    unfolding rested
    rested_same i l =
        pass_same t.links (dearer t) (dearer u) (λ r g. has_more t r (t.low g) && has_more t r (t.high g)) (λ r g. has_more u r (u.low g) && has_more u r (u.high g)) dearer_same tests_same t.links i l
        ∙ ap (λ (n : ℕ). pass n (dearer u) (λ r g. has_more u r (u.low g) && has_more u r (u.high g)) i) same.links
