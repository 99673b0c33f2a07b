-- Entries of the site's slice and of the marks, where some are stored.
use Prim.Native.Nat.{ℕ, ◌+◌, ◌*◌, ◌/◌, ◌%◌, ◌≤◌, ◌<◌}
use mathlib.Core.Path.{◌≡◌, refl, ◌∙◌, ap}
use mathlib.Core.Bool.{cond}
use mathlib.Core.List.{List}
use native.Mathlib.Omega.{arith}
use lib.Dec.{ltb}
use lib.ListN.{length, set, length-set}
use lib.Seq.{get_or-set_same, get_or-set_other}
use Rattle.range.specs.Lists.{stored}
use Rattle.range.proofs.Lists.{stored_at}
use Rattle.table.specs.Table.{item}
use Rattle.plan_turns_search.specs.Record.{of_direction, mark, first_mark, LinkPut, LinksPut, SparesPut, SiteOfLinks}
use Rattle.plan_turns_search.proofs.MarkLaws.{mark_other}
use Rattle.plan_turns_search.proofs.Build.{Pushed}

-- one entry of the direction d
module _ (x x' : List ℕ) (d k y : ℕ) (e : x' ≡ set x (4 * d + k + 2) y) where
  stored_here : 4 * d + k + 2 < length x → of_direction x' d k ≡ y
  stored_here room = rw e (get_or-set_same x (4 * d + k + 2) y 0 room)

  stays : (f j : ℕ) → k < 4 → j < 4 → (f ≡ d → j ≡ k → ⊥) → of_direction x' f j ≡ of_direction x f j
  stays f j lk lj n = rw e (get_or-set_other x (4 * d + k + 2) (4 * f + j + 2) y 0 (λ z. n (omega arith) (omega arith)))

-- the targets and the costs of the two directions of a link
module _ (x x₁ x₂ x₃ x₄ : List ℕ) (i low high cost : ℕ) (room : 8 * i + 9 < length x)
    (e₁ : x₁ ≡ set x (4 * (2 * i) + 0 + 2) high) (e₂ : x₂ ≡ set x₁ (4 * (2 * i + 1) + 0 + 2) low)
    (e₃ : x₃ ≡ set x₂ (4 * (2 * i) + 1 + 2) cost) (e₄ : x₄ ≡ set x₃ (4 * (2 * i + 1) + 1 + 2) cost)
    (l₁ : length x₁ ≡ length x) (l₂ : length x₂ ≡ length x) (l₃ : length x₃ ≡ length x) where
  pub link_put : LinkPut i low high cost x x₄
  link_put =
      record {
        targets = (
          stays x₃ x₄ (2 * i + 1) 1 cost e₄ (2 * i) 0 (omega arith) (omega arith) (λ a b. omega arith) ∙ stays x₂ x₃ (2 * i) 1 cost e₃ (2 * i) 0 (omega arith) (omega arith) (λ a b. omega arith)
              ∙ stays x₁ x₂ (2 * i + 1) 0 low e₂ (2 * i) 0 (omega arith) (omega arith) (λ a b. omega arith) ∙ stored_here x x₁ (2 * i) 0 high e₁ (omega arith),
          stays x₃ x₄ (2 * i + 1) 1 cost e₄ (2 * i + 1) 0 (omega arith) (omega arith) (λ a b. omega arith) ∙ stays x₂ x₃ (2 * i) 1 cost e₃ (2 * i + 1) 0 (omega arith) (omega arith) (λ a b. omega arith)
              ∙ stored_here x₁ x₂ (2 * i + 1) 0 low e₂ (omega arith),
        );
        costs_in = (
          stays x₃ x₄ (2 * i + 1) 1 cost e₄ (2 * i) 1 (omega arith) (omega arith) (λ a b. omega arith) ∙ stored_here x₂ x₃ (2 * i) 1 cost e₃ (omega arith),
          stored_here x₃ x₄ (2 * i + 1) 1 cost e₄ (omega arith),
        );
        others = λ d k lk n.
            stays x₃ x₄ (2 * i + 1) 1 cost e₄ d k (omega arith) lk (λ a b. let h = n (omega arith) in omega arith) ∙ stays x₂ x₃ (2 * i) 1 cost e₃ d k (omega arith) lk (λ a b. let h = n (omega arith) in omega arith)
            ∙ stays x₁ x₂ (2 * i + 1) 0 low e₂ d k (omega arith) lk (λ a b. let h = n (omega arith) in omega arith) ∙ stays x x₁ (2 * i) 0 high e₁ d k (omega arith) lk (λ a b. let h = n (omega arith) in omega arith);
      }

-- the two directions of a link, put at the heads of its ends' chains
module _ (marks marks' x x' : List ℕ) (k i low high : ℕ) (lk : k < 4)
    (em : marks' ≡ set (set marks (4 * low + k) (2 * i)) (4 * high + k) (2 * i + 1))
    (ex : x' ≡ set (set x (4 * (2 * i) + k + 2) (mark marks low k)) (4 * (2 * i + 1) + k + 2) (mark marks high k)) where
  pub pushed : 4 * low + k < length marks → 4 * high + k < length marks → 4 * (2 * i + 1) + k + 2 < length x
      → Pushed (λ v. mark marks v k) (λ d. of_direction x d k) (λ v. mark marks' v k) (λ d. of_direction x' d k) i low high
  pushed rl rh rx =
      record {
        at_low = λ n. rw (em, get_or-set_other (set marks (4 * low + k) (2 * i)) (4 * high + k) (4 * low + k) (2 * i + 1) 0 (λ z. n (omega arith))) (get_or-set_same marks (4 * low + k) (2 * i) 0 rl);
        at_high = rw em (get_or-set_same (set marks (4 * low + k) (2 * i)) (4 * high + k) (2 * i + 1) 0 (simp length-set rh));
        heads_stay = λ v n m. rw (em, get_or-set_other (set marks (4 * low + k) (2 * i)) (4 * high + k) (4 * v + k) (2 * i + 1) 0 (λ z. m (omega arith))) (get_or-set_other marks (4 * low + k) (4 * v + k) (2 * i) 0 (λ z. n (omega arith)));
        after_low = rw (ex, get_or-set_other (set x (4 * (2 * i) + k + 2) (mark marks low k)) (4 * (2 * i + 1) + k + 2) (4 * (2 * i) + k + 2) (mark marks high k) 0 (λ z. omega arith)) (get_or-set_same x (4 * (2 * i) + k + 2) (mark marks low k) 0 (omega arith));
        after_high = rw ex (get_or-set_same (set x (4 * (2 * i) + k + 2) (mark marks low k)) (4 * (2 * i + 1) + k + 2) (mark marks high k) 0 (simp length-set rx));
        nexts_stay = λ d n m. rw (ex, get_or-set_other (set x (4 * (2 * i) + k + 2) (mark marks low k)) (4 * (2 * i + 1) + k + 2) (4 * d + k + 2) (mark marks high k) 0 (λ z. m (omega arith))) (get_or-set_other x (4 * (2 * i) + k + 2) (4 * d + k + 2) (mark marks low k) 0 (λ z. n (omega arith)));
      }

  pub marks_stay : (v j : ℕ) → j < 4 → (j ≡ k → ⊥) → mark marks' v j ≡ mark marks v j
  marks_stay v j lj n =
      mark_other (set marks (4 * low + k) (2 * i)) marks' high k (2 * i + 1) v j em lk lj n ∙ mark_other marks (set marks (4 * low + k) (2 * i)) low k (2 * i) v j refl lk lj n

  pub directions_stay : (d j : ℕ) → j < 4 → (j ≡ k → ⊥) → of_direction x' d j ≡ of_direction x d j
  directions_stay d j lj n =
      stays (set x (4 * (2 * i) + k + 2) (mark marks low k)) x' (2 * i + 1) k (mark marks high k) ex d j lk lj (λ a b. n b) ∙ stays x (set x (4 * (2 * i) + k + 2) (mark marks low k)) (2 * i) k (mark marks low k) refl d j lk lj (λ a b. n b)

-- the links, the spares and then the counts
module _ (probes links : ℕ) (lows highs costs spares x x₁ x₂ x₃ x₄ : List ℕ) (few : 8 * links + probes + 2 ≤ length x₂) (l₃ : length x₃ ≡ length x₂)
    (links-put : LinksPut links lows highs costs x x₁) (spares-put : SparesPut probes links spares x₁ x₂) (e₃ : x₃ ≡ set x₂ 0 probes) (e₄ : x₄ ≡ set x₃ 1 links) where
  behind : (j : ℕ) → 2 ≤ j → item x₄ j ≡ item x₂ j
  behind j l = rw (e₄, get_or-set_other x₃ 1 j links 0 (λ z. omega arith), e₃) (get_or-set_other x₂ 0 j probes 0 (λ z. omega arith))

  direction : (d k : ℕ) → d < 2 * links → k < 4 → of_direction x₄ d k ≡ of_direction x₁ d k
  direction d k l lk = behind (4 * d + k + 2) (omega arith) ∙ spares-put.others (4 * d + k + 2) (omega arith)

  link_count : item x₄ 1 ≡ links
  link_count = rw e₄ (get_or-set_same x₃ 1 links 0 (omega arith))

  pub site_of_links : SiteOfLinks probes links lows highs costs spares x₄
  site_of_links =
      record {
        probe_count = rw (e₄, get_or-set_other x₃ 1 0 links 0 (λ z. omega arith), e₃) (get_or-set_same x₂ 0 probes 0 (omega arith));
        link_count = link_count;
        targets = λ i l. (direction (2 * i) 0 (omega arith) (omega arith) ∙ (links-put.targets i l).0, direction (2 * i + 1) 0 (omega arith) (omega arith) ∙ (links-put.targets i l).1);
        costs_in = λ d l. direction d 1 l (omega arith) ∙ links-put.costs_in d l;
        spares_in = λ v l. rw link_count (behind (8 * links + v + 2) (omega arith) ∙ spares-put.spares_in v l);
      }

  pub chains_put : (d k : ℕ) → 2 ≤ k → k < 4 → d < 2 * links → of_direction x₄ d k ≡ of_direction x d k
  chains_put d k m lk l = direction d k l lk ∙ links-put.chains d k m lk

-- the marks before the chains are made
pub first_marks : (old marks : List ℕ) → marks ≡ stored first_mark (length old) old → (v k : ℕ) → k < 4 → v < length old / 4 → mark marks v k ≡ cond (ltb k 2) 0 65535
first_marks old marks e v k lk l =
    let q : (4 * v + k) % 4 ≡ k = omega arith in
    rw e (stored_at first_mark (length old) old (4 * v + k) (omega arith) (omega arith)) ∙ ap {B = ℕ} (λ (n : ℕ). cond (ltb n 2) 0 65535) q
