-- Counting the links of each probe, one link at a time.
use Prim.Native.Nat.{ℕ, ◌+◌, ◌<◌}
use mathlib.Core.Path.{◌≡◌, ◌∙◌, ap}
use mathlib.Core.Bool.{Bool, true, false, cond, ◌||◌}
use mathlib.Core.List.{List}
use native.Mathlib.Omega.{arith}
use native.Mathlib.Numerals.{add-one}
use native.Mathlib.Decide.{ℕ_discrete}
use lib.Dec.{eqb}
use lib.ListN.{length, get_or, length-set}
use lib.Seq.{get_or-set_same, get_or-set_other}
use borrow.Author.Tests.{eq-eqb, ne_eqb}
use Rattle.range.specs.Sum.{sum, count}
use Rattle.range.specs.Lists.{changed_at}

-- d with the entries at the two ends of a link changed
pub ends_changed : (f : ℕ → ℕ) (d : List ℕ) (l h : ℕ) → l < length d → h < length d → l < h → (v : ℕ)
    → get_or (changed_at f (changed_at f d l) h) v 0 ≡ cond (eqb v l || eqb v h) (f (get_or d v 0)) (get_or d v 0)
ends_changed f d l h inl inh rises v = go (ℕ_discrete v l) (ℕ_discrete v h)
  where
    go : Dec (v ≡ l) → Dec (v ≡ h) → get_or (changed_at f (changed_at f d l) h) v 0 ≡ cond (eqb v l || eqb v h) (f (get_or d v 0)) (get_or d v 0)
    go (yes a) (yes b) = absurd (omega arith)
    go (yes a) (no b) =
        get_or-set_other (changed_at f d l) h v _ 0 b
        ∙ ap (λ (k : ℕ). get_or (changed_at f d l) k 0) a
        ∙ get_or-set_same d l _ 0 inl
        ∙ rw (eq-eqb v l a, a)
    go (no a) (yes b) =
        ap (λ (k : ℕ). get_or (changed_at f (changed_at f d l) h) k 0) b
        ∙ get_or-set_same (changed_at f d l) h _ 0 (simp length-set inh)
        ∙ ap f (get_or-set_other d l h _ 0 (λ z. omega arith))
        ∙ rw (ne_eqb v l a, eq-eqb v h b, b)
    go (no a) (no b) = get_or-set_other (changed_at f d l) h v _ 0 b ∙ get_or-set_other d l v _ 0 a ∙ rw (ne_eqb v l a, ne_eqb v h b)

module _ (low high : ℕ → ℕ) where
  -- how many of the first i links touch v
  abbrev pub touched : ℕ → ℕ → ℕ
  touched i v = count i (λ k. eqb v (low k) || eqb v (high k))

  touched_next : (i v : ℕ) → touched (i + 1) v ≡ touched i v + cond (eqb v (low i) || eqb v (high i)) 1 0
  unfolding sum
  touched_next i v = rw (add-one i)

  -- after one more at l and one more at h, the ends of the link i
  pub counted_next : (i l h : ℕ) (d e f : List ℕ) → l ≡ low i → h ≡ high i → low i < length d → high i < length d → low i < high i
      → e ≡ changed_at (λ n. n + 1) d l → f ≡ changed_at (λ n. n + 1) e h → (v : ℕ) → get_or d v 0 ≡ touched i v → get_or f v 0 ≡ touched (i + 1) v
  counted_next i l h d e f el eh inl inh rises one two v was =
      rw (two, one, el, eh)
      (ends_changed (λ n. n + 1) d (low i) (high i) inl inh rises v
      ∙ go (eqb v (low i) || eqb v (high i)) (touched_next i v))
    where
      go : (b : Bool) → touched (i + 1) v ≡ touched i v + cond b 1 0 → cond b (get_or d v 0 + 1) (get_or d v 0) ≡ touched (i + 1) v
      go true t = omega arith
      go false t = omega arith
