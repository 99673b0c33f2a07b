-- Laws of the bytes: the same bytes, one byte stored, the ends of a link, counts of the byte 1.
use Prim.Native.Nat.{ℕ, suc, ◌≤◌, ◌<◌}
use mathlib.Core.Path.{◌≡◌, refl, sym, ◌∙◌, ap, subst₂, fun_ext}
use mathlib.Core.Logic.{◌⊎◌, inl, inr}
use mathlib.Core.Bool.{Bool, true, ◌&&◌, and-false}
use native.Mathlib.Omega.{arith}
use native.Mathlib.Decide.{ℕ_discrete}
use lib.Dec.{eqb}
use borrow.Author.Tests.{eqb-true, eq-eqb, ne_eqb}
use Rattle.range.proofs.Bools.{and_left, and_right, and_intro, or_cases}
use Rattle.range.proofs.Sums.{weigh_le}
use Rattle.range.proofs.Counts.{count_except, count_swap}
use Rattle.table.specs.Table.{Table, touches, spare}
use Rattle.table.specs.Legal.{LegalTable}
use Rattle.plan_theory.specs.Criterion.{Across, up, down}
use Rattle.fleet_theory.proofs.EndState.{ones_at, store, SameBytes}

-- what holds of bytes holds of the same bytes
pub same_bytes : (P : (ℕ → ℕ → ℕ) → (ℕ → ℕ → ℕ) → Type 0) (o n o' n' : ℕ → ℕ → ℕ) → SameBytes o' o → SameBytes n' n → P o n → P o' n'
same_bytes P o n o' n' so sn = subst₂ P (fun_ext (λ p. fun_ext (λ i. sym (so p i)))) (fun_ext (λ p. fun_ext (λ i. sym (sn p i))))

-- the byte of q on j, where the byte of p on i is stored
pub data Cell (b b' : ℕ → ℕ → ℕ) (p i v q j : ℕ) : Type 0 where
  here : q ≡ p → j ≡ i → b' q j ≡ v → Cell b b' p i v q j
  there : (q ≡ p → j ≡ i → ⊥) → b' q j ≡ b q j → Cell b b' p i v q j

pub cell : (b b' : ℕ → ℕ → ℕ) (p i v : ℕ) → SameBytes b' (store b p i v) → (q j : ℕ) → Cell b b' p i v q j
unfolding store
cell b b' p i v s q j = go (ℕ_discrete q p) (ℕ_discrete j i)
  where
    go : Dec (q ≡ p) → Dec (j ≡ i) → Cell b b' p i v q j
    go (yes e) (yes f) = here e f (s q j ∙ rw (eq-eqb q p e, eq-eqb j i f))
    go (yes e) (no f) = there (λ x y. f y) (s q j ∙ rw (eq-eqb q p e, ne_eqb j i f))
    go (no e) d = there (λ x y. e x) (s q j ∙ rw (ne_eqb q p e))

pub stored_byte : (b b' : ℕ → ℕ → ℕ) (p i v : ℕ) → SameBytes b' (store b p i v) → b' p i ≡ v
stored_byte b b' p i v s = go (cell b b' p i v s p i)
  where
    go : Cell b b' p i v p i → b' p i ≡ v
    go (here x y e) = e
    go (there d e) = absurd (d refl refl)

-- a byte that is not the one stored was there before
pub before_store : (b b' : ℕ → ℕ → ℕ) (p i u : ℕ) → SameBytes b' (store b p i u) → (q j v : ℕ) → (v ≡ u → ⊥) → b' q j ≡ v → b q j ≡ v
before_store b b' p i u s q j v d e = go (cell b b' p i u s q j)
  where
    go : Cell b b' p i u q j → b q j ≡ v
    go (here x y f) = absurd (d (sym e ∙ f))
    go (there x f) = sym f ∙ e

-- a byte stored as it was
pub store_same : (b b' : ℕ → ℕ → ℕ) (p i v : ℕ) → SameBytes b' (store b p i v) → b p i ≡ v → SameBytes b' b
store_same b b' p i v s was q j = go (cell b b' p i v s q j)
  where
    go : Cell b b' p i v q j → b' q j ≡ b q j
    go (here x y e) = let k : b q j ≡ b p i = rw (x, y) in omega arith
    go (there d e) = e

-- the byte of q on j, where the byte of p on i becomes 1 and then its byte on c becomes 2
pub data Swap (b b' : ℕ → ℕ → ℕ) (p i c q j : ℕ) : Type 0 where
  gone : q ≡ p → j ≡ c → b' q j ≡ 2 → Swap b b' p i c q j
  new : q ≡ p → j ≡ i → b' q j ≡ 1 → Swap b b' p i c q j
  old : (q ≡ p → j ≡ c → ⊥) → (q ≡ p → j ≡ i → ⊥) → b' q j ≡ b q j → Swap b b' p i c q j

pub swap : (b b' : ℕ → ℕ → ℕ) (p i c : ℕ) → SameBytes b' (store (store b p i 1) p c 2) → (q j : ℕ) → Swap b b' p i c q j
swap b b' p i c s q j = go (cell (store b p i 1) b' p c 2 s q j) (cell b (store b p i 1) p i 1 (λ x y. refl) q j)
  where
    go : Cell (store b p i 1) b' p c 2 q j → Cell b (store b p i 1) p i 1 q j → Swap b b' p i c q j
    go (here x y e) d = gone x y e
    go (there x e) (here y z f) = new y z (e ∙ f)
    go (there x e) (there y f) = old x y (e ∙ f)

-- the end across from p
pub far : (t : Table) (p i : ℕ) → touches t p i ≡ true → (w : ℕ) × Across t i w p
far t p i e = go (or_cases (eqb p (t.low i)) (eqb p (t.high i)) e)
  where
    go : (eqb p (t.low i) ≡ true) ⊎ (eqb p (t.high i) ≡ true) → (w : ℕ) × Across t i w p
    go (inl a) = (t.high i, rw (eqb-true p (t.low i) a) down)
    go (inr a) = (t.low i, rw (eqb-true p (t.high i) a) up)

-- a link has one end across from p
pub far_one : (t : Table) → LegalTable 256 2048 t → (i p u w : ℕ) → i < t.links → Across t i u p → Across t i w p → u ≡ w
far_one t s i p u w l x y = go (by_ends u p x) (by_ends w p y)
  where
    by_ends : (a b : ℕ) → Across t i a b → ((a ≡ t.low i) × (b ≡ t.high i)) ⊎ ((a ≡ t.high i) × (b ≡ t.low i))
    by_ends _ _ up = inl (refl, refl)
    by_ends _ _ down = inr (refl, refl)

    go : ((u ≡ t.low i) × (p ≡ t.high i)) ⊎ ((u ≡ t.high i) × (p ≡ t.low i)) → ((w ≡ t.low i) × (p ≡ t.high i)) ⊎ ((w ≡ t.high i) × (p ≡ t.low i))
        → u ≡ w
    go (inl a) (inl b) = omega arith
    go (inr a) (inr b) = omega arith
    go (inl a) (inr b) = let r = (s.ends i l).rises in absurd (omega arith)
    go (inr a) (inl b) = let r = (s.ends i l).rises in absurd (omega arith)

-- at each probe no more links with the byte 1 than its spare
abbrev pub WithinSpares : Table → (ℕ → ℕ → ℕ) → Type 0
WithinSpares t b = (q : ℕ) → ones_at t b q ≤ spare t q

module _ (t : Table) (b b' : ℕ → ℕ → ℕ) where
  -- a link of q whose byte is 1
  abbrev one_at : (ℕ → ℕ → ℕ) → ℕ → ℕ → Bool
  one_at c q j = touches t q j && eqb (c q j) 1

  still : (q j : ℕ) → (b' q j ≡ 1 → b q j ≡ 1) → one_at b' q j ≡ true → one_at b q j ≡ true
  still q j h e =
      and_intro (and_left (touches t q j) (eqb (b' q j) 1) e)
      (eq-eqb (b q j) 1 (h (eqb-true (b' q j) 1 (and_right (touches t q j) (eqb (b' q j) 1) e))))

  -- no byte becomes 1
  ones_le : (q : ℕ) → ((j : ℕ) → b' q j ≡ 1 → b q j ≡ 1) → ones_at t b' q ≤ ones_at t b q
  ones_le q h = weigh_le t.links (one_at b' q) (one_at b q) (λ j. 1) (λ j l. still q j (h j))

  -- the byte on i alone may become 1
  ones_more : (q i : ℕ) → i < t.links → ((j : ℕ) → (j ≡ i → ⊥) → b' q j ≡ 1 → b q j ≡ 1) → ones_at t b' q ≤ suc (ones_at t b q)
  ones_more q i l h = count_except t.links (one_at b' q) (one_at b q) i l (λ j k d. still q j (h j d))

  -- the byte on i alone may become 1, and the byte on c was 1
  ones_swap : (q i c : ℕ) → i < t.links → c < t.links → ((j : ℕ) → (j ≡ i → ⊥) → b' q j ≡ 1 → b q j ≡ 1) → (b' q c ≡ 1 → ⊥) → touches t q c ≡ true
      → b q c ≡ 1 → ones_at t b' q ≤ ones_at t b q
  ones_swap q i c li lc h out at into =
      count_swap t.links (one_at b' q) (one_at b q) i c li lc (λ j k d. still q j (h j d)) (rw (ne_eqb (b' q c) 1 out) (and-false (touches t q c)))
      (and_intro at (eq-eqb (b q c) 1 into))

  pub fits_fewer : ((q j : ℕ) → b' q j ≡ 1 → b q j ≡ 1) → WithinSpares t b → WithinSpares t b'
  fits_fewer h fits q =
      let a = ones_le q (h q) in
      let c = fits q in
      omega arith

  pub fits_same : SameBytes b' b → WithinSpares t b → WithinSpares t b'
  fits_same s = fits_fewer (λ q j e. sym (s q j) ∙ e)

  -- p has room for one more
  pub fits_more : (p i : ℕ) → i < t.links → SameBytes b' (store b p i 1) → ones_at t b p < spare t p → WithinSpares t b → WithinSpares t b'
  fits_more p i l s room fits q = go (ℕ_discrete q p)
    where
      was : (j : ℕ) → (q ≡ p → j ≡ i → ⊥) → b' q j ≡ 1 → b q j ≡ 1
      was j d e = sure (cell b b' p i 1 s q j)
        where
          sure : Cell b b' p i 1 q j → b q j ≡ 1
          sure (here x y f) = absurd (d x y)
          sure (there x f) = sym f ∙ e

      go : Dec (q ≡ p) → ones_at t b' q ≤ spare t q
      go (yes e) =
          let a = ones_more q i l (λ j d. was j (λ x. d)) in
          let c = rw (← e) at room in
          omega arith
      go (no d) =
          let a = ones_le q (λ j. was j (λ x y. d x)) in
          let c = fits q in
          omega arith

  -- the link i comes for the link c
  pub fits_swap : (p i c : ℕ) → i < t.links → c < t.links → touches t p c ≡ true → b p i ≡ 0 → b p c ≡ 1 → SameBytes b' (store (store b p i 1) p c 2) → WithinSpares t b
      → WithinSpares t b'
  fits_swap p i c li lc at z e s fits q = let a = few (ℕ_discrete q p) in let d = fits q in omega arith
    where
      was : (j : ℕ) → (q ≡ p → j ≡ i → ⊥) → b' q j ≡ 1 → Swap b b' p i c q j → b q j ≡ 1
      was j k h (gone x y m) = absurd (omega arith)
      was j k h (new x y m) = absurd (k x y)
      was j k h (old _ _ m) = sym m ∙ h

      left : q ≡ p → b' q c ≡ 1 → Swap b b' p i c q c → ⊥
      left f h (gone x y m) = omega arith
      left f h (new x y m) = let k = ap (b p) y in omega arith
      left f h (old k _ m) = k f refl

      few : Dec (q ≡ p) → ones_at t b' q ≤ ones_at t b q
      few (yes f) =
          ones_swap q i c li lc (λ j k h. was j (λ x. k) h (swap b b' p i c s q j)) (λ h. left f h (swap b b' p i c s q c)) (rw f at) (rw f e)
      few (no k) = ones_le q (λ j h. was j (λ x y. k x) h (swap b b' p i c s q j))

-- and p has as many links with the byte 1 as before
pub swap_many : (t : Table) (b b' : ℕ → ℕ → ℕ) (p i c : ℕ) → i < t.links → c < t.links → touches t p i ≡ true → b p i ≡ 0 → b p c ≡ 1
    → SameBytes b' (store (store b p i 1) p c 2) → ones_at t b p ≤ ones_at t b' p
swap_many t b b' p i c li lc at z e s =
    ones_swap t b' b p c i lc li (λ j d h. stays j d h (swap b b' p i c s p j)) (λ y. omega arith) at (taken (swap b b' p i c s p i))
  where
    stays : (j : ℕ) → (j ≡ c → ⊥) → b p j ≡ 1 → Swap b b' p i c p j → b' p j ≡ 1
    stays j d h (gone x y m) = absurd (d y)
    stays j d h (new x y m) = m
    stays j d h (old _ _ m) = m ∙ h

    taken : Swap b b' p i c p i → b' p i ≡ 1
    taken (gone x y m) = absurd (let k = ap (b p) y in omega arith)
    taken (new x y m) = m
    taken (old _ d m) = absurd (d refl refl)
