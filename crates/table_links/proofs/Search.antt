-- Why halving finds the link: a legal table's links rise, and two probes share at most one.
use Prim.Native.Nat.{ℕ, ◌+◌, ◌≤◌, ◌<◌}
use mathlib.Core.Path.{◌≡◌, refl, sym, ◌∙◌, ap}
use mathlib.Core.Logic.{◌⊎◌, inl, inr}
use mathlib.Core.Bool.{Bool, true, false, not, ◌&&◌, ◌||◌, true≢false}
use mathlib.Core.List.{List, []}
use native.Mathlib.Omega.{arith}
use native.Mathlib.Decide.{ℕ_discrete}
use lib.Dec.{ltb, eqb}
use borrow.Author.Tests.{ltb-true, eqb-true, lt-ltb, eq-eqb}
use Rattle.range.specs.Choice.{lowest}
use Rattle.range.proofs.Bools.{and_left, and_right, and_intro, or_intro_left, or_intro_right, or_cases, decided}
use Rattle.range.proofs.Choice.{lowest_is, is_lowest}
use Rattle.table.specs.Table.{item, of_slices, joins, between}
use Rattle.table.specs.Slices.{slice_fault, slices_of}
use Rattle.table.proofs.Slices.{legal_slices}
use Rattle.table.proofs.LegalLaws.{legal_table}
use Rattle.table_links.specs.RisingSlices.{RisingSlices, earlier}

-- the order of ends, by numbers
abbrev Earlier : ℕ → ℕ → ℕ → ℕ → Type 0
Earlier l h low high = (l < low) ⊎ ((l ≡ low) × (h < high))

module _ (lows highs : List ℕ) (low high i : ℕ) where
  abbrev l : ℕ
  l = item lows i

  abbrev h : ℕ
  h = item highs i

  earlier_is : earlier lows highs low high i ≡ true → Earlier l h low high
  earlier_is e = go (or_cases (ltb l low) (eqb l low && ltb h high) e)
    where
      go : (ltb l low ≡ true) ⊎ ((eqb l low && ltb h high) ≡ true) → Earlier l h low high
      go (inl a) = inl (ltb-true l low a)
      go (inr a) = inr (eqb-true l low (and_left (eqb l low) (ltb h high) a), ltb-true h high (and_right (eqb l low) (ltb h high) a))

  is_earlier : Earlier l h low high → earlier lows highs low high i ≡ true
  is_earlier (inl a) = or_intro_left (ltb l low) (eqb l low && ltb h high) (lt-ltb l low a)
  is_earlier (inr a) = or_intro_right (ltb l low) (eqb l low && ltb h high) (and_intro (eq-eqb l low a.0) (lt-ltb h high a.1))

  not_earlier : (Earlier l h low high → ⊥) → earlier lows highs low high i ≡ false
  not_earlier n = go (decided (earlier lows highs low high i))
    where
      go : (earlier lows highs low high i ≡ true) ⊎ (earlier lows highs low high i ≡ false) → earlier lows highs low high i ≡ false
      go (inl e) = absurd (n (earlier_is e))
      go (inr e) = e

before_earlier : (a b c d low high : ℕ) → Earlier a b c d → Earlier c d low high → Earlier a b low high
before_earlier a b c d low high (inl x) (inl y) = inl (omega arith)
before_earlier a b c d low high (inl x) (inr y) = inl (omega arith)
before_earlier a b c d low high (inr x) (inl y) = inl (omega arith)
before_earlier a b c d low high (inr x) (inr y) = inr (omega arith)

module _ (links : ℕ) (lows highs : List ℕ) (o : RisingSlices links lows highs) where
  -- earlier links stand before later ones
  pub earlier_before : (low high i j : ℕ) → i < j → j < links → earlier lows highs low high j ≡ true → earlier lows highs low high i ≡ true
  earlier_before low high i j s t e =
      is_earlier lows highs low high i
      (before_earlier (item lows i) (item highs i) (item lows j) (item highs j) low high (o.rising i j s t) (earlier_is lows highs low high j e))

  pub not_earlier_behind : (low high i j : ℕ) → i < j → j < links → earlier lows highs low high i ≡ false → earlier lows highs low high j ≡ false
  not_earlier_behind low high i j s t e = go (decided (earlier lows highs low high j))
    where
      go : (earlier lows highs low high j ≡ true) ⊎ (earlier lows highs low high j ≡ false) → earlier lows highs low high j ≡ false
      go (inl w) = absurd (true≢false (sym (earlier_before low high i j s t w) ∙ e))
      go (inr w) = w

-- the links before start are earlier, those from end on are not
pub record Split (links : ℕ) (lows highs : List ℕ) (low high start end : ℕ) : Type 0 where
  pub ordered : start ≤ end
  pub within : end ≤ links
  pub below : (j : ℕ) → j < start → earlier lows highs low high j ≡ true
  pub above : (j : ℕ) → end ≤ j → j < links → earlier lows highs low high j ≡ false

pub split_start : (links : ℕ) (lows highs : List ℕ) (low high : ℕ) → Split links lows highs low high 0 links
split_start links lows highs low high =
    record { ordered = omega arith; within = omega arith; below = λ j s. absurd (omega arith); above = λ j s t. absurd (omega arith) }

module _ (links : ℕ) (lows highs : List ℕ) (o : RisingSlices links lows highs) (low high start end : ℕ) (s : Split links lows highs low high start end) where
  -- one in the middle is earlier, or is not
  pub split_up : (m : ℕ) → m < end → earlier lows highs low high m ≡ true → Split links lows highs low high (m + 1) end
  split_up m l e = record { ordered = omega arith; within = s.within; below = go; above = s.above }
    where
      go : (j : ℕ) → j < m + 1 → earlier lows highs low high j ≡ true
      go j k = at (ℕ_discrete j m)
        where
          at : Dec (j ≡ m) → earlier lows highs low high j ≡ true
          at (yes q) = rw q e
          at (no q) = let w = s.within in earlier_before links lows highs o low high j m (omega arith) (omega arith) e

  pub split_down : (m : ℕ) → start ≤ m → m < end → earlier lows highs low high m ≡ false → Split links lows highs low high start m
  split_down m k l e = let w = s.within in record { ordered = k; within = omega arith; below = s.below; above = go }
    where
      go : (j : ℕ) → m ≤ j → j < links → earlier lows highs low high j ≡ false
      go j k t = at (ℕ_discrete j m)
        where
          at : Dec (j ≡ m) → earlier lows highs low high j ≡ false
          at (yes q) = rw q e
          at (no q) = not_earlier_behind links lows highs o low high m j (omega arith) t e

  pub split_end : end ≤ start → start ≡ lowest (λ i. not (earlier lows highs low high i)) links
  split_end k =
      let w = s.within in
      let z = s.ordered in
      is_lowest (λ i. not (earlier lows highs low high i)) links start
      (record { within = omega arith; inside = λ l. ap not (s.above start (omega arith) l); before = λ j l. ap not (s.below j l) })

-- the slices of a legal table
pub ordered : (pmax lmax number probes links : ℕ) (needs lows highs costs : List ℕ) → slice_fault pmax lmax (slices_of number probes links needs lows highs costs) ≡ 0 → RisingSlices links lows highs
ordered pmax lmax number probes links needs lows highs costs e =
    let g = legal_slices pmax lmax (slices_of number probes links needs lows highs costs) e in
    let s = legal_table pmax lmax (of_slices number probes links needs lows highs costs) g.legal in
    record { in_lows = g.in_lows; in_highs = g.in_highs; ends = λ i l. (s.ends i l).rises; rising = s.order.rising }

module _ (links : ℕ) (lows highs : List ℕ) (o : RisingSlices links lows highs) (low high : ℕ) (k : low ≤ high) where
  abbrev joining : ℕ → Bool
  joining = joins (of_slices 0 0 0 [] lows highs []) low high

  abbrev from : ℕ
  from = lowest (λ i. not (earlier lows highs low high i)) links

  -- a link that joins them has them as its low and its high end
  joining_ends : (j : ℕ) → j < links → joining j ≡ true → (low ≡ item lows j) × (high ≡ item highs j)
  joining_ends j l e = go (or_cases (eqb low (item lows j) && eqb high (item highs j)) (eqb high (item lows j) && eqb low (item highs j)) e)
    where
      go : ((eqb low (item lows j) && eqb high (item highs j)) ≡ true) ⊎ ((eqb high (item lows j) && eqb low (item highs j)) ≡ true) → (low ≡ item lows j) × (high ≡ item highs j)
      go (inl a) =
          let x = eqb low (item lows j) in
          let y = eqb high (item highs j) in
          (eqb-true low (item lows j) (and_left x y a), eqb-true high (item highs j) (and_right x y a))
      go (inr a) =
          let x = eqb high (item lows j) in
          let y = eqb low (item highs j) in
          let p = eqb-true high (item lows j) (and_left x y a) in
          let q = eqb-true low (item highs j) (and_right x y a) in
          let r = o.ends j l in
          absurd (omega arith)

  -- so it is the first that does not come before them
  joining_first : (j : ℕ) → j < links → joining j ≡ true → j ≡ from
  joining_first j l e =
      let w = joining_ends j l e in
      is_lowest (λ i. not (earlier lows highs low high i)) links j
      (record { within = omega arith; inside = λ m. ap not (not_earlier lows highs low high j (apart (item lows j) (item highs j) (sym w.0) (sym w.1))); before = λ i m. ap not (is_earlier lows highs low high i (rw (w.0, w.1) (o.rising i j m l))) })
    where
      apart : (a b : ℕ) → a ≡ low → b ≡ high → Earlier a b low high → ⊥
      apart a b p q (inl x) = omega arith
      apart a b p q (inr x) = omega arith

  pub link_found : from < links → joining from ≡ true → from ≡ lowest joining links
  link_found l e =
      is_lowest joining links from
      (record { within = omega arith; inside = λ m. e; before = λ j m. other j (omega arith) (λ q. omega arith) })
    where
      other : (j : ℕ) → j < links → (j ≡ from → ⊥) → joining j ≡ false
      other j s n = go (decided (joining j))
        where
          go : (joining j ≡ true) ⊎ (joining j ≡ false) → joining j ≡ false
          go (inl y) = absurd (n (joining_first j s y))
          go (inr y) = y

  -- none: none is the first, or the first does not join them
  pub no_link : (from < links → joining from ≡ false) → links ≡ lowest joining links
  no_link n = is_lowest joining links links (record { within = omega arith; inside = λ m. absurd (omega arith); before = other })
    where
      other : (j : ℕ) → j < links → joining j ≡ false
      other j s = go (decided (joining j))
        where
          go : (joining j ≡ true) ⊎ (joining j ≡ false) → joining j ≡ false
          go (inl y) = let q = joining_first j s y in rw q (n (rw q at s))
          go (inr y) = y

or_swap : (a b : Bool) → (a || b) ≡ (b || a)
or_swap true true = refl
or_swap true false = refl
or_swap false true = refl
or_swap false false = refl

joins_swap : (lows highs : List ℕ) (a b i : ℕ) → joins (of_slices 0 0 0 [] lows highs []) b a i ≡ joins (of_slices 0 0 0 [] lows highs []) a b i
joins_swap lows highs a b i = or_swap (eqb b (item lows i) && eqb a (item highs i)) (eqb a (item lows i) && eqb b (item highs i))

-- the link between two probes is that between the second and the first
pub between_swap : (links : ℕ) (lows highs : List ℕ) (a b : ℕ)
    → between (of_slices 0 0 links [] lows highs []) a b ≡ between (of_slices 0 0 links [] lows highs []) b a
between_swap links lows highs a b =
    let p = joins (of_slices 0 0 links [] lows highs []) a b in
    let q = joins (of_slices 0 0 links [] lows highs []) b a in
    let m = lowest_is p links in
    is_lowest q links (lowest p links)
    (record { within = m.within; inside = λ l. joins_swap lows highs a b (lowest p links) ∙ m.inside l; before = λ j l. joins_swap lows highs a b j ∙ m.before j l })
