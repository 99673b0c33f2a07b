-- An end's own bytes of a fleet's record, and their marks. Four kinds of places, each with its readings: outbound, inbound, and the marks of both.
use Prim.Native.Nat.{ℕ, ◌+◌, ◌*◌, ◌≤◌, ◌<◌}
use mathlib.Core.Path.{◌≡◌, refl, sym, ◌∙◌, ap}
use mathlib.Core.Logic.{◌⊎◌, inl, inr}
use mathlib.Core.Bool.{Bool, true, false, cond, ◌&&◌, not, true≢false}
use mathlib.Core.List.{List, [], ◌∷◌}
use native.Mathlib.Nat.{add-zero}
use native.Mathlib.Omega.{arith}
use native.Mathlib.Decide.{dec_lt}
use lib.Dec.{eqb}
use lib.ListN.{length, get_or, set, get_or-eq_default}
use lib.Seq.{get_or-set_same, get_or-set_other}
use borrow.Author.Tests.{eqb-true, eqb-false, not-true}
use Rattle.range.proofs.Bools.{and_left, and_right, decided}
use Rattle.range.specs.Lists.{joined}
use Rattle.range.proofs.Lists.{length_joined, joined_at}
use Rattle.table.specs.Table.{Table, item, of_slices, touches}
use Rattle.probe_record.specs.Record.{outbound, inbound}
use Rattle.probe_rules.specs.Within.{OwnLink}
use Rattle.fleet_theory.proofs.EndState.{store, SameBytes}
use Rattle.fleet_theory.proofs.EndBytes.{Cell, here, there, cell}
use Rattle.fleet_theory.specs.Fleet.{out_at, in_at, pair_at, own, marks, fleet_fault}

-- the bytes of all ends, by probe and link
abbrev pub out_of : Table → List ℕ → ℕ → ℕ → ℕ
out_of t r p i = outbound (own t p r) i

abbrev pub in_of : Table → List ℕ → ℕ → ℕ → ℕ
in_of t r p i = inbound (own t p r) i

-- and their marks
abbrev pub out_mark : Table → List ℕ → ℕ → ℕ → ℕ
out_mark t r p i = outbound (marks t p r) i

abbrev pub in_mark : Table → List ℕ → ℕ → ℕ → ℕ
in_mark t r p i = inbound (marks t p r) i

pub own_or_not : (t : Table) (p i : ℕ) → OwnLink t p i ⊎ (OwnLink t p i → ⊥)
own_or_not t p i = go (dec_lt i t.links) (decided (touches t p i))
  where
    go : Dec (i < t.links) → (touches t p i ≡ true) ⊎ (touches t p i ≡ false) → OwnLink t p i ⊎ (OwnLink t p i → ⊥)
    go (yes l) (inl e) = inl (l, e)
    go (yes l) (inr e) = inr (λ a. true≢false (sym a.1 ∙ e))
    go (no l) e = inr (λ a. l a.0)

-- the bytes that stand at two places a link
module _ (t : Table) (p : ℕ) (out into : ℕ → ℕ) (r : List ℕ) where
  abbrev pairs : List ℕ
  pairs = joined (pair_at t p out into r) t.links

  two : (i : ℕ) → length (pair_at t p out into r i) ≡ 2
  two i = go (touches t p i)
    where
      go : (b : Bool) → length (cond b (item r (out i) ∷ item r (into i) ∷ []) (0 ∷ 0 ∷ [])) ≡ 2
      go true = refl
      go false = refl

  pairs_long : length pairs ≡ 2 * t.links
  pairs_long = length_joined (pair_at t p out into r) 2 t.links two

  pairs_out : (i : ℕ) → i < t.links → outbound pairs i ≡ cond (touches t p i) (item r (out i)) 0
  pairs_out i l = ap (item pairs) (sym (add-zero (2 * i))) ∙ joined_at (pair_at t p out into r) 2 t.links i 0 two l (omega arith) ∙ go (touches t p i)
    where
      go : (b : Bool) → get_or (cond b (item r (out i) ∷ item r (into i) ∷ []) (0 ∷ 0 ∷ [])) 0 0 ≡ cond b (item r (out i)) 0
      go true = refl
      go false = refl

  pairs_in : (i : ℕ) → i < t.links → inbound pairs i ≡ cond (touches t p i) (item r (into i)) 0
  pairs_in i l = joined_at (pair_at t p out into r) 2 t.links i 1 two l (omega arith) ∙ go (touches t p i)
    where
      go : (b : Bool) → get_or (cond b (item r (out i) ∷ item r (into i) ∷ []) (0 ∷ 0 ∷ [])) 1 0 ≡ cond b (item r (into i)) 0
      go true = refl
      go false = refl

module _ (t : Table) where
  pub length_own : (p : ℕ) (r : List ℕ) → length (own t p r) ≡ 2 * t.links
  unfolding own
  length_own p r = pairs_long t p (out_at t p) (in_at t p) r

  pub length_marks : (p : ℕ) (r : List ℕ) → length (marks t p r) ≡ 2 * t.links
  unfolding marks
  length_marks p r = pairs_long t p (λ i. out_at t p i + 4) (λ i. in_at t p i + 4) r

  pub out_is : (p : ℕ) (r : List ℕ) (i : ℕ) → i < t.links → out_of t r p i ≡ cond (touches t p i) (item r (out_at t p i)) 0
  unfolding own
  out_is p r i l = pairs_out t p (out_at t p) (in_at t p) r i l

  pub in_is : (p : ℕ) (r : List ℕ) (i : ℕ) → i < t.links → in_of t r p i ≡ cond (touches t p i) (item r (in_at t p i)) 0
  unfolding own
  in_is p r i l = pairs_in t p (out_at t p) (in_at t p) r i l

  pub out_mark_is : (p : ℕ) (r : List ℕ) (i : ℕ) → i < t.links → out_mark t r p i ≡ cond (touches t p i) (item r (out_at t p i + 4)) 0
  unfolding marks
  out_mark_is p r i l = pairs_out t p (λ j. out_at t p j + 4) (λ j. in_at t p j + 4) r i l

  pub in_mark_is : (p : ℕ) (r : List ℕ) (i : ℕ) → i < t.links → in_mark t r p i ≡ cond (touches t p i) (item r (in_at t p i + 4)) 0
  unfolding marks
  in_mark_is p r i l = pairs_in t p (λ j. out_at t p j + 4) (λ j. in_at t p j + 4) r i l

-- the place of a byte: k behind the start of the link's eight bytes at its low end, m behind it at its high end
abbrev pub Place : Table → ℕ → ℕ → (ℕ → ℕ → ℕ) → ℕ → ℕ → Type 0
Place t k m at p i = ((p ≡ t.low i) × (at p i ≡ 8 * i + k)) ⊎ ((p ≡ t.high i) × (at p i ≡ 8 * i + m))

-- `byte` reads the record at the places `at` of own links, and 0 elsewhere
pub record ReadsAt (t : Table) (k m : ℕ) (at : ℕ → ℕ → ℕ) (byte : List ℕ → ℕ → ℕ → ℕ) : Type 0 where
  pub within : (k < 8) × (m < 8)
  pub place : (p i : ℕ) → touches t p i ≡ true → Place t k m at p i
  pub own_byte : (r : List ℕ) (p i : ℕ) → OwnLink t p i → byte r p i ≡ item r (at p i)
  pub no_byte : (r : List ℕ) (p i : ℕ) → (OwnLink t p i → ⊥) → byte r p i ≡ 0
  pub apart : (p i q j : ℕ) → OwnLink t p i → OwnLink t q j → at q j ≡ at p i → (q ≡ p) × (j ≡ i)
  pub below : (p i : ℕ) → OwnLink t p i → at p i < 8 * t.links

-- two kinds of places have none in common
abbrev pub distinct : ℕ → ℕ → ℕ → ℕ → Bool
distinct k m k' m' = (not (eqb k k') && not (eqb k m')) && (not (eqb m k') && not (eqb m m'))

distinct_ne : (a b : ℕ) → not (eqb a b) ≡ true → a ≡ b → ⊥
distinct_ne a b e = eqb-false a b (not-true (eqb a b) e)

module _ (t : Table) where
  reads_at : (k m : ℕ) (at : ℕ → ℕ → ℕ) (byte : List ℕ → ℕ → ℕ → ℕ) → k < 8 → m < 8 → (k ≡ m → ⊥) → ((p i : ℕ) → touches t p i ≡ true → Place t k m at p i)
      → ((p : ℕ) (r : List ℕ) (i : ℕ) → i < t.links → byte r p i ≡ cond (touches t p i) (item r (at p i)) 0)
      → ((p : ℕ) (r : List ℕ) (i : ℕ) → t.links ≤ i → byte r p i ≡ 0) → ReadsAt t k m at byte
  reads_at k m at byte lk lm differ place is past =
      record {
        within = (lk, lm);
        place = place;
        own_byte = λ r p i a. is p r i a.0 ∙ rw a.1;
        no_byte = λ r p i not. none r p i not (dec_lt i t.links) (decided (touches t p i));
        apart = λ p i q j a b. one p i q j (place p i a.1) (place q j b.1);
        below = λ p i a. small p i a.0 (place p i a.1);
      }
    where
      none : (r : List ℕ) (p i : ℕ) → (OwnLink t p i → ⊥) → Dec (i < t.links) → (touches t p i ≡ true) ⊎ (touches t p i ≡ false) → byte r p i ≡ 0
      none r p i not (yes l) (inl e) = absurd (not (l, e))
      none r p i not (yes l) (inr e) = is p r i l ∙ rw e
      none r p i not (no l) e = past p r i (omega arith)

      one : (p i q j : ℕ) → Place t k m at p i → Place t k m at q j → at q j ≡ at p i → (q ≡ p) × (j ≡ i)
      one p i q j (inl a) (inl b) e = let s : j ≡ i = omega arith in (b.0 ∙ rw s (sym a.0), s)
      one p i q j (inl a) (inr b) e = absurd (differ (omega arith))
      one p i q j (inr a) (inl b) e = absurd (differ (omega arith))
      one p i q j (inr a) (inr b) e = let s : j ≡ i = omega arith in (b.0 ∙ rw s (sym a.0), s)

      small : (p i : ℕ) → i < t.links → Place t k m at p i → at p i < 8 * t.links
      small p i l (inl a) = omega arith
      small p i l (inr a) = omega arith

  out_place : (p i : ℕ) → touches t p i ≡ true → Place t 0 2 (out_at t) p i
  out_place p i e = go (decided (eqb p (t.low i)))
    where
      go : (eqb p (t.low i) ≡ true) ⊎ (eqb p (t.low i) ≡ false) → Place t 0 2 (out_at t) p i
      go (inl a) = inl (eqb-true p (t.low i) a, rw a (omega arith))
      go (inr a) = inr (eqb-true p (t.high i) (rw a at e), rw a)

  in_place : (p i : ℕ) → touches t p i ≡ true → Place t 3 1 (in_at t) p i
  in_place p i e = go (decided (eqb p (t.low i)))
    where
      go : (eqb p (t.low i) ≡ true) ⊎ (eqb p (t.low i) ≡ false) → Place t 3 1 (in_at t) p i
      go (inl a) = inl (eqb-true p (t.low i) a, rw a)
      go (inr a) = inr (eqb-true p (t.high i) (rw a at e), rw a)

  -- a mark stands 4 behind its byte
  mark_place : (k m : ℕ) (at : ℕ → ℕ → ℕ) (p i : ℕ) → Place t k m at p i → Place t (k + 4) (m + 4) (λ q j. at q j + 4) p i
  mark_place k m at p i (inl a) = inl (a.0, let e = a.1 in omega arith)
  mark_place k m at p i (inr a) = inr (a.0, let e = a.1 in omega arith)

  -- past the links there is nothing
  own_past : (p : ℕ) (r : List ℕ) (i j : ℕ) → t.links ≤ i → 2 * i ≤ j → item (own t p r) j ≡ 0
  own_past p r i j past l = get_or-eq_default (own t p r) 0 (let a = length_own t p r in omega arith)

  marks_past : (p : ℕ) (r : List ℕ) (i j : ℕ) → t.links ≤ i → 2 * i ≤ j → item (marks t p r) j ≡ 0
  marks_past p r i j past l = get_or-eq_default (marks t p r) 0 (let a = length_marks t p r in omega arith)

  pub out_reads : ReadsAt t 0 2 (out_at t) (out_of t)
  out_reads =
      reads_at 0 2 (out_at t) (out_of t) (omega arith) (omega arith) (λ e. omega arith) out_place (out_is t)
      (λ p r i past. own_past p r i (2 * i) past (omega arith))

  pub in_reads : ReadsAt t 3 1 (in_at t) (in_of t)
  in_reads =
      reads_at 3 1 (in_at t) (in_of t) (omega arith) (omega arith) (λ e. omega arith) in_place (in_is t)
      (λ p r i past. own_past p r i (2 * i + 1) past (omega arith))

  pub out_mark_reads : ReadsAt t 4 6 (λ p i. out_at t p i + 4) (out_mark t)
  out_mark_reads =
      reads_at 4 6 (λ p i. out_at t p i + 4) (out_mark t) (omega arith) (omega arith) (λ e. omega arith)
      (λ p i e. mark_place 0 2 (out_at t) p i (out_place p i e)) (out_mark_is t) (λ p r i past. marks_past p r i (2 * i) past (omega arith))

  pub in_mark_reads : ReadsAt t 7 5 (λ p i. in_at t p i + 4) (in_mark t)
  in_mark_reads =
      reads_at 7 5 (λ p i. in_at t p i + 4) (in_mark t) (omega arith) (omega arith) (λ e. omega arith)
      (λ p i e. mark_place 3 1 (in_at t) p i (in_place p i e)) (in_mark_is t) (λ p r i past. marks_past p r i (2 * i + 1) past (omega arith))

  module _ {k m : ℕ} {at : ℕ → ℕ → ℕ} {byte : List ℕ → ℕ → ℕ → ℕ} (reads : ReadsAt t k m at byte) where
    -- a place of another kind is stored
    pub set_other : {k' m' : ℕ} {at' : ℕ → ℕ → ℕ} {byte' : List ℕ → ℕ → ℕ → ℕ} → ReadsAt t k' m' at' byte' → distinct k m k' m' ≡ true
        → (r : List ℕ) (p i v : ℕ) → OwnLink t p i → SameBytes (byte (set r (at' p i) v)) (byte r)
    set_other {k'} {m'} {at'} {byte'} reads' differ r p i v a q j = go (own_or_not t q j)
      where
        low : (not (eqb k k') && not (eqb k m')) ≡ true
        low = and_left (not (eqb k k') && not (eqb k m')) (not (eqb m k') && not (eqb m m')) differ

        high : (not (eqb m k') && not (eqb m m')) ≡ true
        high = and_right (not (eqb k k') && not (eqb k m')) (not (eqb m k') && not (eqb m m')) differ

        away : (k < 8) × (m < 8) → (k' < 8) × (m' < 8) → Place t k m at q j → Place t k' m' at' p i → at q j ≡ at' p i → ⊥
        away b c (inl x) (inl y) e = distinct_ne k k' (and_left (not (eqb k k')) (not (eqb k m')) low) (omega arith)
        away b c (inl x) (inr y) e = distinct_ne k m' (and_right (not (eqb k k')) (not (eqb k m')) low) (omega arith)
        away b c (inr x) (inl y) e = distinct_ne m k' (and_left (not (eqb m k')) (not (eqb m m')) high) (omega arith)
        away b c (inr x) (inr y) e = distinct_ne m m' (and_right (not (eqb m k')) (not (eqb m m')) high) (omega arith)

        go : OwnLink t q j ⊎ (OwnLink t q j → ⊥) → byte (set r (at' p i) v) q j ≡ byte r q j
        go (inl b) =
            reads.own_byte (set r (at' p i) v) q j b
            ∙ get_or-set_other r (at' p i) (at q j) v 0 (away reads.within reads'.within (reads.place q j b.1) (reads'.place p i a.1))
            ∙ sym (reads.own_byte r q j b)
        go (inr b) = reads.no_byte (set r (at' p i) v) q j b ∙ sym (reads.no_byte r q j b)

    -- the byte of an own link is stored
    pub set_own : (r : List ℕ) (p i v : ℕ) → length r ≡ 8 * t.links → OwnLink t p i → SameBytes (byte (set r (at p i) v)) (store (byte r) p i v)
    set_own r p i v long a q j = go (cell (byte r) (store (byte r) p i v) p i v (λ x y. refl) q j)
      where
        go : Cell (byte r) (store (byte r) p i v) p i v q j → byte (set r (at p i) v) q j ≡ store (byte r) p i v q j
        go (here e f s) =
            let k = reads.below p i a in
            rw (e, f) (reads.own_byte (set r (at p i) v) p i a ∙ get_or-set_same r (at p i) v 0 (omega arith)) ∙ sym s
        go (there d s) = sure (own_or_not t q j) ∙ sym s
          where
            sure : OwnLink t q j ⊎ (OwnLink t q j → ⊥) → byte (set r (at p i) v) q j ≡ byte r q j
            sure (inl b) =
                reads.own_byte (set r (at p i) v) q j b
                ∙ get_or-set_other r (at p i) (at q j) v 0 (λ e. let c = reads.apart p i q j a b e in d c.0 c.1)
                ∙ sym (reads.own_byte r q j b)
            sure (inr b) = reads.no_byte (set r (at p i) v) q j b ∙ sym (reads.no_byte r q j b)

-- what the own bytes and the record's checks take from the table
pub own_same : (number probes links : ℕ) (needs lows highs costs : List ℕ) (p : ℕ) (r : List ℕ)
    → own (of_slices 0 0 links [] lows highs []) p r ≡ own (of_slices number probes links needs lows highs costs) p r
unfolding own
own_same number probes links needs lows highs costs p r = refl

pub marks_same : (number probes links : ℕ) (needs lows highs costs : List ℕ) (p : ℕ) (r : List ℕ)
    → marks (of_slices 0 0 links [] lows highs []) p r ≡ marks (of_slices number probes links needs lows highs costs) p r
unfolding marks
marks_same number probes links needs lows highs costs p r = refl
