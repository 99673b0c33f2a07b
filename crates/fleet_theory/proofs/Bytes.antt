-- The bytes of a fleet's record: which end's they are, and what an outcome does to them and to their marks.
use Prim.Native.Nat.{ℕ, ◌+◌, ◌*◌, ◌/◌, ◌%◌, ◌-◌, ◌<◌}
use mathlib.Core.Path.{◌≡◌, refl, sym, ◌∙◌, ap}
use mathlib.Core.Logic.{inl, inr}
use mathlib.Core.Bool.{true}
use mathlib.Core.List.{List}
use native.Mathlib.Nat.{add-zero, div-add-mod}
use native.Mathlib.Omega.{arith}
use native.Mathlib.Decide.{dec_lt, ℕ_discrete}
use lib.ListN.{length, set, length-set}
use Rattle.table.specs.Table.{Table, item}
use Rattle.table.specs.Legal.{LegalTable}
use Rattle.plan_theory.proofs.Plan.{touches_low, touches_high}
use Rattle.probe_rules.specs.declared.Outcome.{Outcome}
use Rattle.probe_rules.specs.declared.Outcome.TheVariants.{Opened, Enough, Taken, TakenDisplacing, Refused, RefusalLearnt, NoChange, AllTried}
use Rattle.probe_rules.specs.Rules.{alter_at}
use Rattle.probe_rules.specs.Within.{OwnLink, OwnOutcome}
use Rattle.fleet_theory.proofs.EndState.{store, SameBytes}
use Rattle.fleet_theory.specs.Fleet.{out_at, in_at, mark_at, alter_fleet}
use Rattle.fleet_theory.proofs.Own.{out_of, in_of, out_mark, in_mark, Place, ReadsAt, out_reads, in_reads, out_mark_reads, in_mark_reads, distinct, set_other, set_own}

-- of each kind, the byte of the low end and that of the high end
module _ (t : Table) (s : LegalTable 256 2048 t) {k m : ℕ} {at : ℕ → ℕ → ℕ} {byte : List ℕ → ℕ → ℕ → ℕ} (reads : ReadsAt t k m at byte) (r : List ℕ) (i : ℕ) (l : i < t.links) where
  pub low_byte : item r (8 * i + k) ≡ byte r (t.low i) i
  low_byte = go (reads.place (t.low i) i (touches_low t i))
    where
      go : Place t k m at (t.low i) i → item r (8 * i + k) ≡ byte r (t.low i) i
      go (inl a) = ap (item r) (sym a.1) ∙ sym (reads.own_byte r (t.low i) i (l, touches_low t i))
      go (inr a) = absurd (let b = (s.ends i l).rises in let c = a.0 in omega arith)

  pub high_byte : item r (8 * i + m) ≡ byte r (t.high i) i
  high_byte = go (reads.place (t.high i) i (touches_high t i))
    where
      go : Place t k m at (t.high i) i → item r (8 * i + m) ≡ byte r (t.high i) i
      go (inl a) = absurd (let b = (s.ends i l).rises in let c = a.0 in omega arith)
      go (inr a) = ap (item r) (sym a.1) ∙ sym (reads.own_byte r (t.high i) i (l, touches_high t i))

-- "outbound from low, inbound at high, outbound from high, inbound at low"
module _ (t : Table) (s : LegalTable 256 2048 t) (r : List ℕ) (i : ℕ) (l : i < t.links) where
  pub first_byte : item r (8 * i) ≡ out_of t r (t.low i) i
  first_byte = ap (item r) (sym (add-zero (8 * i))) ∙ low_byte t s (out_reads t) r i l

  pub second_byte : item r (8 * i + 1) ≡ in_of t r (t.high i) i
  second_byte = high_byte t s (in_reads t) r i l

  pub third_byte : item r (8 * i + 2) ≡ out_of t r (t.high i) i
  third_byte = high_byte t s (out_reads t) r i l

  pub fourth_byte : item r (8 * i + 3) ≡ in_of t r (t.low i) i
  fourth_byte = low_byte t s (in_reads t) r i l

-- each byte of a record is a byte of an end, or the mark of one, on its link
pub data ByteOf (t : Table) (r : List ℕ) (j : ℕ) : Type 0 where
  an_out : (p : ℕ) → item r j ≡ out_of t r p (j / 8) → ByteOf t r j
  an_in : (p : ℕ) → item r j ≡ in_of t r p (j / 8) → ByteOf t r j
  an_out_mark : (p : ℕ) → item r j ≡ out_mark t r p (j / 8) → ByteOf t r j
  an_in_mark : (p : ℕ) → item r j ≡ in_mark t r p (j / 8) → ByteOf t r j

-- one of a link's four bytes
pub by_four : {P : Type 0} (k : ℕ) → k < 4 → (k ≡ 0 → P) → (k ≡ 1 → P) → (k ≡ 2 → P) → (k ≡ 3 → P) → P
by_four {P} k l a b c d = go (ℕ_discrete k 0) (ℕ_discrete k 1) (ℕ_discrete k 2)
  where
    go : Dec (k ≡ 0) → Dec (k ≡ 1) → Dec (k ≡ 2) → P
    go (yes e) f g = a e
    go (no e) (yes f) g = b f
    go (no e) (no f) (yes g) = c g
    go (no e) (no f) (no g) = d (omega arith)

pub byte_of : (t : Table) → LegalTable 256 2048 t → (r : List ℕ) (j : ℕ) → j < 8 * t.links → ByteOf t r j
byte_of t s r j l = go (dec_lt (j % 8) 4)
  where
    i : ℕ
    i = j / 8

    parts : 8 * i + j % 8 ≡ j
    parts = div-add-mod j 8

    within : i < t.links
    within = let a = parts in omega arith

    at : (k v : ℕ) → 8 * i + k ≡ j → item r (8 * i + k) ≡ v → item r j ≡ v
    at k v e f = ap (item r) (sym e) ∙ f

    go : Dec (j % 8 < 4) → ByteOf t r j
    go (yes a) =
        by_four (j % 8) a (λ e. an_out (t.low i) (at 0 (out_of t r (t.low i) i) (let b = parts in omega arith) (low_byte t s (out_reads t) r i within)))
        (λ e. an_in (t.high i) (at 1 (in_of t r (t.high i) i) (let b = parts in omega arith) (high_byte t s (in_reads t) r i within)))
        (λ e. an_out (t.high i) (at 2 (out_of t r (t.high i) i) (let b = parts in omega arith) (high_byte t s (out_reads t) r i within)))
        (λ e. an_in (t.low i) (at 3 (in_of t r (t.low i) i) (let b = parts in omega arith) (low_byte t s (in_reads t) r i within)))
    go (no a) =
        by_four (j % 8 - 4) (omega arith)
        (λ e. an_out_mark (t.low i) (at 4 (out_mark t r (t.low i) i) (let b = parts in omega arith) (low_byte t s (out_mark_reads t) r i within)))
        (λ e. an_in_mark (t.high i) (at 5 (in_mark t r (t.high i) i) (let b = parts in omega arith) (high_byte t s (in_mark_reads t) r i within)))
        (λ e. an_out_mark (t.high i) (at 6 (out_mark t r (t.high i) i) (let b = parts in omega arith) (high_byte t s (out_mark_reads t) r i within)))
        (λ e. an_in_mark (t.low i) (at 7 (in_mark t r (t.low i) i) (let b = parts in omega arith) (low_byte t s (in_mark_reads t) r i within)))

-- the outbound and the inbound bytes after an outcome of the probe
abbrev pub stored_out : ℕ → Outcome → (ℕ → ℕ → ℕ) → ℕ → ℕ → ℕ
stored_out p (Opened i) o = store o p i 1
stored_out p Enough o = o
stored_out p (Taken i) o = o
stored_out p (TakenDisplacing i c) o = o
stored_out p (Refused i) o = o
stored_out p (RefusalLearnt i) o = store o p i 2
stored_out p (NoChange i) o = o
stored_out p AllTried o = o

abbrev pub stored_in : ℕ → Outcome → (ℕ → ℕ → ℕ) → ℕ → ℕ → ℕ
stored_in p (Opened i) n = n
stored_in p Enough n = n
stored_in p (Taken i) n = store n p i 1
stored_in p (TakenDisplacing i c) n = store (store n p i 1) p c 2
stored_in p (Refused i) n = store n p i 2
stored_in p (RefusalLearnt i) n = n
stored_in p (NoChange i) n = n
stored_in p AllTried n = n

-- and their marks
abbrev pub marked_out : ℕ → Outcome → (ℕ → ℕ → ℕ) → ℕ → ℕ → ℕ
marked_out p (Opened i) a = store a p i 1
marked_out p Enough a = a
marked_out p (Taken i) a = a
marked_out p (TakenDisplacing i c) a = a
marked_out p (Refused i) a = a
marked_out p (RefusalLearnt i) a = a
marked_out p (NoChange i) a = a
marked_out p AllTried a = a

abbrev pub marked_in : ℕ → Outcome → (ℕ → ℕ → ℕ) → ℕ → ℕ → ℕ
marked_in p (Opened i) a = a
marked_in p Enough a = a
marked_in p (Taken i) a = a
marked_in p (TakenDisplacing i c) a = store a p c 1
marked_in p (Refused i) a = store a p i 1
marked_in p (RefusalLearnt i) a = a
marked_in p (NoChange i) a = a
marked_in p AllTried a = a

pub same_stored : {b b' : ℕ → ℕ → ℕ} (p i v : ℕ) → SameBytes b b' → SameBytes (store b p i v) (store b' p i v)
unfolding store
same_stored p i v e q j = rw (e q j)

marked_out_same : (p : ℕ) (o : Outcome) {b b' : ℕ → ℕ → ℕ} → SameBytes b b' → SameBytes (marked_out p o b) (marked_out p o b')
marked_out_same p (Opened i) e = same_stored p i 1 e
marked_out_same p Enough e = e
marked_out_same p (Taken i) e = e
marked_out_same p (TakenDisplacing i c) e = e
marked_out_same p (Refused i) e = e
marked_out_same p (RefusalLearnt i) e = e
marked_out_same p (NoChange i) e = e
marked_out_same p AllTried e = e

marked_in_same : (p : ℕ) (o : Outcome) {b b' : ℕ → ℕ → ℕ} → SameBytes b b' → SameBytes (marked_in p o b) (marked_in p o b')
marked_in_same p (Opened i) e = e
marked_in_same p Enough e = e
marked_in_same p (Taken i) e = e
marked_in_same p (TakenDisplacing i c) e = same_stored p c 1 e
marked_in_same p (Refused i) e = same_stored p i 1 e
marked_in_same p (RefusalLearnt i) e = e
marked_in_same p (NoChange i) e = e
marked_in_same p AllTried e = e

module _ (t : Table) (p : ℕ) where
  -- the record with the bytes of an outcome stored, before its marks are
  abbrev pub stored : Outcome → List ℕ → List ℕ
  stored = alter_at (out_at t p) (in_at t p)

  abbrev pub marked : Outcome → List ℕ → List ℕ
  marked = mark_at (out_at t p) (in_at t p)

  length_stored : (o : Outcome) (r : List ℕ) → length (stored o r) ≡ length r
  length_stored (Opened i) r = length-set r (out_at t p i) 1
  length_stored Enough r = refl
  length_stored (Taken i) r = length-set r (in_at t p i) 1
  length_stored (TakenDisplacing i c) r = length-set (set r (in_at t p i) 1) (in_at t p c) 2 ∙ length-set r (in_at t p i) 1
  length_stored (Refused i) r = length-set r (in_at t p i) 2
  length_stored (RefusalLearnt i) r = length-set r (out_at t p i) 2
  length_stored (NoChange i) r = refl
  length_stored AllTried r = refl

  length_marked : (o : Outcome) (r : List ℕ) → length (marked o r) ≡ length r
  length_marked (Opened i) r = length-set r (out_at t p i + 4) 1
  length_marked Enough r = refl
  length_marked (Taken i) r = refl
  length_marked (TakenDisplacing i c) r = length-set r (in_at t p c + 4) 1
  length_marked (Refused i) r = length-set r (in_at t p i + 4) 1
  length_marked (RefusalLearnt i) r = refl
  length_marked (NoChange i) r = refl
  length_marked AllTried r = refl

  pub length_altered : (o : Outcome) (r : List ℕ) → length (alter_fleet t p o r) ≡ length r
  length_altered o r = length_marked o (stored o r) ∙ length_stored o r

  -- what is not stored
  module _ {k m : ℕ} {at : ℕ → ℕ → ℕ} {byte : List ℕ → ℕ → ℕ → ℕ} (reads : ReadsAt t k m at byte) where
    -- marks that are set move no byte, and bytes that are stored no mark
    pub marked_same : distinct k m 4 6 ≡ true → distinct k m 7 5 ≡ true → (o : Outcome) → OwnOutcome t p o → (r : List ℕ) → SameBytes (byte (marked o r)) (byte r)
    marked_same a b (Opened i) own r = set_other t reads (out_mark_reads t) a r p i 1 own
    marked_same a b Enough own r = λ q j. refl
    marked_same a b (Taken i) own r = λ q j. refl
    marked_same a b (TakenDisplacing i c) own r = set_other t reads (in_mark_reads t) b r p c 1 own.1
    marked_same a b (Refused i) own r = set_other t reads (in_mark_reads t) b r p i 1 own
    marked_same a b (RefusalLearnt i) own r = λ q j. refl
    marked_same a b (NoChange i) own r = λ q j. refl
    marked_same a b AllTried own r = λ q j. refl

    stored_same : distinct k m 0 2 ≡ true → distinct k m 3 1 ≡ true → (o : Outcome) → OwnOutcome t p o → (r : List ℕ) → SameBytes (byte (stored o r)) (byte r)
    stored_same a b (Opened i) own r = set_other t reads (out_reads t) a r p i 1 own
    stored_same a b Enough own r = λ q j. refl
    stored_same a b (Taken i) own r = set_other t reads (in_reads t) b r p i 1 own
    stored_same a b (TakenDisplacing i c) own r = λ q j.
        set_other t reads (in_reads t) b (set r (in_at t p i) 1) p c 2 own.1 q j ∙ set_other t reads (in_reads t) b r p i 1 own.0 q j
    stored_same a b (Refused i) own r = set_other t reads (in_reads t) b r p i 2 own
    stored_same a b (RefusalLearnt i) own r = set_other t reads (out_reads t) a r p i 2 own
    stored_same a b (NoChange i) own r = λ q j. refl
    stored_same a b AllTried own r = λ q j. refl

  pub out_set : (r : List ℕ) (i v : ℕ) → length r ≡ 8 * t.links → OwnLink t p i → SameBytes (out_of t (set r (out_at t p i) v)) (store (out_of t r) p i v)
  out_set r i v = set_own t (out_reads t) r p i v

  pub out_in_set : (r : List ℕ) (i v : ℕ) → OwnLink t p i → SameBytes (out_of t (set r (in_at t p i) v)) (out_of t r)
  out_in_set r i v = set_other t (out_reads t) (in_reads t) refl r p i v

  pub in_set : (r : List ℕ) (i v : ℕ) → length r ≡ 8 * t.links → OwnLink t p i → SameBytes (in_of t (set r (in_at t p i) v)) (store (in_of t r) p i v)
  in_set r i v = set_own t (in_reads t) r p i v

  pub in_out_set : (r : List ℕ) (i v : ℕ) → OwnLink t p i → SameBytes (in_of t (set r (out_at t p i) v)) (in_of t r)
  in_out_set r i v = set_other t (in_reads t) (out_reads t) refl r p i v

  module _ (r : List ℕ) (long : length r ≡ 8 * t.links) where
    stored_out_lem : (o : Outcome) → OwnOutcome t p o → SameBytes (out_of t (stored o r)) (stored_out p o (out_of t r))
    stored_out_lem (Opened i) a = out_set r i 1 long a
    stored_out_lem Enough a = λ q j. refl
    stored_out_lem (Taken i) a = out_in_set r i 1 a
    stored_out_lem (TakenDisplacing i c) a = λ q j. out_in_set (set r (in_at t p i) 1) c 2 a.1 q j ∙ out_in_set r i 1 a.0 q j
    stored_out_lem (Refused i) a = out_in_set r i 2 a
    stored_out_lem (RefusalLearnt i) a = out_set r i 2 long a
    stored_out_lem (NoChange i) a = λ q j. refl
    stored_out_lem AllTried a = λ q j. refl

    stored_in_lem : (o : Outcome) → OwnOutcome t p o → SameBytes (in_of t (stored o r)) (stored_in p o (in_of t r))
    stored_in_lem (Opened i) a = in_out_set r i 1 a
    stored_in_lem Enough a = λ q j. refl
    stored_in_lem (Taken i) a = in_set r i 1 long a
    stored_in_lem (TakenDisplacing i c) a = λ q j.
        in_set (set r (in_at t p i) 1) c 2 (length-set r (in_at t p i) 1 ∙ long) a.1 q j ∙ same_stored p c 2 (in_set r i 1 long a.0) q j
    stored_in_lem (Refused i) a = in_set r i 2 long a
    stored_in_lem (RefusalLearnt i) a = in_out_set r i 2 a
    stored_in_lem (NoChange i) a = λ q j. refl
    stored_in_lem AllTried a = λ q j. refl

    marked_out_lem : (o : Outcome) → OwnOutcome t p o → SameBytes (out_mark t (marked o r)) (marked_out p o (out_mark t r))
    marked_out_lem (Opened i) a = set_own t (out_mark_reads t) r p i 1 long a
    marked_out_lem Enough a = λ q j. refl
    marked_out_lem (Taken i) a = λ q j. refl
    marked_out_lem (TakenDisplacing i c) a = set_other t (out_mark_reads t) (in_mark_reads t) refl r p c 1 a.1
    marked_out_lem (Refused i) a = set_other t (out_mark_reads t) (in_mark_reads t) refl r p i 1 a
    marked_out_lem (RefusalLearnt i) a = λ q j. refl
    marked_out_lem (NoChange i) a = λ q j. refl
    marked_out_lem AllTried a = λ q j. refl

    marked_in_lem : (o : Outcome) → OwnOutcome t p o → SameBytes (in_mark t (marked o r)) (marked_in p o (in_mark t r))
    marked_in_lem (Opened i) a = set_other t (in_mark_reads t) (out_mark_reads t) refl r p i 1 a
    marked_in_lem Enough a = λ q j. refl
    marked_in_lem (Taken i) a = λ q j. refl
    marked_in_lem (TakenDisplacing i c) a = set_own t (in_mark_reads t) r p c 1 long a.1
    marked_in_lem (Refused i) a = set_own t (in_mark_reads t) r p i 1 long a
    marked_in_lem (RefusalLearnt i) a = λ q j. refl
    marked_in_lem (NoChange i) a = λ q j. refl
    marked_in_lem AllTried a = λ q j. refl

  -- the four kinds of bytes after an outcome
  module _ (r : List ℕ) (long : length r ≡ 8 * t.links) (o : Outcome) (own : OwnOutcome t p o) where
    pub altered_out : SameBytes (out_of t (alter_fleet t p o r)) (stored_out p o (out_of t r))
    altered_out q j = marked_same (out_reads t) refl refl o own (stored o r) q j ∙ stored_out_lem r long o own q j

    pub altered_in : SameBytes (in_of t (alter_fleet t p o r)) (stored_in p o (in_of t r))
    altered_in q j = marked_same (in_reads t) refl refl o own (stored o r) q j ∙ stored_in_lem r long o own q j

    pub altered_out_mark : SameBytes (out_mark t (alter_fleet t p o r)) (marked_out p o (out_mark t r))
    altered_out_mark q j =
        marked_out_lem (stored o r) (length_stored o r ∙ long) o own q j ∙ marked_out_same p o (stored_same (out_mark_reads t) refl refl o own r) q j

    pub altered_in_mark : SameBytes (in_mark t (alter_fleet t p o r)) (marked_in p o (in_mark t r))
    altered_in_mark q j =
        marked_in_lem (stored o r) (length_stored o r ∙ long) o own q j ∙ marked_in_same p o (stored_same (in_mark_reads t) refl refl o own r) q j
