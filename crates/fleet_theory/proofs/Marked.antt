-- The marks: 21 for a byte and its mark, and that an event or a restart leaves each mark 1 where it was 1 or its byte now permits the frame.
use Prim.Native.Nat.{ℕ, ◌+◌, ◌*◌, ◌≤◌, ◌<◌}
use mathlib.Core.Path.{◌≡◌, refl, sym, ◌∙◌}
use mathlib.Core.Logic.{◌↔◌, ◌⊎◌, inl, inr}
use mathlib.Core.Bool.{Bool, true, false, cond, ◌&&◌, ◌||◌}
use mathlib.Core.List.{List}
use native.Mathlib.Omega.{arith}
use native.Mathlib.Decide.{ℕ_discrete}
use lib.Dec.{ltb, eqb}
use lib.ListN.{length}
use borrow.Author.Tests.{ltb-false, le-ltb, eqb-true, eqb-false, eq-eqb, ne_eqb}
use Rattle.range.specs.First.{first}
use Rattle.range.proofs.Bools.{when_none, or_false_left, or_false_right, or_cases, decided}
use Rattle.range.proofs.Faults.{first_all, none_first}
use Rattle.table.specs.Table.{Table, item}
use Rattle.table.specs.Legal.{LegalTable}
use Rattle.probe_rules.specs.declared.Outcome.{Outcome}
use Rattle.probe_rules.specs.declared.Outcome.TheVariants.{Opened, Enough, Taken, TakenDisplacing, Refused, RefusalLearnt, NoChange, AllTried}
use Rattle.probe_rules.specs.Within.{OwnLink, OwnOutcome}
use Rattle.fleet_theory.proofs.EndState.{store}
use Rattle.fleet_theory.specs.Fleet.{permitting, wrong_byte, link_bytes_fault, alter_fleet, wiped}
use Rattle.fleet_theory.specs.Words.{MarkStep}
use Rattle.fleet_theory.proofs.Own.{out_of, in_of, out_mark, in_mark, own_or_not, Place, ReadsAt, out_reads, in_reads, out_mark_reads, in_mark_reads}
use Rattle.fleet_theory.proofs.Bytes.{low_byte, high_byte, by_four, stored_out, stored_in, marked_out, marked_in, altered_out, altered_in, altered_out_mark, altered_in_mark}
use Rattle.fleet_theory.proofs.Wipe.{wiped_out, wiped_in, wiped_out_else, wiped_in_else, wiped_out_mark, wiped_in_mark}

-- a byte that permits its frame while it is v, and its mark
pub record Marked (v byte mark : ℕ) : Type 0 where
  pub byte_small : byte ≤ 2
  pub mark_small : mark ≤ 1
  pub marked : byte ≡ v → mark ≡ 1

-- all bytes of a record: an outbound byte permits while it is 1, an inbound byte while it is 2
pub record MarkedBytes (t : Table) (r : List ℕ) : Type 0 where
  pub outs : (p i : ℕ) → Marked 1 (out_of t r p i) (out_mark t r p i)
  pub ins : (p i : ℕ) → Marked 2 (in_of t r p i) (in_mark t r p i)

-- 21 lets a byte and its mark pass exactly then
fault_marked : (byte mark v : ℕ) → ◌≡◌ {A = ℕ} (cond (wrong_byte byte mark v) 21 0) 0 → Marked v byte mark
fault_marked byte mark v e =
    record {
      byte_small = ltb-false 2 byte (or_false_left (ltb 2 byte) (ltb 1 mark) over);
      mark_small = ltb-false 1 mark (or_false_right (ltb 2 byte) (ltb 1 mark) over);
      marked = λ s. one s (or_false_right (ltb 2 byte || ltb 1 mark) unmarked none) (ltb-false 1 mark (or_false_right (ltb 2 byte) (ltb 1 mark) over));
    }
  where
    unmarked : Bool
    unmarked = eqb byte v && eqb mark 0

    none : wrong_byte byte mark v ≡ false
    none = when_none (wrong_byte byte mark v) 20 e

    over : (ltb 2 byte || ltb 1 mark) ≡ false
    over = or_false_left (ltb 2 byte || ltb 1 mark) unmarked none

    one : byte ≡ v → unmarked ≡ false → mark ≤ 1 → mark ≡ 1
    one s f small = let d = eqb-false mark 0 (rw (eq-eqb byte v s) at f) in omega (arith, d)

marked_fault : (byte mark v : ℕ) → Marked v byte mark → ◌≡◌ {A = ℕ} (cond (wrong_byte byte mark v) 21 0) 0
marked_fault byte mark v a = rw (le-ltb 2 byte a.byte_small, le-ltb 1 mark a.mark_small) (go (ℕ_discrete byte v))
  where
    go : Dec (byte ≡ v) → ◌≡◌ {A = ℕ} (cond (eqb byte v && eqb mark 0) 21 0) 0
    go (yes e) = rw (eq-eqb byte v e, a.marked e)
    go (no d) = rw (ne_eqb byte v d)

module _ (t : Table) (r : List ℕ) where
  -- 21 of all links gives it for the two kinds
  module _ (fine : first (link_bytes_fault r) t.links ≡ 0) where
    pair : (i k : ℕ) → i < t.links → k < 4 → Marked (permitting k) (item r (8 * i + k)) (item r (8 * i + (4 + k)))
    pair i k l m =
        fault_marked (item r (8 * i + k)) (item r (8 * i + (4 + k))) (permitting k)
        (first_all (λ j. cond (wrong_byte (item r (8 * i + j)) (item r (8 * i + (4 + j))) (permitting j)) 21 0) 4 k (first_all (link_bytes_fault r) t.links i fine l) m)

    each : (v k m k' m' : ℕ) {at at' : ℕ → ℕ → ℕ} {byte mark : List ℕ → ℕ → ℕ → ℕ} → ReadsAt t k m at byte → ReadsAt t k' m' at' mark
        → ((p i : ℕ) → at' p i ≡ at p i + 4) → k < 4 → m < 4 → permitting k ≡ v → permitting m ≡ v → (v ≡ 0 → ⊥) → (p i : ℕ) → Marked v (byte r p i) (mark r p i)
    each v k m k' m' {at} {at'} {byte} {mark} reads marks behind lk lm vk vm some p i = go (own_or_not t p i)
      where
        placed : OwnLink t p i → Place t k m at p i → Marked v (item r (at p i)) (item r (at' p i))
        placed a (inl b) =
            let c = pair i k a.0 lk in
            let d : at' p i ≡ 8 * i + (4 + k) = behind p i ∙ (let e = b.1 in omega arith) in
            rw (b.1, d, ← vk) c
        placed a (inr b) =
            let c = pair i m a.0 lm in
            let d : at' p i ≡ 8 * i + (4 + m) = behind p i ∙ (let e = b.1 in omega arith) in
            rw (b.1, d, ← vm) c

        go : OwnLink t p i ⊎ (OwnLink t p i → ⊥) → Marked v (byte r p i) (mark r p i)
        go (inl a) = rw (reads.own_byte r p i a, marks.own_byte r p i a) (placed a (reads.place p i a.1))
        go (inr a) =
            rw (reads.no_byte r p i a, marks.no_byte r p i a)
            (record { byte_small = omega arith; mark_small = omega arith; marked = λ e. absurd (some (sym e)) })

    pub passes_marked : MarkedBytes t r
    passes_marked =
        record {
          outs = each 1 0 2 4 6 (out_reads t) (out_mark_reads t) (λ p i. refl) (omega arith) (omega arith) refl refl (λ e. omega arith);
          ins = each 2 3 1 7 5 (in_reads t) (in_mark_reads t) (λ p i. refl) (omega arith) (omega arith) refl refl (λ e. omega arith);
        }

  -- and the other way round
  pub marked_passes : LegalTable 256 2048 t → MarkedBytes t r → first (link_bytes_fault r) t.links ≡ 0
  marked_passes s a = none_first (link_bytes_fault r) t.links (λ i l. none_first (fault i) 4 (λ k m. four i l k m))
    where
      fault : ℕ → ℕ → ℕ
      fault i k = cond (wrong_byte (item r (8 * i + k)) (item r (8 * i + (4 + k))) (permitting k)) 21 0

      four : (i : ℕ) → i < t.links → (k : ℕ) → k < 4 → fault i k ≡ 0
      four i l k m =
          by_four k m
          (λ e. rw (e, low_byte t s (out_reads t) r i l, low_byte t s (out_mark_reads t) r i l)
          (marked_fault (out_of t r (t.low i) i) (out_mark t r (t.low i) i) 1 (a.outs (t.low i) i)))
          (λ e. rw (e, high_byte t s (in_reads t) r i l, high_byte t s (in_mark_reads t) r i l)
          (marked_fault (in_of t r (t.high i) i) (in_mark t r (t.high i) i) 2 (a.ins (t.high i) i)))
          (λ e. rw (e, high_byte t s (out_reads t) r i l, high_byte t s (out_mark_reads t) r i l)
          (marked_fault (out_of t r (t.high i) i) (out_mark t r (t.high i) i) 1 (a.outs (t.high i) i)))
          (λ e. rw (e, low_byte t s (in_reads t) r i l, low_byte t s (in_mark_reads t) r i l)
          (marked_fault (in_of t r (t.low i) i) (in_mark t r (t.low i) i) 2 (a.ins (t.low i) i)))

-- a byte and its mark after an event
pub record PairAfter (v mark byte' mark' : ℕ) : Type 0 where
  pub fits : Marked v byte' mark'
  -- "saying that the frame it permits could once have been sent"
  pub law : (mark' ≡ 1) ↔ ((mark ≡ 1) ⊎ (byte' ≡ v))

pair_same : (v byte mark : ℕ) → Marked v byte mark → PairAfter v mark byte mark
pair_same v byte mark a = record { fits = a; law = (inl, back) }
  where
    back : (mark ≡ 1) ⊎ (byte ≡ v) → mark ≡ 1
    back (inl e) = e
    back (inr e) = a.marked e

pair_permits : (v mark : ℕ) → v ≤ 2 → PairAfter v mark v 1
pair_permits v mark l = record { fits = record { byte_small = l; mark_small = omega arith; marked = λ e. refl }; law = (λ e. inr refl, λ e. refl) }

pair_stored : (v byte mark u : ℕ) → Marked v byte mark → u ≤ 2 → (u ≡ v → ⊥) → PairAfter v mark u mark
pair_stored v byte mark u a l d =
    record { fits = record { byte_small = l; mark_small = a.mark_small; marked = λ e. absurd (d e) }; law = (inl, back) }
  where
    back : (mark ≡ 1) ⊎ (u ≡ v) → mark ≡ 1
    back (inl e) = e
    back (inr e) = absurd (d e)

-- all of them
pub record MarksAfter (t : Table) (r r' : List ℕ) : Type 0 where
  pub outs : (p i : ℕ) → PairAfter 1 (out_mark t r p i) (out_of t r' p i) (out_mark t r' p i)
  pub ins : (p i : ℕ) → PairAfter 2 (in_mark t r p i) (in_of t r' p i) (in_mark t r' p i)

pub marks_fit : {t : Table} {r r' : List ℕ} → MarksAfter t r r' → MarkedBytes t r'
marks_fit a = record { outs = λ p i. (a.outs p i).fits; ins = λ p i. (a.ins p i).fits }

-- at one place
module _ (p : ℕ) (b a : ℕ → ℕ → ℕ) (q j : ℕ) where
  both_stored : (v i : ℕ) → v ≤ 2 → Marked v (b q j) (a q j) → PairAfter v (a q j) (store b p i v q j) (store a p i 1 q j)
  unfolding store
  both_stored v i l m = go (eqb q p && eqb j i)
    where
      go : (c : Bool) → PairAfter v (a q j) (cond c v (b q j)) (cond c 1 (a q j))
      go true = pair_permits v (a q j) l
      go false = pair_same v (b q j) (a q j) m

  byte_stored : (v i u : ℕ) → u ≤ 2 → (u ≡ v → ⊥) → Marked v (b q j) (a q j) → PairAfter v (a q j) (store b p i u q j) (a q j)
  unfolding store
  byte_stored v i u l d m = go (eqb q p && eqb j i)
    where
      go : (c : Bool) → PairAfter v (a q j) (cond c u (b q j)) (a q j)
      go true = pair_stored v (b q j) (a q j) u m l d
      go false = pair_same v (b q j) (a q j) m

  out_after_lem : (o : Outcome) → Marked 1 (b q j) (a q j) → PairAfter 1 (a q j) (stored_out p o b q j) (marked_out p o a q j)
  out_after_lem (Opened i) m = both_stored 1 i (omega arith) m
  out_after_lem Enough m = pair_same 1 (b q j) (a q j) m
  out_after_lem (Taken i) m = pair_same 1 (b q j) (a q j) m
  out_after_lem (TakenDisplacing i c) m = pair_same 1 (b q j) (a q j) m
  out_after_lem (Refused i) m = pair_same 1 (b q j) (a q j) m
  out_after_lem (RefusalLearnt i) m = byte_stored 1 i 2 (omega arith) (λ e. omega arith) m
  out_after_lem (NoChange i) m = pair_same 1 (b q j) (a q j) m
  out_after_lem AllTried m = pair_same 1 (b q j) (a q j) m

module _ (p : ℕ) (b a : ℕ → ℕ → ℕ) (q j : ℕ) where
  in_after_lem : (o : Outcome) → Marked 2 (b q j) (a q j) → PairAfter 2 (a q j) (stored_in p o b q j) (marked_in p o a q j)
  in_after_lem (Opened i) m = pair_same 2 (b q j) (a q j) m
  in_after_lem Enough m = pair_same 2 (b q j) (a q j) m
  in_after_lem (Taken i) m = byte_stored p b a q j 2 i 1 (omega arith) (λ e. omega arith) m
  in_after_lem (TakenDisplacing i c) m =
      both_stored p (store b p i 1) a q j 2 c (omega arith) (byte_stored p b a q j 2 i 1 (omega arith) (λ e. omega arith) m).fits
  in_after_lem (Refused i) m = both_stored p b a q j 2 i (omega arith) m
  in_after_lem (RefusalLearnt i) m = pair_same 2 (b q j) (a q j) m
  in_after_lem (NoChange i) m = pair_same 2 (b q j) (a q j) m
  in_after_lem AllTried m = pair_same 2 (b q j) (a q j) m

module _ (t : Table) (r : List ℕ) (a : MarkedBytes t r) where
  -- nothing is stored
  pub marks_unaltered : MarksAfter t r r
  marks_unaltered =
      record {
        outs = λ q j. pair_same 1 (out_of t r q j) (out_mark t r q j) (a.outs q j);
        ins = λ q j. pair_same 2 (in_of t r q j) (in_mark t r q j) (a.ins q j);
      }

  module _ (long : length r ≡ 8 * t.links) (p : ℕ) where
    -- an outcome of p
    pub marks_altered : (o : Outcome) → OwnOutcome t p o → MarksAfter t r (alter_fleet t p o r)
    marks_altered o own =
        record {
          outs = λ q j. rw (altered_out t p r long o own q j, altered_out_mark t p r long o own q j) (out_after_lem p (out_of t r) (out_mark t r) q j o (a.outs q j));
          ins = λ q j. rw (altered_in t p r long o own q j, altered_in_mark t p r long o own q j) (in_after_lem p (in_of t r) (in_mark t r) q j o (a.ins q j));
        }

    -- a restart of p
    wiped_pair : (v : ℕ) (b b' m m' : ℕ → ℕ → ℕ) → (v ≡ 0 → ⊥) → ((i : ℕ) → b' p i ≡ 0) → ((q i : ℕ) → (q ≡ p → ⊥) → b' q i ≡ b q i)
        → ((q i : ℕ) → m' q i ≡ m q i) → (q j : ℕ) → Marked v (b q j) (m q j) → PairAfter v (m q j) (b' q j) (m' q j)
    wiped_pair v b b' m m' some own else marks q j c = go (ℕ_discrete q p)
      where
        go : Dec (q ≡ p) → PairAfter v (m q j) (b' q j) (m' q j)
        go (yes e) = rw (marks q j, e, own j) (rw e at (pair_stored v (b q j) (m q j) 0 c (omega arith) (λ z. some (sym z))))
        go (no d) = rw (marks q j, else q j d) (pair_same v (b q j) (m q j) c)

    pub marks_wiped : MarksAfter t r (wiped t p r)
    marks_wiped =
        record {
          outs = λ q j.
              wiped_pair 1 (out_of t r) (out_of t (wiped t p r)) (out_mark t r) (out_mark t (wiped t p r)) (λ e. omega arith) (wiped_out t p r long) (wiped_out_else t p r long)
              (wiped_out_mark t p r) q j (a.outs q j);
          ins = λ q j.
              wiped_pair 2 (in_of t r) (in_of t (wiped t p r)) (in_mark t r) (in_mark t (wiped t p r)) (λ e. omega arith) (wiped_in t p r long) (wiped_in_else t p r long)
              (wiped_in_mark t p r) q j (a.ins q j);
        }

-- the same, byte by byte
pair_step : (v mark byte' mark' : ℕ) → PairAfter v mark byte' mark' → mark' ≡ cond (eqb mark 1 || eqb byte' v) 1 0
pair_step v mark byte' mark' a = go (decided (eqb mark 1 || eqb byte' v))
  where
    go : ((eqb mark 1 || eqb byte' v) ≡ true) ⊎ ((eqb mark 1 || eqb byte' v) ≡ false) → mark' ≡ cond (eqb mark 1 || eqb byte' v) 1 0
    go (inl e) = rw e (a.law.1 (either (or_cases (eqb mark 1) (eqb byte' v) e)))
      where
        either : (eqb mark 1 ≡ true) ⊎ (eqb byte' v ≡ true) → (mark ≡ 1) ⊎ (byte' ≡ v)
        either (inl f) = inl (eqb-true mark 1 f)
        either (inr f) = inr (eqb-true byte' v f)
    go (inr e) = rw e (none (ℕ_discrete mark' 1))
      where
        neither : (mark ≡ 1) ⊎ (byte' ≡ v) → ⊥
        neither (inl f) = eqb-false mark 1 (or_false_left (eqb mark 1) (eqb byte' v) e) f
        neither (inr f) = eqb-false byte' v (or_false_right (eqb mark 1) (eqb byte' v) e) f

        none : Dec (mark' ≡ 1) → mark' ≡ 0
        none (yes f) = absurd (neither (a.law.0 f))
        none (no d) = let b = a.fits.mark_small in omega (arith, d)

pub marks_step : (t : Table) → LegalTable 256 2048 t → (r r' : List ℕ) → MarksAfter t r r' → (i k : ℕ) → i < t.links → k < 4 → MarkStep r r' i k
marks_step t s r r' a i k l m =
    by_four k m
    (λ e. rw (e, low_byte t s (out_reads t) r' i l, low_byte t s (out_mark_reads t) r i l, low_byte t s (out_mark_reads t) r' i l)
    (pair_step 1 (out_mark t r (t.low i) i) (out_of t r' (t.low i) i) (out_mark t r' (t.low i) i) (a.outs (t.low i) i)))
    (λ e. rw (e, high_byte t s (in_reads t) r' i l, high_byte t s (in_mark_reads t) r i l, high_byte t s (in_mark_reads t) r' i l)
    (pair_step 2 (in_mark t r (t.high i) i) (in_of t r' (t.high i) i) (in_mark t r' (t.high i) i) (a.ins (t.high i) i)))
    (λ e. rw (e, high_byte t s (out_reads t) r' i l, high_byte t s (out_mark_reads t) r i l, high_byte t s (out_mark_reads t) r' i l)
    (pair_step 1 (out_mark t r (t.high i) i) (out_of t r' (t.high i) i) (out_mark t r' (t.high i) i) (a.outs (t.high i) i)))
    (λ e. rw (e, low_byte t s (in_reads t) r' i l, low_byte t s (in_mark_reads t) r i l, low_byte t s (in_mark_reads t) r' i l)
    (pair_step 2 (in_mark t r (t.low i) i) (in_of t r' (t.low i) i) (in_mark t r' (t.low i) i) (a.ins (t.low i) i)))
