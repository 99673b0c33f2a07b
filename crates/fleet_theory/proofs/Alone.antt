-- An outcome alters an end's own bytes as the end alters them alone, and no other end's. A restart makes them fresh, and leaves the others and all marks.
use Prim.Native.Nat.{ℕ, ◌+◌, ◌*◌}
use mathlib.Core.Path.{◌≡◌, refl, sym, ◌∙◌, ap}
use mathlib.Core.List.{List}
use native.Mathlib.Omega.{arith}
use lib.ListN.{length, set, length-set, length-replicate}
use lib.Seq.{get_or-set_same, get_or-set_other}
use Rattle.range.proofs.Lists.{zeros_at}
use Rattle.table.specs.Table.{Table}
use Rattle.probe_record.specs.Record.{outbound, inbound, fresh}
use Rattle.probe_rules.specs.declared.Outcome.{Outcome}
use Rattle.probe_rules.specs.declared.Outcome.TheVariants.{Opened, Enough, Taken, TakenDisplacing, Refused, RefusalLearnt, NoChange, AllTried}
use Rattle.probe_rules.specs.Rules.{alter}
use Rattle.probe_rules.specs.Within.{OwnLink, OwnOutcome}
use Rattle.probe_maps.proofs.Rounds.{pairs_equal}
use Rattle.fleet_theory.proofs.EndState.{store}
use Rattle.fleet_theory.proofs.EndBytes.{Cell, here, there, cell}
use Rattle.fleet_theory.specs.Fleet.{out_at, in_at, own, marks, alter_fleet, wiped}
use Rattle.fleet_theory.proofs.Own.{out_of, in_of, length_own, length_marks, out_reads, in_reads}
use Rattle.fleet_theory.proofs.Bytes.{stored_out, stored_in, stored, marked_same, out_set, out_in_set, in_set, in_out_set, altered_out, altered_in}
use Rattle.fleet_theory.proofs.Wipe.{wiped_out, wiped_in, wiped_out_else, wiped_in_else, wiped_out_mark, wiped_in_mark}

-- the bytes of other probes
module _ (p : ℕ) where
  store_else : (b : ℕ → ℕ → ℕ) (i v q j : ℕ) → (q ≡ p → ⊥) → store b p i v q j ≡ b q j
  store_else b i v q j d = go (cell b (store b p i v) p i v (λ x y. refl) q j)
    where
      go : Cell b (store b p i v) p i v q j → store b p i v q j ≡ b q j
      go (here e f s) = absurd (d e)
      go (there e s) = s

  out_else : (o : Outcome) (b : ℕ → ℕ → ℕ) (q j : ℕ) → (q ≡ p → ⊥) → stored_out p o b q j ≡ b q j
  out_else (Opened i) b q j d = store_else b i 1 q j d
  out_else Enough b q j d = refl
  out_else (Taken i) b q j d = refl
  out_else (TakenDisplacing i c) b q j d = refl
  out_else (Refused i) b q j d = refl
  out_else (RefusalLearnt i) b q j d = store_else b i 2 q j d
  out_else (NoChange i) b q j d = refl
  out_else AllTried b q j d = refl

  in_else : (o : Outcome) (b : ℕ → ℕ → ℕ) (q j : ℕ) → (q ≡ p → ⊥) → stored_in p o b q j ≡ b q j
  in_else (Opened i) b q j d = refl
  in_else Enough b q j d = refl
  in_else (Taken i) b q j d = store_else b i 1 q j d
  in_else (TakenDisplacing i c) b q j d = store_else (store b p i 1) c 2 q j d ∙ store_else b i 1 q j d
  in_else (Refused i) b q j d = store_else b i 2 q j d
  in_else (RefusalLearnt i) b q j d = refl
  in_else (NoChange i) b q j d = refl
  in_else AllTried b q j d = refl

module _ (t : Table) (p : ℕ) where
  -- a byte of p stored in the fleet's record is stored in its own
  own_set_out : (r : List ℕ) (i v : ℕ) → length r ≡ 8 * t.links → OwnLink t p i → own t p (set r (out_at t p i) v) ≡ set (own t p r) (2 * i) v
  own_set_out r i v long a =
      pairs_equal t.links (own t p (set r (out_at t p i) v)) (set (own t p r) (2 * i) v) (length_own t p (set r (out_at t p i) v))
      (length-set (own t p r) (2 * i) v ∙ length_own t p r)
      (λ j l. out_set t p r i v long a p j ∙ go j (cell (out_of t r) (store (out_of t r) p i v) p i v (λ q k. refl) p j))
      (λ j l. in_out_set t p r i v a p j ∙ sym (get_or-set_other (own t p r) (2 * i) (2 * j + 1) v 0 (λ e. omega arith)))
    where
      go : (j : ℕ) → Cell (out_of t r) (store (out_of t r) p i v) p i v p j → store (out_of t r) p i v p j ≡ outbound (set (own t p r) (2 * i) v) j
      go j (here e f s) = s ∙ rw f (sym (get_or-set_same (own t p r) (2 * i) v 0 (let b = length_own t p r in let c = a.0 in omega arith)))
      go j (there d s) = s ∙ sym (get_or-set_other (own t p r) (2 * i) (2 * j) v 0 (λ e. d refl (omega arith)))

  own_set_in : (r : List ℕ) (i v : ℕ) → length r ≡ 8 * t.links → OwnLink t p i → own t p (set r (in_at t p i) v) ≡ set (own t p r) (2 * i + 1) v
  own_set_in r i v long a =
      pairs_equal t.links (own t p (set r (in_at t p i) v)) (set (own t p r) (2 * i + 1) v) (length_own t p (set r (in_at t p i) v))
      (length-set (own t p r) (2 * i + 1) v ∙ length_own t p r)
      (λ j l. out_in_set t p r i v a p j ∙ sym (get_or-set_other (own t p r) (2 * i + 1) (2 * j) v 0 (λ e. omega arith)))
      (λ j l. in_set t p r i v long a p j ∙ go j (cell (in_of t r) (store (in_of t r) p i v) p i v (λ q k. refl) p j))
    where
      go : (j : ℕ) → Cell (in_of t r) (store (in_of t r) p i v) p i v p j → store (in_of t r) p i v p j ≡ inbound (set (own t p r) (2 * i + 1) v) j
      go j (here e f s) = s ∙ rw f (sym (get_or-set_same (own t p r) (2 * i + 1) v 0 (let b = length_own t p r in let c = a.0 in omega arith)))
      go j (there d s) = s ∙ sym (get_or-set_other (own t p r) (2 * i + 1) (2 * j + 1) v 0 (λ e. d refl (omega arith)))

  module _ (r : List ℕ) (long : length r ≡ 8 * t.links) where
    own_stored : (o : Outcome) → OwnOutcome t p o → own t p (stored t p o r) ≡ alter o (own t p r)
    own_stored (Opened i) a = own_set_out r i 1 long a
    own_stored Enough a = refl
    own_stored (Taken i) a = own_set_in r i 1 long a
    own_stored (TakenDisplacing i c) a =
        own_set_in (set r (in_at t p i) 1) c 2 (length-set r (in_at t p i) 1 ∙ long) a.1 ∙ ap (λ e. set e (2 * c + 1) 2) (own_set_in r i 1 long a.0)
    own_stored (Refused i) a = own_set_in r i 2 long a
    own_stored (RefusalLearnt i) a = own_set_out r i 2 long a
    own_stored (NoChange i) a = refl
    own_stored AllTried a = refl

    pub own_altered : (o : Outcome) → OwnOutcome t p o → own t p (alter_fleet t p o r) ≡ alter o (own t p r)
    own_altered o a =
        pairs_equal t.links (own t p (alter_fleet t p o r)) (own t p (stored t p o r)) (length_own t p (alter_fleet t p o r)) (length_own t p (stored t p o r))
        (λ j l. marked_same t p (out_reads t) refl refl o a (stored t p o r) p j) (λ j l. marked_same t p (in_reads t) refl refl o a (stored t p o r) p j)
        ∙ own_stored o a

    pub own_else : (o : Outcome) → OwnOutcome t p o → (q : ℕ) → (q ≡ p → ⊥) → own t q (alter_fleet t p o r) ≡ own t q r
    own_else o a q d =
        pairs_equal t.links (own t q (alter_fleet t p o r)) (own t q r) (length_own t q (alter_fleet t p o r)) (length_own t q r)
        (λ j l. altered_out t p r long o a q j ∙ out_else p o (out_of t r) q j d) (λ j l. altered_in t p r long o a q j ∙ in_else p o (in_of t r) q j d)

    -- a restart of p
    pub own_wiped : own t p (wiped t p r) ≡ fresh t
    own_wiped =
        pairs_equal t.links (own t p (wiped t p r)) (fresh t) (length_own t p (wiped t p r)) (length-replicate (2 * t.links) 0)
        (λ i l. wiped_out t p r long i ∙ sym (zeros_at (2 * t.links) (2 * i))) (λ i l. wiped_in t p r long i ∙ sym (zeros_at (2 * t.links) (2 * i + 1)))

    pub own_wiped_else : (q : ℕ) → (q ≡ p → ⊥) → own t q (wiped t p r) ≡ own t q r
    own_wiped_else q d =
        pairs_equal t.links (own t q (wiped t p r)) (own t q r) (length_own t q (wiped t p r)) (length_own t q r) (λ j l. wiped_out_else t p r long q j d)
        (λ j l. wiped_in_else t p r long q j d)

    pub marks_wiped : (q : ℕ) → marks t q (wiped t p r) ≡ marks t q r
    marks_wiped q =
        pairs_equal t.links (marks t q (wiped t p r)) (marks t q r) (length_marks t q (wiped t p r)) (length_marks t q r) (λ j l. wiped_out_mark t p r q j)
        (λ j l. wiped_in_mark t p r q j)
