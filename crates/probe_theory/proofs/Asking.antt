-- Asking an end for a frame: again, and what the other end hears.
use Prim.Native.Nat.{ℕ, ◌≤◌, ◌<◌}
use mathlib.Core.Path.{◌≡◌, refl, sym, ◌∙◌, ap}
use mathlib.Core.Logic.{◌⊎◌, inl, inr}
use mathlib.Core.Bool.{Bool, true, false, cond, ◌&&◌}
use mathlib.Core.List.{List, ◌++◌}
use native.Mathlib.Omega.{arith}
use lib.Dec.{eqb, ltb}
use lib.ListN.{length, drop}
use lib.Seq.{sets, length-sets, drop-append_seam}
use borrow.Author.Tests.{ltb-false, lt-ltb, eqb-true, eq-eqb}
use Rattle.range.specs.First.{or_else}
use Rattle.range.proofs.Bools.{and_left, when_none, decided}
use Rattle.range.proofs.Faults.{or_left, or_none}
use Rattle.range.proofs.Sets.{sets_start}
use Rattle.table.specs.Table.{Table, other, between}
use Rattle.table.specs.Legal.{Legal, lent_fault}
use Rattle.probe_frame.specs.Frame.{Frame, frame_of, frame_fault}
use Rattle.probe_frame.proofs.Laws.{Writable, length_frame, line_passes, line_says}
use Rattle.probe_rules.specs.Rules.{sendable}
use Rattle.probe_rules.specs.Frames.{number_fault, heard_of}
use Rattle.probe_rules.specs.Within.{OwnLink}
use Rattle.probe_rules.proofs.Frames.{other_across, between_is, ends_below_lem, writable}
use Rattle.probe.specs.declared.Kind.{Kind}
use Rattle.probe.specs.declared.Kind.TheVariants as kind
use Rattle.probe.specs.declared.Asked.{Asked}
use Rattle.probe_checks.specs.Checks.{frame_kind_fault, to_fault, heard_fault}
use Rattle.probe.specs.Answers.{Asks, kind_of, asked_event, asked_frame, asked_line}
use Rattle.probe.proofs.Calls.{asked_event_lem}
use Rattle.probe.proofs.Answers.{asks_answer}

-- a list stored twice at the start
sets_again : (l xs : List ℕ) → length xs ≤ length l → sets (sets l 0 xs) 0 xs ≡ sets l 0 xs
sets_again l xs fits =
    let n = length-sets l 0 xs in
    sets_start (sets l 0 xs) xs (omega arith)
    ∙ ap (λ d. xs ++ drop (length xs) d) (sets_start l xs fits)
    ∙ ap (λ d. xs ++ d) (drop-append_seam xs (drop (length xs) l))
    ∙ sym (sets_start l xs fits)

module _ (t : Table) (p : ℕ) (k : Kind) (i : ℕ) (e : List ℕ) (rest : ℕ) where
  abbrev fault : List ℕ → ℕ
  fault out = or_else (lent_fault (length out) 15) rest

  abbrev may : Bool
  may = sendable (asked_event k i) e

  abbrev line : List ℕ
  line = asked_line t p k i

  -- the slice after a call
  abbrev lent : List ℕ → List ℕ
  lent out = cond (eqb (fault out) 0 && may) (sets out 0 line) out

  same_length : (out : List ℕ) → length (lent out) ≡ length out
  same_length out = go (eqb (fault out) 0 && may)
    where
      go : (b : Bool) → length (cond b (sets out 0 line) out) ≡ length out
      go true = length-sets out 0 line
      go false = refl

  lent_again : (out : List ℕ) → lent (lent out) ≡ lent out
  lent_again out = ap (λ n. cond (eqb (or_else (lent_fault n 15) rest) 0 && may) (sets (lent out) 0 line) (lent out)) (same_length out) ∙ go (decided (eqb (fault out) 0 && may))
    where
      go : ((eqb (fault out) 0 && may) ≡ true) ⊎ ((eqb (fault out) 0 && may) ≡ false)
          → cond (eqb (fault out) 0 && may) (sets (lent out) 0 line) (lent out) ≡ lent out
      go (inl a) =
          let none = eqb-true (fault out) 0 (and_left (eqb (fault out) 0) may a) in
          let room = ltb-false (length out) 15 (when_none (ltb (length out) 15) 7 (or_left (lent_fault (length out) 15) rest none)) in
          let n = length_frame (asked_frame t p k i) in
          rw a (sets_again out line (omega arith))
      go (inr a) = rw a refl

  pub asks_again : (r r' : Asked) (out out' out'' : List ℕ) → Asks (fault out) t p k i e r out out' → Asks (fault out') t p k i e r' out' out''
      → (r' ≡ r) × (out'' ≡ out')
  asks_again r r' out out' out'' a b =
      let long = ap length a.line ∙ same_length out in
      (asks_answer b ∙ rw long (sym (asks_answer a)), b.line ∙ ap lent a.line ∙ lent_again out ∙ sym a.line)

-- an end that is asked for a frame, and the other end of the link
module _ (t : Table) (legal : Legal t) (digits : t.number < 65536) (p i : ℕ) (a : OwnLink t p i) where
  abbrev w : ℕ
  w = other t p i

  between_ends : between t p w ≡ i
  between_ends = between_is t legal i p w a.0 (other_across t p i a.1)

  asked_writable : (k : Kind) → Writable (asked_frame t p k i)
  asked_writable k =
      let b = ends_below_lem t legal i p w a.0 (other_across t p i a.1) in
      writable t legal digits (kind_of k) p w (small k) b.0 b.1
    where
      small : (k : Kind) → kind_of k < 3
      small kind.Offer = omega arith
      small kind.Refusal = omega arith

  pub asked_says : (k : Kind) → frame_of (asked_line t p k i) ≡ asked_frame t p k i
  asked_says k = line_says (asked_frame t p k i) (asked_writable k)

  pub asked_heard : (k : Kind) → heard_of t (frame_of (asked_line t p k i)) ≡ asked_event k i
  asked_heard k = ap (heard_of t) (asked_says k) ∙ asked_event_lem t legal p i a k

  -- the checks after 1 and 2 are those of the frame
  abbrev checks : Frame → ℕ
  checks f = or_else (frame_kind_fault f) (or_else (number_fault t f) (to_fault t w f))

  checks_none : (k : Kind) → checks (asked_frame t p k i) ≡ 0
  checks_none kind.Offer = rw (eq-eqb t.number t.number refl, eq-eqb w w refl, between_ends, lt-ltb i t.links a.0)
  checks_none kind.Refusal = rw (eq-eqb t.number t.number refl, eq-eqb w w refl, between_ends, lt-ltb i t.links a.0)

  pub asked_passes : (k : Kind) → heard_fault t w (asked_line t p k i) ≡ 0
  unfolding heard_fault
  asked_passes k =
      or_none (frame_fault (asked_line t p k i)) (checks (frame_of (asked_line t p k i))) (line_passes (asked_frame t p k i) (asked_writable k))
      ∙ ap checks (asked_says k)
      ∙ checks_none k
