-- Laws of a bag's frames as they are counted, read and heard: each step by what is left of the bag.
use Prim.Native.Nat.{ℕ, suc, ◌+◌, ◌*◌, ◌/◌, ◌%◌, ◌≤◌, ◌<◌}
use mathlib.Core.Path.{◌≡◌, ◌∙◌, ap}
use mathlib.Core.Bool.{Bool, true, false, cond}
use mathlib.Core.List.{List, []}
use native.Mathlib.Omega.{arith}
use native.Mathlib.Decide.{dec_lt}
use lib.Dec.{ltb, eqb}
use lib.ListN.{length, drop, drop_of_length-le}
use borrow.Author.Tests.{lt-ltb, le-ltb}
use Rattle.lines.specs.Line.{line_at, lines_from}
use Rattle.lines.proofs.Split.{next_line}
use Rattle.probe_rules.specs.declared.Event.{Event}
use Rattle.probe_rules.specs.declared.Event.TheVariants.{Opening, Offer, Refusal}
use Rattle.probe_rules.specs.Within.{IsHeard}
use Rattle.probe_hearing.specs.PackedEvents.{packed_event, unpacked_event}

-- a frame's event is told by its number
pub unpacked_same : (v : Event) → IsHeard v → unpacked_event (packed_event v) ≡ v
unpacked_same Opening f = absurd f
unpacked_same (Offer i) f =
    let even : 2 * i % 2 ≡ 0 = omega arith in
    let half : 2 * i / 2 ≡ i = omega arith in
    rw (even, half)
unpacked_same (Refusal i) f =
    let odd : (2 * i + 1) % 2 ≡ 1 = omega arith in
    let half : (2 * i + 1) / 2 ≡ i = omega arith in
    rw (odd, half)

-- and a number tells a frame
pub is_frame : (n : ℕ) → IsHeard (unpacked_event n)
is_frame n = go (eqb (n % 2) 0)
  where
    go : (b : Bool) → IsHeard (cond b (Offer (n / 2)) (Refusal (n / 2)))
    go true = tt
    go false = tt

-- the frames from an offset on
abbrev pub left : List ℕ → ℕ → List (List ℕ)
left bag at = lines_from [] (drop at bag)

pub none_left : (bag : List ℕ) (at : ℕ) → length bag ≤ at → left bag at ≡ []
unfolding lines_from
none_left bag at l = rw (drop_of_length-le bag {i = at} l)

pub fewer_left : (bag : List ℕ) (at : ℕ) → at < length bag → length (left bag at) ≡ suc (length (left bag (line_at bag at).next))
fewer_left bag at l = ap length (next_line bag at l)

-- how many they are, and 65 where they are more than 64
pub many_counted : (count n : ℕ) → count ≡ 64 → 64 < n → 65 ≡ cond (ltb 64 n) 65 n
many_counted count n c m = rw (lt-ltb 64 n m)

pub few_counted : (count n : ℕ) → count ≡ n → count ≤ 64 → count ≡ cond (ltb 64 n) 65 n
few_counted count n c l = rw (← c, le-ltb 64 count l)

-- and what the count says
pub count_many : (n r : ℕ) → r ≡ cond (ltb 64 n) 65 n → 64 < r → 64 < n
count_many n r is l = go (dec_lt 64 n)
  where
    go : Dec (64 < n) → 64 < n
    go (yes m) = m
    go (no m) = let e : r ≡ n = is ∙ rw (le-ltb 64 n (omega arith)) in omega arith

pub count_few : (n r : ℕ) → r ≡ cond (ltb 64 n) 65 n → r ≤ 64 → (n ≤ 64) × (r ≡ n)
count_few n r is l = go (dec_lt 64 n)
  where
    go : Dec (64 < n) → (n ≤ 64) × (r ≡ n)
    go (yes m) = let e : r ≡ 65 = is ∙ rw (lt-ltb 64 n m) in absurd (omega arith)
    go (no m) = (omega arith, is ∙ rw (le-ltb 64 n (omega arith)))
