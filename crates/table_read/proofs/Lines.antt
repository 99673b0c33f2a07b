-- The fields of lines without a fault, as the stores read them: where they stand, and what they write.
use Prim.Native.Nat.{ℕ, ◌+◌, ◌-◌, ◌<◌, ◌≤◌}
use mathlib.Core.Path.{◌≡◌, ◌∙◌, ap}
use mathlib.Core.List.{List}
use native.Mathlib.Omega.{arith}
use lib.ListN.{length}
use Rattle.hex_digits.specs.Digits.{number_at}
use Rattle.lines.specs.Digits.{line_fault}
use Rattle.lines.proofs.Lines.{line_good, field_fits}
use Rattle.table.specs.Text.{of_text, need_start, link_start}

-- four digits of such a line: within the text, and in 16 bits
pub field_there : (s : List ℕ) (start width at : ℕ) → line_fault s start width ≡ 0 → start ≤ at → at + 4 ≤ start + width → (at + 4 ≤ length s) × (number_at s at 4 < 65536)
field_there s start width at good from to =
    let g = line_good s start width good in
    let w = g.within in
    let e : start + (at - start) ≡ at = omega arith in
    (omega arith, rw e at (field_fits s start width (at - start) g (omega arith)))

-- the need of probe v
pub need_read : (s : List ℕ) (v at : ℕ) → at ≡ need_start v → number_at s at 4 ≡ (of_text s).need v
need_read s v at e = ap (λ (k : ℕ). number_at s k 4) e

-- the ends and the cost of link i
module _ (s : List ℕ) (probes i at : ℕ) (p : probes ≡ (of_text s).probes) (e : at ≡ link_start probes i) where
  start : at ≡ link_start (of_text s).probes i
  start = e ∙ ap (λ (k : ℕ). link_start k i) p

  pub low_read : number_at s at 4 ≡ (of_text s).low i
  low_read = ap (λ (k : ℕ). number_at s k 4) start

  pub high_read : number_at s (at + 4) 4 ≡ (of_text s).high i
  high_read = ap (λ (k : ℕ). number_at s (k + 4) 4) start

  pub cost_read : number_at s (at + 8) 4 ≡ (of_text s).cost i
  cost_read = ap (λ (k : ℕ). number_at s (k + 8) 4) start
