-- One byte of an end's record stored.
use Prim.Native.Nat.{ℕ, ◌+◌, ◌*◌, ◌<◌}
use mathlib.Core.Path.{◌≡◌}
use mathlib.Core.List.{List}
use native.Mathlib.Omega.{arith}
use lib.ListN.{length, set}
use lib.Seq.{get_or-set_same, get_or-set_other}
use Rattle.probe_record.specs.Record.{outbound, inbound}

module _ (e : List ℕ) (i v : ℕ) where
  pub out_here : 2 * i < length e → outbound (set e (2 * i) v) i ≡ v
  out_here l = get_or-set_same e (2 * i) v 0 l

  pub out_else : (j : ℕ) → (j ≡ i → ⊥) → outbound (set e (2 * i) v) j ≡ outbound e j
  out_else j d = get_or-set_other e (2 * i) (2 * j) v 0 (λ s. d (omega arith))

  pub out_kept : (j : ℕ) → outbound (set e (2 * i + 1) v) j ≡ outbound e j
  out_kept j = get_or-set_other e (2 * i + 1) (2 * j) v 0 (λ s. omega arith)

  pub in_here : 2 * i + 1 < length e → inbound (set e (2 * i + 1) v) i ≡ v
  in_here l = get_or-set_same e (2 * i + 1) v 0 l

  pub in_else : (j : ℕ) → (j ≡ i → ⊥) → inbound (set e (2 * i + 1) v) j ≡ inbound e j
  in_else j d = get_or-set_other e (2 * i + 1) (2 * j + 1) v 0 (λ s. d (omega arith))

  pub in_kept : (j : ℕ) → inbound (set e (2 * i) v) j ≡ inbound e j
  in_kept j = get_or-set_other e (2 * i) (2 * j + 1) v 0 (λ s. omega arith)
