-- 02, No. 1: "Refusal 7 is withdrawn": of no text and of no slices, at any limits; the theorem is `seven_withdrawn`.
use Rattle.std.specs.Prelude.{ℕ, ◌≡◌, Bool, List}
use Rattle.table.specs.Text.{read_fault}
use Rattle.table.specs.Slices.{Slices, slice_fault}

pub record SevenWithdrawn (pmax lmax : ℕ) : Type 0 where
  pub of_text_lem : (more : Bool) (s : List ℕ) (needs lows highs costs : ℕ) → read_fault pmax lmax more s needs lows highs costs ≡ 7 → ⊥
  pub of_slices_lem : (x : Slices) → slice_fault pmax lmax x ≡ 7 → ⊥
