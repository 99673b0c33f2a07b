-- Bytes stored behind those held of an unfinished line.
use Prim.Native.Nat.{ℕ, ◌+◌, ◌-◌, ◌≤◌, ◌<◌}
use mathlib.Core.Path.{◌≡◌, sym, ◌∙◌, ap}
use mathlib.Core.List.{List, ◌++◌}
use native.Mathlib.Omega.{arith}
use lib.ListN.{length, take, drop, length-append}
use lib.Seq.{sets, sets-eq, take_all, take-length, take_at, take-append-add, length-take-le}
use Rattle.script_theory.proofs.Lines.{short_take}

-- all bytes are stored, or as many as there is room for
module _ (line line' bytes : List ℕ) (held : ℕ) where
  pub all_stored : held + length bytes < 16 → line' ≡ sets line held (take (length bytes) bytes)
      → (line' ≡ sets line held (take (16 - held) bytes)) × (held + length bytes ≡ held + length (take (16 - held) bytes))
  all_stored l e = let a = take_all (16 - held) bytes (omega arith) in (rw a (e ∙ ap (sets line held) (take-length bytes)), rw a)

  pub some_stored : held ≤ 16 → 16 ≤ held + length bytes → line' ≡ sets line held (take (16 - held) bytes)
      → (line' ≡ sets line held (take (16 - held) bytes)) × (16 ≡ held + length (take (16 - held) bytes))
  some_stored few l e = let n = length-take-le (16 - held) bytes (omega arith) in (e, omega arith)

pub appended_few : (bytes : List ℕ) (held n : ℕ) → held ≤ 16 → n ≡ held + length (take (16 - held) bytes) → n ≤ 16
appended_few bytes held n few e = let k = short_take (16 - held) bytes in omega (arith, k.1)

-- bytes stored behind those held
module _ (line line' bytes : List ℕ) (held n : ℕ) (few : held ≤ 16) (long : 16 ≤ length line)
    (stored : line' ≡ sets line held (take (16 - held) bytes)) (count : n ≡ held + length (take (16 - held) bytes)) where
  abbrev joined : List ℕ
  joined = take 16 (take held line ++ bytes)

  joined_is : joined ≡ take held line ++ take (16 - held) bytes
  joined_is =
      let k = length-take-le held line (omega arith) in
      let e : 16 ≡ length (take held line) + (16 - held) = omega arith in
      ap (λ (m : ℕ). take m (take held line ++ bytes)) e ∙ take-append-add (take held line) bytes (16 - held)

  pub joined_count : n ≡ length joined
  joined_count =
      let k = length-take-le held line (omega arith) in
      let m = length-append (take held line) (take (16 - held) bytes) in
      let j = ap length joined_is in
      omega arith

  pub joined_after : line' ≡ joined ++ drop (length joined) line
  joined_after =
      let j = appended_few bytes held n few count in
      stored ∙ sets-eq (take (16 - held) bytes) line held (omega arith)
      ∙ ap (λ (z : List ℕ). z ++ drop (held + length (take (16 - held) bytes)) line) (sym joined_is) ∙ ap (λ (m : ℕ). joined ++ drop m line) (sym count ∙ joined_count)

  pub joined_part : take n line' ≡ joined
  joined_part = ap (take n) joined_after ∙ take_at joined (drop (length joined) line) n (sym joined_count)
