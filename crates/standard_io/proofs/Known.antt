-- What was read of known bytes.
use Rattle.std.proofs.Common.{◌≡◌, ℕ, ◌≤◌, ◌<◌, List, ◌++◌, Some, None, IfSome, Option, length, take, ◌∙◌, ap, arith, append-nil, take_all, take_at}
use native.Mathlib.Decide.{dec_lt}
use Rattle.std.specs.Io.KnownBytes.{Consumes, IsAtEnd}

-- where fewer bytes were read than there was room for, they are all; so they are as much as the room holds
pub first_known : (before after : Option (List ℕ)) (read : List ℕ) (most : ℕ) → length read ≤ most → Consumes before after read → (length read < most → IsAtEnd after)
    → IfSome before (λ xs. take most xs ≡ read)
first_known None after read most l c e = tt
first_known (Some xs) None read most l c e = absurd c
first_known (Some xs) (Some ys) read most l c e = go (dec_lt (length read) most)
  where
    go : Dec (length read < most) → take most xs ≡ read
    go (yes some) =
        let all : xs ≡ read = c ∙ ap (λ l. read ++ l) (e some) ∙ append-nil read in
        ap (take most) all ∙ take_all most read l
    go (no full) = ap (take most) c ∙ take_at read ys most (omega arith)
