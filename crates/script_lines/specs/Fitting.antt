-- What is printed where it fits the lent slice, and counted on where it does not.
use Rattle.std.specs.Prelude.{ℕ, ◌+◌, cond, List, ltb, length}
use Rattle.std.proofs.lemmas.List.Edits.{sets}

-- every slice is shorter than 2^63 bytes: a length is counted no further
unfoldable pub capped : ℕ → ℕ
capped n = cond (ltb n 9223372036854775808) n 9223372036854775808

-- stored from an offset on where it fits; else the slice stays
abbrev pub stored_within : List ℕ → ℕ → List ℕ → List ℕ
stored_within out at printed = cond (ltb (length out) (at + length printed)) out (sets out at printed)
