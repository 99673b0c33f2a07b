-- The sample texts are as claimed: each is computed.
use Prim.Native.Nat.{ℕ, zero, suc, ◌<◌}
use mathlib.Core.Path.{refl}
use mathlib.Core.List.{List, [], ◌∷◌}
use native.Mathlib.Omega.{arith}
use lib.ListN.{get_or}
use Rattle.range.specs.First.{first}
use Rattle.range.specs.Sum.{sum}
use Rattle.range.specs.Lists.{joined, stored}
use Rattle.hex_digits.specs.Digits.{value_of, digit_of, number_at, digits}
use Rattle.lines.specs.Line.{until_feed, line_at}
use Rattle.lines.specs.Digits.{line_fault}
use Rattle.table.specs.Legal.{link_fault}
use Rattle.table.specs.Text.{text_of, begins, text_fault, read_fault}
use Rattle.table_laws.specs.Samples.{M2, Calls, TextRefusals}
use Rattle.lines.proofs.Numbers.{Small}

small_at : (xs : List ℕ) (i : ℕ) → Small xs → get_or xs i 0 < 65536
small_at [] i h = omega arith
small_at (x ∷ xs) zero h = h.0
small_at (x ∷ xs) (suc i) h = small_at xs i h.1

pub m2_is : M2
unfolding text_fault line_fault line_at until_feed first number_at value_of link_fault begins sum text_of joined digits digit_of
m2_is =
    record {
      header = refl;
      accepted = refl;
      back = refl;
      legal = refl;
      fits =
          record {
            number = omega arith;
            probes = omega arith;
            links = omega arith;
            need = λ v l. small_at (0 ∷ 1 ∷ 1 ∷ 0 ∷ []) v (omega arith);
            low = λ i l. small_at (0 ∷ 1 ∷ 2 ∷ []) i (omega arith);
            high = λ i l. small_at (1 ∷ 2 ∷ 3 ∷ []) i (omega arith);
            cost = λ i l. small_at (5 ∷ 6 ∷ 5 ∷ []) i (omega arith);
          };
      written = refl;
    }

pub calls_are : Calls
unfolding read_fault text_fault line_fault line_at until_feed first number_at value_of link_fault begins sum stored text_of joined digits digit_of
calls_are =
    record {
      read = record { answer = refl; lent = record { need = refl; low = refl; high = refl; cost = refl } };
      enough = omega arith;
      write = record { answer = refl; out = refl };
      holds = record { needed = omega arith; linked = omega arith; equal = refl; equal₂ = refl };
      again = record { answer = refl; lent = record { need = refl; low = refl; high = refl; cost = refl } };
    }

pub refusals_are : TextRefusals
unfolding text_fault line_fault line_at until_feed first number_at value_of link_fault begins sum
refusals_are =
    record {
      none = refl;
      capital = refl;
      unclosed = refl;
      behind = refl;
      script = refl;
      above = refl;
      largest = refl;
      twice = refl;
      itself = refl;
      outside = refl;
      three_digits = refl;
      empty = refl;
      probes = refl;
      links = refl;
      fewer = refl;
      further = refl;
    }
