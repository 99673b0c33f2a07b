-- The sample tables are as claimed: each is computed.
use mathlib.Core.Path.{refl}
use native.Mathlib.Omega.{arith}
use Rattle.range.specs.First.{first}
use Rattle.range.specs.Lists.{joined, stored}
use Rattle.hex_digits.specs.Digits.{value_of, number_at}
use Rattle.lines.specs.Line.{until_feed, line_at}
use Rattle.lines.specs.Digits.{line_fault}
use Rattle.table.specs.Legal.{link_fault}
use Rattle.table.specs.Text.{begins, text_fault, read_fault}
use Rattle.table_display.specs.Samples.{PairSamples}

pub samples_are : PairSamples
unfolding read_fault text_fault line_fault line_at until_feed first number_at value_of link_fault begins joined stored
samples_are =
    record {
      display16 = refl;
      display17 = refl;
      full17 = refl;
      read17 = record { answer = refl; lent = record { need = refl; low = refl; high = refl; cost = refl } };
      display40 = refl;
      display41 = refl;
      full41 = refl;
      m2_within = refl;
      holds = record { needed = omega arith; linked = omega arith; equal = refl; equal₂ = refl };
      display_m2 = record { answer = refl; lent = record { need = refl; low = refl; high = refl; cost = refl } };
      full_m2 = record { answer = refl; lent = record { need = refl; low = refl; high = refl; cost = refl } };
    }
