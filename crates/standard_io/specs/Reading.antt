-- What can be said of a read: how many bytes it may give, and which bytes it leaves. What the bytes of a system's stream are is the system's; of a reader whose bytes are known, what is read is the next of them.
use Rattle.std.specs.Prelude.{ℕ, ◌≤◌, ◌<◌, ◌≡◌, List, length, take, slice_range, Option}
use Rattle.std.specs.Io.KnownBytes.{Consumes, Keeps, IsAtEnd}
use Rattle.standard_io.specs.declared.Got.{Got}
use Rattle.standard_io.specs.declared.Got.TheVariants as got
use Rattle.standard_io.specs.declared.Filling.{Filling}
use Rattle.standard_io.specs.declared.Filling.TheVariants as filling

-- some bytes, and no more than the buffer holds
abbrev pub GotWithin : ℕ → Got → Type 0
GotWithin most (got.Bytes n) = (0 < n) × (n ≤ most)
GotWithin most got.End = Unit {0}
GotWithin most got.Failed = Unit {0}

-- of known bytes: those read stand at the buffer's start, at the end none are left, and a failed read takes none
abbrev pub GotOf : Option (List ℕ) → Option (List ℕ) → List ℕ → Got → Type 0
GotOf before after buf (got.Bytes n) = Consumes before after (take n buf)
GotOf before after buf got.End = Keeps before after × (0 < length buf → IsAtEnd after)
GotOf before after buf got.Failed = Keeps before after

-- filled from an offset on, and no further than the buffer goes
abbrev pub FilledWithin : ℕ → ℕ → Filling → Type 0
FilledWithin most from (filling.Until n) = (from ≤ n) × (from ≤ most → n ≤ most)
FilledWithin most from filling.Failed = Unit {0}

-- the bytes before the offset stay
pub record Fills (from : ℕ) (r : Filling) (before after : List ℕ) : Type 0 where
  pub within : FilledWithin (length before) from r
  pub kept : take from after ≡ take from before

-- of known bytes: those read stand in the buffer from the offset on, and where it is not full none are left
abbrev pub FilledOf : Option (List ℕ) → Option (List ℕ) → ℕ → List ℕ → Filling → Type 0
FilledOf before after from buf (filling.Until n) = Consumes before after (slice_range buf from n) × (n < length buf → IsAtEnd after)
FilledOf before after from buf filling.Failed = Unit {0}
