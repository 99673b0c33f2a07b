-- The round trips of `read_table` and `write_table`, by the promises of both.
use Rattle.std.specs.Prelude.{ℕ, ◌≤◌, ◌≡◌, false, List, ◌++◌, length, take, drop, Result, Ok}
use Rattle.table.specs.Legal.{Room}
use Rattle.table.specs.Slices.{Slices, slices_of, table_of}
use Rattle.table_read.specs.Reading.{Lent, answered, ReadsTable}
use Rattle.table_read.specs.declared.TableHead.{TableHead}
use Rattle.refusals.specs.declared.Refusal.{Refusal}
use Rattle.table_write.specs.Writing.{WritesTable}
use Rattle.table.specs.Same.{FourDigits, Same}

-- lent slices with the number, probe count and link count of a table in them
abbrev pub lent_slices : ℕ → ℕ → ℕ → Lent → Slices
lent_slices number probes links a = slices_of number probes links a.needs a.lows a.highs a.costs

-- the slices have room for the table: refusal 8 does not apply
abbrev pub HoldsTable : ℕ → ℕ → Lent → Type 0
HoldsTable probes links a = Room probes links (length a.needs) (length a.lows) (length a.highs) (length a.costs)

-- the promises of `read_table` and `write_table`
abbrev pub ReadTable : List ℕ → Result TableHead Refusal → Lent → Lent → Type 0
ReadTable s r a b = ReadsTable 256 2048 false s r a b

abbrev pub WriteTable : Slices → Result ℕ Refusal → List ℕ → List ℕ → Type 0
WriteTable x w out out' = WritesTable 256 2048 x w out out'

-- "Every table text read is written back the same": into any text that is long enough
abbrev pub ReadThenWrite : Type 0
ReadThenWrite =
    (s out out' : List ℕ) (a b : Lent) (number probes links rest : ℕ) (w : Result ℕ Refusal)
    → ReadTable s (answered number probes links rest) a b
    → length s ≤ length out
    → WriteTable (lent_slices number probes links b) w out out'
    → (w ≡ Ok (length s)) × (out' ≡ s ++ drop (length s) out)

-- "every legal table written reads back": from the bytes that writing answers, into any slices that hold it
abbrev pub WriteThenRead : Type 0
WriteThenRead =
    (x : Slices) (n : ℕ) (b b' : Lent) (out out' : List ℕ) (r : Result TableHead Refusal)
    → FourDigits (table_of x)
    → WriteTable x (Ok n) out out'
    → HoldsTable x.probes x.links b
    → ReadTable (take n out') r b b'
    → (r ≡ answered x.number x.probes x.links n) × Same (table_of (lent_slices x.number x.probes x.links b')) (table_of x)
