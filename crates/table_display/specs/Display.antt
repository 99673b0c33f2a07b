-- The tables of the well-head display: 02, No. 11, "A display with less memory". The theorem is `display_tables`.
use Rattle.std.specs.Prelude.{ℕ, ◌≤◌, ◌<◌, ◌≡◌, Bool, true, false, ◌||◌, List, ◌++◌, ltb, length, Result, Err, ⊤}
use Rattle.refusals.specs.declared.Refusal.{Refusal}
use Rattle.refusals.specs.declared.Refusal.TheVariants.{Size, Slice}
use Rattle.lines.specs.Digits.{line_fault}
use Rattle.table.specs.Table.{Table}
use Rattle.table.specs.Slices.{Slices, table_of, slices_room_fault, slice_fault}
use Rattle.table.specs.Text.{triple_line, of_text, text_end, text_fault}
use Rattle.table.specs.Checking.{ChecksTable}
use Rattle.table_read.specs.Reading.{Lent, reading_fault, ReadsTable}
use Rattle.table_read.specs.declared.TableHead.{TableHead}
use Rattle.table_write.specs.Writing.{WritesTable}
use Rattle.table_laws.specs.Functions.{lent_slices, HoldsTable}

-- the table has more probes or more links than the pair allows; otherwise it is within the pair
abbrev pub over : ℕ → ℕ → Table → Bool
over pmax lmax t = ltb pmax t.probes || ltb lmax t.links

-- "Each caller is held to its own pair, by the refusal that 01 already has for the header": of slices with room for their table,
-- and of a text with a good header line, whatever follows it and however short the lent slices are
pub record HeldToPair (pmax lmax : ℕ) : Type 0 where
  pub slices : (x : Slices) → over pmax lmax (table_of x) ≡ true → slices_room_fault x ≡ 0 → slice_fault pmax lmax x ≡ 3
  pub check : (x : Slices) (r : Result ⊤ Refusal) → over pmax lmax (table_of x) ≡ true → slices_room_fault x ≡ 0 → ChecksTable pmax lmax x r → r ≡ Err Size
  pub write : (x : Slices) (r : Result ℕ Refusal) (out after : List ℕ)
      → over pmax lmax (table_of x) ≡ true → slices_room_fault x ≡ 0 → text_end (table_of x) ≤ length out
      → WritesTable pmax lmax x r out after → (r ≡ Err Size) × (after ≡ out)
  pub text : (more : Bool) (s : List ℕ) → over pmax lmax (of_text s) ≡ true → line_fault s 0 12 ≡ 0 → text_fault pmax lmax more s ≡ 3
  pub header : (more : Bool) (number probes links : ℕ) (rest : List ℕ) → number < 65536 → probes < 65536 → links < 65536
      → (ltb pmax probes || ltb lmax links) ≡ true → text_fault pmax lmax more (triple_line number probes links ++ rest) ≡ 3
  pub read : (more : Bool) (s : List ℕ) (r : Result TableHead Refusal) (lent after : Lent)
      → over pmax lmax (of_text s) ≡ true → line_fault s 0 12 ≡ 0
      → ReadsTable pmax lmax more s r lent after → (r ≡ Err Size) × (after ≡ lent)

-- "A table within the smaller pair gives the same .. to both": the calls of the display and the full ones answer the same and leave the same.

-- of slices
pub record SameTable (x : Slices) : Type 0 where
  pub fault : slice_fault 16 40 x ≡ slice_fault 256 2048 x
  pub check : (r r' : Result ⊤ Refusal) → ChecksTable 16 40 x r → ChecksTable 256 2048 x r' → r ≡ r'
  pub write : (r r' : Result ℕ Refusal) (out after after' : List ℕ) → WritesTable 16 40 x r out after → WritesTable 256 2048 x r' out after' → (r ≡ r') × (after ≡ after')

-- of a text
pub record SameText (s : List ℕ) : Type 0 where
  pub fault : (more : Bool) → text_fault 16 40 more s ≡ text_fault 256 2048 more s
  pub read : (more : Bool) (r r' : Result TableHead Refusal) (lent after after' : Lent)
      → ReadsTable 16 40 more s r lent after → ReadsTable 256 2048 more s r' lent after' → (r ≡ r') × (after ≡ after')

-- "slices for 16 probes and 40 links are never too short for it": the lent slices a, with any text and with any table in them that is within the pair; 618 bytes are those of its longest text
pub record NeverTooShort (a : Lent) : Type 0 where
  pub read_fault_lem : (more : Bool) (s : List ℕ) → reading_fault 16 40 more s a ≡ text_fault 16 40 more s
  pub read : (more : Bool) (s : List ℕ) (r : Result TableHead Refusal) (after : Lent) → ReadsTable 16 40 more s r a after → r ≡ Err Slice → ⊥
  pub room : (number probes links : ℕ) → let x = lent_slices number probes links a in
      over 16 40 (table_of x) ≡ false → slices_room_fault x ≡ 0
  pub check : (number probes links : ℕ) (r : Result ⊤ Refusal) → let x = lent_slices number probes links a in
      over 16 40 (table_of x) ≡ false → ChecksTable 16 40 x r → r ≡ Err Slice → ⊥
  pub write : (number probes links : ℕ) (r : Result ℕ Refusal) (out after : List ℕ) → let x = lent_slices number probes links a in
      over 16 40 (table_of x) ≡ false → 618 ≤ length out → WritesTable 16 40 x r out after → r ≡ Err Slice → ⊥

-- in whole; `HoldsTable`: at least 16 needs, and lows, highs and costs of one length, at least 40
pub record DisplayTables : Type 0 where
  pub held : (pmax lmax : ℕ) → HeldToPair pmax lmax
  pub same_table : (x : Slices) → over 16 40 (table_of x) ≡ false → SameTable x
  pub same_text : (s : List ℕ) → over 16 40 (of_text s) ≡ false → SameText s
  pub enough : (a : Lent) → HoldsTable 16 40 a → NeverTooShort a
