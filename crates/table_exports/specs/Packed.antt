-- What the functions of the table for C and Rust promise: the answer as one number, and the lent slices as the functions that are called leave them.
-- A refusal is its number; any other answer is `answer_base` or more.
use Rattle.std.specs.Prelude.{ℕ, ◌+◌, ◌*◌, ◌^◌, ◌≡◌, Bool, List, [], ◌∷◌, length, get_or}
use Rattle.range.specs.Reply.{Reply, reply_of}
use Rattle.table.specs.Slices.{Slices, table_of}
use Rattle.table.specs.Text.{of_text, text_end}
use Rattle.table_read.specs.Reading.{Lent, reading_fault, read_values, Filled}
use Rattle.table_write.specs.Writing.{write_fault, written_of}
use Rattle.packed_answers.specs.Packed.{answer_base, packed_by, packed_value}

-- 0 where the table is fine
abbrev pub packed_checking : Reply → ℕ
packed_checking = packed_by (λ vs. 0)

-- the table's number, probe count and link count, 16 bits each, the link count lowest
abbrev pub packed_reading : Reply → ℕ
packed_reading = packed_by (λ vs. answer_base + get_or vs 0 0 * 2 ^ 32 + get_or vs 1 0 * 2 ^ 16 + get_or vs 2 0)

-- `read_table`, or with `more` `read_table_prefix`, on the text s, within limits
pub record ReadsPacked (pmax lmax : ℕ) (more : Bool) (s : List ℕ) (r : ℕ) (before after : Lent) : Type 0 where
  pub answer : r ≡ packed_reading (reply_of (reading_fault pmax lmax more s before) (read_values (of_text s)))
  pub lent : Filled (reading_fault pmax lmax more s before) (of_text s) before after

-- `write_table` on the slices x, within limits
pub record WritesPacked (pmax lmax : ℕ) (x : Slices) (r : ℕ) (before after : List ℕ) : Type 0 where
  pub answer : r ≡ packed_value (reply_of (write_fault pmax lmax x (length before)) (text_end (table_of x) ∷ []))
  pub out : after ≡ written_of (write_fault pmax lmax x (length before)) (table_of x) before
