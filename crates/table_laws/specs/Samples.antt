-- Sample texts and what is claimed of them: M2 of document 01, texts of M5 with one fault each, and texts with a short probe.
use Rattle.std.specs.Prelude.{ℕ, ◌≤◌, ◌≡◌, Bool, true, false, List, [], ◌∷◌, ◌++◌, length, take, drop, replicate, Ok}
use Prim.Native.Char.{code}
use Prim.Native.String.{String, [] as done, ◌∷◌ as ◌before◌}
use Rattle.table.specs.Table.{Table}
use Rattle.table.specs.Legal.{Legal}
use Rattle.table.specs.Text.{text_of, of_text, text_fault}
use Rattle.table.specs.Same.{FourDigits}
use Rattle.table.specs.Slices.{Slices, table_of}
use Rattle.table_read.specs.Reading.{Lent, answered}
use Rattle.table_laws.specs.Functions.{lent_slices, HoldsTable, ReadTable, WriteTable}

-- the bytes of a text of ASCII characters
abbrev pub bytes : String → List ℕ
bytes done = []
bytes (c before s) = code c ∷ bytes s

-- "Input of M2"
abbrev pub m2_text : List ℕ
m2_text = bytes "000100040003\n0000\n0001\n0001\n0000\n000000010005\n000100020006\n000200030005\nffff\n"

abbrev pub m2_lent : Lent
m2_lent = record { needs = 0 ∷ 1 ∷ 1 ∷ 0 ∷ []; lows = 0 ∷ 1 ∷ 2 ∷ []; highs = 1 ∷ 2 ∷ 3 ∷ []; costs = 5 ∷ 6 ∷ 5 ∷ [] }

abbrev pub m2_slices : Slices
m2_slices = lent_slices 1 4 3 m2_lent

abbrev pub m2 : Table
m2 = table_of m2_slices

pub record M2 : Type 0 where
  pub header : take 13 m2_text ≡ 48 ∷ 48 ∷ 48 ∷ 49 ∷ 48 ∷ 48 ∷ 48 ∷ 52 ∷ 48 ∷ 48 ∷ 48 ∷ 51 ∷ 10 ∷ []
  pub accepted : text_fault 256 2048 false m2_text ≡ 0
  pub back : text_of (of_text m2_text) ≡ m2_text
  pub legal : Legal m2
  pub fits : FourDigits m2
  pub written : text_of m2 ≡ m2_text

-- slices of M2's size, and a text that is longer by 3

abbrev blank : Lent
blank = record { needs = replicate 4 9; lows = replicate 3 9; highs = replicate 3 9; costs = replicate 3 9 }

abbrev lent : List ℕ
lent = replicate 80 0

-- calls with M2 that meet what each round trip of the functions asks
pub record Calls : Type 0 where
  pub read : ReadTable m2_text (answered 1 4 3 77) blank m2_lent
  pub enough : length m2_text ≤ length lent
  pub write : WriteTable m2_slices (Ok 77) lent (m2_text ++ drop 77 lent)
  pub holds : HoldsTable 4 3 blank
  pub again : ReadTable (take 77 (m2_text ++ drop 77 lent)) (answered 1 4 3 77) blank m2_lent

abbrev refusal : Bool → String → ℕ
refusal more s = text_fault 256 2048 more (bytes s)

-- document 01's refusal of each text, or 0
pub record TextRefusals : Type 0 where
  pub none : refusal false "000100020001\n0001\n0000\n000000010007\nffff\n" ≡ 0
  -- a capital digit
  pub capital : refusal false "000100020001\n0001\n0000\n00000001000A\nffff\n" ≡ 2
  -- no last line feed
  pub unclosed : refusal false "000100020001\n0001\n0000\n000000010007\nffff" ≡ 6
  -- a byte behind the closing line; the same where the text may go on
  pub behind : refusal false "000100020001\n0001\n0000\n000000010007\nffff\n0" ≡ 6
  pub script : refusal true "000100020001\n0001\n0000\n000000010007\nffff\n0" ≡ 0
  -- 02, No. 1: need 2 of 1 link; need 65,535 of none
  pub above : refusal false "000100020001\n0002\n0000\n000000010007\nffff\n" ≡ 0
  pub largest : refusal false "000100010000\nffff\nffff\n" ≡ 0
  -- equal links
  pub twice : refusal false "000100020002\n0001\n0000\n000000010007\n000000010007\nffff\n" ≡ 5
  -- low equal to high; high equal to the probe count
  pub itself : refusal false "000100020001\n0001\n0000\n000000000007\nffff\n" ≡ 4
  pub outside : refusal false "000100020001\n0001\n0000\n000000020007\nffff\n" ≡ 4
  -- a need line of 3 digits
  pub three_digits : refusal false "000100020001\n001\n0000\n000000010007\nffff\n" ≡ 1
  -- 0 probes; 257 probes; 2,049 links
  pub empty : refusal false "000100000000\nffff\n" ≡ 3
  pub probes : refusal false "000101010001\n0001\n0000\n000000010007\nffff\n" ≡ 3
  pub links : refusal false "000100020801\n0001\n0000\n000000010007\nffff\n" ≡ 3
  -- a link too few; a link too many
  pub fewer : refusal false "000100020002\n0001\n0000\n000000010007\nffff\n" ≡ 1
  pub further : refusal false "000100020000\n0000\n0000\n000000010007\nffff\n" ≡ 6
