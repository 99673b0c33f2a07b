-- Sample tables at the display's pair and just over it, and calls with M2 of document 01.
use Rattle.std.specs.Prelude.{◌≡◌, false, List, [], ◌∷◌, ◌++◌, ℕ, replicate, Err}
use Rattle.range.specs.Lists.{joined}
use Rattle.table.specs.Slices.{Slices, slices_of, slice_fault}
use Rattle.table.specs.Text.{closing_line, of_text, text_fault}
use Rattle.table_read.specs.Reading.{Lent, lent_of, answered, ReadsTable}
use Rattle.refusals.specs.declared.Refusal.TheVariants.{Size}
use Rattle.table_laws.specs.Functions.{HoldsTable}
use Rattle.table_laws.specs.Samples.{bytes, m2_text}
use Rattle.table_display.specs.Display.{over}

-- 16 probes and 17 probes, without links

abbrev needs : ℕ → List ℕ
needs n = joined (λ v. bytes "0000\n") n

abbrev pub probes16 : List ℕ
probes16 = bytes "000100100000\n" ++ (needs 16 ++ closing_line)

abbrev pub probes17 : List ℕ
probes17 = bytes "000100110000\n" ++ (needs 17 ++ closing_line)

-- 16 probes and up to 41 links: of 0 with 1 to 15, of 1 with 2 to 15, of 2 with 3 to 14

abbrev lows : List ℕ
lows = replicate 15 0 ++ (replicate 14 1 ++ replicate 12 2)

abbrev to14 : List ℕ
to14 = 3 ∷ 4 ∷ 5 ∷ 6 ∷ 7 ∷ 8 ∷ 9 ∷ 10 ∷ 11 ∷ 12 ∷ 13 ∷ 14 ∷ []

abbrev highs : List ℕ
highs = 1 ∷ 2 ∷ to14 ++ (15 ∷ 2 ∷ to14 ++ (15 ∷ to14))

abbrev pub linked : ℕ → Slices
linked links = slices_of 1 16 links (replicate 16 0) lows highs (replicate 41 1)

-- slices for the pair, and with M2 in them

abbrev pub blank : Lent
blank = lent_of (replicate 16 9) (replicate 40 9) (replicate 40 9) (replicate 40 9)

abbrev pub m2_read : Lent
m2_read =
    lent_of (0 ∷ 1 ∷ 1 ∷ 0 ∷ replicate 12 9) (0 ∷ 1 ∷ 2 ∷ replicate 37 9) (1 ∷ 2 ∷ 3 ∷ replicate 37 9) (5 ∷ 6 ∷ 5 ∷ replicate 37 9)

pub record PairSamples : Type 0 where
  -- the display's largest number of probes; one more, which the full caller takes
  pub display16 : text_fault 16 40 false probes16 ≡ 0
  pub display17 : text_fault 16 40 false probes17 ≡ 3
  pub full17 : text_fault 256 2048 false probes17 ≡ 0
  -- by 3, not by 8, where nothing is lent
  pub read17 : ReadsTable 16 40 false probes17 (Err Size) (lent_of [] [] [] []) (lent_of [] [] [] [])
  -- the same of links
  pub display40 : slice_fault 16 40 (linked 40) ≡ 0
  pub display41 : slice_fault 16 40 (linked 41) ≡ 3
  pub full41 : slice_fault 256 2048 (linked 41) ≡ 0
  -- a text within the pair, read by both into slices for the pair
  pub m2_within : over 16 40 (of_text m2_text) ≡ false
  pub holds : HoldsTable 16 40 blank
  pub display_m2 : ReadsTable 16 40 false m2_text (answered 1 4 3 77) blank m2_read
  pub full_m2 : ReadsTable 256 2048 false m2_text (answered 1 4 3 77) blank m2_read
