-- What reading a table before a script gives.
use Prim.Native.Nat.{ℕ, ◌-◌, ◌≤◌}
use mathlib.Core.Path.{◌≡◌, sym, ◌∙◌, ap, subst}
use mathlib.Core.Bool.{true}
use mathlib.Core.List.{List}
use native.Mathlib.Omega.{arith}
use native.Mathlib.Decide.{ℕ_discrete}
use lib.ListN.{length, take, drop, length-drop}
use lib.Seq.{take_all}
use borrow.Author.Tests.{ne_eqb}
use Rattle.table.specs.Text.{of_text, text_end, text_fault, read_fault}
use Rattle.table_read.specs.Reading.{Lent, ReadsTable, lent_of}
use Rattle.std.specs.Prelude.{Result, Ok, Err}
use Rattle.refusals.specs.Refusals.{number_of}
use Rattle.refusals.specs.declared.Refusal.{Refusal}
use Rattle.table_read.specs.declared.TableHead.{TableHead}
use Rattle.table_text.proofs.Good.{text_head}
use Rattle.table_laws.proofs.Round.{text_within}
use Rattle.table_laws.proofs.Reading.{blank, blank_found, accepted, refusal_is, read_none, read_numbers}
use Rattle.output.specs.Output.{refusal_line, output_fault, Prints}
use Rattle.output.specs.declared.Output.{Output}
use Rattle.table.specs.Slices.{Slices, slices_of}
use Rattle.script_theory.specs.Script.{in_slices, script_text, script_output}

module _ (s : List ℕ) (e : text_fault 256 2048 true s ≡ 0) where
  -- the closing line stands within the text
  pub end_within : (23 ≤ text_end (of_text s)) × (text_end (of_text s) ≤ length s)
  end_within = (go (text_head 256 2048 true s e).size.some (ℕ_discrete (of_text s).probes 0), text_within 256 2048 true s e)
    where
      go : ((of_text s).probes ≡ 0 → ⊥) → Dec ((of_text s).probes ≡ 0) → 23 ≤ text_end (of_text s)
      go some (yes z) = absurd (some z)
      go some (no d) = omega arith

  output_read : script_output s ≡ script_text (in_slices (of_text s)) 1024 (drop (text_end (of_text s)) s)
  output_read = rw e

-- the text was read into slices of zeros
module _ (s : List ℕ) (r : Result TableHead Refusal) (needs lows highs costs : List ℕ)
    (read : ReadsTable 256 2048 true s r (blank 256 2048) (lent_of needs lows highs costs)) where
  abbrev b : Lent
  b = lent_of needs lows highs costs

  pub refusal_printed : (n : Refusal) (o : Output) (out out' : List ℕ) → r ≡ Err n → Prints (output_fault (length out) (refusal_line (number_of n))) (refusal_line (number_of n)) o out out'
      → Prints (output_fault (length out) (script_output s)) (script_output s) o out out'
  refusal_printed n o out out' e p =
      let u = refusal_is 256 2048 true s r (blank 256 2048) b read n e in
      rw (ne_eqb (text_fault 256 2048 true s) 0 (λ z. u.1 (blank_found 256 2048 true s ∙ z)), ← u.0 ∙ blank_found 256 2048 true s) p

  module _ (head : TableHead) (e : r ≡ Ok head) where
    none : read_fault 256 2048 true s 256 2048 2048 2048 ≡ 0
    none = read_none 256 2048 true s r (blank 256 2048) b read head.number head.probes head.links head.rest e

    is : (head.number ≡ (of_text s).number) × (head.probes ≡ (of_text s).probes) × (head.links ≡ (of_text s).links) × (head.rest ≡ text_end (of_text s))
    is = read_numbers 256 2048 true s r (blank 256 2048) b read head.number head.probes head.links head.rest e

    pub slices_are : slices_of head.number head.probes head.links needs lows highs costs ≡ in_slices (of_text s)
    slices_are = rw (is.0, is.1, is.2, rw none at read.lent.need, rw none at read.lent.low, rw none at read.lent.high, rw none at read.lent.cost)

    pub rest_within : (23 ≤ head.rest) × (head.rest ≤ length s)
    rest_within = rw is.3 (end_within s (accepted 256 2048 true s r (blank 256 2048) b read none))

    -- the rest of the text, as the code takes it
    abbrev behind : List ℕ
    behind = take (length s - head.rest) (drop head.rest s)

    behind_is : behind ≡ drop head.rest s
    behind_is = take_all (length s - head.rest) (drop head.rest s) (let n = length-drop head.rest s in omega arith)

    pub script_printed : (o : Output) (out out' : List ℕ)
        → (let text = script_text (slices_of head.number head.probes head.links needs lows highs costs) 1024 behind in Prints (output_fault (length out) text) text o out out')
        → Prints (output_fault (length out) (script_output s)) (script_output s) o out out'
    script_printed o out out' p =
        let same : script_text (slices_of head.number head.probes head.links needs lows highs costs) 1024 behind ≡ script_output s =
        ap (λ (x : Slices). script_text x 1024 behind) slices_are
        ∙ ap (λ (z : List ℕ). script_text (in_slices (of_text s)) 1024 z) behind_is
        ∙ ap (λ (m : ℕ). script_text (in_slices (of_text s)) 1024 (drop m s)) is.3
        ∙ sym (output_read s (accepted 256 2048 true s r (blank 256 2048) b read none)) in
        subst (λ (z : List ℕ). Prints (output_fault (length out) z) z o out out') same p
