-- What the script program reads before it answers: the table's bytes, and no more.
use Rattle.std.specs.Prelude.{ℕ, ◌≤◌, ◌≡◌, cond, List, eqb, length, take, Option, IfSome}
use Rattle.std.specs.Io.KnownBytes.{Consumes}
use Rattle.table.specs.Text.{of_text, need_start, head_fault, text_end}
use Rattle.standard_io.specs.declared.Filling.{Filling}
use Rattle.standard_io.specs.declared.Filling.TheVariants.{Until, Failed}

-- where the table's text ends, by the header's line; where the header is refused, at its own end
abbrev pub table_end : List ℕ → ℕ
table_end head = cond (eqb (head_fault 256 2048 head) 0) (text_end (of_text head)) (length head)

-- the table's text at the start of an input, and perhaps less where the header is refused or the input ends
abbrev pub table_text : List ℕ → List ℕ
table_text input = take (table_end (take (need_start 0) input)) input

-- the bytes read stand at the buffer's start, and are none but the table's
abbrev pub ReadsTableText : Filling → List ℕ → Type 0
ReadsTableText (Until n) text = (n ≤ length text) × (n ≤ table_end (take (need_start 0) (take n text)))
ReadsTableText Failed text = Unit {0}

-- of a reader whose bytes are known: those read are the table's text at their start
abbrev pub ReadsTableOf : Option (List ℕ) → Option (List ℕ) → Filling → List ℕ → Type 0
ReadsTableOf before after (Until n) text = Consumes before after (take n text) × IfSome before (λ input. take n text ≡ table_text input)
ReadsTableOf before after Failed text = Unit {0}
