-- What is written behind a table's own text is what the whole input prints.
use Rattle.std.proofs.Common.{◌≡◌, ℕ, ◌<◌, List, ◌++◌, Some, None, Option, length, take, drop, true, sym, ◌∙◌, ap, subst, append-nil}
use Rattle.std.proofs.Math.Seq.{take-append_seam}
use Rattle.std.specs.Io.KnownBytes.{Appends}
use Rattle.std.proofs.KnownBytes.{Appends-trans}
use Rattle.output.specs.Output.{refusal_line, Prints}
use Rattle.output.specs.declared.Output.TheVariants.{Length}
use Rattle.output.proofs.Printing.{prints_answer}
use Rattle.std.specs.Prelude.{Err}
use Rattle.refusals.specs.Refusals.{number_of}
use Rattle.refusals.specs.declared.Refusal.{Refusal}
use Rattle.table_read.specs.Reading.{Lent, answered, ReadsTable}
use Rattle.table_laws.specs.Functions.{lent_slices}
use Rattle.script_theory.specs.Script.{script_output}
use Rattle.script_calls.specs.Calls.{text_of_pieces, printed_by_pieces}
use Rattle.script_table.specs.Reading.{table_text, ReadsTableOf}
use Rattle.standard_io.specs.declared.Filling.TheVariants.{Until}
use Rattle.script.specs.Writing.{zero_slices, AnswersInput, WritesEnding, WritesBehind, WritesAll}
use Rattle.script.specs.declared.Ending.{Ending}
use Rattle.script.specs.declared.Ending.TheVariants as ending
use Rattle.script.proofs.Writing.{script_writes}

-- the rest of the input, which was read to its end
pub behind_table : (text : List ℕ) (unread unread' written mid written' : Option (List ℕ)) (number probes links rest : ℕ) (b : Lent)
    → ReadsTable 256 2048 true text (answered number probes links rest) zero_slices b → (e : Ending) (out' : List ℕ) (room : ℕ) → 0 < room
    → AnswersInput (lent_slices number probes links b) e out' room unread unread' written mid → WritesEnding e out' mid written' → WritesBehind text unread written written'
behind_table text None unread' written mid written' number probes links rest b read e out' room some h w = tt
behind_table text (Some behind) unread' written mid written' number probes links rest b read ending.Failed out' room some h w = absurd w
behind_table text (Some behind) None written mid written' number probes links rest b read (ending.Printed n) out' room some h w = absurd h.moved.0
behind_table text (Some behind) (Some left) written mid written' number probes links rest b read (ending.Printed n) out' room some h w = λ own.
    let a = h.answers in
    let input = text ++ behind in
    let all : behind ≡ text_of_pieces a.calls = h.moved.0 ∙ ap (λ l. text_of_pieces a.calls ++ l) (h.moved.2 some) ∙ append-nil (text_of_pieces a.calls) in
    let whole : table_text input ++ text_of_pieces a.calls ≡ input = ap (λ t. t ++ text_of_pieces a.calls) own ∙ ap (λ l. text ++ l) (sym all) in
    let read' = subst (λ t. ReadsTable 256 2048 true t (answered number probes links rest) zero_slices b) (sym own) read in
    let prints = (script_writes input).writes number probes links rest b read' n out' a whole in
    subst (Appends written written') prints (Appends-trans written mid written' (printed_by_pieces a.calls) (take n out') h.moved.1 w)

-- a table that is refused
pub behind_refused : (text : List ℕ) (unread written written' : Option (List ℕ)) (fault : Refusal) (m : ℕ) (b : Lent) (out out' : List ℕ) (n : ℕ)
    → ReadsTable 256 2048 true text (Err fault) zero_slices b → m ≡ number_of fault → Prints 0 (refusal_line m) (Length n) out out' → Appends written written' (take n out')
    → WritesBehind text unread written written'
behind_refused text None written written' fault m b out out' n read e p w = tt
behind_refused text (Some behind) written written' fault m b out out' n read e told w = λ own.
    let p = rw e at told in
    let input = text ++ behind in
    let read' = subst (λ t. ReadsTable 256 2048 true t (Err fault) zero_slices b) (sym own) read in
    let prints : refusal_line (number_of fault) ≡ script_output input = (script_writes input).refused fault b read' in
    let length_is : Length n ≡ Length (length (refusal_line (number_of fault))) = prints_answer p in
    let same : n ≡ length (refusal_line (number_of fault)) = cc in
    let line : take n out' ≡ refusal_line (number_of fault) =
    ap (take n) p.out ∙ ap (λ k. take k (refusal_line (number_of fault) ++ drop (length (refusal_line (number_of fault))) out)) same ∙ take-append_seam (refusal_line (number_of fault)) (drop (length (refusal_line (number_of fault))) out) in
    subst (Appends written written') (line ∙ prints) w

-- the table's own text was read first
pub behind_all : (before after written written' : Option (List ℕ)) (n : ℕ) (text : List ℕ) → ReadsTableOf before after (Until n) text
    → WritesBehind (take n text) after written written' → WritesAll before written written'
behind_all None after written written' n text r w = tt
behind_all (Some xs) None written written' n text r w = absurd r.0
behind_all (Some xs) (Some ys) written written' n text r w =
    subst (λ l. Appends written written' (script_output l)) (sym r.0) (w (ap table_text (sym r.0) ∙ sym r.1))
