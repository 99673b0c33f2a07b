-- The program writes what the whole input prints.
use Prim.Native.Nat.{ℕ}
use mathlib.Core.Path.{◌≡◌, refl, sym, ◌∙◌, ap}
use mathlib.Core.Bool.{true}
use mathlib.Core.List.{List, ◌++◌}
use lib.ListN.{take, drop}
use lib.Seq.{drop_at}
use Rattle.table.specs.Text.{of_text, text_fault}
use Rattle.table.specs.Slices.{Slices}
use Rattle.std.specs.Prelude.{Err}
use Rattle.refusals.specs.Refusals.{number_of}
use Rattle.refusals.specs.declared.Refusal.{Refusal}
use Rattle.table_read.specs.Reading.{Lent, answered, ReadsTable}
use Rattle.table_laws.proofs.Reading.{blank_found, accepted, refusal_is, read_none}
use Rattle.output.specs.Output.{refusal_line}
use Rattle.output.specs.declared.Output.TheVariants.{Length}
use Rattle.table_laws.specs.Functions.{lent_slices}
use Rattle.script_theory.specs.Script.{in_slices, end_text, script_text, script_output}
use Rattle.script_calls.specs.Calls.{fresh_piece, left_after_pieces, text_of_pieces}
use Rattle.fleet_calls.proofs.Promises.{same_self}
use Rattle.script_calls.proofs.Calls.{script_of_calls}
use Rattle.script_table.specs.Reading.{table_text}
use Rattle.script_table.proofs.Table.{own_length, part_of}
use Rattle.table_laws.proofs.Reading.{read_fine}
use Rattle.script_output.proofs.Reading.{slices_are}
use Rattle.script.specs.Writing.{zero_slices, ScriptWrites}
use Rattle.script.proofs.Table.{own_script, own_refusal}
use Rattle.script_reads.proofs.Calls.{end_holds}

module _ (input : List ℕ) where
  abbrev n : ℕ
  n = (part_of input).bytes

  same : table_text input ≡ take n input
  same = (part_of input).is

  module _ (z : text_fault 256 2048 true (table_text input) ≡ 0) (rest : List ℕ) (e : table_text input ++ rest ≡ input) where
    passes : text_fault 256 2048 true (take n input) ≡ 0
    passes = sym (ap (text_fault 256 2048 true) same) ∙ z

    rest_is : drop n input ≡ rest
    rest_is =
        ap (drop n) (sym e)
        ∙ ap (λ (t : List ℕ). drop n (t ++ rest)) same
        ∙ drop_at (take n input) rest n (own_length input n (part_of input).headed (part_of input).own passes)

    -- the rest of the input behind its table prints all
    rest_prints : script_text (in_slices (of_text (table_text input))) 1024 rest ≡ script_output input
    rest_prints =
        ap (λ (t : List ℕ). script_text (in_slices (of_text t)) 1024 rest) same
        ∙ ap (script_text (in_slices (of_text (take n input))) 1024) (sym rest_is)
        ∙ sym (own_script input n (part_of input).headed (part_of input).own passes)

  -- the table read stands in these slices
  refused : (m : Refusal) (b : Lent) → ReadsTable 256 2048 true (table_text input) (Err m) zero_slices b → refusal_line (number_of m) ≡ script_output input
  refused m b read =
      let u = refusal_is 256 2048 true (table_text input) (Err m) zero_slices b read m refl in
      let e = u.0 ∙ blank_found 256 2048 true (table_text input) ∙ ap (text_fault 256 2048 true) same in
      own_refusal input n (part_of input).headed (part_of input).own (number_of m) e (λ w. u.1 (sym u.0 ∙ w))

pub script_writes : (input : List ℕ) → ScriptWrites input
script_writes input =
    let text = table_text input in
    record {
      refused = refused input;
      writes = λ number probes links rest b read n out' a e.
          let r = answered number probes links rest in
          let z = accepted 256 2048 true text r zero_slices b read (read_none 256 2048 true text r zero_slices b read number probes links rest refl) in
          let x = lent_slices number probes links b in
          let fine = read_fine 256 2048 true text r _ b read number probes links rest refl in
          let left = left_after_pieces (fresh_piece x a.line) a.calls in
          let printed = end_text x left.bytes left.progress.held left.progress.changed in
          let all = script_of_calls x fine a.line a.long a.calls a.kept in
          all.prints x (same_self x fine) (Length n) a.out out' a.end (end_holds x left.bytes printed n a.out out' a.end)
          ∙ ap (λ (y : Slices). script_text y 1024 (text_of_pieces a.calls)) (slices_are text r b.needs b.lows b.highs b.costs read (record { number = number; probes = probes; links = links; rest = rest }) refl)
          ∙ rest_prints input z (text_of_pieces a.calls) e;
    }
