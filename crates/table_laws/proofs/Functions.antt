-- The round trips of `read_table` and `write_table`: they follow from the two promises.
use Prim.Native.Nat.{ℕ, ◌≤◌}
use mathlib.Core.Path.{◌≡◌, refl, sym, ◌∙◌, ap}
use mathlib.Core.Bool.{Bool, true, false, cond}
use mathlib.Core.List.{List}
use native.Mathlib.Omega.{arith}
use lib.Dec.{eqb}
use lib.ListN.{length, take, drop}
use lib.Seq.{take_at}
use borrow.Author.Tests.{eqb-true, le-ltb}
use Rattle.range.proofs.Faults.{or_none, or_right}
use Rattle.table.specs.Table.{Table}
use Rattle.table.specs.Legal.{lent_fault, room_fault, table_fault}
use Rattle.table.specs.Text.{of_text, text_of, text_end, text_fault, read_fault}
use Rattle.table.proofs.Accepted.{text_legal}
use Rattle.table.proofs.Lengths.{length_text}
use Rattle.std.specs.Prelude.{Result, Ok, Err}
use Rattle.refusals.specs.declared.Refusal.{Refusal}
use Rattle.refusals.proofs.Laws.{refusal_of}
use Rattle.table_read.specs.declared.TableHead.{TableHead}
use Rattle.table.specs.Same.{Same}
use Rattle.table.specs.Slices.{Slices, table_of}
use Rattle.table_read.specs.Reading.{Lent, answered, reading_fault}
use Rattle.table_write.specs.Writing.{write_fault}
use Rattle.table_read.proofs.Answers.{reads_answer}
use Rattle.table_write.proofs.Answers.{writes_answer}
use Rattle.table_laws.specs.Functions.{lent_slices, HoldsTable, ReadTable, ReadThenWrite, WriteThenRead}
use Rattle.table_laws.proofs.Tables.{same_text}
use Rattle.table.proofs.Same.{same_fault}
use Rattle.table_laws.proofs.Reading.{room_none, accepted, entries, holds, read_none, read_numbers}
use Rattle.table_laws.proofs.Round.{text_whole, table_whole}

-- what an answer that is no refusal says
answer_written : (none : Bool) (fault n : ℕ) (t : Table) → ◌≡◌ {A = Result ℕ Refusal} (Ok n) (cond none (Ok (text_end t)) (Err (refusal_of fault))) → (none ≡ true) × (n ≡ text_end t)
answer_written true fault n t e = (refl, (cc))
answer_written false fault n t e = let z : ◌≡◌ {A = ℕ} 0 1 = cc in absurd (omega arith)

-- The fault of writing.
writing_none : (number probes links : ℕ) (a : Lent) (out : ℕ) → text_end (table_of (lent_slices number probes links a)) ≤ out → HoldsTable probes links a
    → table_fault 256 2048 (table_of (lent_slices number probes links a)) ≡ 0 → write_fault 256 2048 (lent_slices number probes links a) out ≡ 0
writing_none number probes links a out l g legal = rw (le-ltb out (text_end (table_of (lent_slices number probes links a))) l, room_none probes links a g) legal

writing_legal : (x : Slices) (out : ℕ) → write_fault 256 2048 x out ≡ 0 → table_fault 256 2048 (table_of x) ≡ 0
writing_legal x out e =
    or_right (room_fault x.probes x.links (length x.needs) (length x.lows) (length x.highs) (length x.costs)) _
    (or_right (lent_fault out (text_end (table_of x))) _ e)

pub read_then_write : ReadThenWrite
read_then_write s out out' a b number probes links rest w read enough write =
    let t = of_text s in
    let none = read_none 256 2048 false s _ a b read number probes links rest refl in
    let n = read_numbers 256 2048 false s _ a b read number probes links rest refl in
    let u = table_of (lent_slices t.number t.probes t.links b) in
    let same = entries 256 2048 false s _ a b read none in
    let good = accepted 256 2048 false s _ a b read none in
    let text : text_of u ≡ s = same_text u t same ∙ text_whole 256 2048 s good in
    let end : text_end u ≡ length s = sym (length_text u) ∙ ap length text in
    let legal = same_fault u t same 256 2048 ∙ text_legal 256 2048 false s good in
    let fault = writing_none t.number t.probes t.links b (length out) (omega arith) (holds 256 2048 false s _ a b read none) legal in
    let written = rw (n.0, n.1, n.2) at write in
    (writes_answer written ∙ rw (fault, end), written.out ∙ rw (fault, text))

-- A text without a fault that has the entries of the table t, read into slices that hold them.
module _ (s : List ℕ) (t : Table) (r : Result TableHead Refusal) (b b' : Lent) (none : text_fault 256 2048 false s ≡ 0) (same : Same (of_text s) t)
    (enough : HoldsTable t.probes t.links b) (read : ReadTable s r b b') where
  fault_none : reading_fault 256 2048 false s b ≡ 0
  unfolding read_fault
  fault_none = or_none (text_fault 256 2048 false s) _ none ∙ rw (same.probes, same.links) (room_none t.probes t.links b enough)

  back_answer : r ≡ answered t.number t.probes t.links (text_end t)
  back_answer = reads_answer read ∙ rw (fault_none, same.number, same.probes, same.links)

  back_entries : Same (table_of (lent_slices t.number t.probes t.links b')) t
  back_entries =
      let e = entries 256 2048 false s r b b' read fault_none in
      let p = same.probes in
      let m = same.links in
      record {
        number = refl;
        probes = refl;
        links = refl;
        need = λ v l. e.need v (omega arith) ∙ same.need v (omega arith);
        low = λ i l. e.low i (omega arith) ∙ same.low i (omega arith);
        high = λ i l. e.high i (omega arith) ∙ same.high i (omega arith);
        cost = λ i l. e.cost i (omega arith) ∙ same.cost i (omega arith);
      }

pub write_then_read : WriteThenRead
write_then_read x n b b' out out' r fits write enough read =
    let t = table_of x in
    let fault = write_fault 256 2048 x (length out) in
    let w = answer_written (eqb fault 0) fault n t (writes_answer write) in
    let none = eqb-true fault 0 w.0 in
    let legal = writing_legal x (length out) none in
    let text : take n out' ≡ text_of t = rw (rw none at write.out) (take_at (text_of t) (drop (length (text_of t)) out) n (length_text t ∙ sym w.1)) in
    let back = table_whole 256 2048 t fits legal in
    let again = rw text at read in
    (rw w.1 (back_answer (text_of t) t r b b' back.0 back.1 enough again), back_entries (text_of t) t r b b' back.0 back.1 enough again)
