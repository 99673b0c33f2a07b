-- How the code comes to its answer, and what the answer then is.
use Prim.Native.Nat.{ℕ}
use mathlib.Core.Path.{◌≡◌, ◌∙◌, ap}
use mathlib.Core.Bool.{Bool, cond}
use mathlib.Core.List.{List}
use lib.Dec.{eqb}
use borrow.Author.Tests.{ne_eqb}
use Rattle.std.specs.Prelude.{Result, Ok, Err, IsErrAnd}
use Rattle.std.proofs.lemmas.Result.{err_from_is_err_and}
use Rattle.range.specs.Reply.{values}
use Rattle.range.proofs.Faults.{or_left, or_right}
use Rattle.refusals.specs.Refusals.{number_of}
use Rattle.refusals.specs.declared.Refusal.{Refusal}
use Rattle.refusals.proofs.Laws.{number_some, refusal_of, answer_is}
use Rattle.table.specs.Table.{Table}
use Rattle.table.specs.Legal.{room_fault}
use Rattle.table.specs.Text.{of_text, text_end, text_fault, read_fault}
use Rattle.table_read.specs.Reading.{Lent, head_values, answered, read_values, Filled, Reads}
use Rattle.table_read.specs.declared.TableHead.{TableHead}

pub reads_refused : (fault : ℕ) (t : Table) (r : Result TableHead Refusal) (e : Refusal) (a : Lent) → IsErrAnd r (λ y. y ≡ e) → number_of e ≡ fault → Reads fault t r a a
reads_refused fault t r e a x n =
    let p = err_from_is_err_and r x in
    let k = ne_eqb fault 0 (λ z. number_some e (n ∙ z)) in
    record { answer = rw (p.1, p.2, k, n); lent = record { need = rw k; low = rw k; high = rw k; cost = rw k } }

pub reads_table : (fault : ℕ) (t : Table) (h : TableHead) (before after : Lent) → fault ≡ 0 → head_values h ≡ read_values t → Filled 0 t before after → Reads fault t (Ok h) before after
reads_table fault t h before after e a f = record { answer = rw e (ap values a); lent = rw e f }

-- the answer, by the fault found
pub reads_answer : {fault : ℕ} {t : Table} {r : Result TableHead Refusal} {before after : Lent} → Reads fault t r before after
    → r ≡ cond (eqb fault 0) (answered t.number t.probes t.links (text_end t)) (Err (refusal_of fault))
reads_answer {fault} {t} {r} w = answer_is head_values head r fault same w.answer
  where
    head : TableHead
    head = record { number = t.number; probes = t.probes; links = t.links; rest = text_end t }

    same : (h : TableHead) → head_values h ≡ read_values t → h ≡ head
    same h e =
        let number : h.number ≡ t.number = cc in
        let probes : h.probes ≡ t.probes = cc in
        let links : h.links ≡ t.links = cc in
        let rest : h.rest ≡ text_end t = cc in
        rw (← rest, ← number, ← probes, ← links)

-- a reading without a fault
module _ (pmax lmax : ℕ) (more : Bool) (s : List ℕ) (needs lows highs costs : ℕ) (e : read_fault pmax lmax more s needs lows highs costs ≡ 0) where
  abbrev room : ℕ
  room = room_fault (of_text s).probes (of_text s).links needs lows highs costs

  pub read_text : text_fault pmax lmax more s ≡ 0
  unfolding read_fault
  read_text = or_left (text_fault pmax lmax more s) room e

  pub read_room : room ≡ 0
  unfolding read_fault
  read_room = or_right (text_fault pmax lmax more s) room e
