-- How the code comes to an answer of writing, and what the answer then is.
use Prim.Native.Nat.{ℕ, ◌≤◌, ◌<◌}
use mathlib.Core.Path.{◌≡◌, ◌∙◌}
use mathlib.Core.Bool.{cond}
use mathlib.Core.List.{List, [], ◌∷◌}
use lib.Dec.{ltb, eqb}
use lib.ListN.{length}
use lib.Seq.{sets}
use borrow.Author.Tests.{lt-ltb, le-ltb, eq-eqb, ne_eqb}
use native.Mathlib.Omega.{arith}
use Rattle.range.specs.First.{or_else}
use Rattle.std.specs.Prelude.{Result, Ok, Err, IsErrAnd}
use Rattle.std.proofs.lemmas.Result.{err_from_is_err_and}
use Rattle.refusals.specs.Refusals.{number_of}
use Rattle.refusals.specs.declared.Refusal.{Refusal}
use Rattle.refusals.proofs.Laws.{number_some, refusal_of, answer_is}
use Rattle.table.specs.Table.{Table}
use Rattle.table.specs.Text.{text_of, text_end}
use Rattle.table_write.specs.Writing.{Writes}
use Rattle.table.proofs.Lengths.{length_text}
use Rattle.range.proofs.Sets.{sets_start}

pub room_short : (out end b : ℕ) → out < end → 8 ≡ or_else (cond (ltb out end) 8 0) b
room_short out end b l = rw (lt-ltb out end l)

pub room_enough : (out end b : ℕ) → end ≤ out → or_else (cond (ltb out end) 8 0) b ≡ b
room_enough out end b l = rw (le-ltb out end l)

pub writes_refused : (fault : ℕ) (t : Table) (r : Result ℕ Refusal) (e : Refusal) (d : List ℕ) → IsErrAnd r (λ y. y ≡ e) → number_of e ≡ fault → Writes fault t r d d
writes_refused fault t r e d x n =
    let p = err_from_is_err_and r x in
    let refused = ne_eqb fault 0 (λ z. number_some e (n ∙ z)) in
    record { answer = rw (p.1, p.2, refused, n); out = rw refused }

pub writes_text : (fault : ℕ) (t : Table) (d after : List ℕ) → fault ≡ 0 → text_end t ≤ length d → after ≡ sets d 0 (text_of t) → Writes fault t (Ok (text_end t)) d after
writes_text fault t d after e room w =
    let l = length_text t in
    let none = eq-eqb fault 0 e in
    record { answer = rw none; out = rw none (w ∙ sets_start d (text_of t) (omega arith)) }

-- the answer, by the fault found
pub writes_answer : {fault : ℕ} {t : Table} {r : Result ℕ Refusal} {d after : List ℕ} → Writes fault t r d after → r ≡ cond (eqb fault 0) (Ok (text_end t)) (Err (refusal_of fault))
writes_answer {fault} {t} {r} w = answer_is (λ n. n ∷ []) (text_end t) r fault (λ y e. cc) w.answer
