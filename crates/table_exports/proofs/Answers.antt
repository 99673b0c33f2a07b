-- How the code comes to a packed answer.
use Prim.Native.Nat.{ℕ}
use mathlib.Core.Path.{◌≡◌, sym, ◌∙◌, ap}
use mathlib.Core.Bool.{Bool, true, false, cond}
use mathlib.Core.List.{List, []}
use native.Mathlib.Omega.{arith}
use native.Mathlib.Decide.{ℕ_discrete}
use lib.Dec.{eqb}
use lib.ListN.{length}
use borrow.Author.Tests.{ne_eqb}
use Rattle.range.specs.Reply.{reply_of}
use Rattle.table.specs.Slices.{Slices, table_of}
use Rattle.table.specs.Text.{text_end}
use Rattle.table_read.specs.Reading.{Lent, reading_reply, ReadsTable}
use Rattle.table_read.specs.declared.TableHead.{TableHead}
use Rattle.std.specs.Prelude.{Result, Ok, Err}
use Rattle.refusals.specs.declared.Refusal.{Refusal}
use Rattle.refusals.proofs.Laws.{refusal_of}
use Rattle.table_write.specs.Writing.{write_fault, writing_reply, WritesTable}
use Rattle.table_write.proofs.Answers.{writes_answer}
use Rattle.packed_answers.specs.Packed.{packed_value}
use Rattle.table_exports.specs.Packed.{packed_checking, packed_reading, ReadsPacked, WritesPacked}

-- a check's number is the fault
pub checking_packed : (fault : ℕ) → packed_checking (reply_of fault []) ≡ fault
checking_packed fault = go (ℕ_discrete fault 0)
  where
    go : Dec (fault ≡ 0) → packed_checking (reply_of fault []) ≡ fault
    go (yes z) = rw z
    go (no n) = rw (ne_eqb fault 0 n)

-- within any limits
module _ (pmax lmax : ℕ) where
  pub reads_packed : (more : Bool) (s : List ℕ) (a : Result TableHead Refusal) (r : ℕ) (before after : Lent) → ReadsTable pmax lmax more s a before after → r ≡ packed_reading (reading_reply a)
      → ReadsPacked pmax lmax more s r before after
  reads_packed more s a r before after g e = record { answer = e ∙ ap packed_reading g.answer; lent = g.lent }

  pub writes_packed : (x : Slices) (a : Result ℕ Refusal) (r : ℕ) (before after : List ℕ) → WritesTable pmax lmax x a before after → r ≡ packed_value (writing_reply a)
      → WritesPacked pmax lmax x r before after
  writes_packed x a r before after g e = record { answer = e ∙ ap packed_value g.answer; out = g.out }

  -- a length that is answered is that of the text
  pub length_is : (x : Slices) (a : Result ℕ Refusal) (n : ℕ) (before after : List ℕ) → WritesTable pmax lmax x a before after → a ≡ Ok n → n ≡ text_end (table_of x)
  length_is x a n before after g e = go (eqb (write_fault pmax lmax x (length before)) 0) (sym e ∙ writes_answer g)
    where
      go : (b : Bool) → ◌≡◌ {A = Result ℕ Refusal} (Ok n) (cond b (Ok (text_end (table_of x))) (Err (refusal_of (write_fault pmax lmax x (length before))))) → n ≡ text_end (table_of x)
      go true h = cc
      go false h = let z : ◌≡◌ {A = ℕ} 0 1 = cc in absurd (omega arith)
