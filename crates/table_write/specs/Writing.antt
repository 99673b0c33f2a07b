-- Writing the text of a table: the answer and the lent text.
use Rattle.std.specs.Prelude.{ℕ, ◌≡◌, cond, List, [], ◌∷◌, ◌++◌, eqb, length, drop, Result}
use Rattle.range.specs.First.{or_else}
use Rattle.range.specs.Reply.{Reply, reply_of}
use Rattle.refusals.specs.Refusals.{reply_in}
use Rattle.refusals.specs.declared.Refusal.{Refusal}
use Rattle.table.specs.Table.{Table}
use Rattle.table.specs.Legal.{lent_fault}
use Rattle.table.specs.Slices.{Slices, table_of, slice_fault}
use Rattle.table.specs.Text.{text_of, text_end}

-- 8 for "a lent .. output slice too short", then the faults of the table's slices. `out` is the length of the lent text.
abbrev pub write_fault : ℕ → ℕ → Slices → ℕ → ℕ
write_fault pmax lmax x out = or_else (lent_fault out (text_end (table_of x))) (slice_fault pmax lmax x)

-- the answer's value: the text's length
abbrev pub writing_reply : Result ℕ Refusal → Reply
writing_reply = reply_in (λ n. n ∷ [])

-- "Writing fills a lent text from its start; bytes beyond the closing line stay untouched." A refusal "changes no buffer".
abbrev pub written_of : ℕ → Table → List ℕ → List ℕ
written_of fault t d = cond (eqb fault 0) (text_of t ++ drop (length (text_of t)) d) d

-- what a call answers, and what it leaves in the lent text
pub record Writes (fault : ℕ) (t : Table) (r : Result ℕ Refusal) (before after : List ℕ) : Type 0 where
  pub answer : writing_reply r ≡ reply_of fault (text_end t ∷ [])
  pub out : after ≡ written_of fault t before

-- `write_table` on the slices x, within limits: it answers r and leaves the lent text `before` as `after`
abbrev pub WritesTable : ℕ → ℕ → Slices → Result ℕ Refusal → List ℕ → List ℕ → Type 0
WritesTable pmax lmax x r before after = Writes (write_fault pmax lmax x (length before)) (table_of x) r before after
