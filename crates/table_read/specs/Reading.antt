-- What reading a text promises: the answer, and the lent slices at exit.
use Rattle.std.specs.Prelude.{ℕ, ◌≡◌, Bool, cond, List, [], ◌∷◌, eqb, length, Result, Ok}
use Rattle.range.specs.Lists.{stored}
use Rattle.range.specs.Reply.{Reply, reply_of}
use Rattle.refusals.specs.Refusals.{reply_in}
use Rattle.refusals.specs.declared.Refusal.{Refusal}
use Rattle.table.specs.Table.{Table}
use Rattle.table.specs.Text.{of_text, text_end, read_fault}
use Rattle.table_read.specs.declared.TableHead.{TableHead}

-- "lent slices of needs, lows, highs and costs"
pub record Lent : Type 0 where
  pub needs : List ℕ
  pub lows : List ℕ
  pub highs : List ℕ
  pub costs : List ℕ

-- by its parts
abbrev pub lent_of : List ℕ → List ℕ → List ℕ → List ℕ → Lent
lent_of needs lows highs costs = record { needs = needs; lows = lows; highs = highs; costs = costs }

-- the fault found in reading the text s into the lent slices a; `more`: whether the text may go on behind its closing line
abbrev pub reading_fault : ℕ → ℕ → Bool → List ℕ → Lent → ℕ
reading_fault pmax lmax more s a = read_fault pmax lmax more s (length a.needs) (length a.lows) (length a.highs) (length a.costs)

-- the answer's values: the table's three numbers, and where the rest of the text starts
abbrev pub head_values : TableHead → List ℕ
head_values h = h.number ∷ h.probes ∷ h.links ∷ h.rest ∷ []

-- the answer of these values
abbrev pub answered : ℕ → ℕ → ℕ → ℕ → Result TableHead Refusal
answered number probes links rest = Ok (record { number = number; probes = probes; links = links; rest = rest })

abbrev pub reading_reply : Result TableHead Refusal → Reply
reading_reply = reply_in head_values

-- for a text of the table t
abbrev pub read_values : Table → List ℕ
read_values t = t.number ∷ t.probes ∷ t.links ∷ text_end t ∷ []

-- a slice at exit: filled, "entries beyond the table's own stay untouched"; or as it was where there is a fault, "a refused call changes no lent buffer"
abbrev pub filled_of : ℕ → (ℕ → ℕ) → ℕ → List ℕ → List ℕ
filled_of fault f n d = cond (eqb fault 0) (stored f n d) d

pub record Filled (fault : ℕ) (t : Table) (before after : Lent) : Type 0 where
  pub need : after.needs ≡ filled_of fault t.need t.probes before.needs
  pub low : after.lows ≡ filled_of fault t.low t.links before.lows
  pub high : after.highs ≡ filled_of fault t.high t.links before.highs
  pub cost : after.costs ≡ filled_of fault t.cost t.links before.costs

pub record Reads (fault : ℕ) (t : Table) (r : Result TableHead Refusal) (before after : Lent) : Type 0 where
  pub answer : reading_reply r ≡ reply_of fault (read_values t)
  pub lent : Filled fault t before after

-- `read_table` on the text s, or with `more` `read_table_prefix`, within limits: it answers r and leaves the lent slices `before` as `after`
abbrev pub ReadsTable : ℕ → ℕ → Bool → List ℕ → Result TableHead Refusal → Lent → Lent → Type 0
ReadsTable pmax lmax more s r before after = Reads (reading_fault pmax lmax more s before) (of_text s) r before after
