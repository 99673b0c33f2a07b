-- The answer of a check: document 01's number for each case, and what a check promises.
use Rattle.std.specs.Prelude.{ℕ, ◌≡◌, [], Result, ⊤}
use Rattle.range.specs.Reply.{Reply, reply_of}
use Rattle.refusals.specs.Refusals.{reply_in}
use Rattle.refusals.specs.declared.Refusal.{Refusal}
use Rattle.table.specs.Slices.{Slices, slice_fault}

-- fine has no values
abbrev pub checking_reply : Result ⊤ Refusal → Reply
checking_reply = reply_in (λ u. [])

-- `check_table` on the slices x, within limits: it answers r
abbrev pub ChecksTable : ℕ → ℕ → Slices → Result ⊤ Refusal → Type 0
ChecksTable pmax lmax x r = checking_reply r ≡ reply_of (slice_fault pmax lmax x) []
