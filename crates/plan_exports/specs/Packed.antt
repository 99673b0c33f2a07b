-- What the planners for C and Rust promise: the answer as one number, and the lent slices as the functions that are called leave them.
-- A refusal is its number; any other answer is `answer_base` or more.
use Rattle.std.specs.Prelude.{ℕ, ◌+◌, ◌*◌, ◌^◌, ◌≡◌, List, length, get_or}
use Rattle.range.specs.Reply.{Reply, reply_of}
use Rattle.table.specs.Slices.{Slices, table_of}
use Rattle.plan_methods.specs.Planning.{plan_fault, turns_fault, plan_values, planned_of, cleared_of}
use Rattle.packed_answers.specs.Packed.{answer_base, packed_by}

-- the kept count, 16 bits, above the cost, 32 bits
abbrev pub packed_planning : Reply → ℕ
packed_planning = packed_by (λ vs. answer_base + get_or vs 0 0 * 2 ^ 32 + get_or vs 1 0)

-- `plan_by_slse` and `plan_by_turns` on the slices x, within limits

pub record SlsePacked (pmax lmax : ℕ) (x : Slices) (r : ℕ) (before after : List ℕ) : Type 0 where
  pub answer : r ≡ packed_planning (reply_of (plan_fault pmax lmax x (length before)) (plan_values (table_of x)))
  pub plan : after ≡ planned_of (plan_fault pmax lmax x (length before)) (table_of x) before

pub record TurnsPacked (pmax lmax : ℕ) (x : Slices) (r : ℕ) (before after work work' : List ℕ) : Type 0 where
  pub answer : r ≡ packed_planning (reply_of (turns_fault pmax lmax x (length before) (length work)) (plan_values (table_of x)))
  pub plan : after ≡ planned_of (turns_fault pmax lmax x (length before) (length work)) (table_of x) before
  pub cleared : work' ≡ cleared_of (turns_fault pmax lmax x (length before) (length work)) work
