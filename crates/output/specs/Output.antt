-- What is printed into a lent slice: document 01, "Programs". Every printed line is closed by a line feed.
use Rattle.std.specs.Prelude.{ℕ, ◌+◌, ◌/◌, ◌%◌, ◌≡◌, cond, List, [], ◌∷◌, ◌++◌, ltb, eqb, length, drop}
use Rattle.range.specs.Reply.{Reply, refusal, values, reply_of}
use Rattle.output.specs.declared.Output.{Output}
use Rattle.output.specs.declared.Output.TheVariants.{Length, Refused}

-- "In both programs a refusal prints as `e` and three decimal digits"
abbrev pub refusal_line : ℕ → List ℕ
refusal_line k = 101 ∷ (k / 100 % 10 + 48) ∷ (k / 10 % 10 + 48) ∷ (k % 10 + 48) ∷ 10 ∷ []

-- "a lent .. output slice too short" for what is to be printed
abbrev pub output_fault : ℕ → List ℕ → ℕ
output_fault room printed = cond (ltb room (length printed)) 8 0

-- the answer's value: the length printed
abbrev pub output_reply : Output → Reply
output_reply (Length n) = values (n ∷ [])
output_reply (Refused n) = refusal n

-- a lent slice is filled from its start, and the bytes beyond stay; refused, it stays
abbrev pub printed_into : ℕ → List ℕ → List ℕ → List ℕ
printed_into fault printed d = cond (eqb fault 0) (printed ++ drop (length printed) d) d

pub record Prints (fault : ℕ) (printed : List ℕ) (r : Output) (before after : List ℕ) : Type 0 where
  pub answer : output_reply r ≡ reply_of fault (length printed ∷ [])
  pub out : after ≡ printed_into fault printed before
