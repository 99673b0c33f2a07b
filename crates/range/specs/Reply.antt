-- An answer as document 01 has it: "A refusal yields its number alone"; any other answer has values.
use Rattle.std.specs.Prelude.{ℕ, cond, List, eqb}

pub data Reply : Type 0 where
  refusal : ℕ → Reply
  values : List ℕ → Reply

-- by the fault found: the values where there is none
abbrev pub reply_of : ℕ → List ℕ → Reply
reply_of fault vs = cond (eqb fault 0) (values vs) (refusal fault)
