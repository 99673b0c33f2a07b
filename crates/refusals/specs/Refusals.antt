-- The refusals' numbers, and the fault that an answer of `Ok` or a refusal gives: document 01, "Turned down for the input" and "Turned down for the state".
use Rattle.std.specs.Prelude.{ℕ, List, Result, Ok, Err}
use Rattle.range.specs.Reply.{Reply, refusal, values}
use Rattle.refusals.specs.declared.Refusal.{Refusal}
use Rattle.refusals.specs.declared.Refusal.TheVariants.{Line, Digit, Size, Ends, Order, Closing, Slice, Kind, RecordLength, RecordByte, OverSpare, OtherTable, NotThere, LogFull, NeverSent, BagSize}

abbrev pub number_of : Refusal → ℕ
number_of Line = 1
number_of Digit = 2
number_of Size = 3
number_of Ends = 4
number_of Order = 5
number_of Closing = 6
number_of Slice = 8
number_of Kind = 9
number_of RecordLength = 20
number_of RecordByte = 21
number_of OverSpare = 22
number_of OtherTable = 23
number_of NotThere = 24
number_of LogFull = 26
number_of NeverSent = 27
number_of BagSize = 32

-- the fault found: the refusal's number, or 0 for none
abbrev pub fault_of : {A : Type 0} → Result A Refusal → ℕ
fault_of (Ok x) = 0
fault_of (Err e) = number_of e

-- "A refusal yields its number alone"; any other answer has values
abbrev pub reply_in : {A : Type 0} → (A → List ℕ) → Result A Refusal → Reply
reply_in f (Ok x) = values (f x)
reply_in f (Err e) = refusal (number_of e)
