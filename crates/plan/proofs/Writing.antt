-- The first 27,923 bytes of an input print what all of it prints, in the program's own slice.
use Rattle.std.proofs.Common.{◌≡◌, ℕ, ◌≤◌, ◌<◌, List, ◌++◌, Some, None, IfSome, Option, length, take, drop, sym, ◌∙◌, ap, subst, arith, take_all, length-take-le}
use Rattle.std.proofs.Math.Seq.{take-append_seam}
use Rattle.std.proofs.lemmas.Slice.{between_from_start}
use Rattle.std.specs.Io.KnownBytes.{Consumes, Appends}
use native.Mathlib.Decide.{dec_lt}
use Rattle.output.specs.Output.{output_reply, Prints}
use Rattle.output.specs.declared.Output.{Output}
use Rattle.output.specs.declared.Output.TheVariants.{Length, Refused}
use Rattle.output.proofs.Printing.{long_enough, prints_answer}
use Rattle.plan_output.specs.Output.{output_of, PrintsText}
use Rattle.plan_output.proofs.Long.{long_output}
use Rattle.plan_output.proofs.Most.{most, always_printed}
use Rattle.plan_output.proofs.Claims.{printed_plan}
use Rattle.standard_io.specs.Reading.{FilledOf}
use Rattle.standard_io.specs.declared.Filling.TheVariants.{Until}
use Rattle.standard_io.specs.Writing.{Wrote}
use Rattle.standard_io.proofs.Known.{first_known}
use Rattle.standard_io.proofs.Writing.{wrote_is}
use Rattle.plan.specs.Writing.{PlanWrites}

same_output : (input : List ℕ) → output_of 256 2048 (take 27923 input) ≡ output_of 256 2048 input
same_output input = go (dec_lt 27922 (length input))
  where
    go : Dec (27922 < length input) → output_of 256 2048 (take 27923 input) ≡ output_of 256 2048 input
    go (yes l) = sym (long_output input l)
    go (no d) = ap (output_of 256 2048) (take_all 27923 input (omega arith))

pub plan_writes : (input : List ℕ) → PlanWrites input
plan_writes input = record { writes = whole; plan = λ written w e. rw (whole written w) (printed_plan 256 2048 (omega arith) (omega arith) input e) }
  where
    whole : (written : List ℕ) → Wrote (output_of 256 2048 (take 27923 input)) written → written ≡ output_of 256 2048 input
    whole written w = wrote_is (output_of 256 2048 (take 27923 input)) written w ∙ same_output input

-- the program's slice holds every output, so the text is printed and no refusal occurs
module _ (s : List ℕ) (r : Output) (out out' : List ℕ) (long : 28950 ≤ length out) (p : PrintsText 256 2048 s r out out') where
  pub never_refused : (m : ℕ) → r ≡ Refused m → ⊥
  never_refused m e =
      let a = sym e ∙ always_printed 256 2048 s r out out' long p in
      let z : ◌≡◌ {A = ℕ} 0 1 = cc in
      omega arith

-- the start of the slice, as long as was answered, is all that was printed
printed_start : (printed : List ℕ) (n : ℕ) (out out' : List ℕ) → Prints 0 printed (Length n) out out' → take n out' ≡ printed
printed_start printed n out out' p =
    let e : Length n ≡ Length (length printed) = prints_answer p in
    let same : n ≡ length printed = cc in
    ap (take n) p.out ∙ ap (λ k. take k (printed ++ drop (length printed) out)) same ∙ take-append_seam printed (drop (length printed) out)

-- what is written is what all of the input prints
pub whole_input : (input rest before after : Option (List ℕ)) (text : List ℕ) (n : ℕ) (out out' : List ℕ) (k : ℕ) → length text ≡ 27923 → n ≤ length text
    → FilledOf input rest 0 text (Until n) → Prints 0 (output_of 256 2048 (take n text)) (Length k) out out' → Appends before after (take k out')
    → IfSome input (λ xs. Appends before after (output_of 256 2048 xs))
whole_input None rest before after text n out out' k long l f p w = tt
whole_input (Some xs) rest before after text n out out' k long l f p w =
    let m = length-take-le n text l in
    let read : Consumes (Some xs) rest (take n text) = subst (Consumes (Some xs) rest) (between_from_start text n) f.0 in
    let first : take 27923 xs ≡ take n text = first_known (Some xs) rest (take n text) 27923 (omega (arith, m, l, long)) read (λ some. f.1 (omega (arith, some, m, long))) in
    let e : take k out' ≡ output_of 256 2048 xs = printed_start (output_of 256 2048 (take n text)) k out out' p ∙ ap (output_of 256 2048) (sym first) ∙ same_output xs in
    subst (Appends before after) e w
