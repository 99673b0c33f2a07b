-- What is claimed of the plan that is printed, and of a call that prints it.
use Prim.Native.Nat.{ℕ, ◌≤◌}
use mathlib.Core.Path.{◌≡◌}
use mathlib.Core.Bool.{false}
use mathlib.Core.List.{List}
use lib.ListN.{length, drop, take}
use lib.Seq.{take-append_seam}
use Rattle.table.specs.Legal.{Legal}
use Rattle.table.specs.Text.{of_text, text_fault}
use Rattle.table.proofs.Accepted.{table_wider, text_legal}
use Rattle.plan_theory.proofs.Bound.{plan_bounds, none_for_nothing}
use Rattle.output.specs.Output.{Prints}
use Rattle.output.specs.declared.Output.{Output}
use Rattle.output.proofs.Printing.{long_enough, prints_answer}
use Rattle.plan_output.specs.Output.{plan_text, output_of, PrintsText, PrintedPlan, PrintsPlan}

module _ (pmax lmax : ℕ) (p : pmax ≤ 256) (l : lmax ≤ 2048) where
  pub printed_plan : (s : List ℕ) → text_fault pmax lmax false s ≡ 0 → PrintedPlan s (output_of pmax lmax s)
  printed_plan s e =
      let legal : Legal (of_text s) = table_wider pmax lmax 256 2048 (of_text s) p l (text_legal pmax lmax false s e) in
      record { lines = rw e; bounds = plan_bounds (of_text s) legal; none_for_nothing = none_for_nothing (of_text s) legal }

  pub prints_plan : (s : List ℕ) (r : Output) (out out' : List ℕ) → text_fault pmax lmax false s ≡ 0 → length (plan_text (of_text s)) ≤ length out
      → PrintsText pmax lmax s r out out' → PrintsPlan s r out'
  prints_plan s r out out' e room prints =
      let plan = printed_plan s e in
      let printed = output_of pmax lmax s in
      let q : Prints 0 printed r out out' = rw (long_enough (length out) printed (rw plan.lines room)) at prints in
      let start : take (length printed) out' ≡ printed = rw q.out (take-append_seam printed (drop (length printed) out)) in
      record { count = length printed; answer = prints_answer q; plan = rw start plan }
