-- What reading a text gives to the planner.
use Prim.Native.Nat.{ℕ, ◌≤◌}
use mathlib.Core.Path.{◌≡◌, ◌∙◌}
use mathlib.Core.Bool.{false}
use mathlib.Core.List.{List}
use lib.ListN.{length}
use borrow.Author.Tests.{eq-eqb, ne_eqb}
use Rattle.table.specs.Text.{of_text, text_fault}
use Rattle.std.specs.Prelude.{Result, Ok, Err}
use Rattle.refusals.specs.Refusals.{number_of}
use Rattle.refusals.specs.declared.Refusal.{Refusal}
use Rattle.table_read.specs.declared.TableHead.{TableHead}
use Rattle.table.specs.Legal.{table_fault}
use Rattle.table.specs.Slices.{table_of, slices_room_fault, slices_fault}
use Rattle.table.proofs.Slices.{legal_slices}
use Rattle.range.proofs.Faults.{or_left, or_none}
use Rattle.table_read.specs.Reading.{Lent, ReadsTable}
use Rattle.table.proofs.Accepted.{table_wider}
use Rattle.table_laws.specs.Functions.{lent_slices}
use Rattle.table_laws.proofs.Reading.{blank, blank_found, accepted, refusal_is, read_none, read_same, read_legal, read_fine}
use Rattle.output.specs.Output.{refusal_line, output_fault, Prints}
use Rattle.output.specs.declared.Output.{Output}
use Rattle.plan_output.specs.Output.{plan_text, PrintsText}
use Rattle.plan_output.proofs.Same.{same_plan}

module _ (pmax lmax : ℕ) (s : List ℕ) (r : Result TableHead Refusal) (b : Lent) (read : ReadsTable pmax lmax false s r (blank pmax lmax) b) where
  pub refusal_printed : (refusal : Refusal) (o : Output) (out out' : List ℕ) → r ≡ Err refusal → Prints (output_fault (length out) (refusal_line (number_of refusal))) (refusal_line (number_of refusal)) o out out'
      → PrintsText pmax lmax s o out out'
  refusal_printed refusal o out out' e p =
      let n = refusal_is pmax lmax false s r (blank pmax lmax) b read refusal e in
      rw (ne_eqb (text_fault pmax lmax false s) 0 (λ z. n.1 (blank_found pmax lmax false s ∙ z)), ← n.0 ∙ blank_found pmax lmax false s) p

  pub plan_printed : pmax ≤ 256 → lmax ≤ 2048 → (head : TableHead) → r ≡ Ok head → (o : Output) (out out' : List ℕ)
      → Prints (output_fault (length out) (plan_text (table_of (lent_slices head.number head.probes head.links b)))) (plan_text (table_of (lent_slices head.number head.probes head.links b))) o out out'
      → PrintsText pmax lmax s o out out'
  plan_printed p' l' head e o out out' p =
      let t = table_of (lent_slices head.number head.probes head.links b) in
      let z = accepted pmax lmax false s r (blank pmax lmax) b read (read_none pmax lmax false s r (blank pmax lmax) b read head.number head.probes head.links head.rest e) in
      let same = read_same pmax lmax false s r (blank pmax lmax) b read head.number head.probes head.links head.rest e in
      let legal = table_wider pmax lmax 256 2048 t p' l' (read_legal pmax lmax false s r (blank pmax lmax) b read head.number head.probes head.links head.rest e) in
      rw (eq-eqb (text_fault pmax lmax false s) 0 z, ← same_plan t (of_text s) same legal) p

  -- what `print_plan` asks of what was read
  pub print_ready : pmax ≤ 256 → lmax ≤ 2048 → (head : TableHead) → r ≡ Ok head
      → (slices_fault (lent_slices head.number head.probes head.links b) ≡ 0) × (head.links ≤ lmax) × (head.probes ≤ pmax)
  print_ready p l head e =
      let x = lent_slices head.number head.probes head.links b in
      let fine = read_fine pmax lmax false s r (blank pmax lmax) b read head.number head.probes head.links head.rest e in
      let g = legal_slices pmax lmax x fine in (
        or_none (slices_room_fault x) (table_fault 256 2048 (table_of x)) (or_left (slices_room_fault x) (table_fault pmax lmax (table_of x)) fine) ∙ table_wider pmax lmax 256 2048 (table_of x) p l g.legal,
        g.within,
        g.few,
      )
