-- The program prints by the table that it reads, and the rest of the input is its script.
use Prim.Native.Nat.{ℕ, ◌≤◌}
use mathlib.Core.Path.{◌≡◌, sym, ◌∙◌, ap}
use mathlib.Core.Bool.{true}
use mathlib.Core.List.{List}
use lib.ListN.{take, drop, replicate}
use borrow.Author.Tests.{eq-eqb, ne_eqb}
use Rattle.range.proofs.Lists.{stored_same}
use Rattle.table.specs.Table.{Table}
use Rattle.table.specs.Text.{of_text, head_fault, text_end, text_fault}
use Rattle.table.specs.Same.{Same}
use Rattle.output.specs.Output.{refusal_line}
use Rattle.script_theory.specs.Script.{in_slices, script_text, script_output}
use Rattle.script_table.proofs.Table.{head_none, same_fault, same_table}

-- tables with the same entries stand in the same slices
same_slices : (t u : Table) → Same t u → in_slices t ≡ in_slices u
same_slices t u e =
    rw (
      ← e.number,
      ← e.probes,
      ← e.links,
      stored_same t.need u.need t.probes (replicate 256 0) e.need,
      stored_same t.low u.low t.links (replicate 2048 0) e.low,
      stored_same t.high u.high t.links (replicate 2048 0) e.high,
      stored_same t.cost u.cost t.links (replicate 2048 0) e.cost,
    )

-- of so many bytes that the table is among them
module _ (s : List ℕ) (n : ℕ) (headed : 13 ≤ n) (own : head_fault 256 2048 s ≡ 0 → text_end (of_text s) ≡ n) where
  pub own_script : text_fault 256 2048 true (take n s) ≡ 0 → script_output s ≡ script_text (in_slices (of_text (take n s))) 1024 (drop n s)
  own_script e =
      let z = same_fault s n headed own ∙ e in
      let h = head_none s z in
      rw (eq-eqb (text_fault 256 2048 true s) 0 z)
      (ap (λ x. script_text x 1024 (drop (text_end (of_text s)) s)) (same_slices (of_text s) (of_text (take n s)) (same_table s n headed own h))
      ∙ ap (λ (k : ℕ). script_text (in_slices (of_text (take n s))) 1024 (drop k s)) (own h))

  pub own_refusal : (m : ℕ) → m ≡ text_fault 256 2048 true (take n s) → (m ≡ 0 → ⊥) → refusal_line m ≡ script_output s
  own_refusal m e some =
      let f : text_fault 256 2048 true s ≡ m = same_fault s n headed own ∙ sym e in
      rw (f, ne_eqb m 0 some)
