-- How the code comes to what is printed.
use Prim.Native.Nat.{ℕ, ◌+◌, ◌≤◌, ◌<◌}
use mathlib.Core.Path.{◌≡◌, ◌∙◌}
use mathlib.Core.Bool.{Bool}
use mathlib.Core.List.{List, ◌++◌}
use native.Mathlib.Omega.{arith}
use lib.Dec.{ltb}
use lib.ListN.{length, length-append}
use lib.Seq.{sets}
use Rattle.range.specs.Sum.{count, weigh}
use Rattle.range.specs.Lists.{joined, stored}
use Rattle.range.proofs.Sums.{weigh_same}
use Rattle.range.proofs.Lists.{joined_same}
use Rattle.table.specs.Table.{Table, item, degree, Degrees, is_short}
use Rattle.table.specs.Text.{closing_line}
use Rattle.range.proofs.Sets.{sets_then}
use Rattle.plan_theory.specs.Plan.{kept, kept_count, cost_of, plan_byte, is_kept}
use Rattle.plan_theory.proofs.Plan.{stored_kept}
use Rattle.plan_lines.specs.Lines.{head_line, kept_start, short_start}
use Rattle.plan_lines.proofs.Lengths.{length_head, kept_line_at, short_line_at, length_kept, length_shorts}
use Rattle.plan_output.specs.Output.{kept_lines, short_lines, plan_text}

pub length_plan : (t : Table) → length (plan_text t) ≡ short_start (kept_count t) (count t.probes (is_short t)) + 5
unfolding plan_text
length_plan t =
    let a = length-append (head_line t.number (kept_count t) (cost_of t (kept t))) (kept_lines t ++ (short_lines t ++ closing_line)) in
    let b = length-append (kept_lines t) (short_lines t ++ closing_line) in
    let d = length-append (short_lines t) closing_line in
    let h = length_head t.number (kept_count t) (cost_of t (kept t)) in
    let l = length_kept (kept t) t.low t.high t.cost t.links in
    let s = length_shorts (degree t) t.need t.probes in
    omega arith

-- What is printed by the bytes of a plan and the numbers of links.
module _ (t : Table) (plan plan' degrees : List ℕ) (room : t.links ≤ length plan) (p : plan' ≡ stored (λ i. plan_byte (kept t i)) t.links plan) (d : Degrees t degrees) where
  abbrev says : ℕ → Bool
  says = is_kept plan'

  abbrev tells : ℕ → Bool
  tells v = ltb (item degrees v) (t.need v)

  byte_says : (i : ℕ) → i < t.links → says i ≡ kept t i
  byte_says = stored_kept (kept t) t.links plan plan' room p

  -- where the closing line ends, by the counts of both
  pub end_says : (n k : ℕ) → n ≡ count t.links says → k ≡ count t.probes tells → short_start n k + 5 ≡ length (plan_text t)
  end_says n k en ek =
      let a = en ∙ weigh_same t.links says (kept t) (λ i. 1) byte_says in
      let b = ek ∙ weigh_same t.probes tells (is_short t) (λ v. 1) (λ v l. rw (d v)) in
      let l = length_plan t in
      omega arith

  -- the first line, those of the kept links and of the short probes, and the closing line, stored in turn
  pub plan_then : (n c k : ℕ) (l l₁ l₂ l₃ l₄ : List ℕ) → n ≡ count t.links says → c ≡ weigh t.links says t.cost → k ≡ count t.probes tells
      → l₁ ≡ sets l 0 (head_line t.number n c) → l₂ ≡ sets l₁ (kept_start 0) (joined (kept_line_at says t.low t.high t.cost) t.links)
      → l₃ ≡ sets l₂ (short_start n 0) (joined (short_line_at (item degrees) t.need) t.probes) → l₄ ≡ sets l₃ (short_start n k) closing_line → l₄ ≡ sets l 0 (plan_text t)
  unfolding plan_text
  plan_then n c k l l₁ l₂ l₃ l₄ en ec ek e₁ e₂ e₃ e₄ =
      let head = head_line t.number n c in
      let links = joined (kept_line_at says t.low t.high t.cost) t.links in
      let shorts = joined (short_line_at (item degrees) t.need) t.probes in
      let kn = en ∙ weigh_same t.links says (kept t) (λ i. 1) byte_says in
      let kc = ec ∙ weigh_same t.links says (kept t) t.cost byte_says in
      let kl = joined_same (kept_line_at says t.low t.high t.cost) (kept_line_at (kept t) t.low t.high t.cost) t.links (λ i k. rw (byte_says i k)) in
      let ks = joined_same (short_line_at (item degrees) t.need) (short_line_at (degree t) t.need) t.probes (λ v k. rw (d v)) in
      let h = length_head t.number n c in
      let m = length_kept says t.low t.high t.cost t.links in
      let s = length_shorts (item degrees) t.need t.probes in
      rw (← kn, ← kc, ← kl, ← ks)
      (sets_then l l₁ l₄ 0 (kept_start 0) head (links ++ (shorts ++ closing_line)) e₁ (omega arith)
      (sets_then l₁ l₂ l₄ (kept_start 0) (short_start n 0) links (shorts ++ closing_line) e₂ (omega arith)
      (sets_then l₂ l₃ l₄ (short_start n 0) (short_start n k) shorts closing_line e₃ (omega arith) e₄)))
