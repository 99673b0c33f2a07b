-- Tables with the same entries have the same plan, and it prints the same.
use Prim.Native.Nat.{ℕ}
use mathlib.Core.Path.{◌≡◌, ◌∙◌, ap}
use mathlib.Core.Bool.{cond}
use mathlib.Core.List.{List, ◌++◌}
use Rattle.range.specs.Sum.{count, weigh}
use Rattle.range.specs.Lists.{joined}
use Rattle.range.proofs.Sums.{sum_same, weigh_same}
use Rattle.range.proofs.Lists.{joined_same}
use Rattle.table.specs.Table.{Table, is_short, missing}
use Rattle.table.specs.Legal.{Legal}
use Rattle.table.specs.Text.{closing_line}
use Rattle.table.specs.Same.{Same}
use Rattle.plan_theory.proofs.Same.{same_degree, rested_same}
use Rattle.plan_theory.specs.Plan.{kept, kept_count, cost_of}
use Rattle.plan_lines.specs.Lines.{head_line, kept_line, short_line}
use Rattle.plan_output.specs.Output.{kept_lines, short_lines, plan_text}

parts_same : {n n' k k' c c' : ℕ} {l l' s s' : List ℕ} → n ≡ n' → k ≡ k' → c ≡ c' → l ≡ l' → s ≡ s'
    → head_line n k c ++ (l ++ (s ++ closing_line)) ≡ head_line n' k' c' ++ (l' ++ (s' ++ closing_line))
parts_same a b d e f = rw (a, b, d, e, f)

module _ (t u : Table) (same : Same t u) (legal : Legal t) where
  pub same_plan : plan_text t ≡ plan_text u
  unfolding plan_text
  same_plan = parts_same same.number counts costs lines shorts
    where
      counts : kept_count t ≡ kept_count u
      counts = weigh_same t.links (kept t) (kept u) (λ i. 1) (λ i l. rw (rested_same t u same legal i l)) ∙ ap (λ (n : ℕ). count n (kept u)) same.links

      costs : cost_of t (kept t) ≡ cost_of u (kept u)
      costs =
          sum_same t.links (λ i. cond (kept t i) (t.cost i) 0) (λ i. cond (kept u i) (u.cost i) 0) (λ i l. rw (rested_same t u same legal i l, same.cost i l))
          ∙ ap (λ (n : ℕ). weigh n (kept u) u.cost) same.links

      lines : kept_lines t ≡ kept_lines u
      lines =
          joined_same (λ i. kept_line (kept t i) (t.low i) (t.high i) (t.cost i)) (λ i. kept_line (kept u i) (u.low i) (u.high i) (u.cost i)) t.links
          (λ i l. rw (rested_same t u same legal i l, same.low i l, same.high i l, same.cost i l))
          ∙ ap (λ (n : ℕ). joined (λ i. kept_line (kept u i) (u.low i) (u.high i) (u.cost i)) n) same.links

      shorts : short_lines t ≡ short_lines u
      shorts =
          joined_same (λ v. short_line (is_short t v) v (missing t v)) (λ v. short_line (is_short u v) v (missing u v)) t.probes (λ v l. rw (same_degree t u same v, same.need v l))
          ∙ ap (λ (n : ℕ). joined (λ v. short_line (is_short u v) v (missing u v)) n) same.probes
