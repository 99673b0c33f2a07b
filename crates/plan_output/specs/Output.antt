-- What the plan program prints: document 01, "Programs", and 02, No. 1 and No. 14. Every printed line is closed by a line feed.
use Rattle.std.specs.Prelude.{ℕ, ◌≡◌, false, cond, List, ◌++◌, eqb, length, take}
use Rattle.range.specs.Lists.{joined}
use Rattle.table.specs.Table.{Table, is_short, missing}
use Rattle.table.specs.Text.{closing_line, of_text, text_fault}
use Rattle.plan_theory.specs.Plan.{kept, kept_count, cost_of}
use Rattle.plan_theory.specs.Bounds.{PlanBounds, NoneForNothing}
use Rattle.output.specs.Output.{refusal_line, output_fault, Prints}
use Rattle.output.specs.declared.Output.{Output}
use Rattle.output.specs.declared.Output.TheVariants.{Length}
use Rattle.plan_lines.specs.Lines.{head_line, kept_line, short_line}

-- "then kept link lines"
abbrev pub kept_lines : Table → List ℕ
kept_lines t = joined (λ i. kept_line (kept t i) (t.low i) (t.high i) (t.cost i)) t.links

-- 02, No. 1: "The plan program lists each short probe before the closing line, in number order"
abbrev pub short_lines : Table → List ℕ
short_lines t = joined (λ v. short_line (is_short t v) v (missing t v)) t.probes

-- "It prints table number, kept count (four digits each) and cost (eight), then kept link lines, then `ffff`", with the short probes' lines before the closing one
unfoldable pub plan_text : Table → List ℕ
plan_text t = head_line t.number (kept_count t) (cost_of t (kept t)) ++ (kept_lines t ++ (short_lines t ++ closing_line))

-- "The plan program reads a table"; "a refused table prints only that". The limits are parameters
abbrev pub output_of : ℕ → ℕ → List ℕ → List ℕ
output_of pmax lmax s =
    let fault = text_fault pmax lmax false s in
    cond (eqb fault 0) (plan_text (of_text s)) (refusal_line fault)

-- `plan_text` on the text s, within limits: it answers r and leaves the lent text `before` as `after`
abbrev pub PrintsText : ℕ → ℕ → List ℕ → Output → List ℕ → List ℕ → Type 0
PrintsText pmax lmax s r before after =
    let printed = output_of pmax lmax s in
    Prints (output_fault (length before) printed) printed r before after

-- the bytes printed for a text that is not refused: its plan, and of the links in it demand 3's needs and cost, and 02, No. 14
pub record PrintedPlan (s printed : List ℕ) : Type 0 where
  pub lines : printed ≡ plan_text (of_text s)
  pub bounds : PlanBounds (of_text s)
  pub none_for_nothing : NoneForNothing (of_text s) (kept (of_text s))

-- a call of `plan_text` on such a text, with a slice that holds its plan, answers r and leaves `after` (`prints_plan`)
pub record PrintsPlan (s : List ℕ) (r : Output) (after : List ℕ) : Type 0 where
  pub count : ℕ
  pub answer : r ≡ Length count
  pub plan : PrintedPlan s (take count after)
