-- The lines of a table; tables with the same entries have the same text.
use Prim.Native.Nat.{ℕ}
use mathlib.Core.Path.{◌≡◌, refl}
use mathlib.Core.List.{List, [], ◌∷◌, ◌++◌}
use Rattle.range.specs.Lists.{joined}
use Rattle.range.proofs.Lists.{joined_same}
use Rattle.table.specs.Table.{Table}
use Rattle.table.specs.Text.{closing_line, text_of}
use Rattle.table.specs.Same.{Same}
use Rattle.lines.proofs.Numbers.{line_of}

-- the numbers of the header, of a need line and of a link line

abbrev pub head_row : Table → List ℕ
head_row t = t.number ∷ t.probes ∷ t.links ∷ []

abbrev pub need_row : Table → ℕ → List ℕ
need_row t v = t.need v ∷ []

abbrev pub link_row : Table → ℕ → List ℕ
link_row t i = t.low i ∷ t.high i ∷ t.cost i ∷ []

-- the need lines and the link lines

abbrev pub need_rows : Table → List ℕ
need_rows t = joined (λ v. line_of (need_row t v)) t.probes

abbrev pub link_rows : Table → List ℕ
link_rows t = joined (λ i. line_of (link_row t i)) t.links

-- the text, divided
pub text_is : (t : Table) → text_of t ≡ line_of (head_row t) ++ (need_rows t ++ (link_rows t ++ closing_line))
unfolding text_of
text_is t = refl

module _ (t u : Table) (e : Same t u) where
  pub same_text : text_of t ≡ text_of u
  unfolding text_of
  same_text =
      rw (
        ← e.number,
        ← e.probes,
        ← e.links,
        joined_same (λ v. line_of (need_row t v)) (λ v. line_of (need_row u v)) t.probes (λ v l. rw (e.need v l)),
        joined_same (λ i. line_of (link_row t i)) (λ i. line_of (link_row u i)) t.links (λ i l. rw (e.low i l, e.high i l, e.cost i l)),
      )
