-- The numbers of a text's header and of a link's line, as the checks hand them on.
use Rattle.std.specs.Prelude.{ℕ, ◌≡◌, List}
use Rattle.table.specs.Text.{of_text}
use Rattle.table_text.specs.declared.Header.{Header}
use Rattle.table_text.specs.declared.Link.{Link}

abbrev pub HeaderOf : List ℕ → Header → Type 0
HeaderOf s h = (h.number ≡ (of_text s).number) × (h.probes ≡ (of_text s).probes) × (h.links ≡ (of_text s).links)

abbrev pub LinkOf : List ℕ → ℕ → Link → Type 0
LinkOf s i l = (l.low ≡ (of_text s).low i) × (l.high ≡ (of_text s).high i)
