use mathlib.Core.Path.{refl}
use Rattle.refusals.proofs.Laws.{reply_is}
use Rattle.table_display.proofs.check_table.Goals as goal

pub returns : goal.returns
returns c = reply_is _ _ _ _ c.check_slices.ensures (λ _ _. refl)
