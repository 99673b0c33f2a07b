use Prim.Native.Nat.{ℕ, ◌+◌, ◌-◌, ◌≤◌}
use mathlib.Core.Path.{◌≡◌, sym, ◌∙◌, ap}
use mathlib.Core.List.{List, ◌++◌}
use Rattle.std.proofs.Common.{append_assoc}
use native.Mathlib.Omega.{arith}
use borrow.Rule.Slice.PartMut.{put_mid, Post-is}
use lib.ListN.{length, take}
use lib.Seq.{sets, sets-eq}
use Rattle.table.specs.Text.{closing_line}
use Rattle.table_write.proofs.line.put_closing.Goals as goal

-- a part of a list replaced
part : (l xs : List ℕ) (at : ℕ) → at + length xs ≤ length l → put_mid at (at + length xs - at) l xs ≡ sets l at xs
part l xs at fits = ap (λ r. take at l ++ (xs ++ r)) (Post-is at (at + length xs) l (omega arith)) ∙ (rw append_assoc at (sym (sets-eq xs l at fits)))

pub returns : goal.returns
returns c = rw c.copy_from_slice.ensures.after (part c.args.out.now closing_line c.args.at c.requires)
