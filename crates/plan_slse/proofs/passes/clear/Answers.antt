use Prim.Native.Nat.{ℕ, ◌≤◌}
use mathlib.Core.Path.{◌≡◌}
use mathlib.Core.List.{List, ◌++◌}
use Rattle.std.proofs.lemmas.Grind.{common_steps}
use native.Mathlib.Omega.{arith}
use lib.ListN.{length, replicate, drop}
use lib.Seq.{length-take-le}
use Rattle.range.specs.Lists.{stored}
use Rattle.range.proofs.Lists.{stored_ext}
use Rattle.plan_slse.proofs.passes.clear.Goals as goal

cleared : (plan : List ℕ) (n : ℕ) → n ≤ length plan → replicate n 0 ++ drop n plan ≡ stored (λ j. 0) n plan
cleared plan n fits =
    stored_ext (λ j. 0) n plan (replicate n 0 ++ drop n plan) fits (grind (arith, common_steps)) (λ j l. grind (arith, common_steps)) (λ j l. grind (arith, common_steps))

pub returns : goal.returns
returns c = rw (c.fill.ensures.after (λ y e. e), length-take-le c.args.links c.args.plan.now c.requires) (cleared _ _ c.requires)
