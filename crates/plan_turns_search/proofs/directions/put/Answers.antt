use mathlib.Core.Path.{refl}
use native.Mathlib.Omega.{arith}
use lib.ListN.{length-set}
use Rattle.plan_turns_search.specs.Record.{put}
use Rattle.plan_turns_search.proofs.directions.put.Goals as goal

pub bounds-rec-d-2 : goal.bounds-rec-d-2
bounds-rec-d-2 c = simp length-set (omega arith)

pub shape_of-rec : goal.shape_of-rec
shape_of-rec c = simp length-set

pub returns : goal.returns
unfolding put
returns c = refl
