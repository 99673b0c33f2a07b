-- Invariant: the first k entries are stored.
use mathlib.Core.Path.{◌≡◌}
use mathlib.Core.List.{map}
use lib.ListN.{take}
use lib.Seq.{sets}
use Rattle.bag_entries.proofs.logs.store_all.Given as goal

abbrev pub invariant-loop-k : goal.invariant-loop-k
invariant-loop-k g l = l.log ≡ sets l.initial.log l.used (map g.T.Stored.stored (take l.k l.all.entries))
