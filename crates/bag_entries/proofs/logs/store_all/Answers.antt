use native.Mathlib.Omega.{arith}
use Rattle.wake_log.specs.Log.{no_entry}
use Rattle.bag_entries.proofs.EntriesLaws.{stored_next, places}
use Rattle.bag_entries.proofs.logs.store_all.Goals as goal

pub loop-k-preserved : goal.loop-k-preserved
loop-k-preserved g c =
    let a = c.args in
    let n = places a.all _ c.well_formed.1.1.0 in
    rw (c.loop-k.invariant, c.of.ensures, c.entry_in.ensures) (stored_next g.T.Stored.stored a.log.now a.all.entries a.used c.loop-k.k no_entry (omega arith))
