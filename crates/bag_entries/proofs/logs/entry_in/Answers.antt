-- src/logs.rt:16:5
use native.Mathlib.Omega.{arith}
use Rattle.wake_log.specs.Log.{no_entry}
use Rattle.bag_entries.proofs.EntriesLaws.{any_default, places}
use Rattle.bag_entries.proofs.logs.entry_in.Goals as goal

-- src/logs.rt:12:1
pub returns : goal.returns
returns c =
    let a = c.args in
    let n = places a.all _ c.well_formed.0 in
    any_default a.all.entries a.k _ no_entry (omega (arith, n, c.requires))
