use Rattle.std.proofs.lemmas.List.{map-id}
use Rattle.probe_hearing.proofs.Stored.{bag_fits}
use Rattle.probe_log.proofs.Stored.{bag_stored}
use Rattle.probe_log.proofs.hear_bag.Goals as goal

pub store_all-requires : goal.store_all-requires
store_all-requires c = bag_fits _ _ _ _ _ c.tell_bag-t.result _ _ c.tell_bag-t.ensures

pub returns : goal.returns
returns c = bag_stored _ _ _ _ _ c.tell_bag-t.result _ _ c.args.log.now _ c.tell_bag-t.ensures (rw map-id at c.store_all.ensures)
