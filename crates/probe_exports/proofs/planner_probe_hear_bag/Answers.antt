use borrow.Author.Rules.{rules}
use Rattle.probe_hearing.proofs.Stored.{bag_fits, bag_count}
use Rattle.probe_exports.proofs.Answers.{bag_packed}
use Rattle.probe_exports.proofs.planner_probe_hear_bag.Goals as goal

pub store_all-requires : goal.store_all-requires
store_all-requires c = bag_fits _ _ _ _ _ _ _ _ c.tell_bag-told.ensures

pub packed_hearing-requires : goal.packed_hearing-requires
packed_hearing-requires c = bag_count _ _ _ _ _ _ _ _ c.tell_bag-told.ensures

pub returns : goal.returns
returns c = bag_packed _ _ _ _ _ _ _ _ _ _ _ c.tell_bag-told.ensures c.packed_hearing.ensures c.store_all.ensures
