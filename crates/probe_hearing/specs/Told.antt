-- A bag heard, its entries told by value: as `HeardBag`, before they are stored.
use Rattle.std.specs.Prelude.{ℕ, ◌-◌, ◌≡◌, cond, List, [], eqb, length}
use Rattle.table.specs.Table.{Table}
use Rattle.table.specs.Slices.{Slices, table_of}
use Rattle.wake_log.specs.declared.Entry.{Entry}
use Rattle.probe_maps.specs.Maps.{Maps}
use Rattle.bag_entries.specs.Entries.{entries_of}
use Rattle.probe_bags.specs.Bag.{frames_of, events_of, maps_after, entries_after, hearing_of, hears_bag_fault}
use Rattle.probe_hearing.specs.declared.ToldBag.{ToldBag}

-- by the fault found: the count of frames and their entries, or the number of the refusal and none
abbrev pub told_bag_of : ℕ → ℕ → List Entry → ToldBag
told_bag_of fault n es = record { entries = entries_of (cond (eqb fault 0) es []); answer = hearing_of fault n }

pub record ToldBagCall (fault : ℕ) (t : Table) (p : ℕ) (ls : List (List ℕ)) (r : ToldBag) (before after : Maps) : Type 0 where
  pub told : r ≡ told_bag_of fault (length ls) (entries_after t p (events_of t ls) before)
  pub maps_after_lem : after ≡ cond (eqb fault 0) (maps_after t p (events_of t ls) before) before

-- the call of the end p, over the table in its slices
abbrev pub HearsBagTold : Slices → ℕ → List ℕ → ℕ → ℕ → ToldBag → Maps → Maps → Type 0
HearsBagTold x p bag used room r before after =
    ToldBagCall (hears_bag_fault x p before bag (room - used)) (table_of x) p (frames_of bag) r before after
