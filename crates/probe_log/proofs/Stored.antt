-- A call's clause with the entry stored, and a bag's with its entries.
use Prim.Native.Nat.{ℕ, ◌-◌}
use mathlib.Core.Path.{◌≡◌, refl, ap, ◌∙◌}
use mathlib.Core.Bool.{Bool, true, false, cond}
use mathlib.Core.List.{List, []}
use lib.Dec.{eqb}
use lib.ListN.{length, take}
use lib.Seq.{sets}
use Rattle.table.specs.Table.{Table}
use Rattle.wake_log.specs.declared.Entry.{Entry}
use Rattle.probe_rules.specs.declared.Event.{Event}
use Rattle.probe_rules.specs.Rules.{entry_of}
use Rattle.probe_maps.specs.Maps.{Maps}
use Rattle.probe_maps.specs.MapRules.{befalls_maps}
use Rattle.wake_log.specs.declared.Answer.{Answer}
use Rattle.wake_log.specs.Log.{log_with}
use Rattle.wake_log.proofs.Stored.{entry_stored}
use Rattle.probe.specs.Answers.{Befallen}
use Rattle.probe.proofs.Answers.{befallen_answer}
use Rattle.probe_bags.specs.Bag.{events_of, entries_after, bag_fault, HeardBag}
use Rattle.probe_hearing.specs.declared.ToldBag.{ToldBag}
use Rattle.probe_hearing.specs.Told.{ToldBagCall}
use Rattle.probe_hearing.proofs.Stored.{bag_entries, bag_reply}
use Rattle.probe_log.specs.Logged.{LogsAtEnd}

pub call_stored : (fault : ℕ) (t : Table) (p : ℕ) (event : Event) (used : ℕ) (r : Answer) (before after : Maps) (log log' : List Entry)
    → Befallen fault t p event r before after → log' ≡ log_with used r log
    → LogsAtEnd fault t p event r before after used log log'
call_stored fault t p event used r before after log log' b s =
    record { befallen = b; log_after = entry_stored fault used (entry_of t p (befalls_maps t p event before)) r log log' (befallen_answer b) s }

pub bag_stored : (state : ℕ) (t : Table) (p : ℕ) (ls : List (List ℕ)) (used : ℕ) (r : ToldBag) (before after : Maps) (log log' : List Entry)
    → ToldBagCall (bag_fault state t p ls (length log - used)) t p ls r before after → log' ≡ sets log used (take r.entries.count r.entries.entries)
    → HeardBag (bag_fault state t p ls (length log - used)) t p ls r.answer before after used log log'
bag_stored state t p ls used r before after log log' c s =
    let free = length log - used in
    record {
      answer = bag_reply state t p ls free r before after c;
      maps_after_lem = c.maps_after_lem;
      log_after = s ∙ ap (sets log used) (bag_entries state t p ls free r before after c) ∙ go (eqb (bag_fault state t p ls free) 0);
    }
  where
    es : List Entry
    es = entries_after t p (events_of t ls) before

    go : (b : Bool) → sets log used (cond b es []) ≡ cond b (sets log used es) log
    go true = refl
    go false = refl
