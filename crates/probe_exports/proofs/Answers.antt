-- How the code comes to a packed answer.
use Prim.Native.Nat.{ℕ, ◌-◌}
use mathlib.Core.Path.{◌≡◌, refl, ◌∙◌, ap}
use mathlib.Core.Bool.{Bool, true, false, cond}
use mathlib.Core.List.{List, [], map}
use lib.Dec.{eqb}
use lib.ListN.{length, take}
use lib.Seq.{sets}
use Rattle.table.specs.Table.{Table}
use Rattle.wake_log.specs.declared.Entry.{Entry}
use Rattle.wake_log.specs.declared.Answer.{Answer}
use Rattle.wake_log.specs.Entry.{answer_of}
use Rattle.wake_log.proofs.Answers.{answer_reply_lem}
use Rattle.probe_rules.specs.declared.Event.{Event}
use Rattle.probe_rules.specs.Rules.{entry_of}
use Rattle.probe_maps.specs.Maps.{Maps}
use Rattle.probe_maps.specs.MapRules.{befalls_maps}
use Rattle.probe.specs.Answers.{Befallen, asked_reply, Asks}
use Rattle.probe.proofs.Answers.{befallen_answer}
use Rattle.probe.specs.declared.Kind.{Kind}
use Rattle.probe.specs.declared.Asked.{Asked}
use Rattle.probe_bags.specs.Bag.{events_of, entries_after, bag_fault, hearing_reply}
use Rattle.probe_hearing.specs.declared.ToldBag.{ToldBag}
use Rattle.probe_hearing.specs.Told.{ToldBagCall}
use Rattle.probe_hearing.proofs.Stored.{bag_entries, bag_reply}
use Rattle.packed_answers.specs.Packed.{packed_value, packed_entry, packed_answer, packed_after}
use Rattle.probe_exports.specs.Packed.{BefallenPacked, AsksPacked, LogsAtEndPacked, HeardBagPacked}

pub befallen_packed : (fault : ℕ) (t : Table) (p : ℕ) (event : Event) (a : Answer) (r : ℕ) (before after : Maps) → Befallen fault t p event a before after → r ≡ packed_answer a
    → BefallenPacked fault t p event r before after
befallen_packed fault t p event a r before after g e =
    let entry = entry_of t p (befalls_maps t p event before) in
    record {
      answer = e ∙ ap packed_answer (befallen_answer g);
      lent = record { answer = answer_reply_lem (answer_of fault entry) fault entry refl; maps_after_lem = g.maps_after_lem };
    }

pub asks_packed : (fault : ℕ) (t : Table) (p : ℕ) (k : Kind) (i : ℕ) (rec : List ℕ) (a : Asked) (r : ℕ) (before after : List ℕ) → Asks fault t p k i rec a before after → r ≡ packed_value (asked_reply a)
    → AsksPacked fault t p k i rec r before after
asks_packed fault t p k i rec a r before after g e =
    record { answer = e ∙ ap packed_value g.answer; line = g.line }

pub logged_packed : (fault : ℕ) (t : Table) (p : ℕ) (event : Event) (a : Answer) (r : ℕ) (before after : Maps) (used : ℕ) (log log' : List ℕ)
    → Befallen fault t p event a before after → (r ≡ packed_answer a) × (log' ≡ packed_after log used a) → LogsAtEndPacked fault t p event r before after used log log'
logged_packed fault t p event a r before after used log log' g e =
    record { befallen = befallen_packed fault t p event a r before after g e.0; log_after = e.1 ∙ ap (packed_after log used) (befallen_answer g) }

-- a bag told, its entries stored packed
pub bag_packed : (state : ℕ) (t : Table) (p : ℕ) (ls : List (List ℕ)) (told : ToldBag) (r : ℕ) (before after : Maps) (used : ℕ) (log log' : List ℕ)
    → ToldBagCall (bag_fault state t p ls (length log - used)) t p ls told before after → r ≡ packed_value (hearing_reply told.answer)
    → log' ≡ sets log used (map packed_entry (take told.entries.count told.entries.entries))
    → HeardBagPacked (bag_fault state t p ls (length log - used)) t p ls r before after used log log'
bag_packed state t p ls told r before after used log log' c e s =
    let free = length log - used in
    record {
      answer = e ∙ ap packed_value (bag_reply state t p ls free told before after c);
      maps_after_lem = c.maps_after_lem;
      log_after = s ∙ ap (λ (es : List Entry). sets log used (map packed_entry es)) (bag_entries state t p ls free told before after c) ∙ go (eqb (bag_fault state t p ls free) 0);
    }
  where
    es : List Entry
    es = entries_after t p (events_of t ls) before

    go : (b : Bool) → sets log used (map packed_entry (cond b es [])) ≡ cond b (sets log used (map packed_entry es)) log
    go true = refl
    go false = refl
