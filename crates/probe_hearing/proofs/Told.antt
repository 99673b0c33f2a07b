-- A bag that is refused, and one that is heard.
use Prim.Native.Nat.{ℕ}
use mathlib.Core.Path.{◌≡◌, ◌∙◌, ap}
use mathlib.Core.List.{List, []}
use lib.ListN.{length}
use borrow.Author.Tests.{ne_eqb}
use Rattle.refusals.specs.Refusals.{number_of}
use Rattle.refusals.specs.declared.Refusal.{Refusal}
use Rattle.refusals.proofs.Laws.{number_some}
use Rattle.table.specs.Table.{Table}
use Rattle.probe_rules.specs.declared.Event.{Event}
use Rattle.probe_maps.specs.Maps.{Maps}
use Rattle.bag_entries.specs.declared.Entries.{Entries}
use Rattle.bag_entries.specs.Entries.{entries_of}
use Rattle.probe_bags.specs.declared.Hearing.TheVariants.{Heard, Refused}
use Rattle.probe_bags.specs.Bag.{events_of, maps_after, entries_after}
use Rattle.probe_hearing.specs.declared.ToldBag.{ToldBag}
use Rattle.probe_hearing.specs.Told.{ToldBagCall}

pub refused_bag : (fault : ℕ) (t : Table) (p : ℕ) (ls : List (List ℕ)) (d : Refusal) (r : ToldBag) (m : Maps) → r ≡ record { entries = entries_of []; answer = Refused (number_of d) }
    → number_of d ≡ fault → ToldBagCall fault t p ls r m m
refused_bag fault t p ls d r m is same =
    let n = ne_eqb (number_of d) 0 (number_some d) in
    record { told = rw (is, ← same, n); maps_after_lem = rw (← same, n) }

pub heard_bag : (fault count : ℕ) (t : Table) (p : ℕ) (ls : List (List ℕ)) (vs : List Event) (m after : Maps) (all : Entries) → fault ≡ 0 → count ≡ length ls → vs ≡ events_of t ls
    → all ≡ entries_of (entries_after t p vs m) → after ≡ maps_after t p vs m → ToldBagCall fault t p ls (record { entries = all; answer = Heard count }) m after
heard_bag fault count t p ls vs m after all none is said told maps =
    record {
      told = rw (none, is) (ap (λ (e : Entries). record { entries = e; answer = Heard (length ls) }) (told ∙ ap (λ (ws : List Event). entries_of (entries_after t p ws m)) said));
      maps_after_lem = rw none (maps ∙ ap (λ (ws : List Event). maps_after t p ws m) said);
    }
