-- What is told of a bag, as it is stored: no more entries than the places hold and the log has free.
use Prim.Native.Nat.{ℕ, ◌≤◌}
use mathlib.Core.Path.{◌≡◌, refl, sym, ◌∙◌, ap}
use mathlib.Core.Bool.{Bool, true, false, cond}
use mathlib.Core.List.{List, [], ◌∷◌}
use native.Mathlib.Omega.{arith}
use lib.Dec.{eqb}
use lib.ListN.{length, take}
use borrow.Author.Tests.{eqb-true}
use Rattle.range.specs.Reply.{refusal, values, reply_of}
use Rattle.table.specs.Table.{Table}
use Rattle.wake_log.specs.declared.Entry.{Entry}
use Rattle.probe_maps.specs.Maps.{Maps}
use Rattle.bag_entries.specs.Entries.{entries_of}
use Rattle.bag_entries.proofs.EntriesLaws.{of_entries}
use Rattle.probe_bags.specs.declared.Hearing.TheVariants.{Heard, Refused}
use Rattle.probe_bags.specs.Bag.{events_of, entries_after, bag_fault, hearing_reply}
use Rattle.probe_bags.proofs.Faults.{none_many, none_short, no_fault}
use Rattle.probe_bags.proofs.Steps.{length_events, length_entries}
use Rattle.probe_hearing.specs.declared.ToldBag.{ToldBag}
use Rattle.probe_hearing.specs.Told.{ToldBagCall}

module _ (state : ℕ) (t : Table) (p : ℕ) (ls : List (List ℕ)) (free : ℕ) (r : ToldBag) (before after : Maps)
    (c : ToldBagCall (bag_fault state t p ls free) t p ls r before after) where
  abbrev fault : ℕ
  fault = bag_fault state t p ls free

  abbrev es : List Entry
  es = entries_after t p (events_of t ls) before

  as_many : length es ≡ length ls
  as_many = length_entries t p (events_of t ls) before ∙ length_events t ls

  fits : eqb fault 0 ≡ true → (length ls ≤ 64) × (length ls ≤ free)
  fits e =
      let n = no_fault state t p ls free (eqb-true fault 0 e) in
      (none_many ls n.few, none_short ls free n.room)

  pub bag_fits : (r.entries.count ≤ 64) × (r.entries.count ≤ free)
  bag_fits = go (eqb fault 0) fits c.told
    where
      go : (b : Bool) → (b ≡ true → (length ls ≤ 64) × (length ls ≤ free))
          → r ≡ record { entries = entries_of (cond b es []); answer = cond b (Heard (length ls)) (Refused fault) } → (r.entries.count ≤ 64) × (r.entries.count ≤ free)
      go true f is =
          let n : r.entries.count ≡ length es = ap (λ (x : ToldBag). x.entries.count) is in
          let m = as_many in
          (omega (arith, n, m, (f refl).0), omega (arith, n, m, (f refl).1))
      go false f is =
          let n : r.entries.count ≡ 0 = ap (λ (x : ToldBag). x.entries.count) is in
          (omega (arith, n), omega (arith, n))

  pub bag_entries : take r.entries.count r.entries.entries ≡ cond (eqb fault 0) es []
  bag_entries = go (eqb fault 0) fits c.told
    where
      go : (b : Bool) → (b ≡ true → (length ls ≤ 64) × (length ls ≤ free))
          → r ≡ record { entries = entries_of (cond b es []); answer = cond b (Heard (length ls)) (Refused fault) }
          → take r.entries.count r.entries.entries ≡ cond b es []
      go true f is =
          ap (λ (x : ToldBag). take x.entries.count x.entries.entries) is ∙ of_entries es (let m = as_many in omega (arith, m, (f refl).0))
      go false f is = ap (λ (x : ToldBag). take x.entries.count x.entries.entries) is

  pub bag_reply : hearing_reply r.answer ≡ reply_of fault (length ls ∷ [])
  bag_reply = ap (λ (x : ToldBag). hearing_reply x.answer) c.told ∙ go (eqb fault 0)
    where
      go : (b : Bool) → hearing_reply (cond b (Heard (length ls)) (Refused fault)) ≡ cond b (values (length ls ∷ [])) (refusal fault)
      go true = refl
      go false = refl

  -- the count that is answered
  pub bag_count : (n : ℕ) → r.answer ≡ Heard n → n ≤ 64
  bag_count n e = go (eqb fault 0) fits c.told
    where
      go : (b : Bool) → (b ≡ true → (length ls ≤ 64) × (length ls ≤ free))
          → r ≡ record { entries = entries_of (cond b es []); answer = cond b (Heard (length ls)) (Refused fault) } → n ≤ 64
      go true f is =
          let k : Heard n ≡ Heard (length ls) = sym e ∙ ap (λ (x : ToldBag). x.answer) is in
          let same : n ≡ length ls = cc in
          omega (arith, same, (f refl).0)
      go false f is =
          let k : Heard n ≡ Refused fault = sym e ∙ ap (λ (x : ToldBag). x.answer) is in
          let z : ◌≡◌ {A = ℕ} 0 1 = cc in
          absurd (omega arith)
