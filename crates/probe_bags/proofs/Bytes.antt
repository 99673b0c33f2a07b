-- A bag on maps and on the bytes that they stand for: frame after frame both stay the same record, and have the same entries.
use Prim.Native.Nat.{ℕ}
use mathlib.Core.Path.{◌≡◌, refl, sym, ap}
use mathlib.Core.List.{List, [], ◌∷◌}
use Rattle.table.specs.Table.{Table}
use Rattle.wake_log.specs.declared.Entry.{Entry}
use Rattle.probe_rules.specs.declared.Event.{Event}
use Rattle.probe_rules.specs.Rules.{befalls, entry_of}
use Rattle.probe_rules.proofs.Befalls.{own_within}
use Rattle.probe_rules.proofs.OutcomeLaws.{befalls_within}
use Rattle.probe_maps.specs.Maps.{Maps}
use Rattle.probe_maps.specs.MapRules.{befalls_maps}
use Rattle.probe_maps.specs.SameRecords.{SameRecord}
use Rattle.probe_maps.proofs.SameAltered.{same_altered}
use Rattle.probe_bags.specs.Bag.{maps_after, entries_after, bytes_by_rules, entries_by_rules}
use Rattle.probe_bags.proofs.Steps.{AllOwn}

module _ (t : Table) (p : ℕ) where
  -- what befalls is decided on the same bytes
  same_outcome : (v : Event) (m : Maps) (e : List ℕ) → SameRecord t.links m e → befalls_maps t p v m ≡ befalls t p v e
  same_outcome v m e s = ap (befalls t p v) (sym s.bytes_are)

  pub on_bytes : (vs : List Event) → AllOwn t p vs → (m : Maps) (e : List ℕ) → SameRecord t.links m e
      → SameRecord t.links (maps_after t p vs m) (bytes_by_rules t p vs e) × (entries_after t p vs m ≡ entries_by_rules t p vs e)
  unfolding maps_after entries_after bytes_by_rules entries_by_rules
  on_bytes [] own m e s = (s, refl)
  on_bytes (v ∷ vs) own m e s =
      let w = befalls_within t p v e (own_within t p v own.0) in
      rw (same_outcome v m e s)
      (let rest = on_bytes vs own.1 _ _ (same_altered t.links m e s (befalls t p v e) w) in
      (rest.0, ap (λ (es : List Entry). entry_of t p (befalls t p v e) ∷ es) rest.1))
