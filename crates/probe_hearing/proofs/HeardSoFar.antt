-- Frames heard one by one: the maps stay good, and what is left to hear, from the maps now, leaves what the whole bag leaves.
use Prim.Native.Nat.{ℕ, suc, ◌+◌, ◌≤◌, ◌<◌}
use mathlib.Core.Path.{◌≡◌, refl, sym, ◌∙◌, ap}
use mathlib.Core.List.{List, ◌∷◌}
use native.Mathlib.Numerals.{add-one}
use lib.ListN.{length, get_or, set, drop, length-set, drop_of_length-le}
use lib.Seq.{sets, drop-cons}
use Rattle.table.specs.Table.{Table}
use Rattle.table.specs.Legal.{RisingLinks}
use Rattle.wake_log.specs.declared.Entry.{Entry}
use Rattle.probe_rules.specs.declared.Event.{Event}
use Rattle.probe_rules.specs.Rules.{entry_of}
use Rattle.probe_rules.specs.Within.{OwnEvent}
use Rattle.probe_maps.specs.Maps.{Maps}
use Rattle.probe_maps.specs.GoodMaps.{GoodMaps}
use Rattle.probe_maps.specs.MapRules.{befalls_maps, alter_maps}
use Rattle.probe_bags.specs.Bag.{maps_after, entries_after}
use Rattle.probe_bags.proofs.Steps.{good_step}

module _ (t : Table) (p : ℕ) (vs : List Event) (m₀ : Maps) (told₀ : List Entry) where
  pub record HeardSoFar (m : Maps) (told : List Entry) (n : ℕ) : Type 0 where
    pub good : GoodMaps t p m
    pub maps : maps_after t p (drop n vs) m ≡ maps_after t p vs m₀
    pub entries : sets told n (entries_after t p (drop n vs) m) ≡ sets told₀ 0 (entries_after t p vs m₀)
    pub long : length told ≡ length told₀

  pub heard_none : GoodMaps t p m₀ → HeardSoFar m₀ told₀ 0
  heard_none g = record { good = g; maps = refl; entries = refl; long = refl }

  module _ (m : Maps) (told : List Entry) (n : ℕ) (h : HeardSoFar m told n) where
    pub heard_next : RisingLinks t → n < length vs → (v none : Event) → v ≡ get_or vs n none → OwnEvent t p v → (entry : Entry) (m' : Maps)
        → entry ≡ entry_of t p (befalls_maps t p v m) → m' ≡ alter_maps t.links (befalls_maps t p v m) m → HeardSoFar m' (set told n entry) (n + 1)
    unfolding maps_after entries_after
    heard_next rises l v none is own entry m' e f =
        let here : drop n vs ≡ v ∷ drop (suc n) vs = drop-cons vs n none l ∙ ap (λ (w : Event). w ∷ drop (suc n) vs) (sym is) in
        record {
          good = rw f (good_step t rises p m h.good v own);
          maps = rw (add-one n, f) (sym (ap (λ (ws : List Event). maps_after t p ws m) here) ∙ h.maps);
          entries = rw (add-one n, e, f) (sym (ap (λ (ws : List Event). sets told n (entries_after t p ws m)) here) ∙ h.entries);
          long = length-set told n entry ∙ h.long;
        }

    -- none is left
    module _ (l : length vs ≤ n) where
      pub heard_maps : m ≡ maps_after t p vs m₀
      unfolding maps_after
      heard_maps = sym (ap (λ (ws : List Event). maps_after t p ws m) (drop_of_length-le vs {i = n} l)) ∙ h.maps

      pub heard_entries : told ≡ sets told₀ 0 (entries_after t p vs m₀)
      unfolding entries_after
      heard_entries = sym (ap (λ (ws : List Event). sets told n (entries_after t p ws m)) (drop_of_length-le vs {i = n} l)) ∙ h.entries
