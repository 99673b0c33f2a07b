-- Laws of maps altered by what befell the end: one bit put into one map of a direction and out of the other is one byte stored.
use Prim.Native.Nat.{ℕ, ◌<◌}
use mathlib.Core.Path.{◌≡◌, refl, sym, ◌∙◌}
use mathlib.Core.List.{List}
use Rattle.bit_maps.specs.BitMap.{map_of, with_bit, without_bit}
use Rattle.table.specs.Table.{of_slices}
use Rattle.table_links.specs.OrderedLinks.{OrderedLinks}
use Rattle.probe_rules.specs.declared.Outcome.TheVariants.{Opened, Enough, Taken, TakenDisplacing, Refused, RefusalLearnt}
use Rattle.probe_maps.specs.Maps.{Maps, rows, bytes_of, is_own}
use Rattle.probe_maps.specs.GoodMaps.{Sound, GoodMaps}
use Rattle.probe_maps.specs.MapRules.{alter_maps}
use Rattle.probe_maps.proofs.Rounds.{rows_same, maps_bytes}
use Rattle.probe_maps.proofs.Altered.{marked_out_lem, dropped_out, marked_in_lem, dropped_in, sound_stands}
use Rattle.probe_decisions.specs.EndOf.{EndOf}

-- the rows after, by those before
module _ (links : ℕ) (a b c d : List ℕ) (sound : Sound links (rows a b c d)) where
  abbrev m : Maps
  m = rows a b c d

  pub leaves_same : m ≡ alter_maps links Enough m
  leaves_same = sym (maps_bytes links m sound)

  module _ (i : ℕ) (l : i < links) where
    pub opens : {a' b' : List ℕ} → a' ≡ with_bit a i → b' ≡ without_bit b i → rows a' b' c d ≡ alter_maps links (Opened i) m
    opens e f = rows_same e f refl refl ∙ (marked_out_lem links m (bytes_of links m) (sound_stands links m sound) i l).maps_are

    pub learns : {a' b' : List ℕ} → b' ≡ with_bit b i → a' ≡ without_bit a i → rows a' b' c d ≡ alter_maps links (RefusalLearnt i) m
    learns e f = rows_same f e refl refl ∙ (dropped_out links m (bytes_of links m) (sound_stands links m sound) i l).maps_are

    pub takes : {c' d' : List ℕ} → c' ≡ with_bit c i → d' ≡ without_bit d i → rows a b c' d' ≡ alter_maps links (Taken i) m
    takes e f = rows_same refl refl e f ∙ (marked_in_lem links m (bytes_of links m) (sound_stands links m sound) i l).maps_are

    pub refuses : {c' d' : List ℕ} → d' ≡ with_bit d i → c' ≡ without_bit c i → rows a b c' d' ≡ alter_maps links (Refused i) m
    refuses e f = rows_same refl refl f e ∙ (dropped_in links m (bytes_of links m) (sound_stands links m sound) i l).maps_are

    pub displaces : (k : ℕ) → k < links → {c' d' c'' d'' : List ℕ} → c' ≡ with_bit c i → d' ≡ without_bit d i → d'' ≡ with_bit d' k → c'' ≡ without_bit c' k
        → rows a b c'' d'' ≡ alter_maps links (TakenDisplacing i k) m
    displaces k w e f g h =
        rows_same refl refl (h ∙ rw e) (g ∙ rw f)
        ∙ (dropped_in links _ _ (marked_in_lem links m (bytes_of links m) (sound_stands links m sound) i l) k w).maps_are

-- the slices are those of an end of their table
pub end_of : (number probes links : ℕ) (needs lows highs costs own : List ℕ) (p : ℕ) (m : Maps) → OrderedLinks links lows highs costs
    → own ≡ map_of (is_own (of_slices number probes links needs lows highs costs) p) 32 → GoodMaps (of_slices number probes links needs lows highs costs) p m
    → EndOf (of_slices number probes links needs lows highs costs) p links needs costs own m
end_of number probes links needs lows highs costs own p m o e g =
    record {
      links_are = refl;
      few = o.few;
      need_is = refl;
      costs_are = λ i. refl;
      order = record { rising = o.order.rising };
      own_are = e;
      good = g;
    }
