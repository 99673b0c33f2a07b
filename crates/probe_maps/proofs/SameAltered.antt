-- Maps and bytes of the same record stand for the same one after an outcome.
use Prim.Native.Nat.{ℕ}
use mathlib.Core.Path.{◌≡◌, refl, sym, ap}
use mathlib.Core.List.{List}
use Rattle.probe_rules.specs.declared.Outcome.{Outcome}
use Rattle.probe_rules.specs.Rules.{alter}
use Rattle.probe_rules.specs.Within.{Within}
use Rattle.probe_maps.specs.Maps.{Maps, bytes_of}
use Rattle.probe_maps.specs.MapRules.{alter_maps}
use Rattle.probe_maps.specs.SameRecords.{SameRecord}
use Rattle.probe_maps.proofs.Rounds.{bytes_maps}
use Rattle.probe_maps.proofs.Altered.{altered}
use Rattle.probe_maps.proofs.SameFault.{same_sound}

module _ (links : ℕ) (m : Maps) (e : List ℕ) (r : SameRecord links m e) (o : Outcome) (w : Within links o) where
  abbrev left : List ℕ
  left = alter o (bytes_of links m)

  pub bytes_altered : bytes_of links (alter_maps links o m) ≡ left
  bytes_altered =
      let s = altered links m (same_sound links m e r) o w in
      bytes_maps links left s.size s.small

  pub same_altered : SameRecord links (alter_maps links o m) (alter o e)
  same_altered =
      rw (ap (alter o) r.bytes_are) (record { maps_are = refl; bytes_are = sym bytes_altered })
