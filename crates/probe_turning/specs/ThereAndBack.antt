-- Document 02, No. 9: "turning one into the other and back loses nothing", of the calls of turning, one behind the other.
use Rattle.std.specs.Prelude.{ℕ, ◌*◌, ◌≤◌, ◌≡◌, List, length, take, Result, Ok, ⊤}
use Rattle.table.specs.Slices.{Slices}
use Rattle.refusals.specs.declared.Refusal.{Refusal}
use Rattle.probe_maps.specs.Maps.{Maps, AllWords}
use Rattle.probe_turning.specs.Turned.{rows_lent_fault, TurnsToMaps, TurnsToBytes, maps_in}

-- of the end p: what is turned is at the start of the output lent, and turning it back, with an output long enough, is never refused
pub record ThereAndBack (x : Slices) (p : ℕ) : Type 0 where
  -- "turning one into the other and back loses nothing": bytes into maps, and these into bytes
  pub maps_back_to_bytes : (e : List ℕ) (out out' : Maps) → TurnsToMaps x p e (Ok tt) out out' → (rec : List ℕ) → 2 * x.links ≤ length rec
      → (r : Result ⊤ Refusal) (rec' : List ℕ) → TurnsToBytes x p (maps_in x.links out') r rec rec' → (r ≡ Ok tt) × (take (2 * x.links) rec' ≡ e)
  -- "turning one into the other and back loses nothing": maps into bytes, and these into maps
  pub bytes_back_to_maps : (m : Maps) (rec rec' : List ℕ) → AllWords m → TurnsToBytes x p m (Ok tt) rec rec' → (out : Maps) → rows_lent_fault x.links out ≡ 0
      → (r : Result ⊤ Refusal) (out' : Maps) → TurnsToMaps x p (take (2 * x.links) rec') r out out' → (r ≡ Ok tt) × (maps_in x.links out' ≡ m)
