-- 02, No. 2: "Refusal 25 is withdrawn": by no call of an end and by no line of a fleet; the theorem is `twenty_five_withdrawn`.
use Rattle.std.specs.Prelude.{ℕ, ◌≡◌, List}
use Rattle.table.specs.Slices.{Slices, table_of}
use Rattle.probe_maps.specs.Maps.{Maps, state_fault}
use Rattle.probe_checks.specs.Checks.{link_call_fault}
use Rattle.probe_turning.specs.Turned.{to_maps_fault, to_bytes_fault}
use Rattle.probe.specs.Answers.{hears_fault, opens_fault}
use Rattle.probe_bags.specs.Bag.{hears_bag_fault}
use Rattle.fleet_theory.specs.Fleet.{event_fault}

pub record TwentyFiveWithdrawn (x : Slices) : Type 0 where
  pub of_hearing : (p : ℕ) (m : Maps) (l : List ℕ) (free : ℕ) → hears_fault x p m l free ≡ 25 → ⊥
  pub of_bag : (p : ℕ) (m : Maps) (bag : List ℕ) (free : ℕ) → hears_bag_fault x p m bag free ≡ 25 → ⊥
  pub of_opening : (p : ℕ) (m : Maps) (free : ℕ) → opens_fault x p m free ≡ 25 → ⊥
  pub of_link_call : (p : ℕ) (m : Maps) (i : ℕ) → link_call_fault (state_fault x p m) (table_of x) p i ≡ 25 → ⊥
  -- nor by a call of turning
  pub of_turning_to_maps : (p : ℕ) (e : List ℕ) (out : Maps) → to_maps_fault x p e out ≡ 25 → ⊥
  pub of_turning_to_bytes : (p : ℕ) (m : Maps) (out : List ℕ) → to_bytes_fault x p m out ≡ 25 → ⊥
  pub of_line : (r : List ℕ) (used room : ℕ) (l : List ℕ) → event_fault x r used room l ≡ 25 → ⊥
