-- How the code comes to a bag's fault, stage by stage, where the state has none.
use Prim.Native.Nat.{ℕ, ◌≤◌, ◌<◌}
use mathlib.Core.Path.{◌≡◌, refl, sym, ◌∙◌}
use mathlib.Core.List.{List}
use lib.ListN.{length}
use borrow.Author.Tests.{le-ltb}
use Rattle.table.specs.Table.{Table}
use Rattle.probe_bags.specs.Bag.{frames_fault, bag_fault}
use Rattle.probe_bags.proofs.Faults.{room_short, room_enough, many_first, frame_fault_lem, behind_frames, room_last}

module _ (t : Table) (p : ℕ) (ls : List (List ℕ)) (free : ℕ) where
  pub fault_of_many : 64 < length ls → 32 ≡ bag_fault 0 t p ls free
  fault_of_many m = sym (many_first 0 t p ls free refl m)

  module _ (few : length ls ≤ 64) where
    pub fault_of_frames : (r : ℕ) → r ≡ frames_fault t p ls → (r ≡ 0 → ⊥) → r ≡ bag_fault 0 t p ls free
    fault_of_frames r is some = is ∙ sym (frame_fault_lem 0 t p ls free refl few (λ z. some (is ∙ z)))

    module _ (fine : frames_fault t p ls ≡ 0) where
      pub fault_of_probe : t.probes ≤ p → 24 ≡ bag_fault 0 t p ls free
      fault_of_probe l = sym (behind_frames 0 t p ls free refl few fine ∙ rw (le-ltb p t.probes l))

      module _ (l : p < t.probes) where
        pub fault_of_room : free < length ls → 26 ≡ bag_fault 0 t p ls free
        fault_of_room k = sym (room_last 0 t p ls free refl few fine l ∙ room_short ls free k)

        pub fault_of_none : length ls ≤ free → 0 ≡ bag_fault 0 t p ls free
        fault_of_none k = sym (room_last 0 t p ls free refl few fine l ∙ room_enough ls free k)
