-- The fault of a bag, stage by stage: the state, too many frames, the first bad frame, the probe, and the room.
use Prim.Native.Nat.{ℕ, ◌≤◌, ◌<◌}
use mathlib.Core.Path.{◌≡◌, ◌∙◌}
use mathlib.Core.List.{List}
use lib.Dec.{ltb}
use lib.ListN.{length}
use borrow.Author.Tests.{ltb-false, lt-ltb, le-ltb}
use Rattle.range.specs.First.{or_else}
use Rattle.range.proofs.Bools.{when_none}
use Rattle.range.proofs.Faults.{or_none, or_some, or_left, or_right}
use Rattle.table.specs.Table.{Table}
use Rattle.probe_checks.specs.Checks.{probe_fault}
use Rattle.probe_bags.specs.Bag.{frames_fault, many_fault, room_fault, bag_fault}

-- 32 of 65 frames and more, and of no fewer
pub many_refused : (ls : List (List ℕ)) → 64 < length ls → many_fault ls ≡ 32
many_refused ls l = rw (lt-ltb 64 (length ls) l)

pub few_pass : (ls : List (List ℕ)) → length ls ≤ 64 → many_fault ls ≡ 0
few_pass ls l = rw (le-ltb 64 (length ls) l)

pub none_many : (ls : List (List ℕ)) → many_fault ls ≡ 0 → length ls ≤ 64
none_many ls z = ltb-false 64 (length ls) (when_none (ltb 64 (length ls)) 31 z)

-- 26 where an entry is missing for any of them, and only there
pub room_short : (ls : List (List ℕ)) (free : ℕ) → free < length ls → room_fault ls free ≡ 26
room_short ls free l = rw (lt-ltb free (length ls) l)

pub room_enough : (ls : List (List ℕ)) (free : ℕ) → length ls ≤ free → room_fault ls free ≡ 0
room_enough ls free l = rw (le-ltb free (length ls) l)

pub none_short : (ls : List (List ℕ)) (free : ℕ) → room_fault ls free ≡ 0 → length ls ≤ free
none_short ls free z = ltb-false free (length ls) (when_none (ltb free (length ls)) 25 z)

-- no stage has a fault
pub record NoFault (state : ℕ) (t : Table) (p : ℕ) (ls : List (List ℕ)) (free : ℕ) : Type 0 where
  pub state_none : state ≡ 0
  pub few : many_fault ls ≡ 0
  pub frames : frames_fault t p ls ≡ 0
  pub probe : probe_fault t p ≡ 0
  pub room : room_fault ls free ≡ 0

module _ (state : ℕ) (t : Table) (p : ℕ) (ls : List (List ℕ)) (free : ℕ) where
  abbrev last : ℕ
  last = or_else (probe_fault t p) (room_fault ls free)

  abbrev late : ℕ
  late = or_else (frames_fault t p ls) last

  -- too many, whatever they are
  pub many_first : state ≡ 0 → 64 < length ls → bag_fault state t p ls free ≡ 32
  unfolding bag_fault
  many_first z l = or_none state (or_else (many_fault ls) late) z ∙ or_first (many_fault ls) (many_refused ls l)
    where
      or_first : (many : ℕ) → many ≡ 32 → or_else many late ≡ 32
      or_first many e = rw e

  -- a bad frame's, where nothing before it is wrong
  pub frame_fault_lem : state ≡ 0 → length ls ≤ 64 → (frames_fault t p ls ≡ 0 → ⊥) → bag_fault state t p ls free ≡ frames_fault t p ls
  unfolding bag_fault
  frame_fault_lem z l bad =
      or_none state (or_else (many_fault ls) late) z ∙ or_none (many_fault ls) late (few_pass ls l) ∙ or_some (frames_fault t p ls) last bad

  -- where the frames pass, what is left
  pub behind_frames : state ≡ 0 → length ls ≤ 64 → frames_fault t p ls ≡ 0 → bag_fault state t p ls free ≡ last
  unfolding bag_fault
  behind_frames z l fine =
      or_none state (or_else (many_fault ls) late) z ∙ or_none (many_fault ls) late (few_pass ls l) ∙ or_none (frames_fault t p ls) last fine

  -- and behind the probe
  pub room_last : state ≡ 0 → length ls ≤ 64 → frames_fault t p ls ≡ 0 → p < t.probes → bag_fault state t p ls free ≡ room_fault ls free
  room_last z l fine k = behind_frames z l fine ∙ or_none (probe_fault t p) (room_fault ls free) (rw (lt-ltb p t.probes k))

  pub no_fault : bag_fault state t p ls free ≡ 0 → NoFault state t p ls free
  unfolding bag_fault
  no_fault z =
      let a = or_right state (or_else (many_fault ls) late) z in
      let b = or_right (many_fault ls) late a in
      let c = or_right (frames_fault t p ls) last b in
      record {
        state_none = or_left state (or_else (many_fault ls) late) z;
        few = or_left (many_fault ls) late a;
        frames = or_left (frames_fault t p ls) last b;
        probe = or_left (probe_fault t p) (room_fault ls free) c;
        room = or_right (probe_fault t p) (room_fault ls free) c;
      }

  pub fault_none : NoFault state t p ls free → bag_fault state t p ls free ≡ 0
  unfolding bag_fault
  fault_none n =
      or_none state (or_else (many_fault ls) late) n.state_none ∙ or_none (many_fault ls) late n.few ∙ or_none (frames_fault t p ls) last n.frames
      ∙ or_none (probe_fault t p) (room_fault ls free) n.probe ∙ n.room
