-- The steps of a bag: frames that pass say events on own links, maps stay usable through them, and only what a table is read for counts.
use Prim.Native.Nat.{ℕ, suc}
use mathlib.Core.Path.{◌≡◌, refl, sym, ◌∙◌, ap}
use mathlib.Core.Bool.{Bool, true, false, cond}
use mathlib.Core.List.{List, [], ◌∷◌}
use lib.Dec.{eqb}
use lib.ListN.{length}
use Rattle.range.proofs.Faults.{or_none, or_some, or_left, or_right, or_same}
use Rattle.table.specs.Table.{Table, of_slices, between}
use Rattle.table.specs.Legal.{RisingLinks}
use Rattle.wake_log.specs.declared.Entry.{Entry}
use Rattle.probe_frame.specs.Frame.{Frame, frame_of}
use Rattle.probe_rules.specs.declared.Event.{Event}
use Rattle.probe_rules.specs.declared.Event.TheVariants.{Offer, Refusal}
use Rattle.probe_rules.specs.declared.Outcome.{Outcome}
use Rattle.probe_rules.specs.Rules.{entry_of}
use Rattle.probe_rules.specs.Frames.{heard_of}
use Rattle.probe_rules.specs.Within.{IsHeard, OwnEvent}
use Rattle.probe_rules.proofs.Befalls.{befell_rising, own_within}
use Rattle.probe_rules.proofs.OutcomeLaws.{entry_same, befalls_same}
use Rattle.probe_maps.specs.Maps.{Maps, bytes_of}
use Rattle.probe_maps.specs.GoodMaps.{GoodMaps}
use Rattle.probe_maps.specs.MapRules.{befalls_maps, alter_maps}
use Rattle.probe_maps.proofs.Faults.{record_good_maps, maps_good_record}
use Rattle.probe_checks.specs.Checks.{heard_fault}
use Rattle.probe_theory.proofs.Usable.{befell_good}
use Rattle.probe_theory.proofs.EndLaws.{heard_own}
use Rattle.probe_bags.specs.Bag.{events_of, maps_after, entries_after, frames_fault}

-- what befalls good maps leaves good ones
pub good_step : (t : Table) → RisingLinks t → (p : ℕ) (m : Maps) → GoodMaps t p m → (v : Event) → OwnEvent t p v
    → GoodMaps t p (alter_maps t.links (befalls_maps t p v m) m)
good_step t rises p m good v own =
    let e = bytes_of t.links m in
    record_good_maps t p _ (befell_good t p e (maps_good_record t p m good) (befell_rising t rises p e v (own_within t p v own)) own)

-- a frame is no opening
pub all_frames : (t : Table) (f : Frame) → IsHeard (heard_of t f)
all_frames t f = go (eqb f.kind 1)
  where
    i : ℕ
    i = between t f.from f.to

    go : (b : Bool) → IsHeard (cond b (Offer i) (Refusal i))
    go true = tt
    go false = tt

-- One frame after the other: the first, and then the others from what it leaves.

-- "hearing them singly"
pub maps_next : (t : Table) (p : ℕ) (v : Event) (vs : List Event) (m : Maps)
    → maps_after t p (v ∷ vs) m ≡ maps_after t p vs (alter_maps t.links (befalls_maps t p v m) m)
unfolding maps_after
maps_next t p v vs m = refl

-- "in the bag's order"
pub entries_next : (t : Table) (p : ℕ) (v : Event) (vs : List Event) (m : Maps)
    → entries_after t p (v ∷ vs) m ≡ entry_of t p (befalls_maps t p v m) ∷ entries_after t p vs (alter_maps t.links (befalls_maps t p v m) m)
unfolding entries_after
entries_next t p v vs m = refl

-- "by the number of its first bad frame"
pub bad_first : (t : Table) (p : ℕ) (l : List ℕ) (ls : List (List ℕ)) → (heard_fault t p l ≡ 0 → ⊥) → frames_fault t p (l ∷ ls) ≡ heard_fault t p l
unfolding frames_fault
bad_first t p l ls = or_some (heard_fault t p l) (frames_fault t p ls)

pub good_first : (t : Table) (p : ℕ) (l : List ℕ) (ls : List (List ℕ)) → heard_fault t p l ≡ 0 → frames_fault t p (l ∷ ls) ≡ frames_fault t p ls
unfolding frames_fault
good_first t p l ls = or_none (heard_fault t p l) (frames_fault t p ls)

pub length_events : (t : Table) (ls : List (List ℕ)) → length (events_of t ls) ≡ length ls
unfolding events_of
length_events t [] = refl
length_events t (l ∷ ls) = ap suc (length_events t ls)

pub length_entries : (t : Table) (p : ℕ) (vs : List Event) (m : Maps) → length (entries_after t p vs m) ≡ length vs
unfolding entries_after
length_entries t p [] m = refl
length_entries t p (v ∷ vs) m = ap suc (length_entries t p vs (alter_maps t.links (befalls_maps t p v m) m))

-- the first frame passes, and so do those behind it
pub frames_parts : (t : Table) (p : ℕ) (l : List ℕ) (ls : List (List ℕ)) → frames_fault t p (l ∷ ls) ≡ 0 → (heard_fault t p l ≡ 0) × (frames_fault t p ls ≡ 0)
unfolding frames_fault
frames_parts t p l ls z = (or_left (heard_fault t p l) (frames_fault t p ls) z, or_right (heard_fault t p l) (frames_fault t p ls) z)

-- every event is on an own link
abbrev pub AllOwn : Table → ℕ → List Event → Type 0
AllOwn t p [] = Unit
AllOwn t p (v ∷ vs) = OwnEvent t p v × AllOwn t p vs

pub all_own : (t : Table) (p : ℕ) (ls : List (List ℕ)) → frames_fault t p ls ≡ 0 → AllOwn t p (events_of t ls)
unfolding events_of
all_own t p [] z = tt
all_own t p (l ∷ ls) z =
    let a = frames_parts t p l ls z in
    (heard_own t p l a.0, all_own t p ls a.1)

-- Frames are read by the table's number and the ends of its links alone.
module _ (number links : ℕ) (lows highs : List ℕ) (probes probes' : ℕ) (needs needs' costs costs' : List ℕ) where
  abbrev one : Table
  one = of_slices number probes links needs lows highs costs

  abbrev two : Table
  two = of_slices number probes' links needs' lows highs costs'

  fault_same : (p : ℕ) (l : List ℕ) → heard_fault one p l ≡ heard_fault two p l
  unfolding heard_fault
  fault_same p l = refl

  pub faults_same : (p : ℕ) (ls : List (List ℕ))
      → frames_fault (of_slices number probes links needs lows highs costs) p ls ≡ frames_fault (of_slices number probes' links needs' lows highs costs') p ls
  unfolding frames_fault
  faults_same p [] = refl
  faults_same p (l ∷ ls) = or_same (fault_same p l) (faults_same p ls)

  pub events_same : (ls : List (List ℕ))
      → events_of (of_slices number probes links needs lows highs costs) ls ≡ events_of (of_slices number probes' links needs' lows highs costs') ls
  unfolding events_of
  events_same [] = refl
  events_same (l ∷ ls) = ap (λ (vs : List Event). heard_of two (frame_of l) ∷ vs) (events_same ls)
