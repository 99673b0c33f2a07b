-- Beside the claims about the run: the ends called alone, each on its own bytes of the fleet's record. The sentences are those of document 01, "The ends and their frames", and of 02, No. 2 and No. 9: "Where 01 calls an end alone on its own bytes, it now gets their maps."
use Rattle.std.specs.Prelude.{ℕ, ◌≤◌, ◌<◌, ◌≡◌, ◌↔◌, ◌⊎◌, true, List, ◌∷◌, ◌++◌, length}
use Rattle.std.proofs.lemmas.List.Edits.{sets}
use Rattle.wake_log.specs.declared.What.TheVariants.{Restarted}
use Rattle.wake_log.specs.declared.Answer.TheVariants.{Logged}
use Rattle.table.specs.Table.{Table}
use Rattle.probe_frame.specs.Frame.{frame_of}
use Rattle.probe_record.specs.Record.{fresh}
use Rattle.probe_rules.specs.declared.Event.{Event}
use Rattle.probe_rules.specs.declared.Event.TheVariants.{Opening}
use Rattle.probe_rules.specs.Rules.{sendable}
use Rattle.probe_rules.specs.Frames.{heard_of}
use Rattle.probe_rules.specs.Within.{OwnLink}
use Rattle.probe.specs.declared.Kind.{Kind}
use Rattle.probe.specs.declared.Asked.{Asked}
use Rattle.probe.specs.declared.Asked.TheVariants.{Written}
use Rattle.probe_maps.specs.Maps.{Maps, maps_of, state_fault}
use Rattle.probe_maps.specs.SameRecords.{SameRecord}
use Rattle.probe_checks.specs.Checks.{link_call_fault}
use Rattle.probe.specs.Answers.{Befallen, opens_fault, hears_fault, AsksFor, asked_event, asked_frame, asked_line}
use Rattle.fleet_theory.specs.Fleet.{State, start, own, marks, fault_of, answer_to, next, run}
use Rattle.table.specs.Slices.{Slices, table_of}
use Rattle.fleet_theory.specs.Words.{IsFrame, MaySend, IsRestart}

-- the line l at the state s, and the probe `to` called alone: `event` is what reaches it, `fault` the fault of its call
module _ (x : Slices) (room : ℕ) (s : State) (l : List ℕ) where
  abbrev receiver : ℕ
  receiver = (frame_of l).to

  abbrev own_before : ℕ → List ℕ
  own_before p = own (table_of x) p s.bytes

  abbrev own_after : ℕ → List ℕ
  own_after p = own (table_of x) p (next x room s l).bytes

  pub record SameAlone (event : Event) (fault : ℕ) : Type 0 where
    pub no_fault : fault ≡ 0
    -- "leaves the same bytes and the same entry": the fleet's answer, and the maps of the own bytes in its next record, are what the call promises
    pub promised : Befallen fault (table_of x) receiver event (answer_to x room s l) (maps_of x.links (own_before receiver)) (maps_of x.links (own_after receiver))
    -- and no byte of another end is altered
    pub others_same : (p : ℕ) → (p ≡ receiver → ⊥) → own_after p ≡ own_before p

  -- a restart of the probe `to`
  pub record MadeFresh : Type 0 where
    -- "A wipe is logged as 08, without a link."
    pub logged : answer_to x room s l ≡ Logged (record { probe = receiver; what = Restarted })
    pub own_fresh : own_after receiver ≡ fresh (table_of x)
    pub others_same : (p : ℕ) → (p ≡ receiver → ⊥) → own_after p ≡ own_before p
    pub marks_stay : (p : ℕ) → marks (table_of x) p (next x room s l).bytes ≡ marks (table_of x) p s.bytes

module _ (x : Slices) (room : ℕ) (ls : List (List ℕ)) where
  abbrev t : Table
  t = table_of x

  -- the state after the lines xs, and an end's own bytes then, with their maps
  abbrev state_after : List (List ℕ) → State
  state_after xs = run x room (start x) xs

  abbrev own_bytes : ℕ → List (List ℕ) → List ℕ
  own_bytes p xs = own t p (state_after xs).bytes

  abbrev own_maps : ℕ → List (List ℕ) → Maps
  own_maps p xs = maps_of x.links (own_bytes p xs)

  pub record EndsAlone : Type 0 where
    -- "The list starts from a fresh fleet's record": each end's own bytes are then fresh
    pub own_start : (p : ℕ) → own t p (start x).bytes ≡ fresh t
    -- "The old bytes and the maps .. stand for the same records": at any moment each end's own bytes and the maps that it gets
    pub own_same : (xs ys : List (List ℕ)) → ls ≡ xs ++ ys → (p : ℕ) → SameRecord x.links (own_maps p xs) (own_bytes p xs)
    -- "For each opening or frame that the fleet accepts .. the end that opens or hears, called alone on its own bytes of the fleet's record with an entry free"
    pub opens_hears_or_restarts : (xs ys : List (List ℕ)) (l : List ℕ) → ls ≡ xs ++ l ∷ ys → fault_of x room (state_after xs) l ≡ 0
        → ((frame_of l).kind ≡ 0) ⊎ (IsFrame (frame_of l) ⊎ IsRestart t l)
    pub opens_alone : (xs ys : List (List ℕ)) (l : List ℕ) → ls ≡ xs ++ l ∷ ys → fault_of x room (state_after xs) l ≡ 0 → (frame_of l).kind ≡ 0
        → (free : ℕ) → 0 < free
        → let p = (frame_of l).to in
        SameAlone x room (state_after xs) l Opening (opens_fault x p (own_maps p xs) free)
    pub hears_alone : (xs ys : List (List ℕ)) (l : List ℕ) → ls ≡ xs ++ l ∷ ys → fault_of x room (state_after xs) l ≡ 0 → IsFrame (frame_of l)
        → (free : ℕ) → 0 < free
        → let p = (frame_of l).to in
        SameAlone x room (state_after xs) l (heard_of t (frame_of l)) (hears_fault x p (own_maps p xs) l free)
    -- 02, No. 2: a restart "makes that probe fresh", no byte of another end is altered, and "a wipe leaves" the marks
    pub restarts_fresh : (xs ys : List (List ℕ)) (l : List ℕ) → ls ≡ xs ++ l ∷ ys → fault_of x room (state_after xs) l ≡ 0 → IsRestart t l
        → MadeFresh x room (state_after xs) l
    -- "at any moment of such a list, asked alone on its own bytes with room for the line, it writes the frame exactly when that frame may then be sent"
    pub asked_passes : (xs ys : List (List ℕ)) → ls ≡ xs ++ ys → (p i : ℕ) → OwnLink t p i → link_call_fault (state_fault x p (own_maps p xs)) t p i ≡ 0
    pub asked_may_send : (xs ys : List (List ℕ)) → ls ≡ xs ++ ys → (k : Kind) (p i : ℕ) → OwnLink t p i
        → (sendable (asked_event k i) (own_bytes p xs) ≡ true) ↔ MaySend t (state_after xs).bytes (asked_frame t p k i)
    pub asked_writes : (xs ys : List (List ℕ)) → ls ≡ xs ++ ys → (k : Kind) (p i : ℕ) → OwnLink t p i
        → (out : List ℕ) → 15 ≤ length out → (r : Asked) (out' : List ℕ) → AsksFor x p k i (own_maps p xs) r out out'
        → ((r ≡ Written) × (out' ≡ sets out 0 (asked_line t p k i))) ↔ MaySend t (state_after xs).bytes (asked_frame t p k i)
