-- Beside demand 3: the ends called alone, each on its own bytes of the fleet's record, in slices of the table of its own. The sentences are those of document 01, "The ends and their frames", and of 02, No. 2 and No. 9: "Where 01 calls an end alone on its own bytes, it now gets their maps."
use Rattle.std.specs.Prelude.{ℕ, ◌≤◌, ◌<◌, ◌≡◌, ◌↔◌, List, ◌∷◌, ◌++◌, length}
use Rattle.std.proofs.lemmas.List.Edits.{sets}
use Rattle.table.specs.Table.{Table}
use Rattle.table.specs.Slices.{Slices, table_of}
use Rattle.probe_frame.specs.Frame.{frame_of}
use Rattle.probe_record.specs.Record.{fresh}
use Rattle.wake_log.specs.declared.Entry.{Entry}
use Rattle.wake_log.specs.declared.What.TheVariants.{Restarted}
use Rattle.wake_log.specs.declared.Answer.{Answer}
use Rattle.wake_log.specs.declared.Answer.TheVariants.{Logged}
use Rattle.probe_rules.specs.Within.{OwnLink}
use Rattle.probe_maps.specs.Maps.{Maps, maps_of}
use Rattle.probe_maps.specs.SameRecords.{SameRecord}
use Rattle.probe.specs.declared.Kind.{Kind}
use Rattle.probe.specs.declared.Asked.{Asked}
use Rattle.probe.specs.declared.Asked.TheVariants.{Written}
use Rattle.probe.specs.declared.Resting.{Resting}
use Rattle.probe.specs.declared.Resting.TheVariants.{Rests}
use Rattle.probe.specs.Answers.{Opens, Hears, AsksFor, asked_frame, asked_line, resting_reply, whether_rests}
use Rattle.fleet_theory.specs.Fleet.{own, marks}
use Rattle.fleet_theory.specs.Words.{IsFrame, MaySend, end_rests, IsRestart}
use Rattle.fleet_calls.specs.Calls.{SameTable, LoggedCall, fresh_logged, left_after_logged}

module _ (x : Slices) (log : List Entry) (cs : List LoggedCall) where
  abbrev t : Table
  t = table_of x

  -- the fleet's record after the calls `before`, an end's own bytes of it, and their maps
  abbrev bytes_at : List LoggedCall → List ℕ
  bytes_at before = (left_after_logged (fresh_logged x log) before).bytes

  abbrev own_at : List LoggedCall → ℕ → List ℕ
  own_at before p = own t p (bytes_at before)

  abbrev maps_at : List LoggedCall → ℕ → Maps
  maps_at before p = maps_of x.links (own_at before p)

  -- the call c, at its place in the list, is accepted
  pub record AcceptedAt (before later : List LoggedCall) (c : LoggedCall) : Type 0 where
    pub place : cs ≡ before ++ c ∷ later
    pub entry : Entry
    pub logged : c.answer ≡ Logged entry

  -- "leaves the same bytes and the same entry": the end p answers `r` and leaves `maps'`, the maps of the same bytes
  abbrev pub SameAsFleet : LoggedCall → ℕ → Answer → Maps → Type 0
  SameAsFleet c p r maps' = (r ≡ c.answer) × (maps' ≡ maps_of x.links (own t p c.bytes))

  pub record EndsOfCalls : Type 0 where
    -- "The old bytes and the maps .. stand for the same records": at any moment an end's own bytes and the maps that it gets
    pub own_same : (before later : List LoggedCall) → cs ≡ before ++ later → (p : ℕ) → SameRecord x.links (maps_at before p) (own_at before p)
    -- "For each opening or frame that the fleet accepts .. the end that opens or hears, called alone on its own bytes of the fleet's record with an entry free"
    pub opens_alone : (before later : List LoggedCall) (c : LoggedCall) → AcceptedAt before later c → (frame_of c.line).kind ≡ 0
        → (y : Slices) → SameTable y x → (free : ℕ) → 0 < free → (r : Answer) (maps' : Maps)
        → (let p = (frame_of c.line).to in Opens y p free r (maps_at before p) maps' → SameAsFleet c p r maps')
    pub hears_alone : (before later : List LoggedCall) (c : LoggedCall) → AcceptedAt before later c → IsFrame (frame_of c.line)
        → (y : Slices) → SameTable y x → (free : ℕ) → 0 < free → (r : Answer) (maps' : Maps)
        → (let p = (frame_of c.line).to in Hears y p c.line free r (maps_at before p) maps' → SameAsFleet c p r maps')
    -- and no byte of another end is altered
    pub others_same : (before later : List LoggedCall) (c : LoggedCall) → AcceptedAt before later c
        → (p : ℕ) → (p ≡ (frame_of c.line).to → ⊥) → own t p c.bytes ≡ own_at before p
    -- 02, No. 2: a restart "makes that probe fresh", "is logged as 08, without a link", and "leaves" the marks
    pub restarts_fresh : (before later : List LoggedCall) (c : LoggedCall) → AcceptedAt before later c → IsRestart t c.line
        → (let p = (frame_of c.line).to in
        (c.answer ≡ Logged (record { probe = p; what = Restarted })) × (own t p c.bytes ≡ fresh t) × ((q : ℕ) → marks t q c.bytes ≡ marks t q (bytes_at before)))
    -- "at any moment of such a list, asked alone on its own bytes with room for the line, it writes the frame exactly when that frame may then be sent"
    pub asked_writes : (before later : List LoggedCall) → cs ≡ before ++ later → (k : Kind) (p i : ℕ) → OwnLink t p i
        → (y : Slices) → SameTable y x → (out : List ℕ) → 15 ≤ length out → (r : Asked) (out' : List ℕ) → AsksFor y p k i (maps_at before p) r out out'
        → ((r ≡ Written) × (out' ≡ sets out 0 (asked_line t p k i))) ↔ MaySend t (bytes_at before) (asked_frame t p k i)
    -- "A probe rests a link when its own two bytes are both 1": at any moment, called alone on its own bytes, it says so, and refuses nothing
    pub rests_alone : (before later : List LoggedCall) → cs ≡ before ++ later → (p i : ℕ) → OwnLink t p i
        → (y : Slices) → SameTable y x → (q : Resting) → resting_reply q ≡ whether_rests y p (maps_at before p) i → q ≡ Rests (end_rests t (bytes_at before) p i)
