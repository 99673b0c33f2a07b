-- A bag of frames. The sentences are those of document 02, No. 7.
use Rattle.std.specs.Prelude.{ℕ, ◌-◌, ◌≡◌, cond, List, [], ◌∷◌, ltb, eqb, length}
use Rattle.std.proofs.lemmas.List.Edits.{sets}
use Rattle.range.specs.First.{or_else}
use Rattle.range.specs.Reply.{Reply, refusal, values, reply_of}
use Rattle.lines.specs.Line.{lines_from}
use Rattle.table.specs.Table.{Table}
use Rattle.table.specs.Slices.{Slices, table_of}
use Rattle.wake_log.specs.declared.Entry.{Entry}
use Rattle.probe_frame.specs.Frame.{frame_of}
use Rattle.probe_rules.specs.declared.Event.{Event}
use Rattle.probe_rules.specs.Rules.{befalls, alter, entry_of}
use Rattle.probe_rules.specs.Frames.{heard_of}
use Rattle.probe_maps.specs.Maps.{Maps, state_fault}
use Rattle.probe_maps.specs.MapRules.{befalls_maps, alter_maps}
use Rattle.probe_checks.specs.Checks.{heard_fault, probe_fault}
use Rattle.probe_bags.specs.declared.Hearing.{Hearing}
use Rattle.probe_bags.specs.declared.Hearing.TheVariants.{Heard, Refused}

-- "A frame ends at its line feed; a last piece without one counts as a frame"
abbrev pub frames_of : List ℕ → List (List ℕ)
frames_of bag = lines_from [] bag

-- what the frames say
unfoldable pub events_of : Table → List (List ℕ) → List Event
events_of t [] = []
events_of t (l ∷ ls) = heard_of t (frame_of l) ∷ events_of t ls

-- "The record afterwards is the one that hearing them singly would give": the end p, from the maps m
unfoldable pub maps_after : Table → ℕ → List Event → Maps → Maps
maps_after t p [] m = m
maps_after t p (v ∷ vs) m = maps_after t p vs (alter_maps t.links (befalls_maps t p v m) m)

-- "Each frame has its log entry, in the bag's order."
unfoldable pub entries_after : Table → ℕ → List Event → Maps → List Entry
entries_after t p [] m = []
entries_after t p (v ∷ vs) m = entry_of t p (befalls_maps t p v m) ∷ entries_after t p vs (alter_maps t.links (befalls_maps t p v m) m)

-- the same on the bytes of the record, by 01's rules
unfoldable pub bytes_by_rules : Table → ℕ → List Event → List ℕ → List ℕ
bytes_by_rules t p [] e = e
bytes_by_rules t p (v ∷ vs) e = bytes_by_rules t p vs (alter (befalls t p v e) e)

unfoldable pub entries_by_rules : Table → ℕ → List Event → List ℕ → List Entry
entries_by_rules t p [] e = []
entries_by_rules t p (v ∷ vs) e = entry_of t p (befalls t p v e) ∷ entries_by_rules t p vs (alter (befalls t p v e) e)

-- "If a frame of the bag is refused, the whole bag is, by the number of its first bad frame."
unfoldable pub frames_fault : Table → ℕ → List (List ℕ) → ℕ
frames_fault t p [] = 0
frames_fault t p (l ∷ ls) = or_else (heard_fault t p l) (frames_fault t p ls)

-- 32: "more than 64 frames"
abbrev pub many_fault : List (List ℕ) → ℕ
many_fault ls = cond (ltb 64 (length ls)) 32 0

-- 26: "if the log has fewer free entries than the bag has frames"
abbrev pub room_fault : List (List ℕ) → ℕ → ℕ
room_fault ls free = cond (ltb free (length ls)) 26 0

-- "32: .. after 22 and before the frames are looked at; 26 for the whole bag, after every frame's own refusals"; `state` is the fault of table and record.
-- 24 of the probe itself stands behind the frames', since a frame for a missing probe has its own 24: it shows where the bag is empty.
unfoldable pub bag_fault : ℕ → Table → ℕ → List (List ℕ) → ℕ → ℕ
bag_fault state t p ls free = or_else state (or_else (many_fault ls) (or_else (frames_fault t p ls) (or_else (probe_fault t p) (room_fault ls free))))

-- how many frames were heard
abbrev pub hearing_reply : Hearing → Reply
hearing_reply (Heard n) = values (n ∷ [])
hearing_reply (Refused n) = refusal n

abbrev pub hearing_of : ℕ → ℕ → Hearing
hearing_of fault n = cond (eqb fault 0) (Heard n) (Refused fault)

-- a bag of the frames ls, heard by the end p or refused: the answer, the maps, and the entries behind the used ones of the log
pub record HeardBag (fault : ℕ) (t : Table) (p : ℕ) (ls : List (List ℕ)) (r : Hearing) (before after : Maps) (used : ℕ) (log log' : List Entry) : Type 0 where
  pub answer : hearing_reply r ≡ reply_of fault (length ls ∷ [])
  pub maps_after_lem : after ≡ cond (eqb fault 0) (maps_after t p (events_of t ls) before) before
  pub log_after : log' ≡ cond (eqb fault 0) (sets log used (entries_after t p (events_of t ls) before)) log

-- The call of the end p, over the table in its slices, the maps of its record, and its log.

abbrev pub hears_bag_fault : Slices → ℕ → Maps → List ℕ → ℕ → ℕ
hears_bag_fault x p m bag free = bag_fault (state_fault x p m) (table_of x) p (frames_of bag) free

abbrev pub HearsBag : Slices → ℕ → List ℕ → Hearing → Maps → Maps → ℕ → List Entry → List Entry → Type 0
HearsBag x p bag r before after used log log' =
    HeardBag (hears_bag_fault x p before bag (length log - used)) (table_of x) p (frames_of bag) r before after used log log'
