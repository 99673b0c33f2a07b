-- What the functions of one end for C and Rust promise: the answer as one number, and the lent slices as the functions that are called leave them.
-- A refusal is its number; any other answer is `answer_base` or more. A log has packed entries.
use Rattle.std.specs.Prelude.{ℕ, ◌-◌, ◌≡◌, cond, List, [], ◌∷◌, map, eqb, length}
use Rattle.std.proofs.lemmas.List.Edits.{sets}
use Rattle.range.specs.Reply.{reply_of}
use Rattle.table.specs.Table.{Table}
use Rattle.table.specs.Slices.{Slices, table_of}
use Rattle.probe_frame.specs.Frame.{frame_of}
use Rattle.wake_log.specs.Entry.{answer_of}
use Rattle.probe_rules.specs.declared.Event.{Event}
use Rattle.probe_rules.specs.declared.Event.TheVariants.{Opening}
use Rattle.probe_rules.specs.Rules.{entry_of, sendable}
use Rattle.probe_rules.specs.Frames.{heard_of}
use Rattle.probe_maps.specs.Maps.{Maps, bytes_of}
use Rattle.probe_maps.specs.MapRules.{befalls_maps}
use Rattle.probe.specs.Answers.{Befallen, asked_event, asked_out, opens_fault, hears_fault, ask_fault}
use Rattle.probe.specs.declared.Kind.{Kind}
use Rattle.probe_turning.specs.Turned.{to_maps_fault, to_bytes_fault, turned_maps, turned_bytes}
use Rattle.probe_bags.specs.Bag.{frames_of, events_of, maps_after, entries_after, hears_bag_fault}
use Rattle.packed_answers.specs.Packed.{packed_value, packed_entry, packed_answer, packed_after}

pub record BefallenPacked (fault : ℕ) (t : Table) (p : ℕ) (event : Event) (r : ℕ) (before after : Maps) : Type 0 where
  pub answer : r ≡ packed_answer (answer_of fault (entry_of t p (befalls_maps t p event before)))
  pub lent : Befallen fault t p event (answer_of fault (entry_of t p (befalls_maps t p event before))) before after

pub record AsksPacked (fault : ℕ) (t : Table) (p : ℕ) (k : Kind) (i : ℕ) (e : List ℕ) (r : ℕ) (before after : List ℕ) : Type 0 where
  pub answer : r ≡ packed_value (reply_of fault (cond (sendable (asked_event k i) e) 1 0 ∷ []))
  pub line : after ≡ asked_out fault t p k i e before

-- an event with a log: the entry stands behind its used ones, or it is unchanged
pub record LogsAtEndPacked (fault : ℕ) (t : Table) (p : ℕ) (event : Event) (r : ℕ) (before after : Maps) (used : ℕ) (log log' : List ℕ) : Type 0 where
  pub befallen : BefallenPacked fault t p event r before after
  pub log_after : log' ≡ packed_after log used (answer_of fault (entry_of t p (befalls_maps t p event before)))

-- a bag with a log: the entries stand behind its used ones, or it is unchanged
pub record HeardBagPacked (fault : ℕ) (t : Table) (p : ℕ) (ls : List (List ℕ)) (r : ℕ) (before after : Maps) (used : ℕ) (log log' : List ℕ) : Type 0 where
  pub answer : r ≡ packed_value (reply_of fault (length ls ∷ []))
  pub maps_after_lem : after ≡ cond (eqb fault 0) (maps_after t p (events_of t ls) before) before
  pub log_after : log' ≡ cond (eqb fault 0) (sets log used (map packed_entry (entries_after t p (events_of t ls) before))) log

-- The calls of the end p, over the table in its slices: as `Opens`, `Hears` and `AsksFor`, the answer packed.

abbrev pub OpensPacked : Slices → ℕ → ℕ → ℕ → Maps → Maps → Type 0
OpensPacked x p free r before after = BefallenPacked (opens_fault x p before free) (table_of x) p Opening r before after

abbrev pub HearsPacked : Slices → ℕ → List ℕ → ℕ → ℕ → Maps → Maps → Type 0
HearsPacked x p frame free r before after =
    BefallenPacked (hears_fault x p before frame free) (table_of x) p (heard_of (table_of x) (frame_of frame)) r before after

abbrev pub AsksForPacked : Slices → ℕ → Kind → ℕ → Maps → ℕ → List ℕ → List ℕ → Type 0
AsksForPacked x p k i m r before after = AsksPacked (ask_fault x p i m before) (table_of x) p k i (bytes_of x.links m) r before after

abbrev pub OpensLoggedPacked : Slices → ℕ → ℕ → Maps → Maps → ℕ → List ℕ → List ℕ → Type 0
OpensLoggedPacked x p r before after used log log' =
    LogsAtEndPacked (opens_fault x p before (length log - used)) (table_of x) p Opening r before after used log log'

abbrev pub HearsLoggedPacked : Slices → ℕ → List ℕ → ℕ → Maps → Maps → ℕ → List ℕ → List ℕ → Type 0
HearsLoggedPacked x p frame r before after used log log' =
    LogsAtEndPacked (hears_fault x p before frame (length log - used)) (table_of x) p (heard_of (table_of x) (frame_of frame)) r before after used log log'

-- as `HearsBag`
abbrev pub HearsBagPacked : Slices → ℕ → List ℕ → ℕ → Maps → Maps → ℕ → List ℕ → List ℕ → Type 0
HearsBagPacked x p bag r before after used log log' =
    HeardBagPacked (hears_bag_fault x p before bag (length log - used)) (table_of x) p (frames_of bag) r before after used log log'

-- Turning: as `TurnsToMaps` and `TurnsToBytes`, the answer packed.

pub record TurnsToMapsPacked (x : Slices) (p : ℕ) (e : List ℕ) (r : ℕ) (before after : Maps) : Type 0 where
  pub answer : r ≡ packed_value (reply_of (to_maps_fault x p e before) [])
  pub maps_after_lem : after ≡ turned_maps x p e before

pub record TurnsToBytesPacked (x : Slices) (p : ℕ) (m : Maps) (r : ℕ) (before after : List ℕ) : Type 0 where
  pub answer : r ≡ packed_value (reply_of (to_bytes_fault x p m before) [])
  pub bytes_after_lem : after ≡ turned_bytes x p m before
