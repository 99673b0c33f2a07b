-- 02, No. 9: "The old bytes and the maps are proved to stand for the same records through every call", with a wake log: the theorem is `same_through_logs`.
use Rattle.std.specs.Prelude.{ℕ, ◌-◌, ◌≡◌, cond, List, eqb, length, set}
use Rattle.table.specs.Table.{Table}
use Rattle.table.specs.Slices.{Slices, table_of}
use Rattle.probe_frame.specs.Frame.{frame_of}
use Rattle.wake_log.specs.declared.Entry.{Entry}
use Rattle.wake_log.specs.declared.Answer.{Answer}
use Rattle.probe_rules.specs.declared.Event.{Event}
use Rattle.probe_rules.specs.declared.Event.TheVariants.{Opening}
use Rattle.probe_rules.specs.Rules.{befalls, entry_of}
use Rattle.probe_rules.specs.Frames.{heard_of}
use Rattle.probe_maps.specs.Maps.{Maps}
use Rattle.probe_maps.specs.SameRecords.{SameRecord}
use Rattle.probe_checks.specs.Checks.{hear_fault, open_fault}
use Rattle.probe_theory.specs.SameThroughCalls.{OnBytes, state_of_bytes}
use Rattle.probe_log.specs.Logged.{OpensLogged, HearsLogged}

-- what 01's rules make of the bytes and of the log: the answer to an event, the record after it, and its entry behind the used ones
pub record OnBytesLogged (fault : ℕ) (t : Table) (p : ℕ) (event : Event) (r : Answer) (e e' : List ℕ) (used : ℕ) (log log' : List Entry) : Type 0 where
  pub on_bytes : OnBytes fault t p event r e e'
  pub log_after : log' ≡ cond (eqb fault 0) (set log used (entry_of t p (befalls t p event e))) log

-- the end p, called with a log on the maps m of the bytes e
pub record SameThroughLogs (x : Slices) (p : ℕ) : Type 0 where
  -- "Opening": the maps that it leaves stand for the record that 01's rules leave of the bytes, and answer and log are theirs, refusals too
  pub opens_logged : (r : Answer) (m m' : Maps) (used : ℕ) (log log' : List Entry) (e : List ℕ) → SameRecord x.links m e
      → OpensLogged x p r m m' used log log'
      → (e' : List ℕ) × SameRecord x.links m' e'
      × OnBytesLogged (open_fault (state_of_bytes x p e) (table_of x) p (length log - used)) (table_of x) p Opening r e e' used log log'
  -- "Offer heard", "Refusal heard": the same, for a frame of any bytes
  pub hears_logged : (frame : List ℕ) (r : Answer) (m m' : Maps) (used : ℕ) (log log' : List Entry) (e : List ℕ) → SameRecord x.links m e
      → HearsLogged x p frame r m m' used log log'
      → (e' : List ℕ) × SameRecord x.links m' e'
      × OnBytesLogged (hear_fault (state_of_bytes x p e) (table_of x) p frame (length log - used)) (table_of x) p (heard_of (table_of x) (frame_of frame)) r e e' used log log'
