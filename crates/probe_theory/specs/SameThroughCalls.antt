-- 02, No. 9: "The old bytes and the maps are proved to stand for the same records through every call": the theorem is `same_through_calls`.
use Rattle.std.specs.Prelude.{ℕ, ◌≡◌, cond, List, [], ◌∷◌, eqb, length}
use Rattle.range.specs.First.{or_else}
use Rattle.range.specs.Reply.{reply_of}
use Rattle.table.specs.Table.{Table}
use Rattle.table.specs.Legal.{lent_fault}
use Rattle.table.specs.Slices.{Slices, table_of, slices_fault}
use Rattle.probe_frame.specs.Frame.{frame_of}
use Rattle.probe_record.specs.Record.{record_fault}
use Rattle.wake_log.specs.declared.Answer.{Answer}
use Rattle.wake_log.specs.Entry.{answer_of}
use Rattle.probe_rules.specs.declared.Event.{Event}
use Rattle.probe_rules.specs.declared.Event.TheVariants.{Opening}
use Rattle.probe_rules.specs.Rules.{befalls, alter, entry_of, rests}
use Rattle.probe_rules.specs.Frames.{heard_of}
use Rattle.probe_maps.specs.Maps.{Maps}
use Rattle.probe_maps.specs.SameRecords.{SameRecord}
use Rattle.probe_checks.specs.Checks.{hear_fault, open_fault, link_call_fault}
use Rattle.probe.specs.declared.Kind.{Kind}
use Rattle.probe.specs.declared.Asked.{Asked}
use Rattle.probe.specs.Answers.{Opens, Hears, Asks, AsksFor, whether_rests}

-- what 01's rules make of the bytes: the answer to an event, and the record after it
pub record OnBytes (fault : ℕ) (t : Table) (p : ℕ) (event : Event) (r : Answer) (e e' : List ℕ) : Type 0 where
  pub answer : r ≡ answer_of fault (entry_of t p (befalls t p event e))
  pub bytes_after_lem : e' ≡ cond (eqb fault 0) (alter (befalls t p event e) e) e

-- the end p, called on the maps m of the bytes e
module _ (x : Slices) (p : ℕ) where
  abbrev t : Table
  t = table_of x

  -- the fault of table and record, by the bytes: "20, 21, 22"
  abbrev pub state_of_bytes : List ℕ → ℕ
  state_of_bytes e = or_else (slices_fault x) (record_fault t p e)

  pub record SameThroughCalls : Type 0 where
    -- "Opening": the maps that it leaves stand for the record that 01's rules leave of the bytes, and the answer is theirs, refusals too
    pub opens : (free : ℕ) (r : Answer) (m m' : Maps) (e : List ℕ) → SameRecord x.links m e → Opens x p free r m m'
        → (e' : List ℕ) × SameRecord x.links m' e' × OnBytes (open_fault (state_of_bytes e) t p free) t p Opening r e e'
    -- "Offer heard", "Refusal heard": the same, for a frame of any bytes
    pub hears : (frame : List ℕ) (free : ℕ) (r : Answer) (m m' : Maps) (e : List ℕ) → SameRecord x.links m e → Hears x p frame free r m m'
        → (e' : List ℕ) × SameRecord x.links m' e' × OnBytes (hear_fault (state_of_bytes e) t p frame free) t p (heard_of t (frame_of frame)) r e e'
    -- "Asked for either on a link": it answers and writes what it does by the bytes
    pub asks : (k : Kind) (i : ℕ) (m : Maps) (e : List ℕ) (r : Asked) (out out' : List ℕ) → SameRecord x.links m e → AsksFor x p k i m r out out'
        → Asks (or_else (lent_fault (length out) 15) (link_call_fault (state_of_bytes e) t p i)) t p k i e r out out'
    -- "A probe rests a link when its own two bytes are both 1."
    pub rests : (i : ℕ) (m : Maps) (e : List ℕ) → SameRecord x.links m e
        → whether_rests x p m i ≡ reply_of (link_call_fault (state_of_bytes e) t p i) (cond (rests e i) 1 0 ∷ [])
