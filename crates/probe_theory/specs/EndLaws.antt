-- Laws of one end. The sentences are those of document 01, "The ends and their frames".
use Rattle.std.specs.Prelude.{ℕ, ◌/◌, ◌≤◌, ◌<◌, ◌≡◌, ◌↔◌, ◌⊎◌, Bool, not, List, eqb, length, replicate}
use Rattle.range.specs.Sum.{count}
use Rattle.range.specs.First.{or_else}
use Rattle.table.specs.Table.{Table, item, spare, other}
use Rattle.probe_frame.specs.Frame.{frame_of}
use Rattle.probe_record.specs.Record.{outbound, inbound, fresh, standing, record_fault}
use Rattle.wake_log.specs.declared.Entry.{Entry}
use Rattle.wake_log.specs.declared.What.{What}
use Rattle.wake_log.specs.declared.Answer.TheVariants.{Logged}
use Rattle.wake_log.specs.Entry.{code_of}
use Rattle.probe_rules.specs.declared.Event.{Event}
use Rattle.probe_rules.specs.declared.Event.TheVariants.{Opening}
use Rattle.probe_rules.specs.Rules.{befalls, alter}
use Rattle.probe_rules.specs.Frames.{heard_of}
use Rattle.probe_rules.specs.Within.{OwnLink, OwnEvent}
use Rattle.bit_maps.specs.BitMap.{words_for}
use Rattle.probe_maps.specs.Maps.{Maps, rows, AllWords, bytes_of, maps_of, maps_fault}
use Rattle.probe.specs.declared.Kind.{Kind}
use Rattle.probe.specs.declared.Asked.{Asked}
use Rattle.probe_checks.specs.Checks.{heard_fault, open_fault, link_call_fault}
use Rattle.probe.specs.Answers.{Befallen, Asks, asked_event, asked_frame, asked_line}
use Rattle.table.specs.Legal.{lent_fault}

-- "A change is one byte altered": how many of the first n links have an outbound, and an inbound, byte that differs
abbrev pub byte_changed : (List ℕ → ℕ → ℕ) → List ℕ → List ℕ → ℕ → Bool
byte_changed byte e e' i = not (eqb (byte e i) (byte e' i))

abbrev pub out_changes : ℕ → List ℕ → List ℕ → ℕ
out_changes n e e' = count n (byte_changed outbound e e')

abbrev pub in_changes : ℕ → List ℕ → List ℕ → ℕ
in_changes n e e' = count n (byte_changed inbound e e')

-- at most one outbound byte differs and no inbound one, or at most two inbound bytes and no outbound one
pub record FewChanges (n : ℕ) (e e' : List ℕ) : Type 0 where
  pub out_one : out_changes n e e' ≤ 1
  pub in_two : in_changes n e e' ≤ 2
  pub one_side : (out_changes n e e' ≡ 0) ⊎ (in_changes n e e' ≡ 0)

-- 02, No. 3: "An opening that opens nothing says 01 when the offers standing equal the spare, otherwise 07, every link tried": what the end p says, with e its record
pub record OpensNothing (t : Table) (p : ℕ) (e : List ℕ) (said : What) : Type 0 where
  pub one_of_two : (code_of said ≡ 1) ⊎ (code_of said ≡ 7)
  pub says_01 : (code_of said ≡ 1) ↔ (standing t p e ≡ spare t p)
  pub says_07 : (code_of said ≡ 7) ↔ (standing t p e < spare t p)
  pub none_untried : code_of said ≡ 7 → (i : ℕ) → OwnLink t p i → outbound e i ≡ 0 → ⊥

-- the end p of a legal table
module _ (t : Table) (p : ℕ) where
  -- the record after an event
  abbrev pub record_after : Event → List ℕ → List ℕ
  record_after event e = alter (befalls t p event e) e

  pub record EndLaws : Type 0 where
    -- a frame that 1, 2, 9, 23 and 24 let pass comes on an own link
    pub heard_own : (l : List ℕ) → heard_fault t p l ≡ 0 → OwnEvent t p (heard_of t (frame_of l))
    -- a byte that an event alters stands on an own link
    pub changes_own : (event : Event) (e : List ℕ) → OwnEvent t p event → (j : ℕ) → (item (record_after event e) j ≡ item e j → ⊥) → OwnLink t p (j / 2)
    pub changes_few : (event : Event) (e : List ℕ) → OwnEvent t p event → FewChanges t.links e (record_after event e)
    -- 20, 21 and 22 let a fresh record pass, and a record that they let pass stays one
    pub fresh_usable : record_fault t p (fresh t) ≡ 0
    pub stays_usable : (event : Event) (e : List ℕ) → record_fault t p e ≡ 0 → OwnEvent t p event → record_fault t p (record_after event e) ≡ 0
    -- so of its maps: those of a fresh record are words of 0, and pass
    pub fresh_maps_lem : let none : List ℕ = replicate (words_for t.links) 0 in maps_of t.links (fresh t) ≡ rows none none none none
    pub fresh_maps_usable : maps_fault t p (maps_of t.links (fresh t)) ≡ 0
    -- an opening that is logged and leaves the maps as they were
    pub opens_nothing : (slices free : ℕ) (m : Maps) (entry : Entry) → AllWords m
        → Befallen (open_fault (or_else slices (maps_fault t p m)) t p free) t p Opening (Logged entry) m m → OpensNothing t p (bytes_of t.links m) entry.what
    -- "as often as wished": asked again, an end answers and writes the same
    pub asked_again : (k : Kind) (i state : ℕ) (e : List ℕ) (r r' : Asked) (out out' out'' : List ℕ)
        → Asks (or_else (lent_fault (length out) 15) (link_call_fault state t p i)) t p k i e r out out'
        → Asks (or_else (lent_fault (length out') 15) (link_call_fault state t p i)) t p k i e r' out' out'' → (r' ≡ r) × (out'' ≡ out')
    -- the line says the frame; the other end does not turn it down, and hears what was asked for
    pub line_says : t.number < 65536 → (k : Kind) (i : ℕ) → OwnLink t p i → frame_of (asked_line t p k i) ≡ asked_frame t p k i
    pub line_passes : t.number < 65536 → (k : Kind) (i : ℕ) → OwnLink t p i → heard_fault t (other t p i) (asked_line t p k i) ≡ 0
    pub line_heard : t.number < 65536 → (k : Kind) (i : ℕ) → OwnLink t p i → heard_of t (frame_of (asked_line t p k i)) ≡ asked_event k i
