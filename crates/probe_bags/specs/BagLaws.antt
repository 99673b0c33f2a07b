-- The laws of a bag of frames. The sentences are those of document 02, No. 7.
use Rattle.std.specs.Prelude.{ℕ, suc, ◌-◌, ◌≤◌, ◌<◌, ◌≡◌, ◌↔◌, cond, eqb, length, get_or}
use mathlib.Core.List.{List, [], ◌∷◌, ◌++◌, Mem, Perm, map}
use Rattle.std.proofs.lemmas.List.Edits.{sets}
use Rattle.table.specs.Table.{Table}
use Rattle.table.specs.Slices.{Slices, table_of}
use Rattle.wake_log.specs.declared.Entry.{Entry}
use Rattle.wake_log.specs.declared.Answer.{Answer}
use Rattle.wake_log.specs.declared.Answer.TheVariants.{Logged, Refused as Unlogged}
use Rattle.probe_maps.specs.Maps.{Maps, AllWords, state_fault}
use Rattle.probe_maps.specs.SameRecords.{SameRecord}
use Rattle.probe_checks.specs.Checks.{heard_fault}
use Rattle.probe.specs.Answers.{Hears}
use Rattle.probe_bags.specs.declared.Hearing.{Hearing}
use Rattle.probe_bags.specs.declared.Hearing.TheVariants.{Heard, Refused}
use Rattle.probe_theory.specs.SameThroughCalls.{state_of_bytes}
use Rattle.probe_bags.specs.Bag.{frames_of, events_of, bytes_by_rules, entries_by_rules, bag_fault, hearing_of, HearsBag}

-- no line feed stands in it
abbrev pub NoFeed : List ℕ → Type 0
NoFeed l = (j : ℕ) → j < length l → get_or l j 0 ≡ 10 → ⊥

-- "A frame ends at its line feed; a last piece without one counts as a frame and is refused by 1."
pub record BagFrames : Type 0 where
  pub no_frame : frames_of [] ≡ []
  pub frame_ends : (l rest : List ℕ) → NoFeed l → frames_of (l ++ (10 ∷ rest)) ≡ (l ++ (10 ∷ [])) ∷ frames_of rest
  pub last_piece : (l : List ℕ) → NoFeed l → 0 < length l → frames_of l ≡ l ∷ []
  pub piece_refused : (t : Table) (p : ℕ) (l : List ℕ) → NoFeed l → heard_fault t p l ≡ 1

-- "hearing them singly": the end p hears one frame after the other by a call of `hear`, with an entry of its log free each time; the answers, and the maps that the last call leaves
pub data Singly (x : Slices) (p : ℕ) : List (List ℕ) → Maps → List Answer → Maps → Type 0 where
  no_call : (m : Maps) → Singly x p [] m [] m
  one_call : (l : List ℕ) (ls : List (List ℕ)) (free : ℕ) (r : Answer) (rs : List Answer) (m m' m'' : Maps) → Hears x p l (suc free) r m m'
      → Singly x p ls m' rs m'' → Singly x p (l ∷ ls) m (r ∷ rs) m''

-- the first refusal of some answers, or 0
abbrev pub first_refusal : List Answer → ℕ
first_refusal [] = 0
first_refusal (Logged e ∷ rs) = first_refusal rs
first_refusal (Unlogged n ∷ rs) = n

-- what 01's rules make of the bytes and of the log: the answer to a bag of the frames ls, the record after it, and the entries behind the used ones
pub record BagOnBytes (fault : ℕ) (t : Table) (p : ℕ) (ls : List (List ℕ)) (r : Hearing) (e e' : List ℕ) (used : ℕ) (log log' : List Entry) : Type 0 where
  pub answer : r ≡ hearing_of fault (length ls)
  pub bytes_after_lem : e' ≡ cond (eqb fault 0) (bytes_by_rules t p (events_of t ls) e) e
  pub log_after : log' ≡ cond (eqb fault 0) (sets log used (entries_by_rules t p (events_of t ls) e)) log

-- of the end p: calls on the maps m, with the log's first entries used; `AllWords` is what a slice of 64-bit words has
pub record BagLaws (x : Slices) (p : ℕ) : Type 0 where
  -- "may hear up to 64 frames at one wake": they are heard where each would be singly, and has an entry free
  pub up_to_64 : (bag : List ℕ) (r : Hearing) (m m' : Maps) (used : ℕ) (log log' : List Entry) → HearsBag x p bag r m m' used log log'
      → state_fault x p m ≡ 0 → p < x.probes → length (frames_of bag) ≤ 64 → (rs : List Answer) (m'' : Maps) → Singly x p (frames_of bag) m rs m''
      → first_refusal rs ≡ 0 → length (frames_of bag) ≤ length log - used → r ≡ Heard (length (frames_of bag))
  -- "The record afterwards is the one that hearing them singly would give", and so are the entries, "in the bag's order"
  pub as_singly : (bag : List ℕ) (n : ℕ) (m m' : Maps) (used : ℕ) (log log' : List Entry) → HearsBag x p bag (Heard n) m m' used log log'
      → (rs : List Answer) (m'' : Maps) → Singly x p (frames_of bag) m rs m''
      → (m'' ≡ m') × ((es : List Entry) × (rs ≡ map Logged es) × (log' ≡ sets log used es) × (length es ≡ n))
  -- "and is the same in every order of the bag": an order of a bag that is heard is heard, and leaves the same record
  pub any_order : (bag bag' : List ℕ) (n : ℕ) (r : Hearing) (m m' m'' : Maps) (used : ℕ) (log log' log'' : List Entry) → AllWords m
      → Perm (frames_of bag) (frames_of bag') → HearsBag x p bag (Heard n) m m' used log log' → HearsBag x p bag' r m m'' used log log''
      → (r ≡ Heard n) × (m'' ≡ m')
  -- sharper: the record depends on which frames are in the bag, not on how often each is
  pub same_frames : (bag bag' : List ℕ) (n n' : ℕ) (m m' m'' : Maps) (used used' : ℕ) (log log' other other' : List Entry) → AllWords m
      → ((l : List ℕ) → Mem l (frames_of bag) ↔ Mem l (frames_of bag'))
      → HearsBag x p bag (Heard n) m m' used log log' → HearsBag x p bag' (Heard n') m m'' used' other other' → m'' ≡ m'
  -- on the bytes behind the maps: the call answers what it would by the bytes, refusals too, and the maps left stand for the bytes that 01's rules leave, frame after frame
  pub on_bytes : (bag : List ℕ) (r : Hearing) (m m' : Maps) (e : List ℕ) (used : ℕ) (log log' : List Entry) → SameRecord x.links m e
      → HearsBag x p bag r m m' used log log'
      → (e' : List ℕ) × SameRecord x.links m' e'
      × BagOnBytes (bag_fault (state_of_bytes x p e) (table_of x) p (frames_of bag) (length log - used)) (table_of x) p (frames_of bag) r e e' used log log'
  -- "An empty bag changes nothing."
  pub empty_bag : (r : Hearing) (m m' : Maps) (used : ℕ) (log log' : List Entry) → HearsBag x p [] r m m' used log log' → (m' ≡ m) × (log' ≡ log)
  -- "If a frame of the bag is refused, the whole bag is, by the number of its first bad frame": that which its call alone would answer
  pub first_bad : (bag : List ℕ) (r : Hearing) (m m' : Maps) (used : ℕ) (log log' : List Entry) → HearsBag x p bag r m m' used log log'
      → state_fault x p m ≡ 0 → length (frames_of bag) ≤ 64 → (rs : List Answer) (m'' : Maps) → Singly x p (frames_of bag) m rs m'' → (first_refusal rs ≡ 0 → ⊥)
      → (r ≡ Refused (first_refusal rs)) × (m' ≡ m) × (log' ≡ log)
  -- "the whole bag is": one that is refused changes nothing, by whatever number
  pub refused_whole : (bag : List ℕ) (n : ℕ) (m m' : Maps) (used : ℕ) (log log' : List Entry) → HearsBag x p bag (Refused n) m m' used log log'
      → (m' ≡ m) × (log' ≡ log)
  -- "32: more than 64 frames, after 22 and before the frames are looked at"
  pub too_many : (bag : List ℕ) (r : Hearing) (m m' : Maps) (used : ℕ) (log log' : List Entry) → HearsBag x p bag r m m' used log log'
      → state_fault x p m ≡ 0 → 64 < length (frames_of bag) → r ≡ Refused 32
  -- "26 for the whole bag, after every frame's own refusals, if the log has fewer free entries than the bag has frames"
  pub no_room : (bag : List ℕ) (r : Hearing) (m m' : Maps) (used : ℕ) (log log' : List Entry) → HearsBag x p bag r m m' used log log'
      → state_fault x p m ≡ 0 → p < x.probes → length (frames_of bag) ≤ 64 → (rs : List Answer) (m'' : Maps) → Singly x p (frames_of bag) m rs m''
      → first_refusal rs ≡ 0 → length log - used < length (frames_of bag) → r ≡ Refused 26
  -- single calls can be made of any frames
  pub calls : (ls : List (List ℕ)) (m : Maps) → (rs : List Answer) × (m'' : Maps) × Singly x p ls m rs m''
