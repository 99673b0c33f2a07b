-- The laws of a bag. One that is heard has no fault at any stage, and so the record that its frames leave in any order; one with a bad frame has that frame's fault.
use Prim.Native.Nat.{ℕ, suc, ◌-◌, ◌≤◌, ◌<◌}
use mathlib.Core.Path.{◌≡◌, refl, sym, ◌∙◌, ap}
use mathlib.Core.Logic.{◌↔◌, ◌⊎◌, inl, inr, ∥∥₁_elim}
use mathlib.Core.Bool.{Bool, true, false, cond}
use mathlib.Core.List.Perm
use mathlib.Core.List.{List, [], ◌∷◌, Mem, Perm, Permᴰ, map}
use native.Mathlib.Nat.{ℕ_set}
use native.Mathlib.Omega.{arith}
use lib.Dec.{eqb}
use lib.ListN.{length}
use lib.Seq.{sets}
use borrow.Author.Tests.{eqb-true, eqb-false, ne_eqb}
use Rattle.range.specs.First.{or_else}
use Rattle.range.specs.Reply.{refusal, values, reply_of}
use Rattle.range.proofs.Bools.{decided}
use Rattle.lines.specs.Line.{lines_from}
use Rattle.table.specs.Table.{Table}
use Rattle.table.specs.Slices.{Slices, table_of, slices_fault}
use Rattle.wake_log.specs.declared.Entry.{Entry}
use Rattle.wake_log.specs.declared.Answer.{Answer}
use Rattle.wake_log.specs.declared.Answer.TheVariants.{Logged}
use Rattle.wake_log.specs.Entry.{answer_of}
use Rattle.wake_log.proofs.Answers.{answer_reply_lem}
use Rattle.probe_frame.specs.Frame.{frame_of}
use Rattle.probe_rules.specs.declared.Event.{Event}
use Rattle.probe_rules.specs.Rules.{entry_of}
use Rattle.probe_rules.specs.Frames.{heard_of}
use Rattle.probe_maps.specs.Maps.{Maps, AllWords, maps_fault, state_fault}
use Rattle.probe_maps.specs.SameRecords.{SameRecord}
use Rattle.probe_maps.specs.MapRules.{befalls_maps, alter_maps}
use Rattle.probe_maps.proofs.Faults.{good_maps, turns_back}
use Rattle.probe.specs.Answers.{Hears, hears_fault}
use Rattle.probe_theory.specs.SameThroughCalls.{state_of_bytes}
use Rattle.probe_checks.proofs.Accepted.{state_parts}
use Rattle.probe_bags.specs.declared.Hearing.{Hearing}
use Rattle.probe_bags.specs.declared.Hearing.TheVariants.{Heard, Refused}
use Rattle.probe_bags.specs.Bag.{frames_of, events_of, maps_after, entries_after, bytes_by_rules, frames_fault, room_fault, bag_fault, hearing_reply, hearing_of, hears_bag_fault, HearsBag}
use Rattle.probe_bags.specs.BagLaws.{Singly, no_call, one_call, first_refusal, BagOnBytes, BagLaws}
use Rattle.probe_bags.proofs.Steps.{all_own, length_events, length_entries}
use Rattle.probe_bags.proofs.Faults.{NoFault, no_fault, fault_none, frame_fault_lem, many_first, room_short, room_enough, room_last}
use Rattle.probe_bags.proofs.Settled.{offers, refuses}
use Rattle.probe_bags.proofs.Records.{events_frames, same_maps}
use Rattle.probe_bags.proofs.Bytes.{on_bytes}
use Rattle.probe_bags.proofs.Members.{some_same, passes_within}
use Rattle.probe_bags.proofs.Passing.{passing}
use Rattle.probe_bags.proofs.Singly.{rising_slices, singly_is, first_refusal_lem}

-- Answers.

hearing_is : (r : Hearing) (fault n : ℕ) → hearing_reply r ≡ reply_of fault (n ∷ []) → r ≡ hearing_of fault n
hearing_is r fault n s = go r (eqb fault 0) s
  where
    go : (r : Hearing) (none : Bool) → hearing_reply r ≡ cond none (values (n ∷ [])) (refusal fault) → r ≡ cond none (Heard n) (Refused fault)
    go (Heard k) true s = let e : k ≡ n = cc in ap Heard e
    go (Heard k) false s = let z : ◌≡◌ {A = ℕ} 0 1 = cc in absurd (omega arith)
    go (Refused k) true s = let z : ◌≡◌ {A = ℕ} 0 1 = cc in absurd (omega arith)
    go (Refused k) false s = let e : k ≡ fault = cc in ap Refused e

heard_is : (n fault k : ℕ) → Heard n ≡ hearing_of fault k → (fault ≡ 0) × (n ≡ k)
heard_is n fault k s = go (decided (eqb fault 0))
  where
    go : (eqb fault 0 ≡ true) ⊎ (eqb fault 0 ≡ false) → (fault ≡ 0) × (n ≡ k)
    go (inl z) = let e = rw z at s in (eqb-true fault 0 z, cc)
    go (inr z) = let e = rw z at s in let f : ◌≡◌ {A = ℕ} 0 1 = cc in absurd (omega arith)

-- Orders.

perm_length : {ls ms : List (List ℕ)} → Permᴰ ls ms → length ls ≡ length ms
perm_length Permᴰ.nil = refl
perm_length (Permᴰ.cons e d) = ap suc (perm_length d)
perm_length (Permᴰ.swap e f) = refl
perm_length (Permᴰ.trans d f) = perm_length d ∙ perm_length f

same_size : (ls ms : List (List ℕ)) → Perm ls ms → length ls ≡ length ms
same_size ls ms d = ∥∥₁_elim d (ℕ_set (length ls) (length ms)) perm_length

-- an order of frames without a fault has none
ordered_fault : (state : ℕ) (t : Table) (p : ℕ) (ls ms : List (List ℕ)) (free : ℕ) → Perm ls ms → NoFault state t p ls free → NoFault state t p ms free
ordered_fault state t p ls ms free d n =
    let size = same_size ls ms d in
    record {
      state_none = n.state_none;
      few = rw (← size) n.few;
      frames = passes_within t p ls ms (λ l. (Perm.mem_iff d).1) n.frames;
      probe = n.probe;
      room = rw (← size) n.room;
    }

module _ (x : Slices) (p : ℕ) where
  abbrev t : Table
  t = table_of x

  -- a bag that is heard
  module _ (bag : List ℕ) (n : ℕ) (m m' : Maps) (used : ℕ) (log log' : List Entry) (h : HearsBag x p bag (Heard n) m m' used log log') where
    abbrev free : ℕ
    free = length log - used

    abbrev fault : ℕ
    fault = hears_bag_fault x p m bag free

    accepted : (fault ≡ 0) × (n ≡ length (frames_of bag))
    accepted = heard_is n fault (length (frames_of bag)) (hearing_is (Heard n) fault (length (frames_of bag)) h.answer)

    stages : NoFault (state_fault x p m) t p (frames_of bag) free
    stages = no_fault (state_fault x p m) t p (frames_of bag) free accepted.0

    fine : slices_fault x ≡ 0
    fine = (state_parts x p m stages.state_none).0

    maps_pass : maps_fault t p m ≡ 0
    maps_pass = (state_parts x p m stages.state_none).1

    left : m' ≡ maps_after t p (events_of t (frames_of bag)) m
    left = h.maps_after_lem ∙ rw accepted.0

    told : log' ≡ sets log used (entries_after t p (events_of t (frames_of bag)) m)
    told = h.log_after ∙ rw accepted.0

    as_singly : (rs : List Answer) (m'' : Maps) → Singly x p (frames_of bag) m rs m''
        → (m'' ≡ m') × ((es : List Entry) × (rs ≡ map Logged es) × (log' ≡ sets log used es) × (length es ≡ n))
    as_singly rs m'' calls =
        let events = events_of t (frames_of bag) in
        let is = singly_is x p fine calls (passing t p m maps_pass) stages.frames in
        (is.0 ∙ sym left, (entries_after t p events m, is.1, told, length_entries t p events m ∙ length_events t (frames_of bag) ∙ sym accepted.1))

    -- another bag of the same frames leaves the same
    same_left : (ms : List (List ℕ)) → AllWords m → ((l : List ℕ) → Mem l (frames_of bag) ↔ Mem l ms) → frames_fault t p ms ≡ 0
        → maps_after t p (events_of t ms) m ≡ m'
    same_left ms words same z =
        let ls = frames_of bag in
        let equal = same_maps t (rising_slices x fine) p (events_of t ls) (events_of t ms) (all_own t p ls stages.frames) (all_own t p ms z) (events_frames t ls)
        (events_frames t ms) (λ i. some_same t offers i ls ms same) (λ i. some_same t refuses i ls ms same) m (good_maps t p m words maps_pass) in
        sym equal ∙ sym left

  any_order : (bag bag' : List ℕ) (n : ℕ) (r : Hearing) (m m' m'' : Maps) (used : ℕ) (log log' log'' : List Entry) → AllWords m
      → Perm (frames_of bag) (frames_of bag') → HearsBag x p bag (Heard n) m m' used log log' → HearsBag x p bag' r m m'' used log log''
      → (r ≡ Heard n) × (m'' ≡ m')
  any_order bag bag' n r m m' m'' used log log' log'' words d h h' =
      let ls = frames_of bag in
      let ms = frames_of bag' in
      let free = length log - used in
      let none = ordered_fault (state_fault x p m) t p ls ms free d (stages bag n m m' used log log' h) in
      let zero-fault = fault_none (state_fault x p m) t p ms free none in
      let size : length ms ≡ n = sym (same_size ls ms d) ∙ sym (accepted bag n m m' used log log' h).1 in
      let answered = hearing_is r (hears_bag_fault x p m bag' free) (length ms) h'.answer in
      let moved = h'.maps_after_lem in (
        (rw zero-fault at answered) ∙ ap Heard size,
        (rw zero-fault at moved) ∙ same_left bag n m m' used log log' h ms words (λ l. Perm.mem_iff d) none.frames,
      )

  same_frames : (bag bag' : List ℕ) (n n' : ℕ) (m m' m'' : Maps) (used used' : ℕ) (log log' other other' : List Entry) → AllWords m
      → ((l : List ℕ) → Mem l (frames_of bag) ↔ Mem l (frames_of bag')) → HearsBag x p bag (Heard n) m m' used log log'
      → HearsBag x p bag' (Heard n') m m'' used' other other' → m'' ≡ m'
  same_frames bag bag' n n' m m' m'' used used' log log' other other' words same h h' =
      left bag' n' m m'' used' other other' h'
      ∙ same_left bag n m m' used log log' h (frames_of bag') words same (stages bag' n' m m'' used' other other' h').frames

  empty_bag : (r : Hearing) (m m' : Maps) (used : ℕ) (log log' : List Entry) → HearsBag x p [] r m m' used log log' → (m' ≡ m) × (log' ≡ log)
  unfolding lines_from events_of maps_after entries_after
  empty_bag r m m' used log log' h =
      let none = eqb (hears_bag_fault x p m [] (length log - used)) 0 in
      (h.maps_after_lem ∙ either none m, h.log_after ∙ either none log)
    where
      either : {A : Type 0} (b : Bool) (a : A) → cond b a a ≡ a
      either true a = refl
      either false a = refl

  first_bad : (bag : List ℕ) (r : Hearing) (m m' : Maps) (used : ℕ) (log log' : List Entry) → HearsBag x p bag r m m' used log log' → state_fault x p m ≡ 0
      → length (frames_of bag) ≤ 64 → (rs : List Answer) (m'' : Maps) → Singly x p (frames_of bag) m rs m'' → (first_refusal rs ≡ 0 → ⊥)
      → (r ≡ Refused (first_refusal rs)) × (m' ≡ m) × (log' ≡ log)
  first_bad bag r m m' used log log' h usable few rs m'' calls some =
      let ls = frames_of bag in
      let free = length log - used in
      let parts = state_parts x p m usable in
      let first = first_refusal_lem x p parts.0 calls (passing t p m parts.1) in
      let bad : frames_fault t p ls ≡ 0 → ⊥ = λ z. some (first ∙ z) in
      let fault : hears_bag_fault x p m bag free ≡ first_refusal rs = frame_fault_lem (state_fault x p m) t p ls free usable few bad ∙ sym first in
      let answered = hearing_is r (hears_bag_fault x p m bag free) (length ls) h.answer in
      let moved = h.maps_after_lem in
      let noted = h.log_after in
      let not_zero = ne_eqb (first_refusal rs) 0 some in
      (rw (fault, not_zero) at answered, rw (fault, not_zero) at moved, rw (fault, not_zero) at noted)

  -- a call, heard or refused
  module _ (bag : List ℕ) (r : Hearing) (m m' : Maps) (used : ℕ) (log log' : List Entry) (h : HearsBag x p bag r m m' used log log') where
    abbrev ls : List (List ℕ)
    ls = frames_of bag

    abbrev found : ℕ
    found = hears_bag_fault x p m bag (length log - used)

    answered : r ≡ hearing_of found (length ls)
    answered = hearing_is r found (length ls) h.answer

    -- with a fault nothing changes
    unchanged : (found ≡ 0 → ⊥) → (m' ≡ m) × (log' ≡ log)
    unchanged some = let z = ne_eqb found 0 some in (h.maps_after_lem ∙ rw z, h.log_after ∙ rw z)

    refused_by : (n : ℕ) → found ≡ n → (n ≡ 0 → ⊥) → r ≡ Refused n
    refused_by n e some = answered ∙ rw (e, ne_eqb n 0 some)

    by_rules : (e : List ℕ) → SameRecord x.links m e → (e' : List ℕ) × SameRecord x.links m' e' × BagOnBytes (bag_fault (state_of_bytes x p e) t p ls (length log - used)) t p ls r e e' used log log'
    by_rules e s = go (decided (eqb found 0))
      where
        vs : List Event
        vs = events_of t ls

        -- the fault by the bytes
        same : found ≡ bag_fault (state_of_bytes x p e) t p ls (length log - used)
        same =
            ap (λ (n : ℕ). bag_fault (or_else (slices_fault x) n) t p ls (length log - used)) ((turns_back t p).same_fault m e s)

        by_bytes : ℕ
        by_bytes = bag_fault (state_of_bytes x p e) t p ls (length log - used)

        says : r ≡ hearing_of by_bytes (length ls)
        says = answered ∙ ap (λ (n : ℕ). hearing_of n (length ls)) same

        go : (eqb found 0 ≡ true) ⊎ (eqb found 0 ≡ false) → (e' : List ℕ) × SameRecord x.links m' e' × BagOnBytes by_bytes t p ls r e e' used log log'
        go (inl z) =
            let none = no_fault (state_fault x p m) t p ls (length log - used) (eqb-true found 0 z) in
            let on = on_bytes t p vs (all_own t p ls none.frames) m e s in
            let maps : m' ≡ maps_after t p vs m = h.maps_after_lem ∙ rw z in
            let noted : log' ≡ sets log used (entries_after t p vs m) = h.log_after ∙ rw z in
            let zero : eqb by_bytes 0 ≡ true = ap (λ (n : ℕ). eqb n 0) (sym same) ∙ z in
            (bytes_by_rules t p vs e, rw maps on.0, record { answer = says; bytes_after_lem = rw zero; log_after = rw zero (noted ∙ ap (sets log used) on.1) })
        go (inr z) =
            let kept = unchanged (eqb-false found 0 z) in
            let some : eqb by_bytes 0 ≡ false = ap (λ (n : ℕ). eqb n 0) (sym same) ∙ z in
            (e, rw kept.0 s, record { answer = says; bytes_after_lem = rw some; log_after = rw some kept.1 })

    module _ (usable : state_fault x p m ≡ 0) where
      too_many : 64 < length ls → r ≡ Refused 32
      too_many l = refused_by 32 (many_first (state_fault x p m) t p ls (length log - used) usable l) (λ z. omega arith)

      module _ (probe : p < x.probes) (few : length ls ≤ 64) (rs : List Answer) (m'' : Maps) (made : Singly x p ls m rs m'') (none : first_refusal rs ≡ 0) where
        fine_frames : frames_fault t p ls ≡ 0
        fine_frames =
            let parts = state_parts x p m usable in
            sym (first_refusal_lem x p parts.0 made (passing t p m parts.1)) ∙ none

        by_room : found ≡ room_fault ls (length log - used)
        by_room = room_last (state_fault x p m) t p ls (length log - used) usable few fine_frames probe

        up_to_64 : length ls ≤ length log - used → r ≡ Heard (length ls)
        up_to_64 l = let z = by_room ∙ room_enough ls (length log - used) l in answered ∙ rw z

        no_room : length log - used < length ls → r ≡ Refused 26
        no_room l = refused_by 26 (by_room ∙ room_short ls (length log - used) l) (λ z. omega arith)

  refused_whole : (bag : List ℕ) (n : ℕ) (m m' : Maps) (used : ℕ) (log log' : List Entry) → HearsBag x p bag (Refused n) m m' used log log' → (m' ≡ m) × (log' ≡ log)
  refused_whole bag n m m' used log log' h = unchanged bag (Refused n) m m' used log log' h some
    where
      some : hears_bag_fault x p m bag (length log - used) ≡ 0 → ⊥
      some z =
          let a = answered bag (Refused n) m m' used log log' h in
          let e = rw z at a in
          let f : ◌≡◌ {A = ℕ} 0 1 = cc in
          omega arith

  calls : (ls : List (List ℕ)) (m : Maps) → (rs : List Answer) × (m'' : Maps) × Singly x p ls m rs m''
  calls [] m = ([], m, no_call m)
  calls (l ∷ ls) m =
      let event = heard_of t (frame_of l) in
      let fault = hears_fault x p m l 1 in
      let entry = entry_of t p (befalls_maps t p event m) in
      let m' : Maps = cond (eqb fault 0) (alter_maps t.links (befalls_maps t p event m) m) m in
      let call : Hears x p l 1 (answer_of fault entry) m m' = record { answer = answer_reply_lem (answer_of fault entry) fault entry refl; maps_after_lem = refl } in
      let rest = calls ls m' in
      (answer_of fault entry ∷ rest.0, rest.1, one_call l ls 0 (answer_of fault entry) rest.0 m m' rest.1 call rest.2)

pub bag_laws : (x : Slices) → (p : ℕ) → BagLaws x p
bag_laws x p =
    record {
      up_to_64 = λ bag r m m' used log log' h usable probe few rs m'' made none. up_to_64 x p bag r m m' used log log' h usable probe few rs m'' made none;
      as_singly = as_singly x p;
      any_order = any_order x p;
      same_frames = same_frames x p;
      on_bytes = λ bag r m m' e used log log' s h. by_rules x p bag r m m' used log log' h e s;
      empty_bag = empty_bag x p;
      first_bad = first_bad x p;
      refused_whole = refused_whole x p;
      too_many = too_many x p;
      no_room = λ bag r m m' used log log' h usable probe few rs m'' made none. no_room x p bag r m m' used log log' h usable probe few rs m'' made none;
      calls = calls x p;
    }
