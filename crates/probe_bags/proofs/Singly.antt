-- Frames heard singly, from maps that pass: each call finds its frame's own fault alone, and where there is none the maps still pass.
use Prim.Native.Nat.{ℕ, zero, suc}
use mathlib.Core.Path.{◌≡◌, refl, sym, ◌∙◌, ap}
use mathlib.Core.Logic.{◌⊎◌, inl, inr}
use mathlib.Core.Bool.{true, false, cond}
use mathlib.Core.List.{List, ◌∷◌, map}
use native.Mathlib.Omega.{arith}
use lib.Dec.{eqb}
use borrow.Author.Tests.{eqb-true, eqb-false, ne_eqb}
use Rattle.range.specs.First.{or_else}
use Rattle.range.proofs.Bools.{decided}
use Rattle.range.proofs.Faults.{or_none}
use Rattle.table.specs.Table.{Table}
use Rattle.table.specs.Legal.{RisingLinks}
use Rattle.table.specs.Slices.{Slices, table_of, slices_fault}
use Rattle.table.proofs.Slices.{legal_slices}
use Rattle.table.proofs.LegalLaws.{legal_table}
use Rattle.wake_log.specs.declared.Entry.{Entry}
use Rattle.wake_log.specs.declared.Answer.{Answer}
use Rattle.wake_log.specs.declared.Answer.TheVariants.{Logged}
use Rattle.wake_log.specs.Entry.{answer_of}
use Rattle.probe_frame.specs.Frame.{frame_of}
use Rattle.probe_rules.specs.declared.Event.{Event}
use Rattle.probe_rules.specs.Rules.{entry_of}
use Rattle.probe_rules.specs.Frames.{heard_of}
use Rattle.probe_maps.specs.Maps.{Maps, maps_fault, state_fault}
use Rattle.probe_maps.specs.MapRules.{befalls_maps, alter_maps}
use Rattle.probe_checks.specs.Checks.{full_fault, heard_fault, hear_fault}
use Rattle.probe.specs.Answers.{hears_fault, Hears}
use Rattle.probe.proofs.Answers.{befallen_answer}
use Rattle.probe_bags.specs.Bag.{events_of, maps_after, entries_after, frames_fault}
use Rattle.probe_bags.specs.BagLaws.{Singly, no_call, one_call, first_refusal}
use Rattle.probe_theory.proofs.EndLaws.{heard_own}
use Rattle.probe_bags.proofs.Steps.{bad_first, good_first, frames_parts}
use Rattle.probe_bags.proofs.Passing.{Passing, passing_step}

pub rising_slices : (x : Slices) → slices_fault x ≡ 0 → RisingLinks (table_of x)
rising_slices x fine = (legal_table 256 2048 (table_of x) (legal_slices 256 2048 x fine).legal).order

-- with an entry free a frame's own fault is left
room_left : (fault free : ℕ) → or_else fault (full_fault (suc free)) ≡ fault
room_left zero free = rw (ne_eqb (suc free) 0 (λ z. omega arith))
room_left (suc fault) free = refl

module _ (x : Slices) (p : ℕ) (fine : slices_fault x ≡ 0) where
  abbrev t : Table
  t = table_of x

  abbrev says : List ℕ → Event
  says l = heard_of t (frame_of l)

  abbrev stepped : List ℕ → Maps → Maps
  stepped l m = alter_maps t.links (befalls_maps t p (says l) m) m

  abbrev entry_for : List ℕ → Maps → Entry
  entry_for l m = entry_of t p (befalls_maps t p (says l) m)

  own_fault : (l : List ℕ) (free : ℕ) (m : Maps) → Passing t p m → hears_fault x p m l (suc free) ≡ heard_fault t p l
  unfolding hear_fault
  own_fault l free m h =
      or_none (state_fault x p m) (or_else (heard_fault t p l) (full_fault (suc free))) (or_none (slices_fault x) (maps_fault t p m) fine ∙ h.passes)
      ∙ room_left (heard_fault t p l) free

  module _ (l : List ℕ) (free : ℕ) (r : Answer) (m m' : Maps) (h : Passing t p m) (call : Hears x p l (suc free) r m m') where
    answer_by : r ≡ answer_of (heard_fault t p l) (entry_for l m)
    answer_by = befallen_answer call ∙ ap (λ (n : ℕ). answer_of n (entry_for l m)) (own_fault l free m h)

    maps_by : m' ≡ cond (eqb (heard_fault t p l) 0) (stepped l m) m
    maps_by = call.maps_after_lem ∙ ap (λ (n : ℕ). cond (eqb n 0) (stepped l m) m) (own_fault l free m h)

    module _ (none : heard_fault t p l ≡ 0) where
      logged : r ≡ Logged (entry_for l m)
      logged = answer_by ∙ rw none

      moved : m' ≡ stepped l m
      moved = maps_by ∙ rw none

      still_passing : Passing t p m'
      still_passing = rw moved (passing_step t p (rising_slices x fine) m h (says l) (heard_own t p l none))

  -- where every frame passes, the calls go as the bag does
  pub singly_is : {ls : List (List ℕ)} {m : Maps} {rs : List Answer} {m'' : Maps} → Singly x p ls m rs m'' → Passing t p m → frames_fault t p ls ≡ 0
      → (m'' ≡ maps_after t p (events_of t ls) m) × (rs ≡ map Logged (entries_after t p (events_of t ls) m))
  unfolding events_of maps_after entries_after
  singly_is (no_call m) h z = (refl, refl)
  singly_is (one_call l ls free r rs m m' m'' call rest) h z =
      let parts = frames_parts t p l ls z in
      let move = moved l free r m m' h call parts.0 in
      let behind = singly_is rest (still_passing l free r m m' h call parts.0) parts.1 in (
        behind.0 ∙ ap (λ (n : Maps). maps_after t p (events_of t ls) n) move,
        ap (λ (a : Answer). a ∷ rs) (logged l free r m m' h call parts.0)
            ∙ ap (λ (others : List Answer). Logged (entry_for l m) ∷ others) (behind.1 ∙ ap (λ (n : Maps). map Logged (entries_after t p (events_of t ls) n)) move),
      )

  -- and their first refusal is the first bad frame's
  pub first_refusal_lem : {ls : List (List ℕ)} {m : Maps} {rs : List Answer} {m'' : Maps} → Singly x p ls m rs m'' → Passing t p m → first_refusal rs ≡ frames_fault t p ls
  unfolding frames_fault
  first_refusal_lem (no_call m) h = refl
  first_refusal_lem (one_call l ls free r rs m m' m'' call rest) h = go (λ passes. first_refusal_lem rest passes) (decided (eqb (heard_fault t p l) 0))
    where
      by : first_refusal (r ∷ rs) ≡ first_refusal (answer_of (heard_fault t p l) (entry_for l m) ∷ rs)
      by = ap (λ (a : Answer). first_refusal (a ∷ rs)) (answer_by l free r m m' h call)

      none_here : eqb (heard_fault t p l) 0 ≡ true → first_refusal (answer_of (heard_fault t p l) (entry_for l m) ∷ rs) ≡ first_refusal rs
      none_here k = rw k

      one_here : eqb (heard_fault t p l) 0 ≡ false → first_refusal (answer_of (heard_fault t p l) (entry_for l m) ∷ rs) ≡ heard_fault t p l
      one_here k = rw k

      go : (Passing t p m' → first_refusal rs ≡ frames_fault t p ls) → (eqb (heard_fault t p l) 0 ≡ true) ⊎ (eqb (heard_fault t p l) 0 ≡ false)
          → first_refusal (r ∷ rs) ≡ frames_fault t p (l ∷ ls)
      go behind (inl k) =
          let none = eqb-true (heard_fault t p l) 0 k in
          by ∙ none_here k ∙ behind (still_passing l free r m m' h call none) ∙ sym (good_first t p l ls none)
      go behind (inr k) = by ∙ one_here k ∙ sym (bad_first t p l ls (eqb-false (heard_fault t p l) 0 k))
