-- What the places of a log hold.
use Prim.Native.Nat.{ℕ, ◌+◌, ◌<◌, ◌≤◌}
use mathlib.Core.Path.{◌≡◌, refl, sym, ap, ◌∙◌}
use mathlib.Core.Bool.{Bool, true, false, cond, ◌&&◌}
use mathlib.Core.List.{List, [], ◌++◌}
use native.Mathlib.Omega.{arith}
use borrow.Author.Tests.{ltb-true, ltb-false, lt-ltb, le-ltb}
use lib.Dec.{ltb}
use lib.ListN.{length, get_or, length-append, get_or-append}
use Rattle.range.specs.Reply.{values}
use Rattle.wake_log.specs.declared.Entry.{Entry}
use Rattle.wake_log.specs.declared.Slot.{Slot}
use Rattle.wake_log.specs.declared.Slot.TheVariants.{Used, Unused}
use Rattle.wake_log.specs.Log.{no_entry, is_used, slot_of, slot_reply, slot_values}
use Rattle.wake_log.specs.Entry.{entry_values}
use Rattle.wake_log.proofs.Answers.{entry_is}

pub slot_used : (log : List Entry) (used i : ℕ) → i < used → i < length log → slot_of log used i ≡ Used (get_or log i no_entry)
slot_used log used i u l = rw (lt-ltb i used u, lt-ltb i (length log) l) refl

pub slot_past_used : (log : List Entry) (used i : ℕ) → used ≤ i → slot_of log used i ≡ Unused
slot_past_used log used i u = rw (le-ltb i used u) refl

pub slot_past_end : (log : List Entry) (used i : ℕ) → length log ≤ i → slot_of log used i ≡ Unused
slot_past_end log used i l = rw (le-ltb i (length log) l) (go (ltb i used))
  where
    go : (b : Bool) → cond (b && false) (Used (get_or log i no_entry)) Unused ≡ Unused
    go true = refl
    go false = refl

-- the used entries alone are read: what stands behind them does not matter
pub slot_of_used : (entries behind : List Entry) (i : ℕ) → slot_of (entries ++ behind) (length entries) i ≡ slot_of entries (length entries) i
slot_of_used entries behind i = go (ltb i (length entries)) refl
  where
    go : (b : Bool) → ltb i (length entries) ≡ b → slot_of (entries ++ behind) (length entries) i ≡ slot_of entries (length entries) i
    go true e =
        let less = ltb-true i (length entries) e in
        let long : length (entries ++ behind) ≡ length entries + length behind = length-append entries behind in
        slot_used (entries ++ behind) (length entries) i less (omega (arith, long, less)) ∙ ap Used (get_or-append entries behind no_entry i less) ∙ sym (slot_used entries (length entries) i less less)
    go false e =
        let past = ltb-false i (length entries) e in
        slot_past_used (entries ++ behind) (length entries) i past ∙ sym (slot_past_used entries (length entries) i past)

-- what a place holds, by its values
pub slot_is : (r : Slot) (log : List Entry) (used i : ℕ) → slot_reply r ≡ values (slot_values log used i) → r ≡ slot_of log used i
slot_is r log used i e = go r (is_used (length log) used i) e
  where
    go : (r : Slot) (b : Bool) → slot_reply r ≡ values (cond b (entry_values (get_or log i no_entry)) []) → r ≡ cond b (Used (get_or log i no_entry)) Unused
    go (Used d) true e = ap Used (entry_is d (get_or log i no_entry) (cc))
    go (Used d) false e = let z : ◌≡◌ {A = ℕ} 0 1 = cc in absurd (omega arith)
    go Unused true e = let z : ◌≡◌ {A = ℕ} 0 1 = cc in absurd (omega arith)
    go Unused false e = refl
