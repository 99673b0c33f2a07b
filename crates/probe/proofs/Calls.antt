-- A call of an end that is refused, and one that is accepted; the event of a frame asked for.
use Prim.Native.Nat.{ℕ}
use mathlib.Core.Path.{◌≡◌, sym, ◌∙◌, ap}
use mathlib.Core.Bool.{◌&&◌}
use mathlib.Core.List.{List}
use mir.Syntax.{w64}
use mir.Val.{Fits}
use lib.ListN.{get_or}
use borrow.Author.Tests.{ne_eqb}
use Rattle.refusals.specs.Refusals.{number_of}
use Rattle.refusals.specs.declared.Refusal.{Refusal}
use Rattle.refusals.proofs.Laws.{number_some}
use Rattle.table.specs.Table.{Table, other}
use Rattle.table.specs.Legal.{Legal}
use Rattle.table.specs.Slices.{Slices, table_of, slices_fault}
use Rattle.bit_maps.specs.BitMap.{bit}
use Rattle.range.specs.Reply.{values}
use Rattle.wake_log.specs.declared.Entry.{Entry}
use Rattle.wake_log.specs.Entry.{entry_values}
use Rattle.wake_log.specs.declared.Answer.TheVariants.{Logged, Refused}
use Rattle.probe_rules.specs.declared.Event.{Event}
use Rattle.probe_rules.specs.Rules.{entry_of, sendable, rests}
use Rattle.probe_rules.specs.Frames.{heard_of}
use Rattle.probe_rules.specs.Within.{OwnLink}
use Rattle.probe_rules.proofs.Frames.{other_across, between_is}
use Rattle.probe_maps.specs.Maps.{Maps, AllWords, rows, bytes_of, state_fault}
use Rattle.probe_maps.specs.GoodMaps.{GoodMaps}
use Rattle.probe_maps.proofs.Rounds.{is_standing, is_refused_in, is_held}
use Rattle.probe_maps.proofs.Faults.{good_maps}
use Rattle.probe_checks.proofs.Accepted.{state_parts}
use Rattle.probe_maps.specs.MapRules.{befalls_maps, alter_maps}
use Rattle.probe.specs.declared.Kind.{Kind}
use Rattle.probe.specs.declared.Kind.TheVariants as kind
use Rattle.probe.specs.Answers.{Befallen, asked_event, asked_bit, asked_frame}

pub refused_call : (fault : ℕ) (t : Table) (p : ℕ) (event : Event) (r : ℕ) (m : Maps) → r ≡ fault → (r ≡ 0 → ⊥) → Befallen fault t p event (Refused r) m m
refused_call fault t p event r m same n =
    record { answer = rw (← same, ne_eqb r 0 n); maps_after_lem = rw (← same, ne_eqb r 0 n) }

-- by the refusal that was found
pub refused_by : (fault : ℕ) (t : Table) (p : ℕ) (event : Event) (d : Refusal) (r : ℕ) (m : Maps) → r ≡ number_of d → number_of d ≡ fault → Befallen fault t p event (Refused r) m m
refused_by fault t p event d r m is same = refused_call fault t p event r m (is ∙ same) (λ z. number_some d (sym is ∙ z))

pub accepted_call : (fault : ℕ) (t : Table) (p : ℕ) (event : Event) (m : Maps) (entry : Entry) (after : Maps) → fault ≡ 0
    → entry ≡ entry_of t p (befalls_maps t p event m) → after ≡ alter_maps t.links (befalls_maps t p event m) m
    → Befallen fault t p event (Logged entry) m after
accepted_call fault t p event m entry after none is maps =
    record { answer = rw none (ap (λ (d : Entry). values (entry_values d)) is); maps_after_lem = rw none maps }

-- the frame asked for is heard as what was asked for
pub asked_event_lem : (t : Table) → Legal t → (p i : ℕ) → OwnLink t p i → (k : Kind) → heard_of t (asked_frame t p k i) ≡ asked_event k i
asked_event_lem t legal p i a kind.Offer = rw (between_is t legal i p (other t p i) a.0 (other_across t p i a.1))
asked_event_lem t legal p i a kind.Refusal = rw (between_is t legal i p (other t p i) a.0 (other_across t p i a.1))

-- the four rows of words
pub all_words : {one two three four : List ℕ} → ((k : ℕ) → Fits w64 (get_or one k 0)) → ((k : ℕ) → Fits w64 (get_or two k 0)) → ((k : ℕ) → Fits w64 (get_or three k 0)) → ((k : ℕ) → Fits w64 (get_or four k 0)) → AllWords (rows one two three four)
all_words a b c d =
    record { standing = λ k. (a k).fits; refused_out_lem = λ k. (b k).fits; held = λ k. (c k).fits; refused_in_lem = λ k. (d k).fits }

-- a state without a fault
pub good_state : (x : Slices) (p : ℕ) (m : Maps) → AllWords m → state_fault x p m ≡ 0 → (slices_fault x ≡ 0) × GoodMaps (table_of x) p m
good_state x p m words f =
    let parts = state_parts x p m f in
    (parts.0, good_maps (table_of x) p m words parts.1)

module _ (t : Table) (p : ℕ) (m : Maps) (good : GoodMaps t p m) where
  -- what an end is asked for may be sent by the bit that lets it
  pub asked_bit_lem : (k : Kind) (i : ℕ) → asked_bit k m.standing m.refused_in i ≡ sendable (asked_event k i) (bytes_of t.links m)
  asked_bit_lem kind.Offer i = sym (is_standing t.links m good.sound i)
  asked_bit_lem kind.Refusal i = sym (is_refused_in t.links m good.sound i)

  -- a link rests that is in both maps
  pub rests_bits : (i : ℕ) → (bit m.standing i && bit m.held i) ≡ rests (bytes_of t.links m) i
  rests_bits i = rw (is_standing t.links m good.sound i, is_held t.links m good.sound i)
