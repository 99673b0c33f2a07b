-- A call on maps does what 01's rules do on the bytes of the same record.
use Prim.Native.Nat.{ℕ}
use mathlib.Core.Path.{◌≡◌, refl, sym, ◌∙◌, ap}
use mathlib.Core.Bool.{Bool, true, false, cond}
use mathlib.Core.List.{List, [], ◌∷◌}
use lib.Dec.{eqb}
use lib.ListN.{length}
use borrow.Author.Tests.{eqb-true}
use Rattle.range.specs.First.{or_else}
use Rattle.range.specs.Reply.{reply_of}
use Rattle.table.specs.Table.{Table}
use Rattle.table.specs.Legal.{lent_fault}
use Rattle.table.specs.Slices.{Slices, table_of, slices_fault}
use Rattle.probe_frame.specs.Frame.{frame_of}
use Rattle.wake_log.specs.declared.Answer.{Answer}
use Rattle.wake_log.specs.Entry.{answer_of}
use Rattle.probe_rules.specs.declared.Event.{Event}
use Rattle.probe_rules.specs.declared.Event.TheVariants.{Opening}
use Rattle.probe_rules.specs.Rules.{befalls, alter, entry_of, rests}
use Rattle.probe_rules.specs.Frames.{heard_of}
use Rattle.probe_rules.specs.Within.{EventWithin}
use Rattle.probe_rules.proofs.OutcomeLaws.{befalls_within}
use Rattle.probe_maps.specs.Maps.{Maps, state_fault}
use Rattle.probe_maps.specs.MapRules.{befalls_maps, alter_maps}
use Rattle.probe_maps.specs.SameRecords.{SameRecord}
use Rattle.probe_maps.proofs.SameFault.{same_fault}
use Rattle.probe_maps.proofs.SameAltered.{same_altered}
use Rattle.probe_checks.specs.Checks.{hear_fault, open_fault, link_call_fault}
use Rattle.probe_checks.proofs.Accepted.{hear_parts, heard_within}
use Rattle.probe.specs.declared.Kind.{Kind}
use Rattle.probe.specs.declared.Asked.{Asked}
use Rattle.probe.specs.Answers.{Befallen, Asks}
use Rattle.probe.proofs.Answers.{befallen_answer}
use Rattle.probe_theory.specs.SameThroughCalls.{OnBytes, SameThroughCalls, state_of_bytes}

-- an event, with the same fault in both forms
module _ (t : Table) (p : ℕ) (event : Event) (r : Answer) (m m' : Maps) (e : List ℕ) (same : SameRecord t.links m e) where
  abbrev left : ℕ → List ℕ
  left fault = cond (eqb fault 0) (alter (befalls t p event e) e) e

  on_bytes : (fault : ℕ) → (fault ≡ 0 → EventWithin t.links event) → Befallen fault t p event r m m'
      → (e' : List ℕ) × SameRecord t.links m' e' × OnBytes fault t p event r e e'
  on_bytes fault within b =
      (left fault, rw b.maps_after_lem (go (eqb fault 0) refl), record { answer = befallen_answer b ∙ ap (λ (l : List ℕ). answer_of fault (entry_of t p (befalls t p event l))) (sym same.bytes_are); bytes_after_lem = refl })
    where
      go : (z : Bool) → eqb fault 0 ≡ z → SameRecord t.links (cond z (alter_maps t.links (befalls_maps t p event m) m) m) (cond z (alter (befalls t p event e) e) e)
      go true q =
          let o = befalls t p event e in
          rw (ap (befalls t p event) (sym same.bytes_are))
          (same_altered t.links m e same o (befalls_within t p event e (within (eqb-true fault 0 q))))
      go false q = same

-- the fault of table and record
pub state_same : (x : Slices) (p : ℕ) (m : Maps) (e : List ℕ) → SameRecord x.links m e → state_fault x p m ≡ state_of_bytes x p e
state_same x p m e same = ap (or_else (slices_fault x)) (same_fault (table_of x) p m e same)

moved : {fault n : ℕ} {t : Table} {p : ℕ} {event : Event} {r : Answer} {m m' : Maps} → fault ≡ n → Befallen fault t p event r m m' → Befallen n t p event r m m'
moved is b = rw (← is) b

asks_moved : {n n' : ℕ} {t : Table} {p : ℕ} {k : Kind} {i : ℕ} {e e' : List ℕ} {r : Asked} {out out' : List ℕ} → n ≡ n' → e ≡ e'
    → Asks n t p k i e r out out' → Asks n' t p k i e' r out out'
asks_moved is bytes a = rw (← is, ← bytes) a

pub same_through_calls : (x : Slices) (p : ℕ) → SameThroughCalls x p
same_through_calls x p =
    record {
      opens = λ free r m m' e same b.
          let n = open_fault (state_of_bytes x p e) (table_of x) p free in
          let is = ap (λ (s : ℕ). open_fault s (table_of x) p free) (state_same x p m e same) in
          on_bytes (table_of x) p Opening r m m' e same n (λ z. tt) (moved is b);
      hears = λ frame free r m m' e same b.
          let n = hear_fault (state_of_bytes x p e) (table_of x) p frame free in
          let is = ap (λ (s : ℕ). hear_fault s (table_of x) p frame free) (state_same x p m e same) in
          on_bytes (table_of x) p (heard_of (table_of x) (frame_of frame)) r m m' e same n
          (λ z. heard_within (table_of x) p frame (hear_parts (state_of_bytes x p e) (table_of x) p frame free z).1) (moved is b);
      asks = λ k i m e r out out' same a.
          asks_moved (ap (λ (s : ℕ). or_else (lent_fault (length out) 15) (link_call_fault s (table_of x) p i)) (state_same x p m e same)) (sym same.bytes_are) a;
      rests = λ i m e same.
          ap (λ (l : List ℕ). reply_of (link_call_fault (state_fault x p m) (table_of x) p i) (cond (rests l i) 1 0 ∷ [])) (sym same.bytes_are)
          ∙ ap (λ (s : ℕ). reply_of (link_call_fault s (table_of x) p i) (cond (rests e i) 1 0 ∷ [])) (state_same x p m e same);
    }
