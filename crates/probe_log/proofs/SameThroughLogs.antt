-- A logged call on maps does what 01's rules do on the bytes of the same record, and its entry is theirs.
use Prim.Native.Nat.{ℕ, ◌-◌}
use mathlib.Core.Path.{◌≡◌, sym, ◌∙◌, ap}
use mathlib.Core.Bool.{cond}
use mathlib.Core.List.{List}
use lib.Dec.{eqb}
use lib.ListN.{length, set}
use Rattle.table.specs.Table.{Table}
use Rattle.table.specs.Slices.{Slices, table_of}
use Rattle.probe_frame.specs.Frame.{frame_of}
use Rattle.wake_log.specs.declared.Entry.{Entry}
use Rattle.probe_rules.specs.declared.Event.{Event}
use Rattle.probe_rules.specs.declared.Event.TheVariants.{Opening}
use Rattle.probe_rules.specs.Rules.{befalls, entry_of}
use Rattle.probe_rules.specs.Frames.{heard_of}
use Rattle.probe_maps.specs.Maps.{Maps}
use Rattle.probe_maps.specs.MapRules.{befalls_maps}
use Rattle.probe_maps.specs.SameRecords.{SameRecord}
use Rattle.probe_checks.specs.Checks.{hear_fault, open_fault}
use Rattle.probe_theory.proofs.SameThroughCalls.{state_same, same_through_calls}
use Rattle.probe_log.specs.SameThroughLogs.{SameThroughLogs}

-- the log after an event, with the same fault in both forms
log_same : (t : Table) (p : ℕ) (event : Event) (m : Maps) (e : List ℕ) (used : ℕ) (log log' : List Entry) (fault n : ℕ) → SameRecord t.links m e → fault ≡ n
    → log' ≡ cond (eqb fault 0) (set log used (entry_of t p (befalls_maps t p event m))) log
    → log' ≡ cond (eqb n 0) (set log used (entry_of t p (befalls t p event e))) log
log_same t p event m e used log log' fault n same is after =
    after ∙ ap (λ (k : ℕ). cond (eqb k 0) (set log used (entry_of t p (befalls_maps t p event m))) log) is
    ∙ ap (λ (l : List ℕ). cond (eqb n 0) (set log used (entry_of t p (befalls t p event l))) log) (sym same.bytes_are)

pub same_through_logs : (x : Slices) (p : ℕ) → SameThroughLogs x p
same_through_logs x p =
    record {
      opens_logged = λ r m m' used log log' e same c.
          let free = length log - used in
          let h = (same_through_calls x p).opens free r m m' e same c.befallen in (
            h.0,
            h.1,
            record {
              on_bytes = h.2;
              log_after = log_same (table_of x) p Opening m e used log log' _ _ same (ap (λ (s : ℕ). open_fault s (table_of x) p free) (state_same x p m e same)) c.log_after;
            },
          );
      hears_logged = λ frame r m m' used log log' e same c.
          let free = length log - used in
          let h = (same_through_calls x p).hears frame free r m m' e same c.befallen in (
            h.0,
            h.1,
            record {
              on_bytes = h.2;
              log_after = log_same (table_of x) p (heard_of (table_of x) (frame_of frame)) m e used log log' _ _ same
                  (ap (λ (s : ℕ). hear_fault s (table_of x) p frame free) (state_same x p m e same)) c.log_after;
            },
          );
    }
