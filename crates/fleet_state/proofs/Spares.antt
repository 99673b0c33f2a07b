-- 22 by the counts of a probe.
use Prim.Native.Nat.{ℕ, ◌-◌}
use mathlib.Core.Path.{◌≡◌, ◌∙◌}
use mathlib.Core.List.{List}
use Rattle.table.specs.Table.{Table, degree}
use Rattle.table.proofs.Needs.{spare_given}
use Rattle.probe_record.specs.Record.{spare_fault}
use Rattle.fleet_theory.specs.Fleet.{own}
use Rattle.fleet_state.specs.Faults.{over_fault}
use Rattle.fleet_state.proofs.CountLaws.{counted_at, outs_counted, held_counted}

module _ (t : Table) (r : List ℕ) (v : ℕ) where
  pub over_counted : (d s h : ℕ) → d ≡ degree t v → s ≡ counted_at t.low t.high r 0 2 1 t.links v → h ≡ counted_at t.low t.high r 3 1 1 t.links v
      → over_fault (d - t.need v) s h ≡ spare_fault t v (own t v r)
  over_counted d s h ed es eh = rw (ed, spare_given t v, es ∙ outs_counted t r v 1, eh ∙ held_counted t r v)
