-- An end's event with its wake log: document 01, "one for each accepted event .. The earlier entries never change."
use Rattle.std.specs.Prelude.{ℕ, ◌-◌, ◌≡◌, cond, List, eqb, length, set}
use Rattle.table.specs.Table.{Table}
use Rattle.table.specs.Slices.{Slices, table_of}
use Rattle.probe_frame.specs.Frame.{frame_of}
use Rattle.wake_log.specs.declared.Entry.{Entry}
use Rattle.wake_log.specs.declared.Answer.{Answer}
use Rattle.probe_rules.specs.declared.Event.{Event}
use Rattle.probe_rules.specs.declared.Event.TheVariants.{Opening}
use Rattle.probe_rules.specs.Rules.{entry_of}
use Rattle.probe_rules.specs.Frames.{heard_of}
use Rattle.probe_maps.specs.Maps.{Maps}
use Rattle.probe_maps.specs.MapRules.{befalls_maps}
use Rattle.probe.specs.Answers.{Befallen, opens_fault, hears_fault}

-- the call's answer and maps as without a log; the log has the entry behind its used ones, or is unchanged
pub record LogsAtEnd (fault : ℕ) (t : Table) (p : ℕ) (event : Event) (r : Answer) (before after : Maps) (used : ℕ) (log log' : List Entry) : Type 0 where
  pub befallen : Befallen fault t p event r before after
  pub log_after : log' ≡ cond (eqb fault 0) (set log used (entry_of t p (befalls_maps t p event before))) log

-- The calls of the end p, over the table in its slices: as `Opens` and `Hears` without a log.

abbrev pub OpensLogged : Slices → ℕ → Answer → Maps → Maps → ℕ → List Entry → List Entry → Type 0
OpensLogged x p r before after used log log' =
    LogsAtEnd (opens_fault x p before (length log - used)) (table_of x) p Opening r before after used log log'

abbrev pub HearsLogged : Slices → ℕ → List ℕ → Answer → Maps → Maps → ℕ → List Entry → List Entry → Type 0
HearsLogged x p frame r before after used log log' =
    LogsAtEnd (hears_fault x p before frame (length log - used)) (table_of x) p (heard_of (table_of x) (frame_of frame)) r before after used log log'
