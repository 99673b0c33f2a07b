-- What the steps promise: a script taken into buffers.
use Rattle.std.specs.Prelude.{ℕ, ◌+◌, ◌≤◌, ◌≡◌, List, [], length, take}
use Rattle.std.proofs.lemmas.List.Edits.{sets}
use Rattle.script_lines.specs.Fitting.{capped}
use Rattle.script_theory.specs.Script.{Script}
use Rattle.script_steps.specs.declared.Progress.{Progress}
use Rattle.script_steps.specs.declared.Place.{Place}

-- a script under way, with nothing printed yet
abbrev pub under_way : Progress → List ℕ → List ℕ → Script
under_way p rec line = record { bytes = rec; used = p.used; changed = p.changed; held = take p.held line; out = [] }

-- the script q in the buffers: what it printed stands from an offset on where it fits, and its length is counted
pub record Buffered (q : Script) (from : ℕ) (r : Place) (rec line out out' : List ℕ) : Type 0 where
  pub bytes : rec ≡ q.bytes
  pub used : r.progress.used ≡ q.used
  pub changed : r.progress.changed ≡ q.changed
  pub held : r.progress.held ≡ length q.held
  pub kept : take r.progress.held line ≡ q.held
  pub at : r.at ≡ capped (from + length q.out)
  pub printed : from + length q.out ≤ length out → out' ≡ sets out from q.out
