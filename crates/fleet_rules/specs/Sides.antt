-- The sides of an end's record: where their bytes stand in the fleet's, and which link of a side is the best.
use Rattle.std.specs.Prelude.{ℕ, Bool, true, false, List}
use Rattle.table.specs.Table.{Table, dearer, cheaper}
use Rattle.probe_record.specs.Record.{outbound, inbound}
use Rattle.fleet_theory.specs.Fleet.{out_at, in_at}
use Rattle.fleet_rules.specs.declared.Side.{Side}
use Rattle.fleet_rules.specs.declared.Side.TheVariants.{Out, In}

abbrev pub by_side : {A : Type 0} → Side → A → A → A
by_side Out a b = a
by_side In a b = b

abbrev pub own_at : Side → Table → ℕ → ℕ → ℕ
own_at side t p i = by_side side (out_at t p i) (in_at t p i)

abbrev pub side_byte : Side → List ℕ → ℕ → ℕ
side_byte side e = by_side side (outbound e) (inbound e)

-- outbound the best is the dearest of the links untried, inbound the cheapest of those held
abbrev pub wanted : Side → ℕ
wanted side = by_side side 0 1

abbrev pub cheapest : Side → Bool
cheapest side = by_side side false true

abbrev pub side_better : Side → Table → ℕ → ℕ → Bool
side_better side t = by_side side (dearer t) (cheaper t)
