-- Faults 21 and 22, as the code finds them.
use Rattle.std.specs.Prelude.{ℕ, ◌+◌, ◌*◌, Bool, cond, ◌||◌, List, ltb}
use Rattle.table.specs.Table.{item}
use Rattle.fleet_theory.specs.Fleet.{wrong_byte}

-- 21, of a link's four
abbrev pub wrong_link : List ℕ → ℕ → Bool
wrong_link r i =
    (wrong_byte (item r (8 * i)) (item r (8 * i + 4)) 1 || wrong_byte (item r (8 * i + 1)) (item r (8 * i + 5)) 2)
    || (wrong_byte (item r (8 * i + 2)) (item r (8 * i + 6)) 1 || wrong_byte (item r (8 * i + 3)) (item r (8 * i + 7)) 2)

-- 22, by a probe's spare, its offers standing and those that it holds
abbrev pub over_fault : ℕ → ℕ → ℕ → ℕ
over_fault spare standing held = cond (ltb spare standing || ltb spare held) 22 0
