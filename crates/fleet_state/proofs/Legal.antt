-- What a legal table gives without its costs.
use Prim.Native.Nat.{ℕ, ◌≤◌, ◌<◌}
use mathlib.Core.Path.{◌≡◌}
use mathlib.Core.List.{List, []}
use native.Mathlib.Omega.{arith}
use lib.ListN.{length}
use Rattle.table.specs.Table.{Table, item, of_slices}
use Rattle.table.specs.Legal.{Ends}
use Rattle.table.specs.Slices.{LegalSlices, slices_fault, slices_of}
use Rattle.table.proofs.LegalLaws.{legal_table}
use Rattle.table.proofs.Slices.{legal_slices}
use Rattle.fleet_state.specs.Within.{LegalWithoutCosts}

-- the ends of a link are probes
pub fits_ends : (probes links : ℕ) (needs lows highs : List ℕ) → LegalWithoutCosts probes links needs lows highs → (i : ℕ) → i < links → Ends 256 (item lows i) (item highs i)
fits_ends probes links needs lows highs f i l =
    let t : Table = of_slices 0 probes links needs lows highs [] in
    let g = legal_table 256 2048 t f.legal in
    let e = g.ends i l in
    record { rises = e.rises; below = omega (arith, e.below, g.size.few) }

pub fits : (number probes links : ℕ) (needs lows highs costs : List ℕ) → LegalSlices 256 2048 (slices_of number probes links needs lows highs costs) → LegalWithoutCosts probes links needs lows highs
fits number probes links needs lows highs costs g = record { legal = g.legal; in_lows = g.in_lows; in_highs = g.in_highs }

-- what counting each probe's links asks
pub may_count : (number probes links : ℕ) (needs lows highs costs : List ℕ) → slices_fault (slices_of number probes links needs lows highs costs) ≡ 0
    → (links ≤ length lows) × (links ≤ length highs) × (links ≤ 65535) × ((i : ℕ) → i < links → Ends 256 (item lows i) (item highs i))
may_count number probes links needs lows highs costs e =
    let g = legal_slices 256 2048 (slices_of number probes links needs lows highs costs) e in
    (g.in_lows, g.in_highs, omega (arith, g.within), fits_ends probes links needs lows highs (fits number probes links needs lows highs costs g))
