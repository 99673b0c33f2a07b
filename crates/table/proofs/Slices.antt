-- What it means that a table in slices has no fault.
use Prim.Native.Nat.{ℕ}
use mathlib.Core.Path.{◌≡◌}
use native.Mathlib.Omega.{arith}
use lib.ListN.{length}
use Rattle.range.proofs.Faults.{or_left, or_right}
use Rattle.table.specs.Legal.{table_fault, room_fault}
use Rattle.table.specs.Slices.{Slices, table_of, slice_fault, LegalSlices}
use Rattle.table.proofs.Faults.{room_good}
use Rattle.table.proofs.LegalLaws.{legal_table}

pub legal_slices : (pmax lmax : ℕ) (x : Slices) → slice_fault pmax lmax x ≡ 0 → LegalSlices pmax lmax x
legal_slices pmax lmax x e =
    let n = length x.needs in
    let l = length x.lows in
    let h = length x.highs in
    let c = length x.costs in
    let t = table_of x in
    let legal : table_fault pmax lmax t ≡ 0 = or_right (room_fault x.probes x.links n l h c) (table_fault pmax lmax t) e in
    let r = room_good x.probes x.links n l h c (or_left _ (table_fault pmax lmax t) e) in
    let s = (legal_table pmax lmax t legal).size in
    record {
      legal = legal;
      few = s.few;
      within = s.within;
      in_needs = r.needed;
      in_lows = r.linked;
      in_highs = omega (arith, r.linked, r.equal);
      in_costs = omega (arith, r.linked, r.equal, r.equal₂);
    }
