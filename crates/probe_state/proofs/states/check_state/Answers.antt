use Rattle.std.proofs.Common.{rules}
use Prim.Native.Nat.{ℕ}
use mathlib.Core.Path.{◌≡◌, refl, sym}
use mathlib.Core.List.{List}
use native.Mathlib.Omega.{arith}
use lib.ListN.{length}
use Rattle.range.specs.First.{or_else}
use Rattle.refusals.proofs.Laws.{at_exit_if, or_refused, or_passed}
use Rattle.bit_maps.specs.BitMap.{words_for, ones_of, map_of}
use Rattle.table.specs.Table.{spare}
use Rattle.table.specs.Slices.{Slices, table_of, slices_fault, LegalSlices, as_slices}
use Rattle.table.proofs.Slices.{legal_slices}
use Rattle.probe_maps.specs.Maps.{Maps, rows, is_own, maps_length_fault}
use Rattle.probe_state.proofs.FaultLaws.{lengths_passed, own_bits, length_own, ones_by_spare}
use Rattle.probe_state.proofs.states.check_state.Goals as goal

pub returns-in_err-check_slices : goal.returns-in_err-check_slices
returns-in_err-check_slices c = at_exit_if _ _ _ _ c.from_residual.ensures.1 (or_refused _ _ _ c.in_err-check_slices.ensures)

pub check_lengths-requires : goal.check_lengths-requires
check_lengths-requires c =
    let x : Slices = as_slices c.args.table in
    omega (arith, (legal_slices 256 2048 x (sym c.in_ok-check_slices.ensures)).within)

pub returns-in_err-check_lengths : goal.returns-in_err-check_lengths
returns-in_err-check_lengths c =
    at_exit_if _ _ _ _ c.from_residual-in_err-check_lengths.ensures.1 (or_passed _ _ _ c.in_ok-check_slices.ensures (or_refused _ _ _ c.in_err-check_lengths.ensures))

pub own_map-requires : goal.own_map-requires
own_map-requires c =
    let x : Slices = as_slices c.args.table in
    let legal : LegalSlices 256 2048 x = legal_slices 256 2048 x (sym c.in_ok-check_slices.ensures) in
    (legal.in_lows, legal.in_highs, c.requires)

pub check_bits-requires : goal.check_bits-requires
check_bits-requires c =
    let a = c.args in
    let x : Slices = as_slices a.table in
    let legal : LegalSlices 256 2048 x = legal_slices 256 2048 x (sym c.in_ok-check_slices.ensures) in
    let l = lengths_passed (length a.standing.now) (length a.refused_out.now) (length a.held.now) (length a.refused_in.now) (words_for x.links) _ c.in_ok-check_lengths.ensures refl in
    let owned = length_own (table_of x) a.probe 32 _ c.own_map.ensures in
    (omega (arith, l.0, l.1), omega (arith, l.0, l.2), omega (arith, l.0, l.3), omega (arith, l.0, legal.within, owned))

-- past the lengths, what is found of the maps is the state's fault
module _ (x : Slices) (p : ℕ) (m : Maps) (table : 0 ≡ slices_fault x) (lengths : 0 ≡ maps_length_fault (table_of x) m) where
  past_lengths : (r rest : ℕ) → r ≡ rest → r ≡ or_else (slices_fault x) (or_else (maps_length_fault (table_of x) m) rest)
  past_lengths r rest e = or_passed _ _ _ table (or_passed _ _ _ lengths e)

pub returns-in_err-check_bits : goal.returns-in_err-check_bits
returns-in_err-check_bits c =
    let a = c.args in
    let x : Slices = as_slices a.table in
    let m : Maps = rows a.standing.now a.refused_out.now a.held.now a.refused_in.now in
    let legal : LegalSlices 256 2048 x = legal_slices 256 2048 x (sym c.in_ok-check_slices.ensures) in
    let l = lengths_passed (length m.standing) (length m.refused_out) (length m.held) (length m.refused_in) (words_for x.links) _ c.in_ok-check_lengths.ensures refl in
    let bits = own_bits (table_of x) a.probe 32 m _ (length m.standing) _ c.own_map.ensures l.0 legal.within c.in_err-check_bits.ensures in
    at_exit_if _ _ _ _ c.from_residual-in_err-check_bits.ensures.1 (past_lengths x a.probe m c.in_ok-check_slices.ensures c.in_ok-check_lengths.ensures _ _ (or_refused _ _ _ bits))

pub check_ones-requires : goal.check_ones-requires
check_ones-requires c =
    let a = c.args in
    let x : Slices = as_slices a.table in
    let legal : LegalSlices 256 2048 x = legal_slices 256 2048 x (sym c.in_ok-check_slices.ensures) in
    let l = lengths_passed (length a.standing.now) (length a.refused_out.now) (length a.held.now) (length a.refused_in.now) (words_for x.links) _ c.in_ok-check_lengths.ensures refl in
    (omega (arith, l.0, legal.within), omega (arith, l.2, legal.within))

pub returns-in_err-check_ones : goal.returns-in_err-check_ones
returns-in_err-check_ones c =
    let a = c.args in
    let x : Slices = as_slices a.table in
    let t = table_of x in
    let m : Maps = rows a.standing.now a.refused_out.now a.held.now a.refused_in.now in
    let legal : LegalSlices 256 2048 x = legal_slices 256 2048 x (sym c.in_ok-check_slices.ensures) in
    let l = lengths_passed (length m.standing) (length m.refused_out) (length m.held) (length m.refused_in) (words_for x.links) _ c.in_ok-check_lengths.ensures refl in
    let bits = own_bits t a.probe 32 m _ (length m.standing) _ c.own_map.ensures l.0 legal.within c.in_ok-check_bits.ensures in
    let room = c.spare-spare.ensures t legal.within refl c.own_map.ensures in
    let ones = ones_by_spare (spare t a.probe) _ (ones_of m.standing) (ones_of m.held) _ room c.in_err-check_ones.ensures in
    at_exit_if _ _ _ _ c.from_residual-in_err-check_ones.ensures.1 (past_lengths x a.probe m c.in_ok-check_slices.ensures c.in_ok-check_lengths.ensures _ _ (or_passed _ _ _ bits ones))

pub returns : goal.returns
returns c =
    let a = c.args in
    let x : Slices = as_slices a.table in
    let t = table_of x in
    let m : Maps = rows a.standing.now a.refused_out.now a.held.now a.refused_in.now in
    let legal : LegalSlices 256 2048 x = legal_slices 256 2048 x (sym c.in_ok-check_slices.ensures) in
    let l = lengths_passed (length m.standing) (length m.refused_out) (length m.held) (length m.refused_in) (words_for x.links) _ c.in_ok-check_lengths.ensures refl in
    let bits = own_bits t a.probe 32 m _ (length m.standing) _ c.own_map.ensures l.0 legal.within c.in_ok-check_bits.ensures in
    let room = c.spare-spare.ensures t legal.within refl c.own_map.ensures in
    let ones = ones_by_spare (spare t a.probe) _ (ones_of m.standing) (ones_of m.held) _ room c.in_ok-check_ones.ensures in
    (past_lengths x a.probe m c.in_ok-check_slices.ensures c.in_ok-check_lengths.ensures _ _ (or_passed _ _ _ bits ones), c.own_map.ensures)
