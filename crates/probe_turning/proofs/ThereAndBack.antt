-- "turning one into the other and back loses nothing", of the calls.
use Prim.Native.Nat.{ℕ, ◌+◌, ◌*◌, ◌≤◌}
use mathlib.Core.Path.{◌≡◌, sym, ◌∙◌, ap}
use mathlib.Core.List.{List}
use native.Mathlib.Omega.{arith}
use lib.ListN.{length, take, drop}
use lib.Seq.{sets, sets-eq, take_at}
use borrow.Author.Tests.{le-ltb}
use Rattle.range.proofs.Faults.{or_left, or_right, or_none}
use Rattle.bit_maps.specs.BitMap.{words_for}
use Rattle.bit_maps.proofs.Maps.{length_map_of}
use Rattle.table.specs.Legal.{lent_fault}
use Rattle.table.specs.Slices.{Slices, table_of, slices_fault}
use Rattle.probe_record.specs.Record.{record_fault}
use Rattle.probe_maps.specs.Maps.{Maps, AllWords, bytes_of, maps_of, maps_fault, state_fault, stored_in}
use Rattle.probe_maps.specs.SameRecords.{TurnsBack}
use Rattle.probe_maps.proofs.Rounds.{rows_same, length_bytes_of}
use Rattle.probe_maps.proofs.Faults.{turns_back}
use Rattle.std.specs.Prelude.{Result, Ok, ⊤}
use Rattle.refusals.specs.declared.Refusal.{Refusal}
use Rattle.probe_turning.specs.Turned.{rows_lent_fault, to_maps_fault, to_bytes_fault, TurnsToMaps, TurnsToBytes, maps_in}
use Rattle.probe_turning.specs.ThereAndBack.{ThereAndBack}
use Rattle.probe_turning.proofs.Answers.{lent, turned_none, turning_is, room_standing, room_refused_out, room_held, room_refused_in}

-- what is stored stands at the start
start_is : (d vs : List ℕ) (n : ℕ) → length vs ≡ n → n ≤ length d → take n (sets d 0 vs) ≡ vs
start_is d vs n long room =
    let fits : 0 + length vs ≤ length d = omega arith in
    ap (take n) (sets-eq vs d 0 fits) ∙ take_at vs (drop (0 + length vs) d) n long

maps_start : (links : ℕ) (e : List ℕ) (out : Maps) → rows_lent_fault links out ≡ 0 → maps_in links (stored_in out (maps_of links e)) ≡ maps_of links e
maps_start links e out room =
    rows_same (start_is _ _ (words_for links) (length_map_of _ (words_for links)) (room_standing links out room))
    (start_is _ _ (words_for links) (length_map_of _ (words_for links)) (room_refused_out links out room))
    (start_is _ _ (words_for links) (length_map_of _ (words_for links)) (room_held links out room))
    (start_is _ _ (words_for links) (length_map_of _ (words_for links)) (room_refused_in links out room))

module _ (x : Slices) (p : ℕ) where
  same : TurnsBack (table_of x) p
  same = turns_back (table_of x) p

  maps_are : (e : List ℕ) (out after : Maps) (r : Result ⊤ Refusal) → to_maps_fault x p e out ≡ 0 → TurnsToMaps x p e r out after → (r ≡ Ok tt) × (maps_in x.links after ≡ maps_of x.links e)
  maps_are e out after r none t = (
    rw none at (turning_is r (to_maps_fault x p e out) t.answer),
    ap (maps_in x.links) (rw none at t.maps_after_lem) ∙ maps_start x.links e out (or_left (rows_lent_fault x.links out) _ none),
  )

  bytes_are : (m : Maps) (rec after : List ℕ) (r : Result ⊤ Refusal) → to_bytes_fault x p m rec ≡ 0 → TurnsToBytes x p m r rec after → (r ≡ Ok tt) × (take (2 * x.links) after ≡ bytes_of x.links m)
  bytes_are m rec after r none t = (
    rw none at (turning_is r (to_bytes_fault x p m rec) t.answer),
    ap (take (2 * x.links)) (rw none at t.bytes_after_lem)
        ∙ start_is rec (bytes_of x.links m) (2 * x.links) (length_bytes_of x.links m) (lent (length rec) (2 * x.links) (or_left (lent_fault (length rec) (2 * x.links)) (state_fault x p m) none)),
  )

  maps_then_bytes : (e : List ℕ) (out out' : Maps) → TurnsToMaps x p e (Ok tt) out out' → (rec : List ℕ) → 2 * x.links ≤ length rec → (r : Result ⊤ Refusal) (rec' : List ℕ)
      → TurnsToBytes x p (maps_in x.links out') r rec rec' → (r ≡ Ok tt) × (take (2 * x.links) rec' ≡ e)
  maps_then_bytes e out out' there rec room r rec' back =
      let none = turned_none (to_maps_fault x p e out) there.answer in
      let checks = or_right (rows_lent_fault x.links out) _ none in
      let fine = or_right (slices_fault x) (record_fault (table_of x) p e) checks in
      let m = (maps_are e out out' (Ok tt) none there).1 in
      let legal = or_left (slices_fault x) (record_fault (table_of x) p e) checks in
      let passes : state_fault x p (maps_of x.links e) ≡ 0 = or_none (slices_fault x) _ legal ∙ same.bytes_there e fine in
      let b = bytes_are (maps_of x.links e) rec rec' r (rw (le-ltb (length rec) (2 * x.links) room) passes) (rw m at back) in
      (b.0, b.1 ∙ sym (same.bytes_back e fine).bytes_are)

  bytes_then_maps : (m : Maps) (rec rec' : List ℕ) → AllWords m → TurnsToBytes x p m (Ok tt) rec rec' → (out : Maps) → rows_lent_fault x.links out ≡ 0 → (r : Result ⊤ Refusal) (out' : Maps)
      → TurnsToMaps x p (take (2 * x.links) rec') r out out' → (r ≡ Ok tt) × (maps_in x.links out' ≡ m)
  bytes_then_maps m rec rec' words there out room r out' back =
      let none = turned_none (to_bytes_fault x p m rec) there.answer in
      let checks = or_right (lent_fault (length rec) (2 * x.links)) (state_fault x p m) none in
      let fine = or_right (slices_fault x) (maps_fault (table_of x) p m) checks in
      let e = (bytes_are m rec rec' (Ok tt) none there).1 in
      let legal = or_left (slices_fault x) (maps_fault (table_of x) p m) checks in
      let passes : to_maps_fault x p (bytes_of x.links m) out ≡ 0 =
      or_none (rows_lent_fault x.links out) _ room ∙ or_none (slices_fault x) _ legal ∙ same.maps_there m words fine
      in
      let b = maps_are (bytes_of x.links m) out out' r passes (rw e at back) in
      (b.0, b.1 ∙ sym (same.maps_back m words fine).maps_are)

pub there_and_back : (x : Slices) (p : ℕ) → ThereAndBack x p
there_and_back x p = record { maps_back_to_bytes = maps_then_bytes x p; bytes_back_to_maps = bytes_then_maps x p }
