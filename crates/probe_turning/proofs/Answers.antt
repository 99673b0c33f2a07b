-- What the answers of turning are, by the fault found.
use Prim.Native.Nat.{ℕ, ◌*◌, ◌≤◌}
use mathlib.Core.Path.{◌≡◌, refl, ◌∙◌}
use mathlib.Core.Logic.{◌⊎◌, inl, inr}
use mathlib.Core.Bool.{Bool, true, false, cond, ◌&&◌}
use mathlib.Core.List.{List, []}
use native.Mathlib.Omega.{arith}
use lib.Dec.{ltb, eqb}
use lib.ListN.{length}
use lib.Seq.{sets}
use borrow.Author.Tests.{ltb-false, eqb-true, ne_eqb}
use Rattle.range.specs.First.{or_else}
use Rattle.range.specs.Reply.{refusal, values, reply_of}
use Rattle.range.proofs.Bools.{and_left, and_right, unless_none, when_none, decided}
use Rattle.range.proofs.Faults.{or_left, or_right}
use Rattle.bit_maps.specs.BitMap.{words_for}
use Rattle.table.specs.Table.{Table}
use Rattle.table.specs.Legal.{lent_fault}
use Rattle.table.specs.Slices.{Slices}
use Rattle.probe_maps.specs.Maps.{Maps, bytes_of, maps_of, has_words, maps_length_fault, stored_in}
use Rattle.std.specs.Prelude.{Result, Ok, Err, IsErrAnd, ⊤}
use Rattle.std.proofs.lemmas.Result.{err_from_is_err_and}
use Rattle.refusals.specs.Refusals.{number_of}
use Rattle.refusals.specs.declared.Refusal.{Refusal}
use Rattle.refusals.proofs.Laws.{number_some, refusal_of, answer_is}
use Rattle.probe_turning.specs.Turned.{turning_reply, rows_lent_fault, to_maps_fault, to_bytes_fault, TurnsToMaps, TurnsToBytes}

-- a promise fixes the answer
pub turning_is : (r : Result ⊤ Refusal) (fault : ℕ) → turning_reply r ≡ reply_of fault [] → r ≡ cond (eqb fault 0) (Ok tt) (Err (refusal_of fault))
turning_is r fault = answer_is (λ u. []) tt r fault (λ u e. refl)

pub turned_none : (fault : ℕ) → turning_reply (Ok tt) ≡ reply_of fault [] → fault ≡ 0
turned_none fault e = go (decided (eqb fault 0))
  where
    go : (eqb fault 0 ≡ true) ⊎ (eqb fault 0 ≡ false) → fault ≡ 0
    go (inl q) = eqb-true fault 0 q
    go (inr q) = let f : values [] ≡ refusal fault = rw q at e in let z : ◌≡◌ {A = ℕ} 0 1 = cc in absurd (omega arith)

-- an output long enough
pub lent : (a b : ℕ) → lent_fault a b ≡ 0 → b ≤ a
lent a b e = ltb-false a b (when_none (ltb a b) 7 e)

module _ (links : ℕ) (out : Maps) (none : rows_lent_fault links out ≡ 0) where
  abbrev words : ℕ
  words = words_for links

  after_standing : or_else (lent_fault (length out.refused_out) words) (or_else (lent_fault (length out.held) words) (lent_fault (length out.refused_in) words)) ≡ 0
  after_standing = or_right (lent_fault (length out.standing) words) _ none

  after_out : or_else (lent_fault (length out.held) words) (lent_fault (length out.refused_in) words) ≡ 0
  after_out = or_right (lent_fault (length out.refused_out) words) _ after_standing

  pub room_standing : words ≤ length out.standing
  room_standing = lent (length out.standing) words (or_left (lent_fault (length out.standing) words) _ none)

  pub room_refused_out : words ≤ length out.refused_out
  room_refused_out = lent (length out.refused_out) words (or_left (lent_fault (length out.refused_out) words) _ after_standing)

  pub room_held : words ≤ length out.held
  room_held = lent (length out.held) words (or_left (lent_fault (length out.held) words) _ after_out)

  pub room_refused_in : words ≤ length out.refused_in
  room_refused_in = lent (length out.refused_in) words (or_right (lent_fault (length out.held) words) (lent_fault (length out.refused_in) words) after_out)

bits : (links : ℕ) (row : List ℕ) → has_words links row ≡ true → links ≤ 64 * length row
bits links row e = let q = eqb-true (length row) (words_for links) e in omega arith

-- maps that 20 lets pass have a bit for each link
module _ (t : Table) (m : Maps) (none : maps_length_fault t m ≡ 0) where
  abbrev st : Bool
  st = has_words t.links m.standing

  abbrev ro : Bool
  ro = has_words t.links m.refused_out

  abbrev he : Bool
  he = has_words t.links m.held

  abbrev ri : Bool
  ri = has_words t.links m.refused_in

  all : (st && (ro && (he && ri))) ≡ true
  all = unless_none (st && (ro && (he && ri))) 19 none

  pub bits_standing : t.links ≤ 64 * length m.standing
  bits_standing = bits t.links m.standing (and_left st (ro && (he && ri)) all)

  pub bits_refused_out : t.links ≤ 64 * length m.refused_out
  bits_refused_out = bits t.links m.refused_out (and_left ro (he && ri) (and_right st (ro && (he && ri)) all))

  pub bits_held : t.links ≤ 64 * length m.held
  bits_held = bits t.links m.held (and_left he ri (and_right ro (he && ri) (and_right st (ro && (he && ri)) all)))

  pub bits_refused_in : t.links ≤ 64 * length m.refused_in
  bits_refused_in = bits t.links m.refused_in (and_right he ri (and_right ro (he && ri) (and_right st (ro && (he && ri)) all)))

-- into maps
module _ (x : Slices) (p : ℕ) (e : List ℕ) (out : Maps) where
  pub maps_refused : (r : Result ⊤ Refusal) (d : Refusal) → IsErrAnd r (λ y. y ≡ d) → number_of d ≡ to_maps_fault x p e out → TurnsToMaps x p e r out out
  maps_refused r d is q =
      let k = err_from_is_err_and r is in
      let n = ne_eqb _ 0 (number_some d) in
      record { answer = rw (k.1, k.2, ← q, n); maps_after_lem = rw (← q, n) }

  pub maps_turned : (after : Maps) → to_maps_fault x p e out ≡ 0 → after ≡ stored_in out (maps_of x.links e) → TurnsToMaps x p e (Ok tt) out after
  maps_turned after none q = record { answer = rw none; maps_after_lem = rw none q }

-- into bytes
module _ (x : Slices) (p : ℕ) (m : Maps) (out : List ℕ) where
  pub bytes_refused : (r : Result ⊤ Refusal) (d : Refusal) → IsErrAnd r (λ y. y ≡ d) → number_of d ≡ to_bytes_fault x p m out → TurnsToBytes x p m r out out
  bytes_refused r d is q =
      let k = err_from_is_err_and r is in
      let n = ne_eqb _ 0 (number_some d) in
      record { answer = rw (k.1, k.2, ← q, n); bytes_after_lem = rw (← q, n) }

  pub bytes_turned : (after : List ℕ) → to_bytes_fault x p m out ≡ 0 → after ≡ sets out 0 (bytes_of x.links m) → TurnsToBytes x p m (Ok tt) out after
  bytes_turned after none q = record { answer = rw none; bytes_after_lem = rw none q }
