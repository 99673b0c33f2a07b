-- Turning the record of an end, bytes into maps and back: document 02, No. 9.
use Rattle.std.specs.Prelude.{ℕ, ◌*◌, ◌≡◌, cond, List, [], eqb, length, take, Result, ⊤}
use Rattle.std.proofs.lemmas.List.Edits.{sets}
use Rattle.range.specs.First.{or_else}
use Rattle.range.specs.Reply.{Reply, reply_of}
use Rattle.refusals.specs.Refusals.{reply_in}
use Rattle.refusals.specs.declared.Refusal.{Refusal}
use Rattle.bit_maps.specs.BitMap.{words_for}
use Rattle.table.specs.Legal.{lent_fault}
use Rattle.table.specs.Slices.{Slices, table_of, slices_fault}
use Rattle.probe_record.specs.Record.{record_fault}
use Rattle.probe_maps.specs.Maps.{Maps, rows, bytes_of, maps_of, state_fault, stored_in}

-- no values where it is turned
abbrev pub turning_reply : Result ⊤ Refusal → Reply
turning_reply = reply_in (λ u. [])

-- "turning checks 20 to 22 of the form it is given": 8 for an output too short first, then the table's checks
abbrev pub rows_lent_fault : ℕ → Maps → ℕ
rows_lent_fault links out =
    let words = words_for links in
    or_else (lent_fault (length out.standing) words) (or_else (lent_fault (length out.refused_out) words)
    (or_else (lent_fault (length out.held) words) (lent_fault (length out.refused_in) words)))

abbrev pub to_maps_fault : Slices → ℕ → List ℕ → Maps → ℕ
to_maps_fault x p e out = or_else (rows_lent_fault x.links out) (or_else (slices_fault x) (record_fault (table_of x) p e))

abbrev pub to_bytes_fault : Slices → ℕ → Maps → List ℕ → ℕ
to_bytes_fault x p m out = or_else (lent_fault (length out) (2 * x.links)) (state_fault x p m)

-- the lent output after turning: "a longer output's rest stays"
abbrev pub turned_maps : Slices → ℕ → List ℕ → Maps → Maps
turned_maps x p e out = cond (eqb (to_maps_fault x p e out) 0) (stored_in out (maps_of x.links e)) out

abbrev pub turned_bytes : Slices → ℕ → Maps → List ℕ → List ℕ
turned_bytes x p m out = cond (eqb (to_bytes_fault x p m out) 0) (sets out 0 (bytes_of x.links m)) out

-- the calls of turning
pub record TurnsToMaps (x : Slices) (p : ℕ) (e : List ℕ) (r : Result ⊤ Refusal) (before after : Maps) : Type 0 where
  pub answer : turning_reply r ≡ reply_of (to_maps_fault x p e before) []
  pub maps_after_lem : after ≡ turned_maps x p e before

pub record TurnsToBytes (x : Slices) (p : ℕ) (m : Maps) (r : Result ⊤ Refusal) (before after : List ℕ) : Type 0 where
  pub answer : turning_reply r ≡ reply_of (to_bytes_fault x p m before) []
  pub bytes_after_lem : after ≡ turned_bytes x p m before

-- the maps at the start of longer rows
abbrev pub maps_in : ℕ → Maps → Maps
maps_in links out =
    let words = words_for links in
    rows (take words out.standing) (take words out.refused_out) (take words out.held) (take words out.refused_in)
