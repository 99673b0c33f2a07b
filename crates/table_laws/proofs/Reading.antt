-- What reading a text gives: its answer, and the table in the lent slices.
use Prim.Native.Nat.{ℕ, ◌≤◌, ◌<◌}
use mathlib.Core.Path.{◌≡◌, refl, sym, ◌∙◌, ap}
use mathlib.Core.Bool.{Bool, true, false, cond}
use mathlib.Core.List.{List, [], ◌∷◌}
use native.Mathlib.Nat.{le_trans}
use native.Mathlib.Omega.{arith}
use native.Mathlib.Decide.{ℕ_discrete}
use lib.Dec.{eqb}
use lib.ListN.{length, replicate, length-replicate}
use borrow.Author.Tests.{eqb-true, eqb-false, eq-eqb, le-ltb}
use Rattle.std.specs.Prelude.{Result, Err}
use Rattle.range.specs.Reply.{refusal, values}
use Rattle.refusals.specs.Refusals.{number_of}
use Rattle.refusals.specs.declared.Refusal.{Refusal}
use Rattle.range.proofs.Faults.{or_none, or_some}
use Rattle.range.proofs.Lists.{stored_at, same_length}
use Rattle.table.specs.Table.{Table, item}
use Rattle.table.specs.Legal.{room_fault, table_fault}
use Rattle.table.specs.Text.{of_text, text_end, text_fault, read_fault}
use Rattle.table.proofs.Faults.{room_good}
use Rattle.table.proofs.Accepted.{text_legal}
use Rattle.table_text.proofs.Good.{text_head}
use Rattle.table_read.specs.Reading.{Lent, reading_fault, reading_reply, answered, read_values, filled_of, ReadsTable}
use Rattle.table_read.specs.declared.TableHead.{TableHead}
use Rattle.table_read.proofs.Answers.{read_text, read_room}
use Rattle.table.specs.Same.{Same}
use Rattle.table.specs.Slices.{table_of, slices_room_fault, slice_fault}
use Rattle.table_laws.specs.Functions.{lent_slices, HoldsTable}
use Rattle.table.proofs.Same.{same_fault}

-- what the answer says

answer_read : (none : Bool) (fault number probes links rest : ℕ) (t : Table)
    → values (number ∷ probes ∷ links ∷ rest ∷ []) ≡ cond none (values (read_values t)) (refusal fault)
    → (none ≡ true) × (number ≡ t.number) × (probes ≡ t.probes) × (links ≡ t.links) × (rest ≡ text_end t)
answer_read true fault number probes links rest t e = (refl, (cc), (cc), (cc), (cc))
answer_read false fault number probes links rest t e = let z : ◌≡◌ {A = ℕ} 0 1 = cc in absurd (omega arith)

pub answer_refused : (none : Bool) (fault number : ℕ) (vs : List ℕ) → refusal number ≡ cond none (values vs) (refusal fault) → (none ≡ false) × (number ≡ fault)
answer_refused true fault number vs e = let z : ◌≡◌ {A = ℕ} 0 1 = cc in absurd (omega arith)
answer_refused false fault number vs e = (refl, (cc))

-- slices that hold the table are not refused
pub room_none : (probes links : ℕ) (a : Lent) → HoldsTable probes links a → room_fault probes links (length a.needs) (length a.lows) (length a.highs) (length a.costs) ≡ 0
room_none probes links a g = rw (le-ltb _ _ g.needed, eq-eqb _ _ g.equal, eq-eqb _ _ g.equal₂, le-ltb _ _ g.linked)

-- A call that answers r and leaves the slices as b.
module _ (pmax lmax : ℕ) (more : Bool) (s : List ℕ) (r : Result TableHead Refusal) (a b : Lent) (read : ReadsTable pmax lmax more s r a b) where
  abbrev t : Table
  t = of_text s

  abbrev fault : ℕ
  fault = reading_fault pmax lmax more s a

  module _ (none : fault ≡ 0) where
    pub accepted : text_fault pmax lmax more s ≡ 0
    accepted = read_text pmax lmax more s (length a.needs) (length a.lows) (length a.highs) (length a.costs) none

    room : HoldsTable t.probes t.links a
    room = room_good _ _ _ _ _ _ (read_room pmax lmax more s (length a.needs) (length a.lows) (length a.highs) (length a.costs) none)

    entry : (f : ℕ → ℕ) (n : ℕ) (d e : List ℕ) → e ≡ filled_of fault f n d → n ≤ length d → (i : ℕ) → i < n → item e i ≡ f i
    entry f n d e q fits i l = rw (rw none at q) (stored_at f n d i fits l)

    -- the slices have the entries of the text's table
    pub entries : Same (table_of (lent_slices t.number t.probes t.links b)) t
    entries =
        let g = room in
        record {
          number = refl;
          probes = refl;
          links = refl;
          need = entry t.need t.probes a.needs b.needs read.lent.need (omega arith);
          low = entry t.low t.links a.lows b.lows read.lent.low (omega arith);
          high = entry t.high t.links a.highs b.highs read.lent.high (omega arith);
          cost = entry t.cost t.links a.costs b.costs read.lent.cost (omega arith);
        }

    -- and the lengths that they had
    pub holds : HoldsTable t.probes t.links b
    holds =
        let g = room in
        let needs = same_length t.need t.probes a.needs b.needs (rw none at read.lent.need) in
        let lows = same_length t.low t.links a.lows b.lows (rw none at read.lent.low) in
        let highs = same_length t.high t.links a.highs b.highs (rw none at read.lent.high) in
        let costs = same_length t.cost t.links a.costs b.costs (rw none at read.lent.cost) in
        record { needed = omega arith; linked = omega arith; equal = omega arith; equal₂ = omega arith }

  pub refusal_is : (e : Refusal) → r ≡ Err e → (number_of e ≡ fault) × (fault ≡ 0 → ⊥)
  refusal_is e is =
      let n = answer_refused (eqb fault 0) fault (number_of e) (read_values t) (ap reading_reply (sym is) ∙ read.answer) in
      (n.1, eqb-false fault 0 n.0)

  module _ (number probes links rest : ℕ) (e : r ≡ answered number probes links rest) where
    said : (eqb fault 0 ≡ true) × (number ≡ t.number) × (probes ≡ t.probes) × (links ≡ t.links) × (rest ≡ text_end t)
    said = answer_read (eqb fault 0) fault number probes links rest t (ap reading_reply (sym e) ∙ read.answer)

    pub read_none : fault ≡ 0
    read_none = eqb-true fault 0 said.0

    pub read_numbers : (number ≡ t.number) × (probes ≡ t.probes) × (links ≡ t.links) × (rest ≡ text_end t)
    read_numbers = (said.1, said.2, said.3, said.4)

    pub read_same : Same (table_of (lent_slices number probes links b)) t
    read_same = rw (said.1, said.2, said.3) (entries read_none)

    pub read_legal : table_fault pmax lmax (table_of (lent_slices number probes links b)) ≡ 0
    read_legal = same_fault (table_of (lent_slices number probes links b)) t read_same pmax lmax ∙ text_legal pmax lmax more s (accepted read_none)

    held : room_fault probes links (length b.needs) (length b.lows) (length b.highs) (length b.costs) ≡ 0
    held = room_none probes links b (rw (said.2, said.3) (holds read_none))

    -- so the slices pass
    pub read_fine : slice_fault pmax lmax (lent_slices number probes links b) ≡ 0
    read_fine = or_none (slices_room_fault (lent_slices number probes links b)) (table_fault pmax lmax (table_of (lent_slices number probes links b))) held ∙ read_legal

-- slices that hold every table within the limits: 8 is not found
pub none_short : (pmax lmax : ℕ) (more : Bool) (s : List ℕ) (a : Lent) → HoldsTable pmax lmax a → reading_fault pmax lmax more s a ≡ text_fault pmax lmax more s
unfolding read_fault
none_short pmax lmax more s a g = go (ℕ_discrete (text_fault pmax lmax more s) 0)
  where
    go : Dec (text_fault pmax lmax more s ≡ 0) → reading_fault pmax lmax more s a ≡ text_fault pmax lmax more s
    go (yes e) =
        let z = (text_head pmax lmax more s e).size in
        or_none (text_fault pmax lmax more s) _ e
        ∙ room_none (of_text s).probes (of_text s).links a record { needed = le_trans z.few g.needed; linked = le_trans z.within g.linked; equal = g.equal; equal₂ = g.equal₂ }
        ∙ sym e
    go (no n) = or_some (text_fault pmax lmax more s) _ n

-- slices of zeros, as long as the largest table's
abbrev pub blank : ℕ → ℕ → Lent
blank pmax lmax = record { needs = replicate pmax 0; lows = replicate lmax 0; highs = replicate lmax 0; costs = replicate lmax 0 }

pub blank_found : (pmax lmax : ℕ) (more : Bool) (s : List ℕ) → reading_fault pmax lmax more s (blank pmax lmax) ≡ text_fault pmax lmax more s
blank_found pmax lmax more s =
    let p = length-replicate {A = ℕ} pmax 0 in
    let l = length-replicate {A = ℕ} lmax 0 in
    none_short pmax lmax more s (blank pmax lmax) record { needed = omega arith; linked = omega arith; equal = refl; equal₂ = refl }
