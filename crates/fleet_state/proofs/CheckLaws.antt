-- What the checks of a fleet's record give.
use Prim.Native.Nat.{ℕ, ◌+◌, ◌*◌, ◌<◌}
use mathlib.Core.Path.{◌≡◌, refl, sym, ap, ◌∙◌}
use mathlib.Core.Logic.{◌⊎◌, inl, inr}
use mathlib.Core.Bool.{Bool, true, false, cond, ◌||◌, true≢false}
use mathlib.Core.List.{List}
use native.Mathlib.Nat.{add-zero}
use lib.Dec.{eqb}
use lib.ListN.{length}
use borrow.Author.Tests.{le-ltb, eqb-true}
use Rattle.range.specs.First.{or_else, first}
use Rattle.range.proofs.Bools.{unless_none, decided}
use Rattle.range.proofs.Faults.{or_left, or_right, none_first}
use Rattle.std.specs.Prelude.{Result, Ok, IfOk, ⊤}
use Rattle.std.proofs.lemmas.Result.{IfOk-at_ok}
use Rattle.refusals.specs.Refusals.{fault_of}
use Rattle.refusals.specs.declared.Refusal.{Refusal}
use Rattle.table.specs.Slices.{Slices, table_of, slices_fault}
use Rattle.table.specs.Table.{Table, item, touches}
use Rattle.probe_record.specs.Record.{outbound, inbound, byte_fault, spare_fault}
use Rattle.fleet_theory.specs.Fleet.{own, wrong_byte, link_bytes_fault, fleet_fault}
use Rattle.fleet_theory.proofs.Own.{out_reads, in_reads}
use Rattle.fleet_theory.proofs.Marked.{MarkedBytes, passes_marked}
use Rattle.fleet_state.specs.Faults.{wrong_link}

-- 21 of a link's four
pub wrong_link_lem : (r : List ℕ) (i : ℕ) → link_bytes_fault r i ≡ cond (wrong_link r i) 21 0
unfolding first
wrong_link_lem r i =
    rw (add-zero (8 * i))
    (go (wrong_byte (item r (8 * i)) (item r (8 * i + 4)) 1) (wrong_byte (item r (8 * i + 1)) (item r (8 * i + 5)) 2) (wrong_byte (item r (8 * i + 2)) (item r (8 * i + 6)) 1) (wrong_byte (item r (8 * i + 3)) (item r (8 * i + 7)) 2))
  where
    go : (a b d e : Bool) → or_else (or_else (or_else (cond a 21 0) (cond b 21 0)) (cond d 21 0)) (cond e 21 0) ≡ cond ((a || b) || (d || e)) 21 0
    go true b d e = refl
    go false true d e = refl
    go false false true e = refl
    go false false false e = refl

-- 20 and 21 let the record pass
pub fleet_good : (t : Table) (r : List ℕ) → fleet_fault t r ≡ 0 → (length r ≡ 8 * t.links) × (first (link_bytes_fault r) t.links ≡ 0)
fleet_good t r e =
    let bytes : ℕ = first (link_bytes_fault r) t.links in
    let spares : ℕ = first (λ p. spare_fault t p (own t p r)) t.probes in
    let long : ℕ = cond (eqb (length r) (8 * t.links)) 0 20 in (
      eqb-true (length r) (8 * t.links) (unless_none (eqb (length r) (8 * t.links)) 19 (or_left long (or_else bytes spares) e)),
      or_left bytes spares (or_right long (or_else bytes spares) e),
    )

-- so 21 lets each end's own bytes pass
pub own_passes : (t : Table) (p : ℕ) (r : List ℕ) → first (link_bytes_fault r) t.links ≡ 0 → first (byte_fault t p (own t p r)) t.links ≡ 0
own_passes t p r fine = none_first (byte_fault t p (own t p r)) t.links (λ i l. go i l (decided (touches t p i)))
  where
    marked : MarkedBytes t r
    marked = passes_marked t r fine

    go : (i : ℕ) → i < t.links → (touches t p i ≡ true) ⊎ (touches t p i ≡ false) → byte_fault t p (own t p r) i ≡ 0
    go i l (inl e) = rw (le-ltb 2 (outbound (own t p r) i) (marked.outs p i).byte_small, le-ltb 2 (inbound (own t p r) i) (marked.ins p i).byte_small, e)
    go i l (inr e) =
        rw (e, (out_reads t).no_byte r p i (λ a. true≢false (sym a.1 ∙ e)), (in_reads t).no_byte r p i (λ a. true≢false (sym a.1 ∙ e)))

-- a state that passed its check, and what the check says then
pub state_passed : (x : Slices) (rec : List ℕ) {Q : Type 0} {r : Result ⊤ Refusal} {u : ⊤} → r ≡ Ok u → (fault_of r ≡ or_else (slices_fault x) (fleet_fault (table_of x) rec)) × IfOk r (λ v. Q)
    → (slices_fault x ≡ 0) × (fleet_fault (table_of x) rec ≡ 0) × Q
state_passed x rec {Q} is h =
    let none = sym h.0 ∙ ap fault_of is in
    (or_left (slices_fault x) (fleet_fault (table_of x) rec) none, or_right (slices_fault x) (fleet_fault (table_of x) rec) none, IfOk-at_ok (λ v. Q) is h.1)
