-- What a legal table gives, at any limits. The links rise by induction on the later one: each comes after the one before it.
use Prim.Native.Nat.{ℕ, zero, suc, ◌-◌, ◌<◌}
use mathlib.Core.Path.{◌≡◌}
use mathlib.Core.Logic.{◌⊎◌, inl, inr}
use mathlib.Core.Bool.{true, cond, ◌&&◌, ◌||◌}
use native.Mathlib.Omega.{arith}
use native.Mathlib.Decide.{ℕ_discrete}
use lib.Dec.{ltb, eqb}
use borrow.Author.Tests.{ltb-true, eqb-true, ne_eqb}
use Rattle.range.specs.First.{first}
use Rattle.range.proofs.Bools.{and_left, and_right, or_cases, unless_none}
use Rattle.range.proofs.Faults.{or_left, or_right, first_all}
use Rattle.table.specs.Table.{Table}
use Rattle.table.specs.Legal.{size_fault, ends_fault, order_fault, link_fault, table_fault, After, LegalTable}
use Rattle.table.proofs.Faults.{size_good, links_ends}

next_rises : (t : Table) (i : ℕ) → link_fault t.probes t.low t.high (suc i) ≡ 0 → After t i (suc i)
unfolding link_fault
next_rises t i e =
    let l = ltb (t.low i) (t.low (suc i)) in
    let q = eqb (t.low i) (t.low (suc i)) in
    let h = ltb (t.high i) (t.high (suc i)) in
    let prev : suc i - 1 ≡ i = omega arith in
    let fault = cond (eqb (suc i) 0) 0 (order_fault (t.low (suc i - 1)) (t.high (suc i - 1)) (t.low (suc i)) (t.high (suc i))) in
    let none = or_right (ends_fault t.probes (t.low (suc i)) (t.high (suc i))) fault e in
    go (or_cases l (q && h) (unless_none (l || (q && h)) 4 (rw (ne_eqb (suc i) 0 (λ z. omega arith), prev) at none)))
  where
    go : (ltb (t.low i) (t.low (suc i)) ≡ true) ⊎ ((eqb (t.low i) (t.low (suc i)) && ltb (t.high i) (t.high (suc i))) ≡ true) → After t i (suc i)
    go (inl a) = inl (ltb-true (t.low i) (t.low (suc i)) a)
    go (inr a) =
        let q = eqb (t.low i) (t.low (suc i)) in
        let h = ltb (t.high i) (t.high (suc i)) in
        inr (eqb-true (t.low i) (t.low (suc i)) (and_left q h a), ltb-true (t.high i) (t.high (suc i)) (and_right q h a))

after_after : (t : Table) (i j k : ℕ) → After t i j → After t j k → After t i k
after_after t i j k (inl a) (inl b) = inl (omega arith)
after_after t i j k (inl a) (inr b) = inl (omega arith)
after_after t i j k (inr a) (inl b) = inl (omega arith)
after_after t i j k (inr a) (inr b) = inr (omega arith)

-- the checks of a table, at any limits
module _ (pmax lmax : ℕ) (t : Table) (good : table_fault pmax lmax t ≡ 0) where
  abbrev links_fault : ℕ
  links_fault = first (link_fault t.probes t.low t.high) t.links

  none : links_fault ≡ 0
  none = or_right (size_fault pmax lmax t.probes t.links) links_fault good

  rise : (i j : ℕ) → i < j → j < t.links → After t i j
  rise i zero k l = absurd (omega arith)
  rise i (suc j) k l = go (rise i j) (ℕ_discrete i j)
    where
      next : After t j (suc j)
      next = next_rises t j (first_all (link_fault t.probes t.low t.high) t.links (suc j) none l)

      go : (i < j → j < t.links → After t i j) → Dec (i ≡ j) → After t i (suc j)
      go old (yes e) = rw e next
      go old (no n) = after_after t i j (suc j) (old (omega arith) (omega arith)) next

  pub legal_table : LegalTable pmax lmax t
  legal_table =
      record {
        size = size_good pmax lmax t.probes t.links (or_left (size_fault pmax lmax t.probes t.links) links_fault good);
        links_pass = none;
        ends = links_ends t.probes t.links t.low t.high none;
        order = record { rising = rise };
      }
