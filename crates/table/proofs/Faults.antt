-- What it means that a table's checks find no fault.
use Prim.Native.Nat.{ℕ, ◌+◌, ◌-◌, ◌≤◌, ◌<◌}
use mathlib.Core.Path.{◌≡◌, sym, ◌∙◌}
use mathlib.Core.Bool.{Bool, false, cond, not, ◌&&◌, ◌||◌}
use native.Mathlib.Omega.{arith}
use native.Mathlib.Decide.{ℕ_discrete, dec_lt}
use lib.Dec.{ltb, leb, eqb}
use borrow.Author.Tests.{ltb-true, ltb-false, leb-false, eqb-true, eqb-false, not-false, eq-eqb, ne_eqb, lt-ltb, le-ltb}
use Rattle.range.specs.First.{first}
use Rattle.range.proofs.Bools.{and_left, and_right, or_false_left, or_false_right, unless_none, when_none}
use Rattle.range.proofs.Faults.{or_left, or_none, first_none, first_all}
use Rattle.table.specs.Legal.{ends_fault, order_fault, link_fault, size_fault, room_fault, Ends, Size, Room}

pub ends_good : (probes low high : ℕ) → ends_fault probes low high ≡ 0 → Ends probes low high
ends_good probes low high e =
    let b = unless_none (ltb low high && ltb high probes) 3 e in
    record {
      rises = ltb-true low high (and_left (ltb low high) (ltb high probes) b);
      below = ltb-true high probes (and_right (ltb low high) (ltb high probes) b);
    }

pub link_ends : (probes : ℕ) (low high : ℕ → ℕ) (i : ℕ) → link_fault probes low high i ≡ 0 → Ends probes (low i) (high i)
unfolding link_fault
link_ends probes low high i e =
    ends_good probes (low i) (high i)
    (or_left (ends_fault probes (low i) (high i)) (cond (eqb i 0) 0 (order_fault (low (i - 1)) (high (i - 1)) (low i) (high i))) e)

pub links_ends : (probes links : ℕ) (low high : ℕ → ℕ) → first (link_fault probes low high) links ≡ 0 → (i : ℕ) → i < links → Ends probes (low i) (high i)
links_ends probes links low high e i l = link_ends probes low high i (first_all (link_fault probes low high) links i e l)

-- the same where n probes can be counted
pub ends_within : (probes links n : ℕ) (low high : ℕ → ℕ) → first (link_fault probes low high) links ≡ 0 → probes ≤ n → (i : ℕ) → i < links → Ends n (low i) (high i)
ends_within probes links n low high e fits i l =
    let g = links_ends probes links low high e i l in
    record { rises = g.rises; below = omega arith }

pub size_good : (pmax lmax probes links : ℕ) → size_fault pmax lmax probes links ≡ 0 → Size pmax lmax probes links
size_good pmax lmax probes links e =
    let b = when_none (eqb probes 0 || (ltb pmax probes || ltb lmax links)) 2 e in
    let d = or_false_right (eqb probes 0) (ltb pmax probes || ltb lmax links) b in
    record {
      some = eqb-false probes 0 (or_false_left (eqb probes 0) (ltb pmax probes || ltb lmax links) b);
      few = ltb-false pmax probes (or_false_left (ltb pmax probes) (ltb lmax links) d);
      within = ltb-false lmax links (or_false_right (ltb pmax probes) (ltb lmax links) d);
    }

pub good_size : (pmax lmax probes links : ℕ) → Size pmax lmax probes links → size_fault pmax lmax probes links ≡ 0
good_size pmax lmax probes links g = rw (ne_eqb probes 0 g.some, le-ltb pmax probes g.few, le-ltb lmax links g.within)

pub room_good : (probes links needs lows highs costs : ℕ) → room_fault probes links needs lows highs costs ≡ 0 → Room probes links needs lows highs costs
room_good probes links needs lows highs costs e =
    let short = ltb lows links in
    let unequal = not (eqb highs costs) || short in
    let a = when_none (ltb needs probes || (not (eqb lows highs) || unequal)) 7 e in
    let b = or_false_right (ltb needs probes) (not (eqb lows highs) || unequal) a in
    let d = or_false_right (not (eqb lows highs)) unequal b in
    record {
      needed = ltb-false needs probes (or_false_left (ltb needs probes) (not (eqb lows highs) || unequal) a);
      linked = ltb-false lows links (or_false_right (not (eqb highs costs)) short d);
      equal = eqb-true lows highs (not-false (eqb lows highs) (or_false_left (not (eqb lows highs)) unequal b));
      equal₂ = eqb-true highs costs (not-false (eqb highs costs) (or_false_left (not (eqb highs costs)) short d));
    }

-- How the code finds that a link passes: none of the tests that fail it does.
ends_pass : (probes low high : ℕ) → (leb high low || leb probes high) ≡ false → ends_fault probes low high ≡ 0
ends_pass probes low high e =
    let a = leb-false high low (or_false_left (leb high low) (leb probes high) e) in
    let b = leb-false probes high (or_false_right (leb high low) (leb probes high) e) in
    rw (lt-ltb low high a, lt-ltb high probes b)

order_passes : (low₀ high₀ low high : ℕ) → (ltb low low₀ || (eqb low low₀ && leb high high₀)) ≡ false → order_fault low₀ high₀ low high ≡ 0
order_passes low₀ high₀ low high e = go (dec_lt low₀ low)
  where
    go : Dec (low₀ < low) → order_fault low₀ high₀ low high ≡ 0
    go (yes l) = rw (lt-ltb low₀ low l)
    go (no n) =
        let k = ltb-false low low₀ (or_false_left (ltb low low₀) (eqb low low₀ && leb high high₀) e) in
        let q : low₀ ≡ low = omega arith in
        let d = or_false_right (ltb low low₀) (eqb low low₀ && leb high high₀) e in
        let h = leb-false high high₀ (rw (eq-eqb low low₀ (sym q)) at d) in
        rw (le-ltb low₀ low (omega arith), eq-eqb low₀ low q, lt-ltb high₀ high h)

-- by the ends of the link before it, where there is one
module _ (probes : ℕ) (low high : ℕ → ℕ) (i l₀ h₀ : ℕ) (before : (i ≡ 0 → ⊥) → (l₀ ≡ low (i - 1)) × (h₀ ≡ high (i - 1))) where
  abbrev fails_ends : Bool
  fails_ends = leb (high i) (low i) || leb probes (high i)

  abbrev fails_order : Bool
  fails_order = ltb (low i) l₀ || (eqb (low i) l₀ && leb (high i) h₀)

  link_passes : (fails_ends || fails_order) ≡ false → link_fault probes low high i ≡ 0
  unfolding link_fault
  link_passes e =
      or_none (ends_fault probes (low i) (high i)) (cond (eqb i 0) 0 (order_fault (low (i - 1)) (high (i - 1)) (low i) (high i))) (ends_pass probes (low i) (high i) (or_false_left fails_ends fails_order e)) ∙ go (ℕ_discrete i 0)
    where
      go : Dec (i ≡ 0) → cond (eqb i 0) 0 (order_fault (low (i - 1)) (high (i - 1)) (low i) (high i)) ≡ 0
      go (yes z) = rw (eq-eqb i 0 z)
      go (no n) = rw (ne_eqb i 0 n, ← (before n).0, ← (before n).1) (order_passes l₀ h₀ (low i) (high i) (or_false_right fails_ends fails_order e))

  pub links_pass : (bad : Bool) → (bad ≡ false → first (link_fault probes low high) i ≡ 0) → (bad || (fails_ends || fails_order)) ≡ false → first (link_fault probes low high) (i + 1) ≡ 0
  links_pass bad none e =
      first_none (link_fault probes low high) i (none (or_false_left bad (fails_ends || fails_order) e)) (link_passes (or_false_right bad (fails_ends || fails_order) e))
