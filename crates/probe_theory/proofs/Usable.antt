-- A fresh record passes 20, 21 and 22, and so does the record that an event leaves.
use Prim.Native.Nat.{ℕ, suc, ◌+◌, ◌*◌, ◌≤◌, ◌<◌}
use mathlib.Core.Path.{◌≡◌, sym, ◌∙◌}
use mathlib.Core.Bool.{true, false, true≢false, and-false}
use mathlib.Core.List.{List}
use native.Mathlib.Omega.{arith}
use native.Mathlib.Decide.{ℕ_discrete}
use lib.Dec.{eqb}
use lib.ListN.{length, set, length-set, length-replicate}
use borrow.Author.Tests.{eqb-true, eq-eqb, ne_eqb}
use Rattle.range.specs.Sum.{count}
use Rattle.range.proofs.Bools.{and_right, and_intro}
use Rattle.range.proofs.Lists.{zeros_at}
use Rattle.range.proofs.Sums.{weigh_le, weigh_same, none_count}
use Rattle.range.proofs.Counts.{count_except, count_swap}
use Rattle.table.specs.Table.{Table, item, touches, spare}
use Rattle.probe_record.specs.Record.{outbound, inbound, fresh, own_with, standing, held}
use Rattle.probe_record.proofs.Bytes.{Passes, GoodRecord}
use Rattle.probe_rules.specs.declared.Event.{Event}
use Rattle.probe_rules.specs.declared.Outcome.{Outcome}
use Rattle.probe_rules.specs.Rules.{alter}
use Rattle.probe_rules.specs.Within.{OwnLink, OwnEvent}
use Rattle.probe_rules.proofs.Befalls.{Befell, opened, enough, all_tried, taken, displacing, refused, seen, learnt, known}
use Rattle.probe_theory.proofs.Stores.{out_here, out_else, out_kept, in_here, in_else, in_kept}

-- how many own links have the byte 1, before and after
module _ (t : Table) (p : ℕ) (b b' : ℕ → ℕ) where
  abbrev ones : (ℕ → ℕ) → ℕ
  ones c = count t.links (own_with t p c 1)

  ones_same : ((j : ℕ) → b' j ≡ b j) → ones b' ≡ ones b
  ones_same h = weigh_same t.links (own_with t p b' 1) (own_with t p b 1) (λ j. 1) (λ j l. rw (h j))

  ones_more : (i : ℕ) → i < t.links → ((j : ℕ) → (j ≡ i → ⊥) → b' j ≡ b j) → ones b' ≤ suc (ones b)
  ones_more i l h = count_except t.links (own_with t p b' 1) (own_with t p b 1) i l (λ j k d e. rw (h j d) at e)

  ones_fewer : (i : ℕ) → (b' i ≡ 1 → ⊥) → ((j : ℕ) → (j ≡ i → ⊥) → b' j ≡ b j) → ones b' ≤ ones b
  ones_fewer i d h = weigh_le t.links (own_with t p b' 1) (own_with t p b 1) (λ j. 1) (λ j l e. go j e (ℕ_discrete j i))
    where
      go : (j : ℕ) → own_with t p b' 1 j ≡ true → Dec (j ≡ i) → own_with t p b 1 j ≡ true
      go j e (yes s) = absurd (d (rw s at (eqb-true (b' j) 1 (and_right (touches t p j) (eqb (b' j) 1) e))))
      go j e (no s) = rw (h j s) at e

  -- the byte on i alone may become 1, and the byte on c was 1
  ones_swap : (i c : ℕ) → i < t.links → OwnLink t p c → b c ≡ 1 → (b' c ≡ 1 → ⊥) → ((j : ℕ) → (j ≡ i → ⊥) → (j ≡ c → ⊥) → b' j ≡ b j) → ones b' ≤ ones b
  ones_swap i c l a into out h =
      count_swap t.links (own_with t p b' 1) (own_with t p b 1) i c l a.0 (λ j k d e. go j d e (ℕ_discrete j c))
      (rw (ne_eqb (b' c) 1 out) (and-false (touches t p c))) (and_intro a.1 (eq-eqb (b c) 1 into))
    where
      go : (j : ℕ) → (j ≡ i → ⊥) → own_with t p b' 1 j ≡ true → Dec (j ≡ c) → own_with t p b 1 j ≡ true
      go j d e (yes s) = absurd (out (rw s at (eqb-true (b' j) 1 (and_right (touches t p j) (eqb (b' j) 1) e))))
      go j d e (no s) = rw (h j d s) at e

module _ (t : Table) (p : ℕ) where
  pub fresh_good : GoodRecord t p (fresh t)
  fresh_good =
      record {
        size = length-replicate (2 * t.links) 0;
        bytes = λ i l. record {
          out_small = rw (zero_at (2 * i)) (omega arith);
          in_small = rw (zero_at (2 * i + 1)) (omega arith);
          out_own = λ m. zero_at (2 * i);
          in_own = λ m. zero_at (2 * i + 1);
        };
        standing_fits = rw (none (outbound (fresh t)) (λ i. zero_at (2 * i))) (omega arith);
        held_fits = rw (none (inbound (fresh t)) (λ i. zero_at (2 * i + 1))) (omega arith);
      }
    where
      zero_at : (j : ℕ) → item (fresh t) j ≡ 0
      zero_at = zeros_at (2 * t.links)

      none : (b : ℕ → ℕ) → ((i : ℕ) → b i ≡ 0) → count t.links (own_with t p b 1) ≡ 0
      none b z = none_count t.links (own_with t p b 1) (λ i l e. let a = eqb-true (b i) 1 (and_right (touches t p i) (eqb (b i) 1) e) in let c = z i in omega arith)

  -- 20 and 21 let the record pass
  pub record GoodBytes (e : List ℕ) : Type 0 where
    pub size : length e ≡ 2 * t.links
    pub bytes : (i : ℕ) → i < t.links → Passes t p e i

  module _ (e : List ℕ) (g : GoodBytes e) (i v : ℕ) (a : OwnLink t p i) (small : v ≤ 2) where
    out_fits : 2 * i < length e
    out_fits = let n = g.size in let l = a.0 in omega arith

    in_fits : 2 * i + 1 < length e
    in_fits = let n = g.size in let l = a.0 in omega arith

    not_own : (j : ℕ) → touches t p j ≡ false → j ≡ i → ⊥
    not_own j m s = true≢false (sym a.1 ∙ (rw s at m))

    out_stored : GoodBytes (set e (2 * i) v)
    out_stored =
        record {
          size = length-set e (2 * i) v ∙ g.size;
          bytes = λ j l. record {
            out_small = go j l (ℕ_discrete j i);
            in_small = rw (in_kept e i v j) (g.bytes j l).in_small;
            out_own = λ m. out_else e i v j (not_own j m) ∙ (g.bytes j l).out_own m;
            in_own = λ m. in_kept e i v j ∙ (g.bytes j l).in_own m;
          };
        }
      where
        go : (j : ℕ) → j < t.links → Dec (j ≡ i) → outbound (set e (2 * i) v) j ≤ 2
        go j l (yes s) = rw (s, out_here e i v out_fits) small
        go j l (no s) = rw (out_else e i v j s) (g.bytes j l).out_small

    in_stored : GoodBytes (set e (2 * i + 1) v)
    in_stored =
        record {
          size = length-set e (2 * i + 1) v ∙ g.size;
          bytes = λ j l. record {
            out_small = rw (out_kept e i v j) (g.bytes j l).out_small;
            in_small = go j l (ℕ_discrete j i);
            out_own = λ m. out_kept e i v j ∙ (g.bytes j l).out_own m;
            in_own = λ m. in_else e i v j (not_own j m) ∙ (g.bytes j l).in_own m;
          };
        }
      where
        go : (j : ℕ) → j < t.links → Dec (j ≡ i) → inbound (set e (2 * i + 1) v) j ≤ 2
        go j l (yes s) = rw (s, in_here e i v in_fits) small
        go j l (no s) = rw (in_else e i v j s) (g.bytes j l).in_small

  module _ (e : List ℕ) (g : GoodRecord t p e) where
    plain : GoodBytes e
    plain = record { size = g.size; bytes = g.bytes }

    -- with the offers that stand and those held, against those before
    fits : (e' : List ℕ) → GoodBytes e' → standing t p e' ≤ spare t p → held t p e' ≤ spare t p → GoodRecord t p e'
    fits e' h s k = record { size = h.size; bytes = h.bytes; standing_fits = s; held_fits = k }

    out_good : (i v : ℕ) → OwnLink t p i → v ≤ 2 → standing t p (set e (2 * i) v) ≤ spare t p → GoodRecord t p (set e (2 * i) v)
    out_good i v a small s =
        let k = ones_same t p (inbound e) (inbound (set e (2 * i) v)) (in_kept e i v) in
        let h = g.held_fits in
        fits (set e (2 * i) v) (out_stored e plain i v a small) s (omega arith)

    in_good : (i v : ℕ) → OwnLink t p i → v ≤ 2 → held t p (set e (2 * i + 1) v) ≤ spare t p → GoodRecord t p (set e (2 * i + 1) v)
    in_good i v a small k =
        let s = ones_same t p (outbound e) (outbound (set e (2 * i + 1) v)) (out_kept e i v) in
        let h = g.standing_fits in
        fits (set e (2 * i + 1) v) (in_stored e plain i v a small) (omega arith) k

    pub befell_good : {v : Event} {o : Outcome} → Befell t p e v o → OwnEvent t p v → GoodRecord t p (alter o e)
    befell_good (opened i a z m h) w =
        out_good i 1 a (omega arith) (let n = ones_more t p (outbound e) (outbound (set e (2 * i) 1)) i a.0 (out_else e i 1) in omega arith)
    befell_good (enough m) w = g
    befell_good (all_tried m h) w = g
    befell_good (taken i z m) w =
        in_good i 1 w (omega arith) (let n = ones_more t p (inbound e) (inbound (set e (2 * i + 1) 1)) i w.0 (in_else e i 1) in omega arith)
    befell_good (displacing i c z m a y d h) w =
        let mid = set e (2 * i + 1) 1 in
        let last = set mid (2 * c + 1) 2 in
        let good = in_stored e plain i 1 w (omega arith) in
        let two = in_here mid c 2 (in_fits mid good c 2 a (omega arith)) in
        let s = ones_same t p (outbound e) (outbound last) (λ j. out_kept mid c 2 j ∙ out_kept e i 1 j) in
        let n = ones_swap t p (inbound e) (inbound last) i c w.0 a y (λ f. omega arith) (λ j k f. in_else mid c 2 j f ∙ in_else e i 1 j k) in
        let hs = g.standing_fits in
        let hh = g.held_fits in
        fits last (in_stored mid good c 2 a (omega arith)) (omega arith) (omega arith)
    befell_good (refused i z m h) w =
        let two = in_here e i 2 (in_fits e plain i 2 w (omega arith)) in
        let k = g.held_fits in
        in_good i 2 w (omega arith) (let n = ones_fewer t p (inbound e) (inbound (set e (2 * i + 1) 2)) i (λ f. omega arith) (in_else e i 2) in omega arith)
    befell_good (seen i d) w = g
    befell_good (learnt i d) w =
        let two = out_here e i 2 (out_fits e plain i 2 w (omega arith)) in
        let k = g.standing_fits in
        out_good i 2 w (omega arith) (let n = ones_fewer t p (outbound e) (outbound (set e (2 * i) 2)) i (λ f. omega arith) (out_else e i 2) in omega arith)
    befell_good (known i y) w = g
