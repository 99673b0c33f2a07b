-- The offers at the end of all turns are the plan.
use Prim.Native.Nat.{ℕ, zero, suc, ◌+◌, ◌-◌, ◌*◌, ◌/◌, ◌≤◌, ◌<◌}
use mathlib.Core.Path.{◌≡◌, refl, sym, ◌∙◌, ap}
use mathlib.Core.Logic.{◌⊎◌, inl, inr}
use mathlib.Core.Bool.{Bool, true, false, cond, not, ◌&&◌, ◌||◌, and-true, true≢false}
use mathlib.Core.List.{List, []}
use native.Mathlib.Omega.{arith}
use native.Mathlib.Numerals.{add-one}
use native.Mathlib.Decide.{dec_lt, ℕ_discrete}
use lib.Dec.{ltb, eqb}
use lib.ListN.{length}
use borrow.Author.Tests.{ltb-true, lt-ltb, eqb-true, eq-eqb, ne_eqb}
use Rattle.range.specs.Sum.{sum, count}
use Rattle.range.specs.Lists.{stored}
use Rattle.range.proofs.Bools.{same_bool, or_cases, and_left}
use Rattle.range.proofs.Sums.{sum_same, weigh_same, none_count}
use Rattle.range.proofs.Lists.{stored_same, stored_at, stored_beyond}
use Rattle.table.specs.Table.{Table, item, of_slices, touches, degree, spare, dearer}
use Rattle.table.specs.Legal.{Legal, LegalTable, Ends}
use Rattle.plan_theory.specs.Plan.{links_at, rested, kept}
use Rattle.plan_theory.proofs.Order.{dear, on_dear, Dear}
use Rattle.table.proofs.LegalLaws.{legal_table}
use Rattle.table.proofs.Needs.{spare_given}
use Rattle.plan_theory.specs.Criterion.{dearer_at, Across, up, down, Settled}
use Rattle.plan_theory.proofs.Settled.{settled_is_plan}
use Rattle.plan_turns_search.specs.Record.{at_source, at_target, target_of, source_of, key_of, spare_of, site_of, SiteOfTable, SiteOfLinks, kept_byte, Over}
use Rattle.plan_turns_search.specs.Offers.{on, WouldRefuse}
use Rattle.plan_turns_search.proofs.Offers.{explained}
use Rattle.plan_turns_search.proofs.Record.{source_from, source_back, distinct}

-- a count over directions, link by link
sides : (p : ℕ → Bool) (n : ℕ) → count (2 * n) p ≡ sum n (λ i. cond (p (2 * i)) 1 0 + cond (p (2 * i + 1)) 1 0)
unfolding sum
sides p zero = refl
sides p (suc n) =
    let e : 2 * suc n ≡ suc (suc (2 * n)) = omega arith in
    let a = sides p n in
    let b = add-one (2 * n) in
    let k = ap {B = ℕ} (λ (x : ℕ). cond (p x) 1 0) b in
    rw e (omega arith)

-- the byte of the direction of the link i that starts at u, among first and second ends
abbrev offer_of : List ℕ → List ℕ → ℕ → ℕ → Bool
offer_of a r u i = eqb (at_source r (cond (eqb u (item a i)) (2 * i) (2 * i + 1))) 1

-- at each link v is one of the two ends, or none
module _ (links : ℕ) (a b r : List ℕ) (v : ℕ) (t q : ℕ → Bool) (apart : (i : ℕ) → i < links → item a i ≡ item b i → ⊥)
    (at : (i : ℕ) → t i ≡ (eqb v (item a i) || eqb v (item b i))) (end : ℕ → ℕ) (from : (i : ℕ) → i < links → end (2 * i) ≡ item a i) (back : (i : ℕ) → i < links → end (2 * i + 1) ≡ item b i) where
  point : (i : ℕ) → i < links → Dec (v ≡ item a i) → Dec (v ≡ item b i)
      → cond ((eqb (item a i) v && q i) && eqb (at_source r (2 * i)) 1) 1 0 + cond ((eqb (item b i) v && q i) && eqb (at_source r (2 * i + 1)) 1) 1 0
      ≡ cond (t i && (q i && offer_of a r v i)) 1 0
  point i l (yes x) (yes y) = absurd (apart i l (sym x ∙ y))
  point i l (yes x) (no y) =
      rw (at i, eq-eqb v (item a i) x, eq-eqb (item a i) v (sym x), ne_eqb (item b i) v (λ z. y (sym z))) (omega arith)
  point i l (no x) (yes y) =
      rw (at i, ne_eqb v (item a i) x, eq-eqb v (item b i) y, ne_eqb (item a i) v (λ z. x (sym z)), eq-eqb (item b i) v (sym y)) (omega arith)
  point i l (no x) (no y) =
      rw (at i, ne_eqb v (item a i) x, ne_eqb v (item b i) y, ne_eqb (item a i) v (λ z. x (sym z)), ne_eqb (item b i) v (λ z. y (sym z)))

  by_links : count (2 * links) (λ f. (eqb (end f) v && q (f / 2)) && eqb (at_source r f) 1) ≡ count links (λ i. t i && (q i && offer_of a r v i))
  by_links =
      sides (λ f. (eqb (end f) v && q (f / 2)) && eqb (at_source r f) 1) links
      ∙ sum_same links _ (λ i. cond (t i && (q i && offer_of a r v i)) 1 0)
      (λ i l.
      let e : 2 * i / 2 ≡ i = omega arith in
      let f : (2 * i + 1) / 2 ≡ i = omega arith in
      rw (from i l, back i l, e, f) (point i l (ℕ_discrete v (item a i)) (ℕ_discrete v (item b i))))

or_turn : (a b : Bool) → (a || b) ≡ (b || a)
or_turn true true = refl
or_turn true false = refl
or_turn false true = refl
or_turn false false = refl

turn_byte : (x y b : Bool) → x ≡ b → y ≡ b → ◌≡◌ {A = ℕ} (cond (x && y) 0 1) (cond (not b) 1 0)
turn_byte x y true e f = rw (e, f)
turn_byte x y false e f = rw e

-- a number past the probes is no end
past_ends : {probes low high v : ℕ} → Ends probes low high → probes ≤ v → (eqb v low || eqb v high) ≡ true → ⊥
past_ends {probes} {low} {high} {v} e m h = go (or_cases (eqb v low) (eqb v high) h)
  where
    go : (eqb v low ≡ true) ⊎ (eqb v high ≡ true) → ⊥
    go (inl q) = let a = eqb-true v low q in let b = e.rises in let k = e.below in omega arith
    go (inr q) = let a = eqb-true v high q in let k = e.below in omega arith

-- what a legal table in slices gives
module _ (number probes links : ℕ) (needs lows highs costs : List ℕ) (legal : Legal (of_slices number probes links needs lows highs costs)) where
  abbrev table : Table
  table = of_slices number probes links needs lows highs costs

  abbrev good : LegalTable 256 2048 table
  good = legal_table 256 2048 table legal

  pub small : (probes ≤ 256) × (links ≤ 2048)
  small = (good.size.few, good.size.within)

  pub ends : (i : ℕ) → i < links → Ends probes (item lows i) (item highs i)
  ends = good.ends

  -- past the probes there are no links
  no_links : (s : ℕ → Bool) (v : ℕ) → probes ≤ v → links_at table s v ≡ 0
  no_links s v m = none_count links (λ i. touches table v i && s i) (λ i l h. past_ends (ends i l) m (and_left (touches table v i) (s i) h))

  -- in the slice x
  module _ (spares x : List ℕ) (k : SiteOfLinks probes links lows highs costs spares x) where
    from : (i : ℕ) → i < links → source_of x (2 * i) ≡ item lows i
    from = source_from probes links lows highs costs spares x k

    back : (i : ℕ) → i < links → source_of x (2 * i + 1) ≡ item highs i
    back = source_back probes links lows highs costs spares x k

    -- the keys' order is the table's
    key_dearer : (d f : ℕ) → d < 2 * links → f < 2 * links → ltb (key_of x d) (key_of x f) ≡ dearer table (f / 2) (d / 2)
    unfolding key_of
    key_dearer d f ld lf =
        rw (k.costs_in d ld, k.costs_in f lf)
        (same_bool (ltb (item costs (d / 2) * 65536 + d / 2) (item costs (f / 2) * 65536 + f / 2)) (dearer table (f / 2) (d / 2))
        (λ e. on_dear table good.order (f / 2) (d / 2) (omega arith) (omega arith) (more (ltb-true _ _ e) (dec_lt (item costs (d / 2)) (item costs (f / 2)))))
        (λ e. lt-ltb _ _ (less (dear table good.order (f / 2) (d / 2) (omega arith) (omega arith) e))))
      where
        few : links ≤ 2048
        few = small.1

        more : item costs (d / 2) * 65536 + d / 2 < item costs (f / 2) * 65536 + f / 2 → Dec (item costs (d / 2) < item costs (f / 2)) → Dear table (f / 2) (d / 2)
        more l (yes a) = inl a
        more l (no a) = let k = few in inr (omega arith)

        less : Dear table (f / 2) (d / 2) → item costs (d / 2) * 65536 + d / 2 < item costs (f / 2) * 65536 + f / 2
        less (inl a) = let k = few in omega arith
        less (inr a) = omega arith

    module _ (right : (v : ℕ) → item spares v ≡ spare table v) where
      spare_in : (v : ℕ) → v < probes → spare_of x v ≡ spare table v
      spare_in v l = k.spares_in v l ∙ right v

      pub site_of_table : SiteOfTable table (site_of x)
      site_of_table =
          record {
            both = ap (λ (n : ℕ). 2 * n) k.link_count;
            up = λ i l. (from i l, (k.targets i l).0);
            down = λ i l. (back i l, (k.targets i l).1);
            order = rw k.link_count key_dearer;
            spares = spare_in;
          }

      module _ (r : List ℕ) (over : Over x r probes) where
        abbrev stand : ℕ → ℕ → Bool
        stand = offer_of lows r

        abbrev held : ℕ → ℕ → Bool
        held = offer_of highs r

        apart : (i : ℕ) → i < links → item lows i ≡ item highs i → ⊥
        apart i l e = let a = (ends i l).rises in omega arith

        apart_back : (i : ℕ) → i < links → item highs i ≡ item lows i → ⊥
        apart_back i l e = apart i l (sym e)

        standing_at : (v : ℕ) (q : ℕ → Bool) → count (2 * links) (λ f. (eqb (source_of x f) v && q (f / 2)) && eqb (at_source r f) 1) ≡ links_at table (λ i. q i && stand v i) v
        standing_at v q = by_links links lows highs r v (touches table v) q apart (λ i. refl) (source_of x) from back

        held_at : (v : ℕ) (q : ℕ → Bool) → count (2 * links) (λ f. (eqb (target_of x f) v && q (f / 2)) && eqb (at_source r f) 1) ≡ links_at table (λ i. q i && held v i) v
        held_at v q = by_links links highs lows r v (touches table v) q apart_back (λ i. or_turn (eqb v (item lows i)) (eqb v (item highs i))) (target_of x) (λ i l. (k.targets i l).0) (λ i l. (k.targets i l).1)

        -- with no test more
        all_of : (e : ℕ → ℕ) (v : ℕ) → on (site_of x) (at_source r) (λ f. eqb (e f) v) ≡ count (2 * links) (λ f. (eqb (e f) v && true) && eqb (at_source r f) 1)
        all_of e v = rw k.link_count (weigh_same (2 * links) (λ f. eqb (e f) v && eqb (at_source r f) 1) (λ f. (eqb (e f) v && true) && eqb (at_source r f) 1) (λ f. 1) (λ f l. rw (and-true (eqb (e f) v))))

        dearer_of : (e : ℕ → ℕ) (v d : ℕ) → d < 2 * links
            → on (site_of x) (at_source r) (λ f. eqb (e f) v && ltb (key_of x d) (key_of x f)) ≡ count (2 * links) (λ f. (eqb (e f) v && dearer table (f / 2) (d / 2)) && eqb (at_source r f) 1)
        dearer_of e v d l =
            rw k.link_count (weigh_same (2 * links) (λ f. (eqb (e f) v && ltb (key_of x d) (key_of x f)) && eqb (at_source r f) 1)
            (λ f. (eqb (e f) v && dearer table (f / 2) (d / 2)) && eqb (at_source r f) 1) (λ f. 1) (λ f m. rw (key_dearer d f l m)))

        -- an offer that does not stand, by its direction d from u to w on the link i
        why : (i u w d : ℕ) → i < links → d / 2 ≡ i → d < 2 * links → source_of x d ≡ u → target_of x d ≡ w → u < probes → w < probes → (at_source r d ≡ 1 → ⊥)
            → (spare table u ≤ dearer_at table (stand u) i u) ⊎ (spare table w ≤ dearer_at table (held w) i w)
        why i u w d l e ld eu ew lu lw n = go (explained (site_of x) (distinct x over.ready.fits) (at_source r) over.ready.inv d (rw k.link_count ld) (over.done (source_of x d) (rw eu lu)) n)
          where
            go : (spare_of x (source_of x d) ≤ on (site_of x) (at_source r) (λ f. eqb (source_of x f) (source_of x d) && ltb (key_of x d) (key_of x f)))
                ⊎ WouldRefuse (site_of x) (at_source r) d → (spare table u ≤ dearer_at table (stand u) i u) ⊎ (spare table w ≤ dearer_at table (held w) i w)
            go (inl a) =
                let h = rw (eu, e) at (dearer_of (source_of x) (source_of x d) d ld) in
                let y = standing_at u (λ g. dearer table g i) in
                let z = spare_in u lu in
                let b = rw eu at a in
                inl (omega arith)
            go (inr a) =
                let h = rw (ew, e) at (dearer_of (target_of x) (target_of x d) d ld) in
                let y = held_at w (λ g. dearer table g i) in
                let z = spare_in w lw in
                let b = rw ew at a in
                inr (omega arith)

        stand_low : (i : ℕ) → stand (item lows i) i ≡ eqb (at_source r (2 * i)) 1
        stand_low i = rw (eq-eqb (item lows i) (item lows i) refl)

        stand_high : (i : ℕ) → i < links → stand (item highs i) i ≡ eqb (at_source r (2 * i + 1)) 1
        stand_high i l = rw (ne_eqb (item highs i) (item lows i) (apart_back i l))

        not_one : (x : ℕ) → eqb x 1 ≡ false → x ≡ 1 → ⊥
        not_one x e q = true≢false (sym (eq-eqb x 1 q) ∙ e)

        settled : Settled table stand held
        settled = record { same = same; standing = standing; holding = holding; explained = reason }
          where
            same : (i u w : ℕ) → i < links → Across table i u w → stand u i ≡ held w i
            same i u w l up = rw (eq-eqb (item lows i) (item lows i) refl, eq-eqb (item highs i) (item highs i) refl)
            same i u w l down = rw (ne_eqb (item highs i) (item lows i) (apart_back i l), ne_eqb (item lows i) (item highs i) (apart i l))

            standing : (v : ℕ) → links_at table (stand v) v ≤ spare table v
            standing v = go (dec_lt v probes)
              where
                go : Dec (v < probes) → links_at table (stand v) v ≤ spare table v
                go (yes l) =
                    let a = over.ready.inv.standing v in
                    let b = all_of (source_of x) v in
                    let h = standing_at v (λ i. true) in
                    let e = spare_in v l in
                    omega arith
                go (no n) = let a = no_links (stand v) v (omega arith) in omega arith

            holding : (v : ℕ) → links_at table (held v) v ≤ spare table v
            holding v = go (dec_lt v probes)
              where
                go : Dec (v < probes) → links_at table (held v) v ≤ spare table v
                go (yes l) =
                    let a = over.ready.inv.holding v in
                    let b = all_of (target_of x) v in
                    let h = held_at v (λ i. true) in
                    let e = spare_in v l in
                    omega arith
                go (no n) = let a = no_links (held v) v (omega arith) in omega arith

            reason : (i u w : ℕ) → i < links → Across table i u w → stand u i ≡ false
                → (spare table u ≤ dearer_at table (stand u) i u) ⊎ (spare table w ≤ dearer_at table (held w) i w)
            reason i u w l up e =
                let z = (ends i l).rises in
                let y = (ends i l).below in
                why i (item lows i) (item highs i) (2 * i) l (omega arith) (omega arith) (from i l) (k.targets i l).0 (omega arith) (omega arith)
                (not_one (at_source r (2 * i)) (sym (stand_low i) ∙ e))
            reason i u w l down e =
                let z = (ends i l).rises in
                let y = (ends i l).below in
                why i (item highs i) (item lows i) (2 * i + 1) l (omega arith) (omega arith) (back i l) (k.targets i l).1 (omega arith) (omega arith)
                (not_one (at_source r (2 * i + 1)) (sym (stand_high i l) ∙ e))

        pub plan_bytes : (plan : List ℕ) → stored (kept_byte r) links plan ≡ stored (λ i. cond (kept table i) 1 0) links plan
        plan_bytes plan = stored_same (kept_byte r) (λ i. cond (kept table i) 1 0) links plan byte
          where
            byte : (i : ℕ) → i < links → kept_byte r i ≡ cond (kept table i) 1 0
            byte i l =
                let p = settled_is_plan table good.order stand held settled i l in
                let t = over.ready.paired.twin in
                turn_byte (eqb (at_target r (2 * i)) 1) (eqb (at_target r (2 * i + 1)) 1) (rested table i)
                (ap (λ (x : ℕ). eqb x 1) (t (2 * i)) ∙ sym (stand_low i) ∙ p.0) (ap (λ (x : ℕ). eqb x 1) (t (2 * i + 1)) ∙ sym (stand_high i l) ∙ p.1)

-- the spares, of the counted links
pub spares_right : (probes links : ℕ) (needs lows highs counts spares : List ℕ) → ((i : ℕ) → i < links → Ends probes (item lows i) (item highs i))
    → ((v : ℕ) → item counts v ≡ degree (of_slices 0 probes links [] lows highs []) v) → probes ≤ length counts
    → spares ≡ stored (λ v. item counts v - item needs v) probes counts → (v : ℕ) → item spares v ≡ spare (of_slices 0 probes links needs lows highs []) v
spares_right probes links needs lows highs counts spares ends right room e v = rw e (go (dec_lt v probes)) ∙ sym (spare_given (of_slices 0 probes links needs lows highs []) v)
  where
    none : probes ≤ v → item counts v ≡ 0
    none m = right v ∙ none_count links (touches (of_slices 0 probes links [] lows highs []) v) (λ i l h. past_ends (ends i l) m h)

    go : Dec (v < probes) → item (stored (λ k. item counts k - item needs k) probes counts) v ≡ degree (of_slices 0 probes links needs lows highs []) v - item needs v
    go (yes l) = stored_at (λ k. item counts k - item needs k) probes counts v room l ∙ ap (λ (x : ℕ). x - item needs v) (right v)
    go (no n) =
        let a = stored_beyond (λ k. item counts k - item needs k) probes counts v (omega arith) in
        let b = none (omega arith) in
        let k = right v in
        omega arith
