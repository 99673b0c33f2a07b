-- Searches along a probe's chains: down its links, and up its held offers.
use Prim.Native.Nat.{ℕ, ◌+◌, ◌*◌, ◌≤◌, ◌<◌}
use mathlib.Core.Path.{◌≡◌, sym, ◌∙◌, ap}
use mathlib.Core.Logic.{inl, inr}
use mathlib.Core.Bool.{Bool, true, cond, ◌&&◌}
use mathlib.Core.List.{List}
use native.Mathlib.Omega.{arith}
use native.Mathlib.Decide.{dec_lt}
use lib.Dec.{ltb, eqb}
use borrow.Author.Tests.{lt-ltb, le-ltb, eqb-true, eq-eqb}
use Rattle.range.proofs.Bools.{and_left, and_right, and_intro}
use Rattle.range.proofs.Sums.{weigh_le, count_less, member}
use Rattle.plan_turns_search.specs.Offers.{Site, holds, dearer_held, WouldTake, WouldRefuse, OffersInv, Grows, Sought, Cheapest, OfferSearch, HeldSearch}
use Rattle.plan_turns_search.specs.Record.{links_of, of_direction, target_of, source_of, key_of, turned_key, spare_of, site_of, SiteInSlice}
use Rattle.plan_turns_search.specs.Chain.{opposite, Below, Follows}
use Rattle.plan_turns_search.proofs.Taking.{Distinct, not_taken, not_taken_count}
use Rattle.plan_turns_search.proofs.Record.{opposite_below, opposite_source, opposite_target, opposite_key, distinct}

-- one more than a direction's key, 0 at the chain's end; it falls along a chain
abbrev pub chain_measure : ℕ → (ℕ → ℕ) → ℕ → ℕ
chain_measure dirs key e = cond (ltb e dirs) (key e + 1) 0

pub falls : (dirs : ℕ) (source key next : ℕ → ℕ) → Follows dirs source key next → (d e : ℕ) → d < dirs → e ≡ next d → chain_measure dirs key e < chain_measure dirs key d
falls dirs source key next follows d e l q = rw (lt-ltb d dirs l) (go (dec_lt e dirs))
  where
    b : Below dirs source key (source d) (key d) e
    b = rw q (follows d l)

    go : Dec (e < dirs) → chain_measure dirs key e < key d + 1
    go (yes k) = let a = b.less k in rw (lt-ltb e dirs k) (omega arith)
    go (no k) = rw (le-ltb e dirs (omega arith)) (omega arith)

-- what the searches know stays so
pub walk_grows : (s : Site) (o o' : ℕ → ℕ) → Grows s o o' → (u e : ℕ) → OfferSearch s o u e → OfferSearch s o' u e
walk_grows s o o' grows u e w =
    record {
      own = w.own;
      top = λ l g lg own z m. grows.refuses g lg (w.top l g lg own (grows.tried g z) m);
      end = λ l g lg own z. grows.refuses g lg (w.end l g lg own (grows.tried g z));
    }

pub held_grows : (s : Site) (o o' : ℕ → ℕ) → Grows s o o' → (v f : ℕ) → HeldSearch s o v f → HeldSearch s o' v f
held_grows s o o' grows v f h =
    record { below = h.below; own = h.own; low = λ g lg at m. grows.refuses g lg (h.low g lg at m) }

pub walk_sought : (s : Site) → Distinct s → (o : ℕ → ℕ) → OffersInv s o → (u r : ℕ) → Sought s o u r → OfferSearch s o u r
walk_sought s laws o i u r h =
    record {
      own = λ l. (h.some l).own;
      top = λ l g lg own z m. not_taken_count s o i.holding g laws lg z (λ take. let a = (h.some l).dearest g lg own z take in omega arith);
      end = λ l g lg own z. not_taken_count s o i.holding g laws lg z (h.none l g lg own z);
    }

module _ (slice : List ℕ) (fits : SiteInSlice slice) where
  abbrev site : Site
  site = site_of slice

  small : (d : ℕ) → d < 2 * links_of slice → key_of slice d < 4294967296
  unfolding key_of
  small d l = let a = fits.cheap d l in let b = fits.few in omega arith

  pub walk_start : (o : ℕ → ℕ) (u e : ℕ) → Below (2 * links_of slice) (source_of slice) (key_of slice) u 4294967296 e → OfferSearch site o u e
  walk_start o u e b =
      record {
        own = b.own;
        top = λ k g lg own z m. let a = b.most k g lg own (small g lg) in absurd (omega arith);
        end = λ k g lg own z. absurd (b.none k g lg own (small g lg));
      }

  pub held_start : (o : ℕ → ℕ) (v f : ℕ) → Below (2 * links_of slice) (source_of slice) (turned_key slice) v 4294967296 f → (d : ℕ) → d < 2 * links_of slice → target_of slice d ≡ v → HeldSearch site o v f
  held_start o v f b d l at = go (dec_lt f (2 * links_of slice))
    where
      go : Dec (f < 2 * links_of slice) → HeldSearch site o v f
      go (no n) = absurd (b.none (omega arith) (opposite d) (opposite_below (links_of slice) d l) (opposite_source slice d ∙ at) (omega arith))
      go (yes k) = record { below = k; own = b.own k; low = λ g lg own m. absurd (none g lg own m) }
        where
          none : (g : ℕ) → g < 2 * links_of slice → target_of slice g ≡ v → key_of slice g < key_of slice f → ⊥
          none g lg own m =
              let a = b.most k (opposite g) (opposite_below (links_of slice) g lg) (opposite_source slice g ∙ own) (omega arith) in
              let e = opposite_key slice fits g lg in
              let x = small f k in
              omega arith

  module _ (o : ℕ → ℕ) (u : ℕ) where
    pub walk_next : (d e : ℕ) → d < 2 * links_of slice → OfferSearch site o u d → (o d ≡ 0 → WouldRefuse site o d) → e ≡ of_direction slice d 2 → OfferSearch site o u e
    walk_next d e l w past q =
        record {
          own = λ k. b.own k ∙ w.own l;
          top = λ k g lg own z m. go g lg own z (λ a. let x = b.most k g lg (own ∙ sym (w.own l)) a in omega arith) (dec_lt (key_of slice g) (key_of slice d)) (dec_lt (key_of slice d) (key_of slice g));
          end = λ k g lg own z. go g lg own z (λ a. b.none k g lg (own ∙ sym (w.own l)) a) (dec_lt (key_of slice g) (key_of slice d)) (dec_lt (key_of slice d) (key_of slice g));
        }
      where
        b : Below (2 * links_of slice) (source_of slice) (key_of slice) (source_of slice d) (key_of slice d) e
        b = rw q (fits.down d l)

        go : (g : ℕ) → g < 2 * links_of slice → source_of slice g ≡ u → o g ≡ 0 → (key_of slice g < key_of slice d → ⊥) → Dec (key_of slice g < key_of slice d) → Dec (key_of slice d < key_of slice g) → WouldRefuse site o g
        go g lg own z n (yes a) c = absurd (n a)
        go g lg own z n (no a) (yes c) = w.top l g lg own z c
        go g lg own z n (no a) (no c) =
            let e : g ≡ d = (distinct slice fits).sources g d lg l (own ∙ sym (w.own l)) (omega arith) in
            rw e (past (sym (ap o e) ∙ z))

    pub walk_found : OffersInv site o → (d : ℕ) → d < 2 * links_of slice → OfferSearch site o u d → o d ≡ 0 → WouldTake site o d → Sought site o u d
    walk_found inv d l w z take =
        record {
          some = λ k. record { below = l; own = w.own l; untried = z; wanted = take; dearest = λ g lg own y t. most g lg own y t (dec_lt (key_of slice d) (key_of slice g)) };
          none = λ k. absurd (omega arith);
        }
      where
        most : (g : ℕ) → g < 2 * links_of slice → source_of slice g ≡ u → o g ≡ 0 → WouldTake site o g → Dec (key_of slice d < key_of slice g) → key_of slice g ≤ key_of slice d
        most g lg own y t (yes m) = absurd (not_taken site o inv.holding g (w.top l g lg own y m) t)
        most g lg own y t (no m) = omega arith

    pub walk_end : OffersInv site o → (e : ℕ) → 2 * links_of slice ≤ e → OfferSearch site o u e → Sought site o u (2 * links_of slice)
    walk_end inv e l w =
        record { some = λ k. absurd (omega arith); none = λ k g lg own z. not_taken site o inv.holding g (w.end l g lg own z) }

  -- the offers that v holds, of which f's opposite may be the cheapest
  module _ (o : ℕ → ℕ) (inv : OffersInv site o) (v : ℕ) where
    abbrev holder : ℕ → Bool
    holder g = eqb (target_of slice g) v && eqb (o g) 1

    holder_at : (g : ℕ) → holder g ≡ true → target_of slice g ≡ v
    holder_at g h = eqb-true (target_of slice g) v (and_left (eqb (target_of slice g) v) (eqb (o g) 1) h)

    holder_on : (g : ℕ) → holder g ≡ true → o g ≡ 1
    holder_on g h = eqb-true (o g) 1 (and_right (eqb (target_of slice g) v) (eqb (o g) 1) h)

    held_is : (g : ℕ) → target_of slice g ≡ v → o g ≡ 1 → holder g ≡ true
    held_is g at e = and_intro (eq-eqb (target_of slice g) v at) (eq-eqb (o g) 1 e)

    abbrev dearer_one : ℕ → ℕ → Bool
    dearer_one d g = (eqb (target_of slice g) (target_of slice d) && ltb (key_of slice d) (key_of slice g)) && eqb (o g) 1

    -- what is dearer than an offer to v, and counted there, is held by v
    dearer_held_lem : (d : ℕ) → target_of slice d ≡ v → (g : ℕ) → dearer_one d g ≡ true → holder g ≡ true
    dearer_held_lem d at g h =
        let x = eqb (target_of slice g) (target_of slice d) in
        let y = ltb (key_of slice d) (key_of slice g) in
        let both = and_left (x && y) (eqb (o g) 1) h in
        held_is g (eqb-true (target_of slice g) (target_of slice d) (and_left x y both) ∙ at) (eqb-true (o g) 1 (and_right (x && y) (eqb (o g) 1) h))

    -- v holds g, which is not dearer than d: not all that v holds is dearer
    some_cheaper : (d : ℕ) → target_of slice d ≡ v → (g : ℕ) → g < 2 * links_of slice → target_of slice g ≡ v → o g ≡ 1 → key_of slice g ≤ key_of slice d → dearer_held site o d < spare_of slice v
    some_cheaper d at g lg own e m =
        let a = count_less (2 * links_of slice) (dearer_one d) holder g (λ j l h. dearer_held_lem d at j h) lg (rw (eq-eqb (target_of slice g) (target_of slice d) (own ∙ sym at), le-ltb (key_of slice d) (key_of slice g) m)) (held_is g own e) in
        let b = inv.holding v in
        omega arith

    pub taken_free : (d n : ℕ) → target_of slice d ≡ v → n ≡ holds site o v → n < spare_of slice v → WouldTake site o d
    taken_free d n at e m = inl (rw at (omega arith))

    pub held_at : 0 < holds site o v → (f : ℕ) → ((d : ℕ) → d < 2 * links_of slice → target_of slice d ≡ v → HeldSearch site o v f) → HeldSearch site o v f
    held_at some f h = let m = member (2 * links_of slice) holder some in h m.0 m.1 (holder_at m.0 m.2)

    module _ (f : ℕ) (held : HeldSearch site o v f) where
      back_below : opposite f < 2 * links_of slice
      back_below = opposite_below (links_of slice) f held.below

      back_at : target_of slice (opposite f) ≡ v
      back_at = opposite_target slice f ∙ held.own

      back_key : key_of slice (opposite f) ≡ key_of slice f
      back_key = opposite_key slice fits f held.below

      -- what v holds is not below its cursor
      not_below : (g : ℕ) → g < 2 * links_of slice → target_of slice g ≡ v → o g ≡ 1 → key_of slice g < key_of slice f → ⊥
      not_below g lg own e m =
          let a = some_cheaper g own g lg own e (omega arith) in
          let b = held.low g lg own m in
          let k = ap (spare_of slice) own in
          omega arith

      pub held_cheapest : o (opposite f) ≡ 1 → Cheapest site o v (opposite f)
      held_cheapest e =
          record {
            below = back_below;
            own = back_at;
            held = e;
            least = λ g lg own h. least g lg own h (dec_lt (key_of slice g) (key_of slice f));
          }
        where
          least : (g : ℕ) → g < 2 * links_of slice → target_of slice g ≡ v → o g ≡ 1 → Dec (key_of slice g < key_of slice f) → key_of slice (opposite f) ≤ key_of slice g
          least g lg own h (yes m) = absurd (not_below g lg own h m)
          least g lg own h (no m) = let a = back_key in omega arith

      pub held_wanted : (d : ℕ) → target_of slice d ≡ v → key_of slice f < key_of slice d → o (opposite f) ≡ 1 → WouldTake site o d
      held_wanted d at m e = inr (opposite f, rw at (held_cheapest e), let k = back_key in omega arith)

      module _ (full : spare_of slice v ≤ holds site o v) where
        -- v holds nothing as cheap as d
        pub held_refuses : (d : ℕ) → d < 2 * links_of slice → target_of slice d ≡ v → (o d ≡ 1 → ⊥) → key_of slice d ≤ key_of slice f → WouldRefuse site o d
        held_refuses d ld at off m =
            let a = weigh_le (2 * links_of slice) holder (dearer_one d) (λ g. 1) (λ g lg h.
            and_intro (and_intro (eq-eqb (target_of slice g) (target_of slice d) (holder_at g h ∙ sym at))
            (lt-ltb (key_of slice d) (key_of slice g) (less g lg (holder_at g h) (holder_on g h) (dec_lt (key_of slice g) (key_of slice f)) (dec_lt (key_of slice d) (key_of slice g))))) (eq-eqb (o g) 1 (holder_on g h))) in
            let b = ap (spare_of slice) at in
            omega arith
          where
            less : (g : ℕ) → g < 2 * links_of slice → target_of slice g ≡ v → o g ≡ 1 → Dec (key_of slice g < key_of slice f) → Dec (key_of slice d < key_of slice g) → key_of slice d < key_of slice g
            less g lg own e (yes x) y = absurd (not_below g lg own e x)
            less g lg own e (no x) (yes y) = y
            less g lg own e (no x) (no y) =
                let q : g ≡ d = (distinct slice fits).targets g d lg ld (own ∙ sym at) (omega arith) in
                absurd (off (sym (ap o q) ∙ e))

        pub held_next : (o (opposite f) ≡ 1 → ⊥) → (d : ℕ) → d < 2 * links_of slice → target_of slice d ≡ v → key_of slice f < key_of slice d
            → (e : ℕ) → e ≡ of_direction slice f 3 → HeldSearch site o v e
        held_next off d ld at more e q = go (dec_lt e (2 * links_of slice))
          where
            b : Below (2 * links_of slice) (source_of slice) (turned_key slice) (source_of slice f) (turned_key slice f) e
            b = rw q (fits.up f held.below)

            -- what is dearer than f
            above : (g : ℕ) → g < 2 * links_of slice → target_of slice g ≡ v → key_of slice f < key_of slice g → (source_of slice (opposite g) ≡ source_of slice f) × (turned_key slice (opposite g) < turned_key slice f)
            above g lg own m =
                (opposite_source slice g ∙ own ∙ sym held.own, let a = opposite_key slice fits g lg in let x = small g lg in omega arith)

            go : Dec (e < 2 * links_of slice) → HeldSearch site o v e
            go (no n) = let a = above d ld at more in absurd (b.none (omega arith) (opposite d) (opposite_below (links_of slice) d ld) a.0 a.1)
            go (yes k) =
                record {
                  below = k;
                  own = b.own k ∙ held.own;
                  low = λ g lg own m. low g lg own m (dec_lt (key_of slice g) (key_of slice f)) (dec_lt (key_of slice f) (key_of slice g));
                }
              where
                low : (g : ℕ) → g < 2 * links_of slice → target_of slice g ≡ v → key_of slice g < key_of slice e → Dec (key_of slice g < key_of slice f) → Dec (key_of slice f < key_of slice g) → WouldRefuse site o g
                low g lg own m (yes x) y = held.low g lg own x
                low g lg own m (no x) (yes y) =
                    let a = above g lg own y in
                    let w = b.most k (opposite g) (opposite_below (links_of slice) g lg) a.0 a.1 in
                    let z = opposite_key slice fits g lg in
                    let t = small e k in
                    absurd (omega arith)
                low g lg own m (no x) (no y) =
                    let z = back_key in
                    let t : g ≡ opposite f = (distinct slice fits).targets g (opposite f) lg back_below (own ∙ sym back_at) (omega arith) in
                    held_refuses g lg own (λ w. off (sym (ap o t) ∙ w)) (omega arith)

        -- what v holds is further up
        pub held_step : (o (opposite f) ≡ 1 → ⊥) → 0 < holds site o v → (e : ℕ) → e ≡ of_direction slice f 3 → HeldSearch site o v e
        held_step off some e q =
            let m = member (2 * links_of slice) holder some in
            let g = m.0 in
            held_next off g m.1 (holder_at g m.2) (dearer g m.1 m.2 (dec_lt (key_of slice g) (key_of slice f)) (dec_lt (key_of slice f) (key_of slice g))) e q
          where
            dearer : (g : ℕ) → g < 2 * links_of slice → holder g ≡ true → Dec (key_of slice g < key_of slice f) → Dec (key_of slice f < key_of slice g) → key_of slice f < key_of slice g
            dearer g lg h (yes x) y = absurd (not_below g lg (holder_at g h) (holder_on g h) x)
            dearer g lg h (no x) (yes y) = y
            dearer g lg h (no x) (no y) =
                let z = back_key in
                let t : g ≡ opposite f = (distinct slice fits).targets g (opposite f) lg back_below (holder_at g h ∙ sym back_at) (omega arith) in
                absurd (off (sym (ap o t) ∙ holder_on g h))
