-- The chains are built from the link with the smallest key up: each link goes before all that its ends have.
use Prim.Native.Nat.{ℕ, ◌+◌, ◌-◌, ◌*◌, ◌/◌, ◌%◌, ◌≤◌, ◌<◌}
use mathlib.Core.Path.{◌≡◌, sym, ◌∙◌, ap}
use mathlib.Core.Logic.{◌⊎◌, inl, inr}
use mathlib.Core.Bool.{true, cond}
use mathlib.Core.List.{List}
use native.Mathlib.Omega.{arith}
use native.Mathlib.Decide.{dec_lt, ℕ_discrete}
use lib.Dec.{ltb}
use lib.ListN.{length}
use borrow.Author.Tests.{ltb-true, lt-ltb, le-ltb}
use Rattle.range.specs.Lists.{stored}
use Rattle.range.proofs.Lists.{stored_at}
use Rattle.table.specs.Table.{item, dearer_by_place}
use Rattle.plan_theory.specs.Pass.{place}
use Rattle.plan_theory.proofs.Places.{place_lt, place_below}
use Rattle.plan_order.specs.Order.{falling, ByPlace}
use Rattle.plan_order.proofs.Order.{By, is_by, later_order}
use Rattle.plan_turns_search.specs.Chain.{opposite, Below, ChainBelow, Directions, Falls, LinkedBy}
use Rattle.plan_turns_search.specs.Record.{of_direction, target_of, source_of, key_of, turned_key, mark, SiteInSlice, SiteOfLinks, Started}
use Rattle.plan_turns_search.proofs.Record.{opposite_half, opposite_below, source_from, source_back}

-- the order of links as one number
abbrev link_key : List ℕ → ℕ → ℕ
link_key costs i = item costs i * 65536 + i

order_falls : (links : ℕ) (costs order : List ℕ) → links ≤ 2048 → ByPlace links (item costs) order → Falls links (link_key costs) order
order_falls links costs order few p =
    record {
      below = p.below;
      falls = λ j k l lk. falls j k l lk;
      found = λ i l. (place links (dearer_by_place (item costs)) i, place_below links (dearer_by_place (item costs)) (later_order links (item costs)) i l, p.found i l);
    }
  where
    falls : (j k : ℕ) → j < k → k < links → link_key costs (item order k) < link_key costs (item order j)
    falls j k l lk = go ((later_order links (item costs)).total (item order j) (item order k) lj lk' apart)
      where
        lj : item order j < links
        lj = p.below j (omega arith)

        lk' : item order k < links
        lk' = p.below k lk

        apart : item order j ≡ item order k → ⊥
        apart e =
            let a = ap (place links (dearer_by_place (item costs))) e in
            let x = p.placed j (omega arith) in
            let y = p.placed k lk in
            omega arith

        less : By (item costs) falling (item order j) (item order k) → link_key costs (item order k) < link_key costs (item order j)
        less (inl a) = let x = lj in let y = lk' in omega arith
        less (inr a) = let b = ltb-true (item order k) (item order j) a.1 in omega (arith, a.0)

        go : (dearer_by_place (item costs) (item order j) (item order k) ≡ true) ⊎ (dearer_by_place (item costs) (item order k) (item order j) ≡ true) → link_key costs (item order k) < link_key costs (item order j)
        go (inl e) = less (is_by (item costs) falling (item order j) (item order k) e)
        go (inr e) =
            let a = place_lt links (dearer_by_place (item costs)) (later_order links (item costs)) (item order k) (item order j) lk' lj e in
            let x = p.placed j (omega arith) in
            let y = p.placed k lk in
            absurd (omega arith)

-- the same direction among those with keys below k', where none is between
raise : (dirs : ℕ) (source key : ℕ → ℕ) (v k k' r : ℕ) → Below dirs source key v k r → k ≤ k'
    → ((g : ℕ) → g < dirs → source g ≡ v → key g < k' → key g < k) → Below dirs source key v k' r
raise dirs source key v k k' r b l h =
    record {
      own = b.own;
      less = λ m. let a = b.less m in omega arith;
      most = λ m g lg own a. b.most m g lg own (h g lg own a);
      none = λ m g lg own a. b.none m g lg own (h g lg own a);
    }

-- the link i is put at the heads of its ends' chains
pub record Pushed (head next head' next' : ℕ → ℕ) (i low high : ℕ) : Type 0 where
  pub at_low : (low ≡ high → ⊥) → head' low ≡ 2 * i
  pub at_high : head' high ≡ 2 * i + 1
  pub heads_stay : (v : ℕ) → (v ≡ low → ⊥) → (v ≡ high → ⊥) → head' v ≡ head v
  pub after_low : next' (2 * i) ≡ head low
  pub after_high : next' (2 * i + 1) ≡ head high
  pub nexts_stay : (d : ℕ) → (d ≡ 2 * i → ⊥) → (d ≡ 2 * i + 1 → ⊥) → next' d ≡ next d

-- one more than the largest key of the links from place k on; 0 where there are none
abbrev pub key_bound : ℕ → (ℕ → ℕ) → List ℕ → ℕ → ℕ
key_bound links key order k = cond (ltb k links) (key (item order k) + 1) 0

module _ (probes links : ℕ) (lows highs order : List ℕ) (key source at : ℕ → ℕ) (dirs : Directions links lows highs key source at) (f : Falls links key order) where
  pub chain_done : (head next : ℕ → ℕ) → ChainBelow probes (2 * links) source at head next (key_bound links key order 0) → ((i : ℕ) → i < links → key i < 4294967296) → ChainBelow probes (2 * links) source at head next 4294967296
  chain_done head next c small =
      record {
        firsts = λ v m. raise (2 * links) source at v (key_bound links key order 0) 4294967296 (head v) (c.firsts v m) (top (dec_lt 0 links)) (λ g lg own a. under g lg);
        follows = λ d m a. c.follows d m (under d m);
      }
    where
      top : Dec (0 < links) → key_bound links key order 0 ≤ 4294967296
      top (yes l) = let a = small (item order 0) (f.below 0 l) in rw (lt-ltb 0 links l) (omega arith)
      top (no n) = rw (le-ltb 0 links (omega arith)) (omega arith)

      under : (g : ℕ) → g < 2 * links → at g < key_bound links key order 0
      under g lg = let x = f.found (g / 2) (omega arith) in rw (lt-ltb 0 links (omega arith)) (go x.0 x.1 x.2 (dec_lt 0 x.0))
        where
          go : (k : ℕ) → k < links → item order k ≡ g / 2 → Dec (0 < k) → at g < key (item order 0) + 1
          go k l e (yes z) = let a = f.falls 0 k z l in let b = ap key e in let t = dirs.keys g lg in omega arith
          go k l e (no z) = let q : k ≡ 0 = omega arith in let b = ap key e in let t = dirs.keys g lg in let w = ap {B = ℕ} (λ (x : ℕ). key (item order x)) q in omega arith

  -- the link i at place k is put before all that its ends have
  module _ (rises : (j : ℕ) → j < links → item lows j < item highs j) (head next head' next' : ℕ → ℕ) (k i low high : ℕ)
      (c : ChainBelow probes (2 * links) source at head next (key_bound links key order (k + 1))) (lk : k < links) (ei : i ≡ item order k) (el : low ≡ item lows i) (eh : high ≡ item highs i)
      (room : high < probes) (pushed : Pushed head next head' next' i low high) where
    abbrev held : ℕ
    held = key_bound links key order (k + 1)

    abbrev top : ℕ
    top = key i

    l : i < links
    l = let a = f.below k lk in omega arith

    -- where the link of a direction stands
    spot : (g : ℕ) → g < 2 * links → (j : ℕ) × (j < links) × (at g ≡ key (item order j)) × (item order j ≡ g / 2)
    spot g lg = let x = f.found (g / 2) (omega arith) in (x.0, x.1, dirs.keys g lg ∙ ap key (sym x.2), x.2)

    top_at : top ≡ key (item order k)
    top_at = ap key ei

    -- with the link's own key: the link
    own_link : (g : ℕ) → g < 2 * links → at g ≡ top → g / 2 ≡ i
    own_link g lg e = let x = spot g lg in go x.0 x.1 x.2 x.3 (dec_lt x.0 k) (dec_lt k x.0)
      where
        go : (j : ℕ) → j < links → at g ≡ key (item order j) → item order j ≡ g / 2 → Dec (j < k) → Dec (k < j) → g / 2 ≡ i
        go j lj q w (yes a) b = let m = f.falls j k a lk in let t = top_at in absurd (omega arith)
        go j lj q w (no a) (yes b) = let m = f.falls k j b lj in let t = top_at in absurd (omega arith)
        go j lj q w (no a) (no b) = let z : j ≡ k = omega arith in let y = ap (item order) z in omega arith

    gap : (g : ℕ) → g < 2 * links → at g < top → at g < held
    gap g lg m = let x = spot g lg in go x.0 x.1 x.2 (dec_lt k x.0) (dec_lt (k + 1) x.0)
      where
        go : (j : ℕ) → j < links → at g ≡ key (item order j) → Dec (k < j) → Dec (k + 1 < j) → at g < held
        go j lj q (no a) b = absurd (less (dec_lt j k))
          where
            less : Dec (j < k) → ⊥
            less (yes y) = let n = f.falls j k y lk in let t = top_at in omega arith
            less (no y) = let z : j ≡ k = omega arith in let n = ap {B = ℕ} (λ (x : ℕ). key (item order x)) z in let t = top_at in omega arith
        go j lj q (yes a) (yes b) = let n = f.falls (k + 1) j b lj in rw (lt-ltb (k + 1) links (omega arith)) (omega arith)
        go j lj q (yes a) (no b) =
            let z : j ≡ k + 1 = omega arith in
            let n = ap {B = ℕ} (λ (x : ℕ). key (item order x)) z in
            rw (lt-ltb (k + 1) links (omega arith)) (omega arith)

    over : held ≤ top
    over = go (dec_lt (k + 1) links)
      where
        go : Dec (k + 1 < links) → held ≤ top
        go (yes a) = let m = f.falls k (k + 1) (omega arith) a in let t = top_at in rw (lt-ltb (k + 1) links a) (omega arith)
        go (no a) = rw (le-ltb (k + 1) links (omega arith)) (omega arith)

    differ : low ≡ high → ⊥
    differ e = let a = rises i l in omega arith

    end_low : source (2 * i) ≡ low
    end_low = dirs.from i l ∙ sym el

    end_high : source (2 * i + 1) ≡ high
    end_high = dirs.back i l ∙ sym eh

    key_low : at (2 * i) ≡ top
    key_low = let a = l in let e : 2 * i / 2 ≡ i = omega arith in dirs.keys (2 * i) (omega arith) ∙ ap key e

    key_high : at (2 * i + 1) ≡ top
    key_high = let a = l in let e : (2 * i + 1) / 2 ≡ i = omega arith in dirs.keys (2 * i + 1) (omega arith) ∙ ap key e

    -- the new head of an end
    first : (v d : ℕ) → d < 2 * links → source d ≡ v → at d ≡ top → Below (2 * links) source at v (top + 1) d
    first v d ld own e =
        record { own = λ m. own; less = λ m. omega arith; most = λ m g lg o a. omega arith; none = λ m. absurd (omega arith) }

    next_chain : ChainBelow probes (2 * links) source at head' next' (top + 1)
    next_chain = record { firsts = λ v m. firsts v m (ℕ_discrete v high) (ℕ_discrete v low); follows = λ d m a. follows d m a (ℕ_discrete d (2 * i)) (ℕ_discrete d (2 * i + 1)) }
      where
        firsts : (v : ℕ) → v < probes → Dec (v ≡ high) → Dec (v ≡ low) → Below (2 * links) source at v (top + 1) (head' v)
        firsts v m (yes e) n = let a = l in rw (e, pushed.at_high) (first high (2 * i + 1) (omega arith) end_high key_high)
        firsts v m (no n) (yes e) = let a = l in rw (e, pushed.at_low differ) (first low (2 * i) (omega arith) end_low key_low)
        firsts v m (no n) (no n') =
            rw (pushed.heads_stay v n' n)
            (raise (2 * links) source at v held (top + 1) (head v) (c.firsts v m) (let a = over in omega arith) under)
          where
            under : (g : ℕ) → g < 2 * links → source g ≡ v → at g < top + 1 → at g < held
            under g lg own a = go (ℕ_discrete (at g) top)
              where
                go : Dec (at g ≡ top) → at g < held
                go (no x) = gap g lg (omega arith)
                go (yes x) = absurd (side (ℕ_discrete g (2 * i)))
                  where
                    side : Dec (g ≡ 2 * i) → ⊥
                    side (yes q) = n' (sym own ∙ ap source q ∙ end_low)
                    side (no q) =
                        let h = own_link g lg x in
                        let e : g ≡ 2 * i + 1 = omega arith in
                        n (sym own ∙ ap source e ∙ end_high)

        follows : (d : ℕ) → d < 2 * links → at d < top + 1 → Dec (d ≡ 2 * i) → Dec (d ≡ 2 * i + 1)
            → Below (2 * links) source at (source d) (at d) (next' d)
        follows d m a (yes e) n =
            rw (e, pushed.after_low, end_low, key_low)
            (raise (2 * links) source at low held top (head low) (c.firsts low (let x = rises i l in omega arith)) over (λ g lg own b. gap g lg b))
        follows d m a (no n) (yes e) =
            rw (e, pushed.after_high, end_high, key_high)
            (raise (2 * links) source at high held top (head high) (c.firsts high room) over (λ g lg own b. gap g lg b))
        follows d m a (no n) (no n') = rw (pushed.nexts_stay d n n') (c.follows d m (go (ℕ_discrete (at d) top)))
          where
            go : Dec (at d ≡ top) → at d < held
            go (no x) = gap d m (omega arith)
            go (yes x) = let h = own_link d m x in absurd (omega (arith, n, n'))

    pub chain_next : ChainBelow probes (2 * links) source at head' next' (key_bound links key order k)
    chain_next = rw (lt-ltb k links lk, ← top_at) next_chain

-- both orders of the links by key: `order`, and `round` the other way
module _ (links : ℕ) (costs : List ℕ) (few : links ≤ 2048) (cheap : (i : ℕ) → item costs i < 65536) (order : List ℕ) (p : ByPlace links (item costs) order) where
  small : (i : ℕ) → i < links → link_key costs i < 4294967296
  small i l = let a = cheap i in omega arith

  by_key : Falls links (link_key costs) order
  by_key = order_falls links costs order few p

  module _ (old round : List ℕ) (room : links ≤ length old) (e : round ≡ stored (λ k. item order (links - 1 - k)) links old) where
    at_round : (k : ℕ) → k < links → item round k ≡ item order (links - 1 - k)
    at_round k l = rw e (stored_at (λ j. item order (links - 1 - j)) links old k room l)

    pub round_below : (k : ℕ) → k < links → item round k < links
    round_below k l = rw (at_round k l) (p.below (links - 1 - k) (omega arith))

    by_turned : Falls links (λ i. 4294967295 - link_key costs i) round
    by_turned = record { below = round_below; falls = falls; found = found }
      where
        falls : (j k : ℕ) → j < k → k < links → 4294967295 - link_key costs (item round k) < 4294967295 - link_key costs (item round j)
        falls j k l lk =
            let a = by_key.falls (links - 1 - k) (links - 1 - j) (omega arith) (omega arith) in
            let b = small (item order (links - 1 - k)) (p.below (links - 1 - k) (omega arith)) in
            rw (at_round k lk, at_round j (omega arith)) (omega arith)

        found : (i : ℕ) → i < links → (k : ℕ) × (k < links) × (item round k ≡ i)
        found i l =
            let x = by_key.found i l in
            let y : links - 1 - x.0 < links = omega arith in
            let z : links - 1 - (links - 1 - x.0) ≡ x.0 = omega (arith, x.1) in
            (links - 1 - x.0, y, at_round (links - 1 - x.0) y ∙ ap (item order) z ∙ x.2)

    -- the slice x with these links, whose chains are those of x₂ by `order` and those of x₃ by `round`
    module _ (probes : ℕ) (lows highs spares x : List ℕ) (k : SiteOfLinks probes links lows highs costs spares x) where
      down_keys : Directions links lows highs (link_key costs) (source_of x) (key_of x)
      unfolding key_of
      down_keys =
          record {
            from = source_from probes links lows highs costs spares x k;
            back = source_back probes links lows highs costs spares x k;
            keys = λ d l. let a = k.costs_in d l in omega arith;
          }

      up_keys : Directions links lows highs (λ i. 4294967295 - link_key costs i) (source_of x) (turned_key x)
      up_keys =
          record { from = down_keys.from; back = down_keys.back; keys = λ d l. let a = down_keys.keys d l in omega arith }

      -- what holds of both directions of each link
      each : (P : ℕ → Type 0) → ((i : ℕ) → i < links → P (2 * i)) → ((i : ℕ) → i < links → P (2 * i + 1)) → (d : ℕ) → d < 2 * links → P d
      each P from back d l = go (ℕ_discrete (d % 2) 0)
        where
          go : Dec (d % 2 ≡ 0) → P d
          go (yes e) =
              let q : 2 * (d / 2) ≡ d = omega arith in
              rw q at (from (d / 2) (omega arith))
          go (no n) =
              let q : 2 * (d / 2) + 1 ≡ d = omega arith in
              rw q at (back (d / 2) (omega arith))

      module _ (ends : (i : ℕ) → i < links → (item lows i < item highs i) × (item highs i < probes)) where
        apart : (d : ℕ) → d < 2 * links → target_of x d ≡ source_of x d → ⊥
        apart =
            each (λ d. target_of x d ≡ source_of x d → ⊥)
            (λ i l e. let a = ends i l in let b = k.targets i l in let h = down_keys.from i l in omega (arith, a.0, b.0))
            (λ i l e. let a = ends i l in let b = k.targets i l in let h = down_keys.back i l in omega (arith, a.0, b.1))

        below : (d : ℕ) → d < 2 * links → target_of x d < probes
        below =
            each (λ d. target_of x d < probes) (λ i l. rw (k.targets i l).0 (ends i l).1)
            (λ i l. let a = ends i l in rw (k.targets i l).1 (omega (arith, a.0, a.1)))

        module _ (n : ℕ) (marks₂ marks x₂ x₃ : List ℕ) (wide : probes ≤ n)
            (down : LinkedBy n links lows highs order (λ v. mark marks₂ v 2) (λ d. of_direction x₂ d 2)) (up : LinkedBy n links lows highs round (λ v. mark marks v 3) (λ d. of_direction x₃ d 3))
            (down-stays : (d : ℕ) → d < 2 * links → of_direction x d 2 ≡ of_direction x₂ d 2) (up-stays : (d : ℕ) → d < 2 * links → of_direction x d 3 ≡ of_direction x₃ d 3) where
          down_chain : ChainBelow n (2 * links) (source_of x) (key_of x) (λ v. mark marks₂ v 2) (λ d. of_direction x₂ d 2) 4294967296
          down_chain = down (link_key costs) (source_of x) (key_of x) down_keys by_key small

          up_chain : ChainBelow n (2 * links) (source_of x) (turned_key x) (λ v. mark marks v 3) (λ d. of_direction x₃ d 3) 4294967296
          up_chain = up (λ i. 4294967295 - link_key costs i) (source_of x) (turned_key x) up_keys by_turned (λ i l. omega arith)

          pub site_built : probes ≤ 256 → 8 * links + probes + 2 ≤ length x → SiteInSlice x
          site_built narrow long =
              record {
                few = rw k.link_count few;
                within = rw k.probe_count narrow;
                room = rw (k.link_count, k.probe_count) long;
                cheap = rw k.link_count (λ d l. let a = k.costs_in d l in let b = cheap (d / 2) in omega arith);
                one_cost = rw k.link_count (λ d l. k.costs_in (opposite d) (opposite_below links d l) ∙ ap (item costs) (opposite_half d) ∙ sym (k.costs_in d l));
                apart = rw k.link_count apart;
                ends = rw (k.link_count, k.probe_count) below;
                down = rw k.link_count (λ d l. rw (down-stays d l) (down_chain.follows d l (let a = down_keys.keys d l in let b = small (d / 2) (omega arith) in omega arith)));
                up = rw k.link_count (λ d l. rw (up-stays d l) (up_chain.follows d l (omega arith)));
              }

          pub marks_built : ((v : ℕ) → v < probes → (mark marks v 0 ≡ 0) × (mark marks v 1 ≡ 0)) → ((v : ℕ) → mark marks v 2 ≡ mark marks₂ v 2) → Started x marks
          marks_built none stay =
              record {
                standing = rw k.probe_count (λ v l. (none v l).0);
                held = rw k.probe_count (λ v l. (none v l).1);
                cursors = rw (k.link_count, k.probe_count) (λ v l. rw (stay v) (down_chain.firsts v (omega arith)));
                lasts = rw (k.link_count, k.probe_count) (λ v l. up_chain.firsts v (omega arith));
              }
