-- Laws of what befalls an end, by its maps.
use Prim.Native.Nat.{ℕ, ◌≤◌, ◌<◌}
use mathlib.Core.Path.{◌≡◌, refl, sym, ap, ◌∙◌}
use mathlib.Core.Bool.{Bool, true, false, cond, ◌&&◌, ◌||◌, not}
use mathlib.Core.List.{List}
use native.Mathlib.Omega.{arith}
use lib.Dec.{eqb}
use lib.ListN.{length}
use borrow.Author.Tests.{lt-ltb, le-ltb}
use Rattle.range.specs.Choice.{best}
use Rattle.range.proofs.Choice.{best_of_same}
use Rattle.bit_maps.specs.BitMap.{bit, map_of, ones_of}
use Rattle.bit_maps.proofs.Maps.{length_map_of, bit_map_of}
use Rattle.table.specs.Table.{Table, item, spare, dearer, cheaper, dearer_by_place}
use Rattle.plan_theory.proofs.Order.{dearer_by_place_lem}
use Rattle.probe_record.specs.Record.{outbound, inbound, dearest_untried, cheapest_held}
use Rattle.probe_rules.specs.declared.Outcome.TheVariants.{Opened, Enough, Taken, TakenDisplacing, Refused, AllTried}
use Rattle.probe_rules.specs.Rules.{opening, offer}
use Rattle.probe_maps.specs.Maps.{Maps, bytes_of, is_own}
use Rattle.probe_maps.proofs.Rounds.{in_is, is_refused_out}
use Rattle.probe_maps.proofs.Faults.{standing_ones, held_ones}
use Rattle.probe_maps.proofs.Searches.{untried_is, cheapest_is}
use Rattle.probe_decisions.specs.EndOf.{EndOf}
use Rattle.probe_decisions.proofs.SearchLaws.{neither}

-- what own::spare promises of its answer
abbrev pub SpareOf : ℕ → List ℕ → List ℕ → ℕ → Type 0
SpareOf p needs own s = (t : Table) → t.links ≤ 2048 → t.need p ≡ item needs p → own ≡ map_of (is_own t p) 32 → s ≡ spare t p

module _ {t : Table} {p links : ℕ} {needs costs own : List ℕ} {m : Maps} (end : EndOf t p links needs costs own m) where
  abbrev bytes : List ℕ
  bytes = bytes_of t.links m

  spare_is : {s : ℕ} → SpareOf p needs own s → s ≡ spare t p
  spare_is h = h t (rw end.links_are end.few) end.need_is end.own_are

  own_words : length own ≡ 32
  own_words = ap length end.own_are ∙ length_map_of (is_own t p) 32

  by_cost : (i j : ℕ) → i < links → j < links → dearer_by_place (item costs) i j ≡ dearer t i j
  by_cost i j li lj =
      sym (dearer_by_place_lem t end.order i j (rw end.links_are li) (rw end.links_are lj) ∙ rw (end.costs_are i, end.costs_are j))

  dearest_is : best (λ k b. dearer_by_place (item costs) k b) (bit (map_of (neither own m.standing m.refused_out) 32)) links links ≡ dearest_untried t p bytes
  dearest_is =
      let q : ℕ → Bool = λ i. is_own t p i && not (bit m.standing i || bit m.refused_out i) in
      let f = end.few in
      best_of_same (λ k b. dearer_by_place (item costs) k b) (dearer t) (bit (map_of (neither own m.standing m.refused_out) 32)) q links links
      (λ i l. bit_map_of (neither own m.standing m.refused_out) 32 i (omega arith)
      ∙ ap (λ (x : Bool). x && not (bit m.standing i || bit m.refused_out i)) (ap (λ (x : List ℕ). bit x i) end.own_are ∙ bit_map_of (is_own t p) 32 i (omega arith)))
      by_cost
      ∙ ap (λ (n : ℕ). best (dearer t) q n n) (sym end.links_are)
      ∙ sym (untried_is t p m end.good)

  lowest_is : best (λ k b. dearer_by_place (item costs) b k) (bit m.held) links links ≡ cheapest_held t p bytes
  lowest_is =
      best_of_same (λ k b. dearer_by_place (item costs) b k) (cheaper t) (bit m.held) (bit m.held) links links (λ i l. refl) (λ i j li lj. by_cost j i lj li)
      ∙ ap (λ (n : ℕ). best (cheaper t) (bit m.held) n n) (sym end.links_are)
      ∙ sym (cheapest_is t p m end.good)

  -- by the spare s and the offers standing n
  module _ {s n : ℕ} (a : SpareOf p needs own s) (b : n ≡ ones_of m.standing) where
    pub opens_enough : s ≤ n → Enough ≡ opening t p bytes
    opens_enough l = rw (← standing_ones t p m end.good, ← spare_is a, ← b, le-ltb n s l)

    module _ {untried : List ℕ} (u : untried ≡ map_of (neither own m.standing m.refused_out) (length own)) {i : ℕ}
        (d : i ≡ best (λ k b. dearer_by_place (item costs) k b) (bit untried) links links) (l : n < s) where
      chosen : i ≡ dearest_untried t p bytes
      chosen =
          d
          ∙ ap (λ (x : List ℕ). best (λ k b. dearer_by_place (item costs) k b) (bit x) links links) (u ∙ ap (map_of (neither own m.standing m.refused_out)) own_words)
          ∙ dearest_is

      pub opens_none : links ≤ i → AllTried ≡ opening t p bytes
      opens_none k =
          let o : t.links ≤ i = rw end.links_are k in
          rw (← standing_ones t p m end.good, ← spare_is a, ← b, lt-ltb n s l, ← chosen, le-ltb i t.links o)

      pub opens_one : i < links → Opened i ≡ opening t p bytes
      opens_one k =
          let o : i < t.links = rw end.links_are k in
          rw (← standing_ones t p m end.good, ← spare_is a, ← b, lt-ltb n s l, ← chosen, lt-ltb i t.links o)

  -- by the spare s and the offers held n, of an offer on the link i
  module _ {s n : ℕ} (a : SpareOf p needs own s) (b : n ≡ ones_of m.held) (i : ℕ) where
    pub offer_taken : n < s → Taken i ≡ offer t p bytes i
    offer_taken l = rw (← held_ones t p m end.good, ← spare_is a, ← b, lt-ltb n s l)

    module _ {c : ℕ} (d : c ≡ best (λ k b. dearer_by_place (item costs) b k) (bit m.held) links links) (l : s ≤ n) where
      found : c ≡ cheapest_held t p bytes
      found = d ∙ lowest_is

      pub offer_none_held : links ≤ c → Refused i ≡ offer t p bytes i
      offer_none_held k =
          let o : t.links ≤ c = rw end.links_are k in
          rw (← held_ones t p m end.good, ← spare_is a, ← b, le-ltb n s l, ← found, le-ltb c t.links o)

      module _ (w : i < links) (k : c < links) where
        pub offer_displaces : dearer_by_place (item costs) i c ≡ true → TakenDisplacing i c ≡ offer t p bytes i
        offer_displaces h =
            let o : c < t.links = rw end.links_are k in
            rw (← held_ones t p m end.good, ← spare_is a, ← b, le-ltb n s l, ← found, lt-ltb c t.links o, sym (by_cost i c w k) ∙ h)

        pub offer_refused : dearer_by_place (item costs) i c ≡ false → Refused i ≡ offer t p bytes i
        offer_refused h =
            let o : c < t.links = rw end.links_are k in
            rw (← held_ones t p m end.good, ← spare_is a, ← b, le-ltb n s l, ← found, lt-ltb c t.links o, sym (by_cost i c w k) ∙ h)

  -- whether the link was heard of
  pub unseen_is : (i : ℕ) → i < links → eqb (inbound bytes i) 0 ≡ not (bit m.held i || bit m.refused_in i)
  unseen_is i l =
      ap (λ (x : ℕ). eqb x 0) (in_is t.links m i (rw end.links_are l)) ∙ table (bit m.held i) (bit m.refused_in i)
    where
      table : (a b : Bool) → eqb (cond a 1 (cond b 2 0)) 0 ≡ not (a || b)
      table true b = refl
      table false true = refl
      table false false = refl

  pub refused_is : (i : ℕ) → eqb (outbound bytes i) 2 ≡ bit m.refused_out i
  refused_is = is_refused_out t.links m end.good.sound
