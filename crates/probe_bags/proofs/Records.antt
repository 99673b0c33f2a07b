-- The record that frames leave, in bytes and in maps: it depends only on which links are offered and which are refused.
use Prim.Native.Nat.{ℕ, ◌≤◌, ◌<◌}
use mathlib.Core.Path.{◌≡◌, refl, sym, ◌∙◌, ap, fun_ext}
use mathlib.Core.Bool.{Bool, true, and-false, or-false}
use mathlib.Core.List.{List, [], ◌∷◌}
use native.Mathlib.Omega.{arith}
use lib.Dec.{eqb}
use borrow.Author.Tests.{eqb-true}
use Rattle.range.specs.Sum.{count}
use Rattle.range.proofs.Bools.{and_right}
use Rattle.range.proofs.Sums.{weigh_same}
use Rattle.table.specs.Table.{Table, touches, spare, dearer}
use Rattle.table.specs.Legal.{RisingLinks}
use Rattle.plan_theory.proofs.Places.{Order}
use Rattle.plan_theory.proofs.Order.{dearer_order}
use Rattle.probe_frame.specs.Frame.{frame_of}
use Rattle.probe_record.specs.Record.{outbound, inbound, own_with}
use Rattle.probe_record.proofs.Bytes.{GoodRecord}
use Rattle.probe_rules.specs.declared.Event.{Event}
use Rattle.probe_rules.specs.Rules.{befalls, alter}
use Rattle.probe_rules.specs.Within.{IsHeard, OwnEvent}
use Rattle.probe_rules.proofs.Befalls.{Befell, befell_rising, own_within}
use Rattle.probe_maps.specs.Maps.{Maps, bytes_of, maps_of}
use Rattle.probe_maps.specs.GoodMaps.{GoodMaps}
use Rattle.probe_maps.proofs.Rounds.{pairs_equal, maps_bytes}
use Rattle.probe_maps.proofs.Faults.{maps_good_record}
use Rattle.probe_theory.proofs.Usable.{befell_good}
use Rattle.probe_bags.specs.Bag.{events_of, maps_after, bytes_by_rules}
use Rattle.probe_bags.proofs.Steps.{AllOwn, all_frames}
use Rattle.probe_bags.proofs.Settled.{offers, refuses, some, candidate, in_after, out_after, few}
use Rattle.probe_bags.proofs.Heard.{in_step, out_step}
use Rattle.probe_bags.proofs.Bytes.{on_bytes}

-- no event is an opening
abbrev pub AllHeard : List Event → Type 0
AllHeard [] = Unit
AllHeard (v ∷ vs) = IsHeard v × AllHeard vs

pub events_frames : (t : Table) (ls : List (List ℕ)) → AllHeard (events_of t ls)
unfolding events_of
events_frames t [] = tt
events_frames t (l ∷ ls) = (all_frames t (frame_of l), events_frames t ls)

module _ (t : Table) (rises : RisingLinks t) (p : ℕ) where
  abbrev order : Order t.links (dearer t)
  order = dearer_order t rises

  fell : (e : List ℕ) (v : Event) → OwnEvent t p v → Befell t p e v (befalls t p v e)
  fell e v own = befell_rising t rises p e v (own_within t p v own)

  abbrev after : Event → List ℕ → List ℕ
  after v e = alter (befalls t p v e) e

  good_after_one : (v : Event) (e : List ℕ) → GoodRecord t p e → OwnEvent t p v → GoodRecord t p (after v e)
  good_after_one v e good own = befell_good t p e good (fell e v own) own

  good_after : (vs : List Event) (e : List ℕ) → GoodRecord t p e → AllOwn t p vs → GoodRecord t p (bytes_by_rules t p vs e)
  unfolding bytes_by_rules
  good_after [] e good own = good
  good_after (v ∷ vs) e good own = good_after vs (after v e) (good_after_one v e good own.0) own.1

  -- with no offer the held ones are the candidates, and fit
  at_rest : (e : List ℕ) → GoodRecord t p e → (i : ℕ) → i < t.links → in_after t p (inbound e) (some offers []) i ≡ inbound e i
  at_rest e good = few t p (candidate t p (inbound e) (some offers [])) (inbound e) order fits ones
    where
      plain : (j : ℕ) → candidate t p (inbound e) (some offers []) j ≡ own_with t p (inbound e) 1 j
      plain j = rw (and-false (eqb (inbound e j) 0), or-false (eqb (inbound e j) 1))

      fits : count t.links (candidate t p (inbound e) (some offers [])) ≤ spare t p
      fits =
          let same = weigh_same t.links (candidate t p (inbound e) (some offers [])) (own_with t p (inbound e) 1) (λ j. 1) (λ j l. plain j) in
          let h = good.held_fits in
          omega arith

      ones : (j : ℕ) → candidate t p (inbound e) (some offers []) j ≡ true → inbound e j ≡ 1
      ones j h = eqb-true (inbound e j) 1 (and_right (touches t p j) (eqb (inbound e j) 1) (sym (plain j) ∙ h))

  heard_in : (vs : List Event) (e : List ℕ) → GoodRecord t p e → AllOwn t p vs → (i : ℕ) → i < t.links
      → inbound (bytes_by_rules t p vs e) i ≡ in_after t p (inbound e) (some offers vs) i
  unfolding bytes_by_rules
  heard_in [] e good own i l = sym (at_rest e good i l)
  heard_in (v ∷ vs) e good own i l =
      heard_in vs (after v e) (good_after_one v e good own.0) own.1 i l
      ∙ in_step t order p e good.size (fell e v own.0) own.0 (some offers vs) i l

  heard_out : (vs : List Event) (e : List ℕ) → GoodRecord t p e → AllOwn t p vs → AllHeard vs → (i : ℕ)
      → outbound (bytes_by_rules t p vs e) i ≡ out_after (outbound e) (some refuses vs) i
  unfolding bytes_by_rules
  heard_out [] e good own frames i = refl
  heard_out (v ∷ vs) e good own frames i =
      heard_out vs (after v e) (good_after_one v e good own.0) own.1 frames.1 i
      ∙ out_step t order p e good.size (fell e v own.0) own.0 frames.0 (some refuses vs) i

  module _ (vs ws : List Event) (own : AllOwn t p vs) (own' : AllOwn t p ws) where
    pub same_bytes : AllHeard vs → AllHeard ws → ((i : ℕ) → some offers vs i ≡ some offers ws i) → ((i : ℕ) → some refuses vs i ≡ some refuses ws i)
        → (e : List ℕ) → GoodRecord t p e → bytes_by_rules t p vs e ≡ bytes_by_rules t p ws e
    same_bytes frames frames' same-offers same-refuses e good =
        pairs_equal t.links (bytes_by_rules t p vs e) (bytes_by_rules t p ws e) (good_after vs e good own).size (good_after ws e good own').size
        (λ i l.
        heard_out vs e good own frames i ∙ ap (λ (f : ℕ → Bool). out_after (outbound e) f i) (fun_ext same-refuses) ∙ sym (heard_out ws e good own' frames' i))
        (λ i l.
        heard_in vs e good own i l ∙ ap (λ (f : ℕ → Bool). in_after t p (inbound e) f i) (fun_ext same-offers) ∙ sym (heard_in ws e good own' i l))

  -- maps go as their bytes do
  maps_by_bytes : (vs : List Event) (m : Maps) → GoodMaps t p m → AllOwn t p vs
      → maps_after t p vs m ≡ maps_of t.links (bytes_by_rules t p vs (bytes_of t.links m))
  maps_by_bytes vs m good own =
      (on_bytes t p vs own m (bytes_of t.links m) (record { maps_are = sym (maps_bytes t.links m good.sound); bytes_are = refl })).0.maps_are

  pub same_maps : (vs ws : List Event) → AllOwn t p vs → AllOwn t p ws → AllHeard vs → AllHeard ws → ((i : ℕ) → some offers vs i ≡ some offers ws i)
      → ((i : ℕ) → some refuses vs i ≡ some refuses ws i) → (m : Maps) → GoodMaps t p m → maps_after t p vs m ≡ maps_after t p ws m
  same_maps vs ws own own' frames frames' same-offers same-refuses m good =
      maps_by_bytes vs m good own
      ∙ ap (maps_of t.links) (same_bytes vs ws own own' frames frames' same-offers same-refuses (bytes_of t.links m) (maps_good_record t p m good))
      ∙ sym (maps_by_bytes ws m good own')
