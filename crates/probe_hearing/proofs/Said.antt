-- What the numbers of a bag that was read say: its events, each on an own link.
use Prim.Native.Nat.{ℕ, zero, suc, ◌≤◌, ◌<◌}
use mathlib.Core.Path.{◌≡◌, refl, sym, ◌∙◌, ap}
use mathlib.Core.List.{List, [], ◌∷◌, map}
use native.Mathlib.Omega.{arith}
use lib.ListN.{length, get_or, take, length-map}
use lib.Seq.{sets, get_or-take}
use Rattle.table.specs.Table.{Table, of_slices}
use Rattle.probe_frame.specs.Frame.{frame_of}
use Rattle.probe_rules.specs.declared.Event.{Event}
use Rattle.probe_rules.specs.declared.Event.TheVariants.{Opening, Offer, Refusal}
use Rattle.probe_rules.specs.Frames.{heard_of}
use Rattle.probe_rules.specs.Within.{OwnEvent}
use Rattle.bag_entries.proofs.EntriesLaws.{stored_first}
use Rattle.probe_bags.specs.Bag.{events_of, frames_fault}
use Rattle.probe_bags.proofs.Steps.{all_frames, length_events, AllOwn, all_own}
use Rattle.probe_hearing.specs.PackedEvents.{packed_event, unpacked_event}
use Rattle.probe_hearing.proofs.Laws.{unpacked_same}

told_events : (t : Table) (ls : List (List ℕ)) → map unpacked_event (map packed_event (events_of t ls)) ≡ events_of t ls
unfolding events_of
told_events t [] = refl
told_events t (l ∷ ls) =
    let v = heard_of t (frame_of l) in
    ap (λ (w : Event). w ∷ map unpacked_event (map packed_event (events_of t ls))) (unpacked_same v (all_frames t (frame_of l)))
    ∙ ap (λ (ws : List Event). v ∷ ws) (told_events t ls)

own_packed : (t : Table) (p : ℕ) (ns : List ℕ) → AllOwn t p (map unpacked_event ns) → (k : ℕ) → k < length ns → OwnEvent t p (unpacked_event (get_or ns k 0))
own_packed t p [] own k l = absurd (omega arith)
own_packed t p (n ∷ ns) own zero l = own.0
own_packed t p (n ∷ ns) own (suc k) l = own_packed t p ns own.1 k (omega arith)

module _ (t : Table) (ls : List (List ℕ)) (said₀ said : List ℕ) (count : ℕ) (is : count ≡ length ls) (room : length ls ≤ length said₀)
    (stored : said ≡ sets said₀ 0 (map packed_event (events_of t ls))) where
  abbrev numbers : List ℕ
  numbers = map packed_event (events_of t ls)

  as_many : length numbers ≡ count
  as_many = length-map (events_of t ls) packed_event ∙ length_events t ls ∙ sym is

  first_said : take count said ≡ numbers
  first_said =
      ap (take count) stored ∙ ap (λ (k : ℕ). take k (sets said₀ 0 numbers)) (sym as_many)
      ∙ stored_first numbers said₀ (let n = as_many in omega arith)

  pub said_events : map unpacked_event (take count said) ≡ events_of t ls
  said_events = ap (map unpacked_event) first_said ∙ told_events t ls

  pub said_own : (p : ℕ) → frames_fault t p ls ≡ 0 → (k : ℕ) → k < count → OwnEvent t p (unpacked_event (get_or said k 0))
  said_own p fine k l =
      let n = ap length first_said ∙ as_many in
      rw (get_or-take count said k 0 l) at (own_packed t p (take count said) (rw said_events (all_own t p ls fine)) k (omega (arith, n, l)))
