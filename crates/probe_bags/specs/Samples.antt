-- Sample bags. The site is M2 of document 01, and the end its probe 1, fresh, which has one link to spare.
use Rattle.std.specs.Prelude.{ℕ, ◌≡◌, List, [], ◌∷◌, ◌++◌, replicate}
use Rattle.table_laws.specs.Samples.{bytes, m2_slices, m2}
use Rattle.wake_log.specs.declared.Entry.{Entry}
use Rattle.wake_log.specs.declared.What.TheVariants.{Taken, TakenDisplacing, Refused, RefusalLearnt, NoChange}
use Rattle.probe_maps.specs.Maps.{Maps, rows}
use Rattle.probe_bags.specs.Bag.{frames_of, events_of, maps_after, entries_after, many_fault, hears_bag_fault}

abbrev pub fresh_maps : Maps
fresh_maps = rows (0 ∷ []) (0 ∷ []) (0 ∷ []) (0 ∷ [])

-- the offers of its two neighbours, and a refusal of the second
abbrev pub offer_of0 : List ℕ
offer_of0 = bytes "01000100000001\n"

abbrev pub offer_of2 : List ℕ
offer_of2 = bytes "01000100020001\n"

abbrev pub refusal_of2 : List ℕ
refusal_of2 = bytes "02000100020001\n"

-- what probe 1 makes of a bag
abbrev pub entries_in : List ℕ → List Entry
entries_in bag = entries_after m2 1 (events_of m2 (frames_of bag)) fresh_maps

abbrev pub maps_left : List ℕ → Maps
maps_left bag = maps_after m2 1 (events_of m2 (frames_of bag)) fresh_maps

abbrev pub fault_with : List ℕ → ℕ → ℕ
fault_with bag free = hears_bag_fault m2_slices 1 fresh_maps bag free

pub record BagSamples : Type 0 where
  -- in both orders the bag is heard; the entries differ, and the record is the same: the dearer offer held, the other refused
  pub heard : fault_with (offer_of0 ++ offer_of2) 2 ≡ 0
  pub heard_reversed : fault_with (offer_of2 ++ offer_of0) 2 ≡ 0
  pub displaces : entries_in (offer_of0 ++ offer_of2) ≡ record { probe = 1; what = Taken 0 } ∷ record { probe = 1; what = TakenDisplacing 1 0 } ∷ []
  pub refused : entries_in (offer_of2 ++ offer_of0) ≡ record { probe = 1; what = Taken 1 } ∷ record { probe = 1; what = Refused 0 } ∷ []
  pub left : maps_left (offer_of0 ++ offer_of2) ≡ rows (0 ∷ []) (0 ∷ []) (2 ∷ []) (1 ∷ [])
  pub left_reversed : maps_left (offer_of2 ++ offer_of0) ≡ maps_left (offer_of0 ++ offer_of2)
  -- a frame twice, and a refusal
  pub again : entries_in (offer_of0 ++ offer_of0 ++ refusal_of2) ≡ record { probe = 1; what = Taken 0 } ∷ record { probe = 1; what = NoChange 0 } ∷ record { probe = 1; what = RefusalLearnt 1 } ∷ []
  -- 26: an entry too few; an empty bag needs none
  pub full : fault_with (offer_of0 ++ offer_of2) 1 ≡ 26
  pub empty_with_full_log : fault_with [] 0 ≡ 0
  -- the number of the first bad frame, whatever comes behind it and however full the log is: a kind without a meaning, then a frame for another probe
  pub second_bad : fault_with (offer_of0 ++ bytes "03000100000001\n01000100000002\n") 0 ≡ 9
  pub other_way : fault_with (offer_of0 ++ bytes "01000100000002\n03000100000001\n") 0 ≡ 24
  -- a last piece without a line feed
  pub unclosed : fault_with (offer_of0 ++ bytes "0100010002000") 2 ≡ 1
  -- 32: of 65 frames, bad ones as well
  pub sixty_four : many_fault (frames_of (replicate 64 10)) ≡ 0
  pub sixty_five : many_fault (frames_of (replicate 65 10)) ≡ 32
  pub many_first : fault_with (replicate 65 10) 0 ≡ 32
  pub bad_within : fault_with (replicate 64 10) 0 ≡ 1
