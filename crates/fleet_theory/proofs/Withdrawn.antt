-- No check of an end or of a fleet has the fault 25: each is one of the others.
use Prim.Native.Nat.{ℕ, zero, suc, ◌+◌, ◌*◌}
use mathlib.Core.Path.{◌≡◌}
use mathlib.Core.Bool.{Bool, true, false, cond, ◌&&◌, ◌||◌, not}
use mathlib.Core.List.{List, [], ◌∷◌}
use native.Mathlib.Omega.{arith}
use lib.Dec.{ltb, eqb}
use lib.ListN.{length, get_or}
use Rattle.range.specs.First.{or_else, first}
use Rattle.hex_digits.specs.Digits.{value_of}
use Rattle.lines.specs.declared.Line.{Line}
use Rattle.std.specs.Prelude.{Option, Some, None}
use Rattle.lines.specs.Line.{line_at}
use Rattle.lines.specs.Digits.{length_fault, digit_fault, line_fault}
use Rattle.table.specs.Table.{Table, item, touches, spare, between}
use Rattle.table.specs.Legal.{lent_fault, table_fault}
use Rattle.table.specs.Slices.{Slices, table_of, slices_room_fault, slices_fault}
use Rattle.table.proofs.Largest.{table_most}
use Rattle.probe_frame.specs.Frame.{Frame, frame_of, frame_fault}
use Rattle.probe_record.specs.Record.{outbound, inbound, standing, held, record_length_fault, byte_fault, spare_fault, record_fault}
use Rattle.probe_rules.specs.declared.Event.{Event}
use Rattle.probe_rules.specs.declared.Event.TheVariants.{Opening, Offer, Refusal}
use Rattle.probe_rules.specs.Frames.{number_fault}
use Rattle.bit_maps.specs.BitMap.{words_for, bit, ones_of}
use Rattle.probe_maps.specs.Maps.{Maps, has_words, maps_length_fault, wrong_bits, is_own, bit_fault, ones_fault, maps_fault, state_fault}
use Rattle.probe_checks.specs.Checks.{frame_kind_fault, to_fault, probe_fault, own_link_fault, full_fault, heard_fault, hear_fault, open_fault, link_call_fault}
use Rattle.probe_turning.specs.Turned.{rows_lent_fault, to_maps_fault, to_bytes_fault}
use Rattle.probe.specs.Answers.{hears_fault, opens_fault}
use Rattle.probe_bags.specs.Bag.{frames_of, frames_fault, many_fault, room_fault, bag_fault, hears_bag_fault}
use Rattle.fleet_theory.specs.Fleet.{own, marks, permitting, wrong_byte, link_bytes_fault, of_one_probe, fleet_fault, event_kind_fault, event_ends_fault, event_line_fault, event_of, unsent_fault, event_fault}
use Rattle.fleet_theory.specs.Withdrawn.{TwentyFiveWithdrawn}

-- a fault that is not 25
abbrev Other : ℕ → Type 0
Other n = n ≡ 25 → ⊥

or_other : (a b : ℕ) → Other a → Other b → Other (or_else a b)
or_other zero b n m = m
or_other (suc a) b n m = n

first_other : (f : ℕ → ℕ) (n : ℕ) → ((i : ℕ) → Other (f i)) → Other (first f n)
unfolding first
first_other f zero each = λ e. omega arith
first_other f (suc n) each = or_other (first f n) (f n) (first_other f n each) (each n)

-- a test that gives a number or none
when_other : (b : Bool) (n : ℕ) → Other n → Other (cond b n 0)
when_other true n o = o
when_other false n o = λ e. omega arith

unless_other : (b : Bool) (n : ℕ) → Other n → Other (cond b 0 n)
unless_other true n o = λ e. omega arith
unless_other false n o = o

length_other : (width : ℕ) (l : Option Line) → Other (length_fault width l)
length_other width (Some line) = unless_other (eqb line.len width) 1 (λ e. omega arith)
length_other width None = λ e. omega arith

frame_other : (l : List ℕ) → Other (frame_fault l)
unfolding frame_fault line_fault
frame_other l =
    or_other (cond (eqb (length l) 15) 0 1) (or_else (length_fault 14 (line_at l 0).line) (first (λ j. digit_fault (get_or l (0 + j) 0)) 14))
    (unless_other (eqb (length l) 15) 1 (λ e. omega arith))
    (or_other (length_fault 14 (line_at l 0).line) (first (λ j. digit_fault (get_or l (0 + j) 0)) 14) (length_other 14 (line_at l 0).line)
    (first_other (λ j. digit_fault (get_or l (0 + j) 0)) 14 (λ j. unless_other (ltb (value_of (get_or l (0 + j) 0)) 16) 2 (λ e. omega arith))))

slices_other : (x : Slices) → Other (slices_fault x)
slices_other x =
    or_other (slices_room_fault x) (table_fault 256 2048 (table_of x)) (when_other (ltb (length x.needs) x.probes || (not (eqb (length x.lows) (length x.highs)) || (not (eqb (length x.highs) (length x.costs)) || ltb (length x.lows) x.links))) 8
    (λ e. omega arith))
    (λ e. let a = table_most 256 2048 (table_of x) in omega arith)

spare_other : (t : Table) (p : ℕ) (e : List ℕ) → Other (spare_fault t p e)
spare_other t p e = when_other (ltb (spare t p) (standing t p e) || ltb (spare t p) (held t p e)) 22 (λ z. omega arith)

number_other : (t : Table) (f : Frame) → Other (number_fault t f)
number_other t f = unless_other (eqb f.number t.number) 23 (λ z. omega arith)

full_other : (free : ℕ) → Other (full_fault free)
full_other free = when_other (eqb free 0) 26 (λ z. omega arith)

record_other : (t : Table) (p : ℕ) (e : List ℕ) → Other (record_fault t p e)
record_other t p e =
    or_other (record_length_fault t e) (or_else (first (byte_fault t p e) t.links) (spare_fault t p e)) (unless_other (eqb (length e) (2 * t.links)) 20 (λ z. omega arith))
    (or_other (first (byte_fault t p e) t.links) (spare_fault t p e) (first_other (byte_fault t p e) t.links
    (λ i. when_other (ltb 2 (outbound e i) || (ltb 2 (inbound e i) || (not (touches t p i) && not (eqb (outbound e i) 0 && eqb (inbound e i) 0)))) 21 (λ z. omega arith)))
    (spare_other t p e))

maps_other : (t : Table) (p : ℕ) (m : Maps) → Other (maps_fault t p m)
maps_other t p m =
    or_other (maps_length_fault t m) (or_else (first (bit_fault t p m) (64 * words_for t.links)) (ones_fault t p m))
    (unless_other (has_words t.links m.standing && (has_words t.links m.refused_out && (has_words t.links m.held && has_words t.links m.refused_in))) 20 (λ z. omega arith))
    (or_other (first (bit_fault t p m) (64 * words_for t.links)) (ones_fault t p m) (first_other (bit_fault t p m) (64 * words_for t.links)
    (λ i. when_other (wrong_bits (bit m.standing i) (bit m.refused_out i) (bit m.held i) (bit m.refused_in i) (is_own t p i)) 21 (λ z. omega arith)))
    (when_other (ltb (spare t p) (ones_of m.standing) || ltb (spare t p) (ones_of m.held)) 22 (λ z. omega arith)))

lent_other : (given wanted : ℕ) → Other (lent_fault given wanted)
lent_other given wanted = when_other (ltb given wanted) 8 (λ z. omega arith)

rows_lent_other : (links : ℕ) (out : Maps) → Other (rows_lent_fault links out)
rows_lent_other links out =
    let words = words_for links in
    let a = lent_fault (length out.standing) words in
    let b = lent_fault (length out.refused_out) words in
    let c = lent_fault (length out.held) words in
    let d = lent_fault (length out.refused_in) words in
    or_other a (or_else b (or_else c d)) (lent_other (length out.standing) words)
    (or_other b (or_else c d) (lent_other (length out.refused_out) words)
    (or_other c d (lent_other (length out.held) words) (lent_other (length out.refused_in) words)))

heard_other : (t : Table) (p : ℕ) (l : List ℕ) → Other (heard_fault t p l)
unfolding heard_fault
heard_other t p l =
    let f = frame_of l in
    or_other (frame_fault l) (or_else (frame_kind_fault f) (or_else (number_fault t f) (to_fault t p f))) (frame_other l)
    (or_other (frame_kind_fault f) (or_else (number_fault t f) (to_fault t p f)) (unless_other (eqb f.kind 1 || eqb f.kind 2) 9 (λ z. omega arith))
    (or_other (number_fault t f) (to_fault t p f) (number_other t f) (unless_other (eqb f.to p && ltb (between t f.from f.to) t.links) 24 (λ z. omega arith))))

frames_other : (t : Table) (p : ℕ) (ls : List (List ℕ)) → Other (frames_fault t p ls)
unfolding frames_fault
frames_other t p [] = λ z. omega arith
frames_other t p (l ∷ ls) = or_other (heard_fault t p l) (frames_fault t p ls) (heard_other t p l) (frames_other t p ls)

probe_other : (t : Table) (p : ℕ) → Other (probe_fault t p)
probe_other t p = unless_other (ltb p t.probes) 24 (λ z. omega arith)

fleet_other : (t : Table) (r : List ℕ) → Other (fleet_fault t r)
fleet_other t r =
    or_other (cond (eqb (length r) (8 * t.links)) 0 20) (or_else (first (link_bytes_fault r) t.links) (first (λ p. spare_fault t p (own t p r)) t.probes))
    (unless_other (eqb (length r) (8 * t.links)) 20 (λ z. omega arith))
    (or_other (first (link_bytes_fault r) t.links) (first (λ p. spare_fault t p (own t p r)) t.probes)
    (first_other (link_bytes_fault r) t.links (λ i. first_other (fault i) 4 (λ k. when_other (wrong_byte (item r (8 * i + k)) (item r (8 * i + (4 + k))) (permitting k)) 21 (λ z. omega arith))))
    (first_other (λ p. spare_fault t p (own t p r)) t.probes (λ p. spare_other t p (own t p r))))
  where
    fault : ℕ → ℕ → ℕ
    fault i k = cond (wrong_byte (item r (8 * i + k)) (item r (8 * i + (4 + k))) (permitting k)) 21 0

line_other : (t : Table) (l : List ℕ) → Other (event_line_fault t l)
line_other t l =
    let f = frame_of l in
    or_other (frame_fault l) (or_else (event_kind_fault f) (or_else (number_fault t f) (event_ends_fault t f))) (frame_other l)
    (or_other (event_kind_fault f) (or_else (number_fault t f) (event_ends_fault t f)) (unless_other (ltb f.kind 4) 9 (λ z. omega arith))
    (or_other (number_fault t f) (event_ends_fault t f) (number_other t f)
    (unless_other (cond (of_one_probe f.kind) (eqb f.from f.to && ltb f.to t.probes) (ltb (between t f.from f.to) t.links)) 24 (λ z. omega arith))))

unsent_other : (v : Event) (m : List ℕ) → Other (unsent_fault v m)
unsent_other Opening m = λ z. omega arith
unsent_other (Offer i) m = unless_other (eqb (outbound m i) 1) 27 (λ z. omega arith)
unsent_other (Refusal i) m = unless_other (eqb (inbound m i) 1) 27 (λ z. omega arith)

module _ (x : Slices) where
  abbrev t : Table
  t = table_of x

  state : (p : ℕ) (m : Maps) → Other (state_fault x p m)
  state p m = or_other (slices_fault x) (maps_fault t p m) (slices_other x) (maps_other t p m)

  hearing : (p : ℕ) (m : Maps) (l : List ℕ) (free : ℕ) → Other (hears_fault x p m l free)
  unfolding hear_fault
  hearing p m l free =
      or_other (state_fault x p m) (or_else (heard_fault t p l) (full_fault free)) (state p m)
      (or_other (heard_fault t p l) (full_fault free) (heard_other t p l) (full_other free))

  bag : (p : ℕ) (m : Maps) (frames : List ℕ) (free : ℕ) → Other (hears_bag_fault x p m frames free)
  unfolding bag_fault
  bag p m frames free =
      let ls = frames_of frames in
      let last = or_else (probe_fault t p) (room_fault ls free) in
      or_other (state_fault x p m) (or_else (many_fault ls) (or_else (frames_fault t p ls) last)) (state p m)
      (or_other (many_fault ls) (or_else (frames_fault t p ls) last) (when_other (ltb 64 (length ls)) 32 (λ z. omega arith))
      (or_other (frames_fault t p ls) last (frames_other t p ls)
      (or_other (probe_fault t p) (room_fault ls free) (probe_other t p) (when_other (ltb free (length ls)) 26 (λ z. omega arith)))))

  opening : (p : ℕ) (m : Maps) (free : ℕ) → Other (opens_fault x p m free)
  unfolding open_fault
  opening p m free =
      or_other (state_fault x p m) (or_else (probe_fault t p) (full_fault free)) (state p m)
      (or_other (probe_fault t p) (full_fault free) (probe_other t p) (full_other free))

  link_call : (p : ℕ) (m : Maps) (i : ℕ) → Other (link_call_fault (state_fault x p m) t p i)
  unfolding link_call_fault
  link_call p m i =
      or_other (state_fault x p m) (own_link_fault t p i) (state p m) (unless_other (is_own t p i) 24 (λ z. omega arith))

  to_maps : (p : ℕ) (e : List ℕ) (out : Maps) → Other (to_maps_fault x p e out)
  to_maps p e out =
      or_other (rows_lent_fault x.links out) (or_else (slices_fault x) (record_fault t p e)) (rows_lent_other x.links out)
      (or_other (slices_fault x) (record_fault t p e) (slices_other x) (record_other t p e))

  to_bytes : (p : ℕ) (m : Maps) (out : List ℕ) → Other (to_bytes_fault x p m out)
  to_bytes p m out =
      or_other (lent_fault (length out) (2 * x.links)) (state_fault x p m) (lent_other (length out) (2 * x.links)) (state p m)

  line : (r : List ℕ) (used room : ℕ) (l : List ℕ) → Other (event_fault x r used room l)
  line r used room l =
      let unsent = unsent_fault (event_of t (frame_of l)) (marks t (frame_of l).from r) in
      let full : ℕ = cond (ltb used room) 0 26 in
      or_other (slices_fault x) (or_else (fleet_fault t r) (or_else (event_line_fault t l) (or_else unsent full))) (slices_other x)
      (or_other (fleet_fault t r) (or_else (event_line_fault t l) (or_else unsent full)) (fleet_other t r)
      (or_other (event_line_fault t l) (or_else unsent full) (line_other t l)
      (or_other unsent full (unsent_other (event_of t (frame_of l)) (marks t (frame_of l).from r)) (unless_other (ltb used room) 26 (λ z. omega arith)))))

  pub twenty_five_withdrawn : TwentyFiveWithdrawn x
  twenty_five_withdrawn = record { of_hearing = hearing; of_bag = bag; of_opening = opening; of_link_call = link_call; of_turning_to_maps = to_maps; of_turning_to_bytes = to_bytes; of_line = line }
