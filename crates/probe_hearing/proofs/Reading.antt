-- A bag read frame by frame: what the frames so far said is stored, and fault and events of the whole bag are those of what is left.
use Prim.Native.Nat.{ℕ, ◌+◌, ◌≤◌, ◌<◌}
use mathlib.Core.Path.{◌≡◌, refl, sym, ◌∙◌, ap}
use mathlib.Core.List.{List, ◌∷◌, map}
use native.Mathlib.Omega.{arith}
use native.Mathlib.Numerals.{add-one}
use lib.ListN.{length, set, length-set}
use lib.Seq.{sets}
use Rattle.range.specs.First.{or_else}
use Rattle.range.proofs.Faults.{or_here, or_none}
use Rattle.lines.specs.Line.{line_at}
use Rattle.lines.specs.Fields.{line_bytes}
use Rattle.lines.proofs.Split.{next_after, next_line}
use Rattle.table.specs.Table.{Table}
use Rattle.probe_frame.specs.Frame.{frame_of}
use Rattle.probe_rules.specs.Frames.{heard_of}
use Rattle.probe_checks.specs.Checks.{heard_fault}
use Rattle.probe_bags.specs.Bag.{frames_of, events_of, frames_fault}
use Rattle.probe_hearing.specs.PackedEvents.{packed_event}
use Rattle.probe_hearing.proofs.Laws.{left, none_left, fewer_left}

module _ (t : Table) (p : ℕ) (bag : List ℕ) where
  -- what the frames from an offset on say, as numbers
  abbrev packed_left : ℕ → List ℕ
  packed_left at = map packed_event (events_of t (left bag at))

  pub record ReadSoFar (said₀ said : List ℕ) (n at : ℕ) : Type 0 where
    pub within : at ≤ length bag
    pub fault : frames_fault t p (frames_of bag) ≡ frames_fault t p (left bag at)
    pub stored : sets said n (packed_left at) ≡ sets said₀ 0 (map packed_event (events_of t (frames_of bag)))
    pub count : n + length (left bag at) ≡ length (frames_of bag)
    pub long : length said ≡ length said₀

  pub read_none : (said : List ℕ) → ReadSoFar said said 0 0
  read_none said = record { within = omega arith; fault = refl; stored = refl; count = omega arith; long = refl }

  module _ (said₀ said : List ℕ) (n at : ℕ) (r : ReadSoFar said₀ said n at) where
    module _ (l : at < length bag) where
      -- the frame there
      abbrev line : List ℕ
      line = line_bytes bag at

      fault_here : frames_fault t p (left bag at) ≡ or_else (heard_fault t p line) (frames_fault t p (left bag (line_at bag at).next))
      unfolding frames_fault
      fault_here = ap (frames_fault t p) (next_line bag at l)

      events_here : packed_left at ≡ packed_event (heard_of t (frame_of line)) ∷ packed_left (line_at bag at).next
      unfolding events_of
      events_here = ap (λ (ls : List (List ℕ)). map packed_event (events_of t ls)) (next_line bag at l)

      pub read_room : length (frames_of bag) ≤ length said₀ → n < length said
      read_room room =
          let c = r.count in
          let s = r.long in
          let f = fewer_left bag at l in
          omega arith

      -- the frame is bad, and its fault is the bag's
      pub read_bad : (fault : ℕ) → fault ≡ heard_fault t p line → (fault ≡ 0 → ⊥) → fault ≡ frames_fault t p (frames_of bag)
      read_bad fault is some = or_here fault (heard_fault t p line) (frames_fault t p (left bag (line_at bag at).next)) is some ∙ sym (r.fault ∙ fault_here)

      pub read_next : (number : ℕ) → heard_fault t p line ≡ 0 → number ≡ packed_event (heard_of t (frame_of line))
          → ReadSoFar said₀ (set said n number) (n + 1) (line_at bag at).next
      read_next number none is =
          record {
            within = (next_after bag at l).1;
            fault = r.fault ∙ fault_here ∙ or_none (heard_fault t p line) _ none;
            stored = rw (add-one n, is) (sym (ap (sets said n) events_here) ∙ r.stored);
            count = let c = r.count in let f = fewer_left bag at l in omega arith;
            long = length-set said n number ∙ r.long;
          }

    -- no frame is left
    module _ (l : length bag ≤ at) where
      pub read_fault_lem : frames_fault t p (frames_of bag) ≡ 0
      unfolding frames_fault
      read_fault_lem = r.fault ∙ ap (frames_fault t p) (none_left bag at l)

      pub read_said : said ≡ sets said₀ 0 (map packed_event (events_of t (frames_of bag)))
      unfolding events_of
      read_said = sym (ap (λ (ls : List (List ℕ)). sets said n (map packed_event (events_of t ls))) (none_left bag at l)) ∙ r.stored
