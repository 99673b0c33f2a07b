-- The checks of one end alone: document 01, "Turned down for the state". A fault is a refusal's number, or 0 for none. `state` is the fault of the table in its slices and of the record, `state_fault`.
use Rattle.std.specs.Prelude.{ℕ, ◌≡◌, cond, ◌&&◌, ◌||◌, List, ltb, eqb, Result, IfOk}
use Rattle.range.specs.First.{or_else}
use Rattle.refusals.specs.Refusals.{fault_of}
use Rattle.refusals.specs.declared.Refusal.{Refusal}
use Rattle.table.specs.Table.{Table, between}
use Rattle.probe_frame.specs.Frame.{Frame, frame_of, frame_fault}
use Rattle.probe_rules.specs.declared.Event.{Event}
use Rattle.probe_rules.specs.Frames.{number_fault, heard_of}
use Rattle.probe_maps.specs.Maps.{is_own}

-- 9: "Kind 01 is an offer, 02 a refusal"; an end alone knows no other
abbrev pub frame_kind_fault : Frame → ℕ
frame_kind_fault f = cond (eqb f.kind 1 || eqb f.kind 2) 0 9

-- 24: "No such probe, a frame for another probe, .. or no such link."
abbrev pub to_fault : Table → ℕ → Frame → ℕ
to_fault t p f = cond (eqb f.to p && ltb (between t f.from f.to) t.links) 0 24

abbrev pub probe_fault : Table → ℕ → ℕ
probe_fault t p = cond (ltb p t.probes) 0 24

-- "A link not its own is refused by 24."
abbrev pub own_link_fault : Table → ℕ → ℕ → ℕ
own_link_fault t p i = cond (is_own t p i) 0 24

-- 26: "The log is full."
abbrev pub full_fault : ℕ → ℕ
full_fault free = cond (eqb free 0) 26 0

-- "the frame's 1, 2, 9, 23, 24"
unfoldable pub heard_fault : Table → ℕ → List ℕ → ℕ
heard_fault t p l =
    let f = frame_of l in
    or_else (frame_fault l) (or_else (frame_kind_fault f) (or_else (number_fault t f) (to_fault t p f)))

-- a frame's line was heard: its fault, or the event that it says
abbrev pub HearsFrame : Table → ℕ → List ℕ → Result Event Refusal → Type 0
HearsFrame t p l r = (fault_of r ≡ heard_fault t p l) × IfOk r (λ v. v ≡ heard_of t (frame_of l))

-- "These come after the table's checks: 20, 21, 22, then the frame's 1, 2, 9, 23, 24, .. then 26."
-- 02, No. 2: "A refusal of an untried link is now learnt." "Refusal 25 is withdrawn".
unfoldable pub hear_fault : ℕ → Table → ℕ → List ℕ → ℕ → ℕ
hear_fault state t p l free = or_else state (or_else (heard_fault t p l) (full_fault free))

unfoldable pub open_fault : ℕ → Table → ℕ → ℕ → ℕ
open_fault state t p free = or_else state (or_else (probe_fault t p) (full_fault free))

-- of a call about one link; 8 for a lent slice comes with the table's own
unfoldable pub link_call_fault : ℕ → Table → ℕ → ℕ → ℕ
link_call_fault state t p i = or_else state (own_link_fault t p i)
