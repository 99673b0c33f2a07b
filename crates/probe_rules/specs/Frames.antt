-- A frame against a table: document 01, refusal 23, and the event that a frame says.
use Rattle.std.specs.Prelude.{ℕ, cond, eqb}
use Rattle.table.specs.Table.{Table, between}
use Rattle.probe_frame.specs.Frame.{Frame}
use Rattle.probe_rules.specs.declared.Event.{Event}
use Rattle.probe_rules.specs.declared.Event.TheVariants.{Offer, Refusal}

-- 23: "A frame of another table number."
abbrev pub number_fault : Table → Frame → ℕ
number_fault t f = cond (eqb f.number t.number) 0 23

-- "Kind 01 is an offer, 02 a refusal"
abbrev pub heard_of : Table → Frame → Event
heard_of t f =
    let i = between t f.from f.to in
    cond (eqb f.kind 1) (Offer i) (Refusal i)
