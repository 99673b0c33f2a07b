-- Where the links of an event and of an outcome are.
use Rattle.std.specs.Prelude.{ℕ, ◌<◌, ◌≡◌, true}
use Rattle.table.specs.Table.{Table, touches}
use Rattle.probe_rules.specs.declared.Event.{Event}
use Rattle.probe_rules.specs.declared.Event.TheVariants.{Opening, Offer, Refusal}
use Rattle.probe_rules.specs.declared.Outcome.{Outcome}
use Rattle.probe_rules.specs.declared.Outcome.TheVariants.{Opened, Enough, Taken, TakenDisplacing, Refused, RefusalLearnt, NoChange, AllTried}

-- the links are below a number
abbrev pub EventWithin : ℕ → Event → Type 0
EventWithin n Opening = Unit
EventWithin n (Offer i) = i < n
EventWithin n (Refusal i) = i < n

-- the event is a frame heard
abbrev pub IsHeard : Event → Type 0
IsHeard Opening = ⊥
IsHeard (Offer i) = Unit
IsHeard (Refusal i) = Unit

abbrev pub Within : ℕ → Outcome → Type 0
Within n (Opened i) = i < n
Within n Enough = Unit
Within n (Taken i) = i < n
Within n (TakenDisplacing i c) = (i < n) × (c < n)
Within n (Refused i) = i < n
Within n (RefusalLearnt i) = i < n
Within n (NoChange i) = i < n
Within n AllTried = Unit

-- the link is the probe's own
abbrev pub OwnLink : Table → ℕ → ℕ → Type 0
OwnLink t p i = (i < t.links) × (touches t p i ≡ true)

abbrev pub OwnEvent : Table → ℕ → Event → Type 0
OwnEvent t p Opening = Unit
OwnEvent t p (Offer i) = OwnLink t p i
OwnEvent t p (Refusal i) = OwnLink t p i

abbrev pub OwnOutcome : Table → ℕ → Outcome → Type 0
OwnOutcome t p (Opened i) = OwnLink t p i
OwnOutcome t p Enough = Unit
OwnOutcome t p (Taken i) = OwnLink t p i
OwnOutcome t p (TakenDisplacing i c) = OwnLink t p i × OwnLink t p c
OwnOutcome t p (Refused i) = OwnLink t p i
OwnOutcome t p (RefusalLearnt i) = OwnLink t p i
OwnOutcome t p (NoChange i) = Unit
OwnOutcome t p AllTried = Unit
