-- A heard event as one number.
use Rattle.std.specs.Prelude.{ℕ, ◌+◌, ◌*◌, ◌/◌, ◌%◌, cond, eqb}
use Rattle.probe_rules.specs.declared.Event.{Event}
use Rattle.probe_rules.specs.declared.Event.TheVariants.{Opening, Offer, Refusal}

-- twice the link's place, and 1 more for a refusal; no frame is an opening
abbrev pub packed_event : Event → ℕ
packed_event Opening = 0
packed_event (Offer i) = 2 * i
packed_event (Refusal i) = 2 * i + 1

abbrev pub unpacked_event : ℕ → Event
unpacked_event n = cond (eqb (n % 2) 0) (Offer (n / 2)) (Refusal (n / 2))
