-- The rules of an end: document 01, "The ends and their frames". What befalls is decided first; the bytes and the entry are functions of it.
use Rattle.std.specs.Prelude.{ℕ, ◌+◌, ◌*◌, Bool, false, cond, ◌&&◌, List, ltb, eqb, set}
use Rattle.table.specs.Table.{Table, spare, dearer, other}
use Rattle.probe_record.specs.Record.{outbound, inbound, standing, held, dearest_untried, cheapest_held}
use Rattle.wake_log.specs.declared.Entry.{Entry}
use Rattle.wake_log.specs.declared.What.{What}
use Rattle.wake_log.specs.declared.What.TheVariants as what
use Rattle.probe_rules.specs.declared.Event.{Event}
use Rattle.probe_rules.specs.declared.Event.TheVariants.{Opening, Offer, Refusal}
use Rattle.probe_rules.specs.declared.Outcome.{Outcome}
use Rattle.probe_rules.specs.declared.Outcome.TheVariants.{Opened, Enough, Taken, TakenDisplacing, Refused, RefusalLearnt, NoChange, AllTried}

-- "Opening: with fewer standing than spare, the dearest untried own link becomes standing. Otherwise nothing to open."
-- 02, No. 3: "An opening that opens nothing says 01 when the offers standing equal the spare, otherwise 07, every link tried." (22 lets no more stand than the spare.)
abbrev pub opening : Table → ℕ → List ℕ → Outcome
opening t p e =
    let i = dearest_untried t p e in
    cond (ltb (standing t p e) (spare t p)) (cond (ltb i t.links) (Opened i) AllTried) Enough

-- "An end takes an offer if it holds fewer than its spare, or if the offer is dearer than its cheapest held, which is then displaced."
abbrev pub offer : Table → ℕ → List ℕ → ℕ → Outcome
offer t p e i =
    let c = cheapest_held t p e in
    cond (ltb (held t p e) (spare t p)) (Taken i) (cond (ltb c t.links && dearer t i c) (TakenDisplacing i c) (Refused i))

-- "Offer heard: if inbound is 0, it is taken .. or refused .. as above .. Otherwise nothing changes." "Refusal heard: outbound becomes 2."
abbrev pub befalls : Table → ℕ → Event → List ℕ → Outcome
befalls t p Opening e = opening t p e
befalls t p (Offer i) e = cond (eqb (inbound e i) 0) (offer t p e i) (NoChange i)
befalls t p (Refusal i) e = cond (eqb (outbound e i) 2) (NoChange i) (RefusalLearnt i)

-- the bytes that an outcome alters, by the places of outbound and inbound in the record
abbrev pub alter_at : (ℕ → ℕ) → (ℕ → ℕ) → Outcome → List ℕ → List ℕ
alter_at out_at in_at (Opened i) e = set e (out_at i) 1
alter_at out_at in_at Enough e = e
alter_at out_at in_at (Taken i) e = set e (in_at i) 1
alter_at out_at in_at (TakenDisplacing i c) e = set (set e (in_at i) 1) (in_at c) 2
alter_at out_at in_at (Refused i) e = set e (in_at i) 2
alter_at out_at in_at (RefusalLearnt i) e = set e (out_at i) 2
alter_at out_at in_at (NoChange i) e = e
alter_at out_at in_at AllTried e = e

-- in an end's own record
abbrev pub alter : Outcome → List ℕ → List ℕ
alter = alter_at (λ i. 2 * i) (λ i. 2 * i + 1)

-- "An offer may be sent while outbound is 1, a refusal while inbound is 2": by the end that sends it, on the link
abbrev pub sendable : Event → List ℕ → Bool
sendable Opening e = false
sendable (Offer i) e = eqb (outbound e i) 1
sendable (Refusal i) e = eqb (inbound e i) 2

-- "A probe rests a link when its own two bytes are both 1."
abbrev pub rests : List ℕ → ℕ → Bool
rests e i = eqb (outbound e i) 1 && eqb (inbound e i) 1

-- "An entry holds the probe and what befell it, with the link where there is one", and "the displaced probe"
abbrev pub what_of : Table → ℕ → Outcome → What
what_of t p (Opened i) = what.Opened i
what_of t p Enough = what.Enough
what_of t p (Taken i) = what.Taken i
what_of t p (TakenDisplacing i c) = what.TakenDisplacing i (other t p c)
what_of t p (Refused i) = what.Refused i
what_of t p (RefusalLearnt i) = what.RefusalLearnt i
what_of t p (NoChange i) = what.NoChange i
what_of t p AllTried = what.AllTried

abbrev pub entry_of : Table → ℕ → Outcome → Entry
entry_of t p o = record { probe = p; what = what_of t p o }
