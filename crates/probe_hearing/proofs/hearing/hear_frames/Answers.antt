use borrow.Author.Rules.{rules}
use Prim.Native.Nat.{ℕ, ◌≤◌, ◌<◌}
use mathlib.Core.Path.{◌≡◌, refl, sym, ap, ◌∙◌}
use mathlib.Core.List.{List, map}
use native.Mathlib.Omega.{arith}
use lib.ListN.{length, get_or, take, replicate, length-map, get_or-map}
use lib.Seq.{sets, length-take-le, get_or-take}
use Rattle.table.specs.Table.{Table}
use Rattle.table.specs.Legal.{RisingLinks}
use Rattle.wake_log.specs.declared.Entry.{Entry}
use Rattle.wake_log.specs.Log.{no_entry}
use Rattle.bag_entries.specs.Entries.{entries_of}
use Rattle.probe_rules.specs.declared.Event.{Event}
use Rattle.probe_rules.proofs.Befalls.{own_within}
use Rattle.probe_maps.specs.Maps.{Maps, rows}
use Rattle.probe_bags.specs.Bag.{entries_after}
use Rattle.probe_bags.proofs.Steps.{length_entries}
use Rattle.probe_hearing.specs.PackedEvents.{unpacked_event}
use Rattle.probe_hearing.proofs.Laws.{is_frame}
use Rattle.probe_hearing.proofs.HeardSoFar.{heard_none, heard_next, heard_maps, heard_entries}
use Rattle.table.specs.Slices.{as_slices, table_of}
use Rattle.probe_hearing.proofs.hearing.hear_frames.Goals as goal

pub loop-n-init : goal.loop-n-init
loop-n-init c =
    (refl, heard_none _ _ _ _ _ c.requires.2, refl, refl, refl, refl)

pub offset_bounds-said-n : goal.offset_bounds-said-n
offset_bounds-said-n c = let l : c.loop-n.n < length c.args.said.now = omega (arith, c.requires.4) in search rules

pub bounds-said-n : goal.bounds-said-n
bounds-said-n c = omega (arith, c.requires.4)

pub apply-requires : goal.apply-requires
apply-requires c =
    let table : Table = let a = c.args in table_of (as_slices a.table) in
    let l = c.loop-n in
    let own = c.requires.5 l.n (omega arith) in
    (c.requires.0, l.invariant.0 ∙ c.requires.1, l.invariant.1.good, rw c.unpacked_event-event.ensures (own_within table c.args.probe (unpacked_event (get_or c.args.said.now l.n 0)) own))

pub offset_bounds-entries-n : goal.offset_bounds-entries-n
offset_bounds-entries-n c = omega (arith, c.requires.3)

pub bounds-entries-n : goal.bounds-entries-n
bounds-entries-n c = omega (arith, c.requires.3, c.loop-n.invariant.1.long)

pub loop-n-preserved : goal.loop-n-preserved
loop-n-preserved c =
    let vs : List Event = map unpacked_event (take c.args.count c.args.said.now) in
    let table : Table = let a = c.args in table_of (as_slices a.table) in
    let rising : RisingLinks table = record { rising = c.requires.0.order.rising } in
    let as_many : length vs ≡ c.args.count = length-map (take c.args.count c.args.said.now) unpacked_event ∙ length-take-le c.args.count c.args.said.now c.requires.4 in
    let events-more : (n : ℕ) → n < c.args.count → n < length vs = λ n l. let k = as_many in omega arith in
    let events-at : (n : ℕ) → n < c.args.count → unpacked_event (get_or c.args.said.now n 0) ≡ get_or vs n (unpacked_event 0) = λ n l. ap unpacked_event (sym (get_or-take c.args.count c.args.said.now n 0 l)) ∙ sym (get_or-map unpacked_event (take c.args.count c.args.said.now) n 0) in
    let a = c.args in
    let l = c.loop-n in
    let less : l.n < a.count = omega arith in
    let is = c.unpacked_event-event.ensures in
    let own = c.requires.5 l.n less in
    let said = c.apply.ensures in
    let v = unpacked_event (get_or a.said.now l.n 0) in
    (said.2 (rw is (is_frame (get_or a.said.now l.n 0))) ∙ l.invariant.0, heard_next _ _ _ _ _ _ _ l.n l.invariant.1 rising (events-more l.n less) _ (unpacked_event 0) (is ∙ events-at l.n less) (rw is own) _ _ said.0 said.1, search rules, search rules, search rules, search rules)

pub returns : goal.returns
returns c =
    let vs : List Event = map unpacked_event (take c.args.count c.args.said.now) in
    let table : Table = let a = c.args in table_of (as_slices a.table) in
    let maps : Maps = let a = c.args in rows a.standing.now a.refused_out.now a.held.now a.refused_in.now in
    let as_many : length vs ≡ c.args.count = length-map (take c.args.count c.args.said.now) unpacked_event ∙ length-take-le c.args.count c.args.said.now c.requires.4 in
    let events-done : (n : ℕ) → c.args.count ≤ n → length vs ≤ n = λ n l. let k = as_many in omega arith in
    let told_is : (told : List Entry) → let es = entries_after table c.args.probe vs maps in told ≡ sets (replicate 64 no_entry) 0 es → record { count = c.args.count; entries = told } ≡ entries_of es = (λ told is.
    let es = entries_after table c.args.probe vs maps in
    ap (λ (all : List Entry). record { count = c.args.count; entries = all }) is
    ∙ ap (λ (k : ℕ). record { count = k; entries = sets (replicate 64 no_entry) 0 es }) (sym (length_entries table c.args.probe vs maps ∙ as_many))) in
    let l = c.loop-n in
    let done = events-done l.n (omega arith) in
    (told_is l.entries (heard_entries _ _ _ _ _ _ _ l.n l.invariant.1 done), heard_maps _ _ _ _ _ _ _ l.n l.invariant.1 done)
