use Rattle.std.proofs.Common.{rules, ◌≡◌, ℕ, List, arith, length, replicate}
use Rattle.range.proofs.Lists.{zeros_at}
use Rattle.table.specs.Slices.{as_slices}
use Rattle.table.proofs.Slices.{legal_slices}
use Rattle.fleet_state.proofs.Legal.{may_count}
use Rattle.script_pieces.proofs.Ends.{links_within, zeros_are}
use Rattle.script_reads.proofs.Chain.{handled_usable}
use Rattle.script.proofs.Answered.{answers_input}
use Rattle.script.proofs.answer_script.Goals as goal

pub count_degrees-requires : goal.count_degrees-requires
count_degrees-requires g c =
    let a = c.args in
    let m = may_count a.table.number a.table.probes a.table.links a.table.needs.now a.table.lows.now a.table.highs.now a.table.costs.now c.requires.0 in
    (m.0, m.1, m.2, m.3, zeros_at 256)

pub invariant_of-counted : goal.invariant_of-counted
invariant_of-counted g c =
    let legal = legal_slices 256 2048 (as_slices c.args.table) c.requires.0 in
    let room : length c.count_degrees.new.counts ≡ 256 = c.count_degrees.auto.counts in
    record { legal = c.requires.0; in_degrees = omega (arith, legal.few, room); are_counted = c.count_degrees.ensures }

pub handle_all-requires : goal.handle_all-requires
handle_all-requires g c =
    let x = as_slices c.args.table in
    let m = links_within x c.requires.0 in
    (zeros_are x c.requires.0 (omega arith), search rules, c.requires.1, c.requires.2)

pub end-requires : goal.end-requires
end-requires g c =
    let a = c.args in
    let x = as_slices a.table in
    let zeros : List ℕ = replicate 16 0 in
    (c.requires.0, handled_usable x c.requires.0 zeros _ _ _ (omega arith) c.in-AtEnd.ensures.handled, omega (arith, c.requires.2, c.handle_all.auto.out))

pub returns-in-AtEnd : goal.returns-in-AtEnd
returns-in-AtEnd g c =
    let a = c.args in
    let x = as_slices a.table in
    let zeros : List ℕ = replicate 16 0 in
    answers_input x zeros (omega arith) c.in-AtEnd.progress _ _ _ _ _ _ _ _ _ _ c.in-AtEnd.ensures c.end.ensures
