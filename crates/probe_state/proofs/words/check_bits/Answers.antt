use mathlib.Core.Path.{refl, ◌∙◌}
use lib.ListN.{length}
use Rattle.refusals.proofs.Laws.{number_some, at_exit}
use Rattle.probe_maps.specs.Maps.{Maps, rows}
use Rattle.probe_state.specs.OwnWords.{own_bit_fault}
use Rattle.probe_state.proofs.FaultLaws.{word_part, none_to_next, first_in_word}
use Rattle.probe_state.proofs.words.check_bits.Goals as goal

pub returns-in_err-check_word : goal.returns-in_err-check_word
returns-in_err-check_word c =
    let a = c.args in
    let l = c.loop-w in
    let m : Maps = rows a.standing.now a.refused_out.now a.held.now a.refused_in.now in
    let e = c.in_err-check_word.ensures ∙ word_part m a.own.now l.w in
    at_exit _ _ _ c.from_residual.ensures.1 (first_in_word (own_bit_fault m a.own.now) l.w (length a.standing.now) _ l.invariant e (number_some _) c.loop-w-test.true)

pub loop-w-preserved : goal.loop-w-preserved
loop-w-preserved c =
    let a = c.args in
    let l = c.loop-w in
    let m : Maps = rows a.standing.now a.refused_out.now a.held.now a.refused_in.now in
    none_to_next (own_bit_fault m a.own.now) l.w 0 l.invariant (c.in_ok-check_word.ensures ∙ word_part m a.own.now l.w) refl
