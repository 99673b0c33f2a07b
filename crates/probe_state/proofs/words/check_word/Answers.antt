use native.Mathlib.Omega.{arith}
use Rattle.probe_state.proofs.FaultLaws.{word_meets, word_foreign, word_right}
use Rattle.probe_state.proofs.words.check_word.Goals as goal

pub returns-then-standing-refused_out-ne0 : goal.returns-then-standing-refused_out-ne0
returns-then-standing-refused_out-ne0 c =
    let a = c.args in
    let f = c.ranges in
    word_meets a.standing a.refused_out a.held a.refused_in a.own (omega (arith, f.standing)) (omega (arith, f.refused_out)) (omega (arith, f.held)) (omega (arith, f.refused_in)) c.if-standing-refused_out-ne0.true

pub returns-then-used-own : goal.returns-then-used-own
returns-then-used-own c =
    let a = c.args in
    let f = c.ranges in
    word_foreign a.standing a.refused_out a.held a.refused_in a.own (omega (arith, f.standing)) (omega (arith, f.refused_out)) (omega (arith, f.held)) (omega (arith, f.refused_in)) (omega (arith, f.own)) c.if-used-own.true

pub returns : goal.returns
returns c =
    let a = c.args in
    word_right a.standing a.refused_out a.held a.refused_in a.own c.if-standing-refused_out-ne0.false c.if-used-own.false
