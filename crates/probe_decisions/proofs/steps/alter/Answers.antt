use borrow.Author.Rules.{rules}
use native.Mathlib.Omega.{arith}
use Rattle.probe_decisions.proofs.StepLaws.{leaves_same, opens, learns, takes, refuses, displaces}
use Rattle.probe_decisions.proofs.steps.alter.Goals as goal

pub move_bit-requires : goal.move_bit-requires
move_bit-requires c =
    let p = c.requires in
    let w = rw c.in-Opened.is at p.2 in
    (omega (arith, p.1.standing.size), omega (arith, p.1.refused_out_lem.size))

pub move_bit-requires-in-Taken : goal.move_bit-requires-in-Taken
move_bit-requires-in-Taken c =
    let p = c.requires in
    let w = rw c.in-Taken.is at p.2 in
    (omega (arith, p.1.held.size), omega (arith, p.1.refused_in_lem.size))

pub move_bit-requires-in-TakenDisplacing : goal.move_bit-requires-in-TakenDisplacing
move_bit-requires-in-TakenDisplacing c =
    let p = c.requires in
    let w = rw c.in-TakenDisplacing.is at p.2 in
    (omega (arith, p.1.held.size, w.0), omega (arith, p.1.refused_in_lem.size, w.0))

pub move_bit-requires-in-Refused : goal.move_bit-requires-in-Refused
move_bit-requires-in-Refused c =
    let p = c.requires in
    let w = rw c.in-Refused.is at p.2 in
    (omega (arith, p.1.refused_in_lem.size), omega (arith, p.1.held.size))

pub move_bit-requires-in-RefusalLearnt : goal.move_bit-requires-in-RefusalLearnt
move_bit-requires-in-RefusalLearnt c =
    let p = c.requires in
    let w = rw c.in-RefusalLearnt.is at p.2 in
    (omega (arith, p.1.refused_out_lem.size), omega (arith, p.1.standing.size))

pub returns-in-Opened : goal.returns-in-Opened
returns-in-Opened c =
    let a = c.args in
    λ links sound within.
    let w = rw c.in-Opened.is at within in
    rw c.in-Opened.is (opens links a.standing.now a.refused_out.now a.held.now a.refused_in.now sound _ w c.move_bit.ensures.0 c.move_bit.ensures.1)

pub returns-in-Enough : goal.returns-in-Enough
returns-in-Enough c =
    let a = c.args in
    λ links sound within.
    rw c.in-Enough.is (leaves_same links a.standing.now a.refused_out.now a.held.now a.refused_in.now sound)

pub returns-in-Taken : goal.returns-in-Taken
returns-in-Taken c =
    let a = c.args in
    λ links sound within.
    let w = rw c.in-Taken.is at within in
    rw c.in-Taken.is (takes links a.standing.now a.refused_out.now a.held.now a.refused_in.now sound _ w c.move_bit-in-Taken.ensures.0 c.move_bit-in-Taken.ensures.1)

pub returns-in-TakenDisplacing : goal.returns-in-TakenDisplacing
returns-in-TakenDisplacing c =
    let a = c.args in
    λ links sound within.
    let w = rw c.in-TakenDisplacing.is at within in
    rw c.in-TakenDisplacing.is (displaces links a.standing.now a.refused_out.now a.held.now a.refused_in.now sound _ w.0 _ w.1 c.move_bit-in-TakenDisplacing.ensures.0 c.move_bit-in-TakenDisplacing.ensures.1 c.move_bit-in-TakenDisplacing-2.ensures.0 c.move_bit-in-TakenDisplacing-2.ensures.1)

pub returns-in-Refused : goal.returns-in-Refused
returns-in-Refused c =
    let a = c.args in
    λ links sound within.
    let w = rw c.in-Refused.is at within in
    rw c.in-Refused.is (refuses links a.standing.now a.refused_out.now a.held.now a.refused_in.now sound _ w c.move_bit-in-Refused.ensures.0 c.move_bit-in-Refused.ensures.1)

pub returns-in-RefusalLearnt : goal.returns-in-RefusalLearnt
returns-in-RefusalLearnt c =
    let a = c.args in
    λ links sound within.
    let w = rw c.in-RefusalLearnt.is at within in
    rw c.in-RefusalLearnt.is (learns links a.standing.now a.refused_out.now a.held.now a.refused_in.now sound _ w c.move_bit-in-RefusalLearnt.ensures.0 c.move_bit-in-RefusalLearnt.ensures.1)

pub returns-in-NoChange : goal.returns-in-NoChange
returns-in-NoChange c =
    let a = c.args in
    λ links sound within.
    rw c.in-NoChange.is (leaves_same links a.standing.now a.refused_out.now a.held.now a.refused_in.now sound)

pub returns-in-AllTried : goal.returns-in-AllTried
returns-in-AllTried c =
    let a = c.args in
    λ links sound within.
    rw c.in-AllTried.is (leaves_same links a.standing.now a.refused_out.now a.held.now a.refused_in.now sound)
