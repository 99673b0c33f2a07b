use native.Mathlib.Omega.{arith}
use Rattle.probe_rules.proofs.outcomes.what_of.Goals as goal

pub overflow_cast-result : goal.overflow_cast-result
overflow_cast-result c =
    let w = rw c.in-Opened.is at c.requires.0 in omega arith

pub overflow_cast-result-in-Taken : goal.overflow_cast-result-in-Taken
overflow_cast-result-in-Taken c =
    let w = rw c.in-Taken.is at c.requires.0 in omega arith

pub overflow_cast-result-in-TakenDisplacing : goal.overflow_cast-result-in-TakenDisplacing
overflow_cast-result-in-TakenDisplacing c =
    let w = rw c.in-TakenDisplacing.is at c.requires.0 in omega (arith, w.0)

pub other-requires : goal.other-requires
other-requires c =
    let l = rw c.in-TakenDisplacing.is at c.requires.1 in
    let h = rw c.in-TakenDisplacing.is at c.requires.2 in
    (l.1, h.1)

pub overflow_cast-result-in-Refused : goal.overflow_cast-result-in-Refused
overflow_cast-result-in-Refused c =
    let w = rw c.in-Refused.is at c.requires.0 in omega arith

pub overflow_cast-result-in-RefusalLearnt : goal.overflow_cast-result-in-RefusalLearnt
overflow_cast-result-in-RefusalLearnt c =
    let w = rw c.in-RefusalLearnt.is at c.requires.0 in omega arith

pub overflow_cast-result-in-NoChange : goal.overflow_cast-result-in-NoChange
overflow_cast-result-in-NoChange c =
    let w = rw c.in-NoChange.is at c.requires.0 in omega arith

pub returns-in-Opened : goal.returns-in-Opened
returns-in-Opened c = rw c.in-Opened.is

pub returns-in-Enough : goal.returns-in-Enough
returns-in-Enough c = rw c.in-Enough.is

pub returns-in-Taken : goal.returns-in-Taken
returns-in-Taken c = rw c.in-Taken.is

pub returns-in-TakenDisplacing : goal.returns-in-TakenDisplacing
returns-in-TakenDisplacing c = rw (c.in-TakenDisplacing.is, c.other.ensures)

pub returns-in-Refused : goal.returns-in-Refused
returns-in-Refused c = rw c.in-Refused.is

pub returns-in-RefusalLearnt : goal.returns-in-RefusalLearnt
returns-in-RefusalLearnt c = rw c.in-RefusalLearnt.is

pub returns-in-NoChange : goal.returns-in-NoChange
returns-in-NoChange c = rw c.in-NoChange.is

pub returns-in-AllTried : goal.returns-in-AllTried
returns-in-AllTried c = rw c.in-AllTried.is
