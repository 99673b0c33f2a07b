use borrow.Author.Rules.{rules}
use Rattle.script_steps.proofs.Holding.{all_stored, some_stored}
use Rattle.script_steps.proofs.line_bytes.append.Goals as goal

pub returns-then-held-bytes-lt16 : goal.returns-then-held-bytes-lt16
returns-then-held-bytes-lt16 c =
    let a = c.args in
    all_stored a.line.now _ a.bytes.now a.held c.if-held-bytes-lt16.true c.copy.ensures

pub returns : goal.returns
returns c =
    let a = c.args in
    some_stored a.line.now _ a.bytes.now a.held c.requires.0 c.if-held-bytes-lt16.false c.copy-2.ensures
