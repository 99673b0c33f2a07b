use mathlib.Core.Path.{sym}
use Rattle.script_lines.proofs.Fitting.{capped_below, capped_past}
use Rattle.script_lines.proofs.answers.cap.Goals as goal

pub returns-then-length-lt-MOST_BYTES : goal.returns-then-length-lt-MOST_BYTES
returns-then-length-lt-MOST_BYTES c = sym (capped_below _ c.if-length-lt-MOST_BYTES.true)

pub returns : goal.returns
returns c = sym (capped_past _ c.if-length-lt-MOST_BYTES.false)
