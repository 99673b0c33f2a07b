use mathlib.Core.Path.{◌≡◌, ◌∙◌}
use Rattle.refusals.proofs.Laws.{at_exit_if}
use Rattle.probe_frame.specs.Frame.{frame_read, frame_of}
use Rattle.probe_frame.proofs.Laws.{frame_short, frame_long, frame_reads}
use Rattle.probe_frame.proofs.frame_line.read_frame.Goals as goal

pub returns-then-line-ne15 : goal.returns-then-line-ne15
returns-then-line-ne15 c = (frame_short _ c.if-line-ne15.true, tt)

pub returns-in_err-four : goal.returns-in_err-four
returns-in_err-four c =
    at_exit_if (λ f. frame_read f ≡ frame_of c.args.line.now) _ _ _ c.from_residual.ensures.1 (c.in_err-four.ensures.0 ∙ frame_long _ c.if-line-ne15.false)

pub returns : goal.returns
returns c =
    let n = c.in_ok-four.ensures in
    (n.0 ∙ frame_long _ c.if-line-ne15.false, frame_reads _ _ n.0 n.1)
