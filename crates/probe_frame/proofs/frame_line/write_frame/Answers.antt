use Rattle.probe_frame.specs.Frame.{frame_line}
use native.Mathlib.Omega.{arith}
use Rattle.hex_digits.specs.Digits.{digits}
use Rattle.hex_digits.proofs.Laws.{length_digits}
use Rattle.range.proofs.Sets.{sets_then}
use Rattle.table.specs.Text.{triple_line}
use Rattle.probe_frame.proofs.frame_line.write_frame.Goals as goal

pub returns : goal.returns
unfolding frame_line
returns c =
    let a = c.args in
    sets_then a.out.now _ _ 0 2 (digits 2 a.kind) (triple_line a.number a.from a.to) c.put_number.ensures (omega (arith, length_digits 2 a.kind)) c.put_triple.ensures
