use Rattle.std.proofs.Common.{arith, ◌-◌, ◌<◌, ◌≤◌, length, sym, subst, ◌∙◌}
use Rattle.std.specs.Io.KnownBytes.{Consumes}
use Rattle.std.proofs.KnownBytes.{Consumes-trans, Consumes-kept}
use Rattle.std.proofs.lemmas.Slice.{take-put_mid_below}
use Rattle.standard_io.proofs.Parts.{part_length, filled_more, filled_kept}
use Rattle.standard_io.proofs.fill.Goals as goal

pub loop-at-preserved : goal.loop-at-preserved
loop-at-preserved g c =
    let at = c.loop-at.at in
    let within : at ≤ length c.loop-at.buf = omega (arith, c.loop-at-test.true) in
    let part = part_length at c.loop-at.buf within in
    let most : c.in-Bytes.n ≤ length c.loop-at.buf - at = omega (arith, c.in-Bytes.ensures.within.1, part) in
    let fits : c.in-Bytes.n ≤ length c.read_some.new.buf = omega (arith, c.in-Bytes.ensures.within.1, c.read_some.auto.buf) in
    let joined = filled_more c.args.from at (length c.loop-at.buf - at) c.in-Bytes.n c.loop-at.buf c.read_some.new.buf c.loop-at.invariant.0 within fits in
    let front = take-put_mid_below at (length c.loop-at.buf - at) c.loop-at.buf c.read_some.new.buf c.args.from c.loop-at.invariant.0 within in
    (omega (arith, c.loop-at.invariant.0), λ _. omega (arith, most, c.loop-at-test.true, c.loop-at.auto.buf), front ∙ c.loop-at.invariant.2, subst (Consumes _ _) (sym joined) (Consumes-trans _ _ _ _ _ c.loop-at.invariant.3 c.in-Bytes.ensures.bytes))

pub returns-in-End-clause-bytes : goal.returns-in-End-clause-bytes
returns-in-End-clause-bytes g c =
    let at = c.loop-at.at in
    let within : at ≤ length c.loop-at.buf = omega (arith, c.loop-at-test.true) in
    let part = part_length at c.loop-at.buf within in
    let room : 0 < length c.read_some.new.buf = omega (arith, c.loop-at-test.true, part, c.read_some.auto.buf) in
    let kept = filled_kept c.args.from at (length c.loop-at.buf - at) c.loop-at.buf c.read_some.new.buf within in
    (subst (Consumes _ _) (sym kept) (Consumes-kept _ _ _ _ c.loop-at.invariant.3 c.in-End.ensures.bytes.0), λ _. c.in-End.ensures.bytes.1 room)
