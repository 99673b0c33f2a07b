use Rattle.std.proofs.Common.{arith, take, length-take-le}
use Rattle.std.proofs.KnownBytes.{Consumes-kept}
use Rattle.table.specs.Slices.{as_slices}
use Rattle.script_reads.proofs.Calls.{piece_fits}
use Rattle.script_reads.proofs.Chain.{handled_usable, turned_none, turned_more}
use Rattle.script_reads.proofs.reads.handle_all.Goals as goal

pub loop-init : goal.loop-init
loop-init g c =
    let a = c.args in
    let x = as_slices a.counted.table in
    turned_none x c.args.counted.legal a.line.now a.rec.now _ _ c.requires.0

pub handle_piece-place-requires : goal.handle_piece-place-requires
handle_piece-place-requires g c =
    let a = c.args in
    let x = as_slices a.counted.table in
    let l = c.loop in
    let w = c.in-Bytes.ensures.within in
    let n = length-take-le c.in-Bytes.n c.read_some.new.buf (omega (arith, w.1, c.read_some.auto.buf)) in
    let usable = handled_usable x c.args.counted.legal a.line.now l.progress l.rec l.line c.requires.1 l.invariant.handled in
    let fits = piece_fits x l.rec l.progress l.line (take c.in-Bytes.n c.read_some.new.buf) l.out (omega (arith, n, w.1, l.auto.text, l.auto.out, c.requires.2, c.requires.3)) in
    (usable, omega (arith, l.auto.line, c.requires.1), fits)

pub returns-in-End : goal.returns-in-End
returns-in-End g c =
    record {
      handled = c.loop.invariant.handled;
      moved = (Consumes-kept _ _ _ _ c.loop.invariant.read c.in-End.ensures.bytes.0, c.loop.invariant.wrote, λ some. c.in-End.ensures.bytes.1 (omega (arith, some, c.loop.auto.text, c.read_some.auto.buf)));
    }

pub loop-preserved : goal.loop-preserved
loop-preserved g c =
    let a = c.args in
    let x = as_slices a.counted.table in
    let l = c.loop in
    turned_more x c.args.counted.legal a.line.now l.progress _ l.rec _ l.line _ _ _ _ _ _ _ _ _ _ _ l.invariant c.handle_piece-place.ensures c.in-Bytes.ensures.bytes (c.write.ensures c.if-not-write.false)
