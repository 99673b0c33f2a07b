-- Record, line and progress are as pieces handled one after the other, from a fresh fleet on, left them; of known bytes these were read, and their answers written.
use Rattle.table.specs.Slices.{as_slices}
use Rattle.script_reads.proofs.Chain.{left_of, Turned}
use Rattle.script_reads.proofs.reads.handle_all.Given as goal

abbrev pub invariant-loop : goal.invariant-loop
invariant-loop g l =
    Turned (as_slices l.counted.table) l.fn.line (left_of l.progress l.rec l.line)
    (g.R.Read.remaining l.fn.input) (g.R.Read.remaining l.input) (g.W.Write.contents l.fn.output) (g.W.Write.contents l.output)
