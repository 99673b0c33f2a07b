use Rattle.std.proofs.Common.{sym, length-take-le}
use Rattle.script.specs.Writing.{left_to_write}
use Rattle.script.proofs.write_ending.Goals as goal

pub slice_bounds-write-end : goal.slice_bounds-write-end
unfolding left_to_write
slice_bounds-write-end g c = sym (length-take-le c.in-Printed.length c.args.out.now (rw c.in-Printed.is at c.requires))
