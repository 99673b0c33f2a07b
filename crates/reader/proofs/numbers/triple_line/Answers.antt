use Rattle.reader.proofs.Fields.{triple_reads}
use Rattle.reader.proofs.numbers.triple_line.Goals as goal

pub returns : goal.returns
returns c =
    let n = c.in_ok-number.ensures in
    (n.0, triple_reads c.args.text.now c.args.at _ n.0 n.1)
