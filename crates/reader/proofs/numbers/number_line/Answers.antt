use Rattle.lines.proofs.Lines.{fault_of_feed, fault_of_none}
use Rattle.hex_digits.proofs.Laws.{number_in_ok}
use Rattle.reader.proofs.Fields.{no_feed, feed}
use Rattle.reader.proofs.numbers.number_line.Goals as goal

pub returns-then-not-feed_behind : goal.returns-then-not-feed_behind
returns-then-not-feed_behind c =
    let a = c.args in
    (fault_of_feed a.text.now a.at a.width (no_feed a.text.now a.at a.width _ c.feed_behind.ensures c.if-not-feed_behind.true-raw), tt)

pub returns-in-Ok : goal.returns-in-Ok
returns-in-Ok c =
    let a = c.args in
    let f = feed a.text.now a.at a.width _ c.feed_behind.ensures c.if-not-feed_behind.false-raw in
    let n = number_in_ok a.text.now a.at a.width _ c.in-Ok.ensures in
    (fault_of_none a.text.now a.at a.width f.0 f.1 n.0, n.1)
