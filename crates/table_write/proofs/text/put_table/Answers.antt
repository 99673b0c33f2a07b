use Rattle.table_write.proofs.Laws.{text_then}
use Rattle.table.specs.Slices.{as_slices, table_of}
use Rattle.table_write.proofs.text.put_table.Goals as goal

pub returns : goal.returns
returns c =
    let a = c.args in
    let t = table_of (as_slices a.table) in
    let closed = rw c.link_start.ensures at c.put_closing.ensures in
    text_then t _ _ _ _ _ c.put_triple.ensures c.put_needs.ensures c.put_links.ensures closed
