use Rattle.table_links.proofs.ends.touches.Goals as goal

pub returns : goal.returns
returns c = rw (c.wide.ensures, c.wide-2.ensures)
