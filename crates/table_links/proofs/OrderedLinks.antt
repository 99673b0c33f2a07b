-- What legal slices give of the order of their links.
use Rattle.table.specs.Slices.{Slices, LegalSlices, table_of}
use Rattle.table.proofs.LegalLaws.{legal_table}
use Rattle.table_links.specs.OrderedLinks.{OrderedLinks}

pub ordered_links : (x : Slices) → LegalSlices 256 2048 x → OrderedLinks x.links x.lows x.highs x.costs
ordered_links x g =
    record {
      few = g.within;
      in_lows = g.in_lows;
      in_highs = g.in_highs;
      in_costs = g.in_costs;
      order = record { rising = (legal_table 256 2048 (table_of x) g.legal).order.rising };
    }
