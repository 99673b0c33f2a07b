-- The sample bags are as claimed: each is computed.
use mathlib.Core.Path.{refl}
use Rattle.range.specs.Sum.{sum}
use Rattle.range.specs.First.{first}
use Rattle.range.specs.Choice.{lowest, best}
use Rattle.range.specs.Lists.{joined}
use Rattle.bit_maps.specs.BitMap.{word_bit, bit, map_of}
use Rattle.hex_digits.specs.Digits.{value_of, number_at}
use Rattle.lines.specs.Line.{until_feed, line_at, lines_from}
use Rattle.lines.specs.Digits.{line_fault}
use Rattle.table.specs.Table.{dearer}
use Rattle.table.specs.Legal.{link_fault}
use Rattle.probe_frame.specs.Frame.{frame_fault}
use Rattle.probe_maps.specs.Maps.{bytes_of}
use Rattle.probe_checks.specs.Checks.{heard_fault}
use Rattle.probe_bags.specs.Bag.{events_of, maps_after, entries_after, frames_fault, bag_fault}
use Rattle.probe_bags.specs.Samples.{BagSamples}

pub bag_samples : BagSamples
unfolding sum first lowest best joined word_bit bit map_of value_of number_at until_feed line_at lines_from line_fault dearer link_fault frame_fault bytes_of heard_fault events_of maps_after entries_after frames_fault bag_fault
bag_samples =
    record {
      heard = refl;
      heard_reversed = refl;
      displaces = refl;
      refused = refl;
      left = refl;
      left_reversed = refl;
      again = refl;
      full = refl;
      empty_with_full_log = refl;
      second_bad = refl;
      other_way = refl;
      unclosed = refl;
      sixty_four = refl;
      sixty_five = refl;
      many_first = refl;
      bad_within = refl;
    }
