-- The sample maps are as claimed: each is computed.
use mathlib.Core.Path.{refl}
use Rattle.range.specs.Sum.{sum}
use Rattle.range.specs.First.{first}
use Rattle.range.specs.Lists.{joined}
use Rattle.bit_maps.specs.BitMap.{word_bit, bit, map_of}
use Rattle.probe_maps.specs.Maps.{bytes_of}
use Rattle.probe_maps.specs.Samples.{MapSamples}

pub map_samples : MapSamples
unfolding sum first joined word_bit bit map_of bytes_of
map_samples =
    record {
      last_of_first = refl;
      first_of_second = refl;
      turned = refl;
      turned_back = refl;
      bytes_pass = refl;
      maps_pass = refl;
      two_words = refl;
      no_word = refl;
      in_both = refl;
      foreign = refl;
      past_last = refl;
      two_held = refl;
      two_standing = refl;
      two_refused = refl;
    }
