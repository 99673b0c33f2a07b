use borrow.Author.Rules.{rules}
use Rattle.bit_maps.specs.BitMap.{bit, word_bit}
use Rattle.bit_maps.proofs.bits.has.Goals as goal

pub returns : goal.returns
unfolding bit word_bit
returns c = search rules
