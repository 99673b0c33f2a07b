-- Inputs and their outputs: that of M2, document 01, "Programs"; short probes, 02, No. 1; a refusal.
use mathlib.Core.Path.{◌≡◌, refl}
use Rattle.range.specs.First.{first}
use Rattle.range.specs.Sum.{sum}
use Rattle.range.specs.Lists.{joined}
use Rattle.hex_digits.specs.Digits.{value_of, digit_of, number_at, digits}
use Rattle.lines.specs.Line.{until_feed, line_at}
use Rattle.lines.specs.Digits.{line_fault}
use Rattle.table.specs.Table.{dearer}
use Rattle.table.specs.Legal.{link_fault}
use Rattle.table.specs.Text.{begins, text_fault}
use Rattle.table_laws.specs.Samples.{bytes, m2_text}
use Rattle.plan_theory.specs.Pass.{pass_after}
use Rattle.plan_theory.specs.Plan.{rested}
use Rattle.plan_output.specs.Output.{plan_text, output_of}

pub m2_output : output_of 256 2048 m2_text ≡ bytes "000100020000000a\n000000010005\n000200030005\nffff\n"
unfolding plan_text text_fault line_fault line_at until_feed first number_at value_of link_fault begins sum joined digits digit_of dearer pass_after rested
m2_output = refl

-- 02, No. 1: "a need of three meets two links": probe 1 is listed with the 1 that is missing, and keeps both its links
pub valley_output : output_of 256 2048 (bytes "000100040004\n0001\n0003\n0001\n0000\n000000010005\n000000020006\n000100020007\n000200030004\nffff\n")
    ≡ bytes "000100020000000c\n000000010005\n000100020007\n00010001\nffff\n"
unfolding plan_text text_fault line_fault line_at until_feed first number_at value_of link_fault begins sum joined digits digit_of dearer pass_after rested
valley_output = refl

-- with a need of two, the number of its links, it is not listed
pub met_output : output_of 256 2048 (bytes "000100040004\n0001\n0002\n0001\n0000\n000000010005\n000000020006\n000100020007\n000200030004\nffff\n")
    ≡ bytes "000100020000000c\n000000010005\n000100020007\nffff\n"
unfolding plan_text text_fault line_fault line_at until_feed first number_at value_of link_fault begins sum joined digits digit_of dearer pass_after rested
met_output = refl

-- a refused text prints only its refusal
pub refusal_output : output_of 256 2048 (bytes "000100020001\n0001\n0000\n000000000007\nffff\n") ≡ bytes "e004\n"
unfolding text_fault line_fault line_at until_feed first number_at value_of link_fault begins sum
refusal_output = refl
