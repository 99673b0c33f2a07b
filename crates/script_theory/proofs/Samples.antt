-- Scripts and what they print: that of M4, document 01, "Programs"; M11 with an opening of each probe behind it, 02, No. 3; a restart and frames that come after it, 02, No. 2.
use mathlib.Core.Path.{◌≡◌, refl}
use mathlib.Core.List.{◌++◌}
use Rattle.range.specs.First.{first}
use Rattle.range.specs.Sum.{sum}
use Rattle.range.specs.Choice.{lowest, best}
use Rattle.range.specs.Lists.{joined, stored}
use Rattle.hex_digits.specs.Digits.{value_of, digit_of, number_at, digits}
use Rattle.lines.specs.Line.{until_feed, line_at, lines_from}
use Rattle.lines.specs.Digits.{line_fault}
use Rattle.table.specs.Table.{dearer}
use Rattle.table.specs.Legal.{link_fault}
use Rattle.table.specs.Text.{begins, text_fault}
use Rattle.table_laws.specs.Samples.{bytes, m2_text}
use Rattle.probe_frame.specs.Frame.{frame_fault}
use Rattle.fleet_theory.specs.Fleet.{own, marks, wiped_to, next, run, changes, finished}
use Rattle.script_theory.specs.Script.{printed, script_text, script_output}

pub m4_output : script_output (bytes "000100020001\n0000\n0000\n000000010007\nffff\n00000100000000\n01000100000001\n00000100010001\n01000100010000\n")
    ≡ bytes "0000000000ffff\n0001020000ffff\n0001000000ffff\n0000020000ffff\n0100000004\n"
unfolding sum first joined stored lowest best value_of digit_of number_at digits until_feed line_at line_fault begins text_fault dearer link_fault frame_fault own marks next run changes finished lines_from printed script_text
m4_output = refl

pub m11_openings_output : script_output
    (m2_text ++ bytes "00000100000000\n01000100000001\n00000100010001\n01000100010002\n00000100020002\n01000100020001\n02000100010000\n00000100030003\n01000100030002\n02000100020003\n00000100000000\n00000100010001\n00000100020002\n00000100030003\n")
    ≡ bytes "0000000000ffff\n0001020000ffff\n0001000001ffff\n0002020001ffff\n0002000001ffff\n00010300010000\n0000050000ffff\n0003000002ffff\n0002040002ffff\n0003050002ffff\n000007ffffffff\n000101ffffffff\n000201ffffffff\n000307ffffffff\n010000000b\n"
unfolding sum first joined stored lowest best value_of digit_of number_at digits until_feed line_at line_fault begins text_fault dearer link_fault frame_fault own marks next run changes finished lines_from printed script_text
m11_openings_output = refl

pub late_output : script_output
    (bytes "000100020001\n0000\n0001\n000000010001\nffff\n00000100000000\n01000100000001\n03000100010001\n02000100010000\n01000100000001\n")
    ≡ bytes "0000000000ffff\n0001040000ffff\n000108ffffffff\n0000050000ffff\n0001040000ffff\n0100000004\n"
unfolding sum first joined stored lowest best value_of digit_of number_at digits until_feed line_at line_fault begins text_fault dearer link_fault frame_fault own marks wiped_to next run changes finished lines_from printed script_text
late_output = refl
