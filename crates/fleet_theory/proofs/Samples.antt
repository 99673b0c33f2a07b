-- The samples, by computing.
use mathlib.Core.Path.{refl}
use Rattle.range.specs.Sum.{sum}
use Rattle.range.specs.First.{first}
use Rattle.range.specs.Lists.{joined}
use Rattle.range.specs.Choice.{lowest, best}
use Rattle.plan_theory.proofs.Sites.{sites}
use Rattle.hex_digits.specs.Digits.{value_of, digit_of, number_at, digits}
use Rattle.lines.specs.Line.{until_feed, line_at}
use Rattle.lines.specs.Digits.{line_fault}
use Rattle.table.specs.Table.{dearer}
use Rattle.table.specs.Legal.{link_fault}
use Rattle.probe_frame.specs.Frame.{frame_line, frame_fault}
use Rattle.fleet_theory.specs.Fleet.{own, marks, wiped_to, next, run, changes, finished}
use Rattle.fleet_theory.specs.Samples.{Samples}

pub samples : Samples
unfolding sum first joined lowest best value_of digit_of number_at digits until_feed line_at line_fault dearer link_fault frame_line frame_fault own marks wiped_to next run changes finished
samples =
    record {
      m1_to_m10 = sites;
      m2_table = refl;
      m11 = record { table_legal = refl; entries_logged = refl; says_finished = refl; changes_made = refl };
      m11_openings = record { table_legal = refl; entries_logged = refl; says_finished = refl; changes_made = refl };
      spare_none = record { table_legal = refl; entries_logged = refl; says_finished = refl; changes_made = refl };
      one_refused = record { table_legal = refl; entries_logged = refl; says_finished = refl; changes_made = refl };
      late = record { table_legal = refl; entries_logged = refl; says_finished = refl; changes_made = refl };
      late_again = record { table_legal = refl; entries_logged = refl; says_finished = refl; changes_made = refl };
      m11_restarted = record { table_legal = refl; entries_logged = refl; says_finished = refl; changes_made = refl };
      refusals = record {
        cut_line = refl;
        capital_digit = refl;
        other_kind = refl;
        other_table = refl;
        no_probe = refl;
        two_ends = refl;
        restart_of_two = refl;
        no_link = refl;
        never_offered = refl;
        never_refused = refl;
        restart_on_full_log = refl;
        full_log = refl;
      };
      m4_table = refl;
      m4_script = record { table_legal = refl; entries_logged = refl; says_finished = refl; changes_made = refl };
    }
