-- The marked sites M1 to M10, the site with a short probe and the site where another choice costs less, by computing.
use Prim.Native.Nat.{ℕ, zero, suc, ◌≤◌}
use mathlib.Core.Path.{refl}
use mathlib.Core.Bool.{Bool}
use native.Mathlib.Omega.{arith}
use Rattle.range.specs.First.{first}
use Rattle.range.specs.Sum.{sum}
use Rattle.table.specs.Table.{dearer}
use Rattle.table.specs.Legal.{link_fault}
use Rattle.plan_theory.specs.Pass.{pass_after}
use Rattle.plan_theory.specs.Plan.{rested, cost_of, added, removed, Meets}
use Rattle.plan_theory.specs.Sites.{ends_in, Sites, Valley, tailed, last_two, Tailed}

pub sites : Sites
unfolding sum dearer pass_after rested added removed ends_in
sites =
    record {
      m1 = record { links_kept = refl; count_kept = refl; cost_kept = refl };
      m2 = record { links_kept = refl; count_kept = refl; cost_kept = refl };
      m3 = record { links_kept = refl; count_kept = refl; cost_kept = refl };
      m4 = record { links_kept = refl; count_kept = refl; cost_kept = refl };
      m5 = record { links_kept = refl; count_kept = refl; cost_kept = refl };
      m6 = record { links_kept = refl; count_kept = refl; cost_kept = refl };
      m7 = record { links_kept = refl; count_kept = refl; cost_kept = refl };
      m8 = record { links_kept = refl; count_kept = refl; cost_kept = refl };
      m9 = record { adds = refl; removes = refl };
      m10 = record { adds = refl; removes = refl };
    }

pub valley : Valley
unfolding sum dearer pass_after rested ends_in
valley =
    record {
      short = refl;
      missing_one = refl;
      no_spare = refl;
      keeps_both = record { links_kept = refl; count_kept = refl; cost_kept = refl };
      has_counted = refl;
    }

pub tailed_site : Tailed
unfolding sum dearer pass_after rested ends_in first link_fault
tailed_site =
    record {
      legal = refl;
      keeps_three = record { links_kept = refl; count_kept = refl; cost_kept = refl };
      needed = refl;
      high_has_less = refl;
      low_has_enough = refl;
      not_needed = refl;
      other_meets = meets;
      other_best = best;
      only_plan = refl;
      only_other = refl;
    }
  where
    meets : Meets tailed last_two
    meets zero l = omega arith
    meets (suc zero) l = omega arith
    meets (suc (suc zero)) l = omega arith
    meets (suc (suc (suc zero))) l = omega arith
    meets (suc (suc (suc (suc v)))) l = absurd (omega arith)

    -- probe 1 needs two links, at cost 1 each
    best : (choice : ℕ → Bool) → Meets tailed choice → cost_of tailed last_two ≤ cost_of tailed choice
    best choice enough = let two = enough 1 (omega arith) in omega arith
