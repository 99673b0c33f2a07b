-- A probe's turn, and the turns of all.
use Prim.Native.Nat.{ℕ, ◌+◌, ◌*◌, ◌≤◌, ◌<◌}
use mathlib.Core.Path.{◌≡◌, sym, ◌∙◌}
use mathlib.Core.Logic.{inr}
use mathlib.Core.Bool.{Bool, false, ◌&&◌}
use mathlib.Core.List.{List}
use native.Mathlib.Omega.{arith}
use native.Mathlib.Decide.{dec_lt}
use lib.Dec.{eqb}
use lib.ListN.{length}
use borrow.Author.Tests.{eqb-true}
use Rattle.range.specs.Sum.{count}
use Rattle.range.proofs.Bools.{and_right}
use Rattle.range.proofs.Sums.{none_count}
use Rattle.table.specs.Table.{item}
use Rattle.plan_turns_search.specs.Record.{at_source, probes_of, links_of, target_of, source_of, site_of, SiteInSlice, OffersReady, mark, MarksAgree, Started, Offered, Turned, Over}
use Rattle.plan_turns_search.specs.Offers.{Satisfied}
use Rattle.plan_turns_search.proofs.Offers.{satisfied_made}
use Rattle.plan_turns_search.proofs.Record.{distinct}
use Rattle.plan_turns_search.proofs.Chain.{walk_start, held_start}

-- with no offer made, all is as it has to be
module _ (slice r : List ℕ) (fits : SiteInSlice slice) (none : (j : ℕ) → item r j ≡ 0) where
  nothing : (q : ℕ → Bool) → count (2 * links_of slice) (λ f. q f && eqb (at_source r f) 1) ≡ 0
  nothing q = none_count (2 * links_of slice) (λ f. q f && eqb (at_source r f) 1) (λ f l h. let a = none (2 * f) in let b = eqb-true (at_source r f) 1 (and_right (q f) (eqb (at_source r f) 1) h) in omega arith)

  pub zeros_ready : 4 * links_of slice ≤ length r → OffersReady slice r
  zeros_ready room =
      record {
        fits = fits;
        paired = record { room = room; twin = λ d. none (2 * d + 1) ∙ sym (none (2 * d)) };
        inv = record {
          standing = λ u. let a = nothing (λ f. eqb (source_of slice f) u) in omega arith;
          holding = λ v. let a = nothing (λ f. eqb (target_of slice f) v) in omega arith;
          refused = λ d l n0 n1. absurd (n0 (none (2 * d)));
          order = λ x y lx ly s one z. let a = none (2 * x) in absurd (omega arith);
        };
      }

  pub zeros_kept : (marks : List ℕ) → 4 * probes_of slice ≤ length marks → Started slice marks → MarksAgree slice r marks
  zeros_kept marks room s =
      record {
        room = room;
        standing = λ u l. s.standing u l ∙ sym (nothing (λ f. eqb (source_of slice f) u));
        held = λ v l. s.held v l ∙ sym (nothing (λ f. eqb (target_of slice f) v));
        cursors = λ u l. walk_start slice fits (at_source r) u (mark marks u 2) (s.cursors u l);
        lasts = λ v l. held_start slice fits (at_source r) v (mark marks v 3) (s.lasts v l);
      }

-- in the turn: r₀ is where it began
pub record Turning (slice r₀ r : List ℕ) : Type 0 where
  pub ready : OffersReady slice r
  pub keeps : (w : ℕ) → Satisfied (site_of slice) (at_source r₀) w → Satisfied (site_of slice) (at_source r) w

module _ (slice r₀ r r' : List ℕ) (p : ℕ) where
  pub turn_next : (made? : Bool) → Offered slice r r' p made? → Turning slice r₀ r → Turning slice r₀ r'
  turn_next made? o t =
      record {
        ready = record { fits = t.ready.fits; paired = o.paired; inv = o.made.inv };
        keeps = λ w e. satisfied_made (site_of slice) (distinct slice t.ready.fits) (at_source r) (at_source r') t.ready.inv p o.made w (t.keeps w e);
      }

  pub turned_none : (made? : Bool) → Offered slice r r' p made? → Turning slice r₀ r → made? ≡ false → Turned slice r₀ r' p
  turned_none made? o t e = let n = turn_next made? o t in record { ready = n.ready; keeps = n.keeps; done = inr (o.none e) }

-- one more turn
pub over_next : (slice r r' : List ℕ) (p : ℕ) → Over slice r p → Turned slice r r' p → Over slice r' (p + 1)
over_next slice r r' p o t = record { ready = t.ready; done = λ w l. go w l (dec_lt w p) }
  where
    go : (w : ℕ) → w < p + 1 → Dec (w < p) → Satisfied (site_of slice) (at_source r') w
    go w l (yes k) = t.keeps w (o.done w k)
    go w l (no k) = let e : w ≡ p = omega arith in rw e t.done
