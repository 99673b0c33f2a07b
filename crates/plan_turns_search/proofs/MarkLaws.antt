-- The entries beside the bytes, where one is stored.
use Prim.Native.Nat.{ℕ, ◌+◌, ◌-◌, ◌*◌, ◌≤◌, ◌<◌}
use mathlib.Core.Path.{◌≡◌}
use mathlib.Core.List.{List}
use native.Mathlib.Omega.{arith}
use native.Mathlib.Decide.{ℕ_discrete}
use lib.ListN.{length, set, length-set}
use lib.Seq.{get_or-set_same, get_or-set_other}
use Rattle.table.specs.Table.{item}
use Rattle.plan_turns_search.specs.Record.{at_source, probes_of, links_of, target_of, site_of, OffersReady, mark, MarksAgree}
use Rattle.plan_turns_search.specs.Offers.{Site, Sought, HeldSearch, OfferSearch}
use Rattle.plan_turns_search.proofs.Record.{distinct}
use Rattle.plan_turns_search.proofs.Chain.{walk_sought}

-- in another column
pub mark_other : (marks marks' : List ℕ) (v j x w k : ℕ) → marks' ≡ set marks (4 * v + j) x → j < 4 → k < 4 → (k ≡ j → ⊥) → mark marks' w k ≡ mark marks w k
mark_other marks marks' v j x w k e lj lk n = rw e (get_or-set_other marks (4 * v + j) (4 * w + k) x 0 (λ z. n (omega arith)))

-- in the same column: what is said of each probe's entry
pub mark_column : (P Q : ℕ → ℕ → Type 0) (n k : ℕ) (marks marks' : List ℕ) (v x : ℕ) → marks' ≡ set marks (4 * v + k) x → k < 4 → 4 * n ≤ length marks → v < n → Q v x
    → ((w : ℕ) → w < n → (w ≡ v → ⊥) → P w (mark marks w k) → Q w (mark marks w k)) → ((w : ℕ) → w < n → P w (mark marks w k)) → (w : ℕ) → w < n → Q w (mark marks' w k)
mark_column P Q n k marks marks' v x e lk room lv q h p w l = go (ℕ_discrete w v)
  where
    go : Dec (w ≡ v) → Q w (mark marks' w k)
    go (yes z) = rw (z, e, get_or-set_same marks (4 * v + k) x 0 (omega arith)) q
    go (no z) = rw (e, get_or-set_other marks (4 * v + k) (4 * w + k) x 0 (λ y. z (omega arith))) (h w l z (p w l))

-- one less at an entry is no more at any
pub less_at : (marks marks' : List ℕ) (i j : ℕ) → i < length marks → marks' ≡ set marks i (item marks i - 1) → item marks' j ≤ item marks j
less_at marks marks' i j l e = rw e (go (ℕ_discrete j i))
  where
    go : Dec (j ≡ i) → item (set marks i (item marks i - 1)) j ≤ item marks j
    go (yes z) = rw (z, get_or-set_same marks i (item marks i - 1) 0 l) (omega arith)
    go (no z) = rw (get_or-set_other marks i j (item marks i - 1) 0 z) (omega arith)

pub room_kept : (marks marks' : List ℕ) (n i x : ℕ) → marks' ≡ set marks i x → n ≤ length marks → n ≤ length marks'
room_kept marks marks' n i x e l = rw e (simp length-set l)

module _ (slice r marks : List ℕ) (k : MarksAgree slice r marks) where
  abbrev site : Site
  site = site_of slice

  pub cursor_moved : OffersReady slice r → (u d : ℕ) → u < probes_of slice → Sought site (at_source r) u d → (marks' : List ℕ) → marks' ≡ set marks (4 * u + 2) d → MarksAgree slice r marks'
  cursor_moved ready u d l s marks' e =
      record {
        room = room_kept marks marks' (4 * probes_of slice) (4 * u + 2) d e k.room;
        standing = λ w m. rw (mark_other marks marks' u 2 d w 0 e (omega arith) (omega arith) (λ z. omega arith)) (k.standing w m);
        held = λ w m. rw (mark_other marks marks' u 2 d w 1 e (omega arith) (omega arith) (λ z. omega arith)) (k.held w m);
        cursors = mark_column (OfferSearch site (at_source r)) (OfferSearch site (at_source r)) (probes_of slice) 2 marks marks' u d e (omega arith) k.room l (walk_sought site (distinct slice ready.fits) (at_source r) ready.inv u d s) (λ w m z a. a) k.cursors;
        lasts = λ w m. rw (mark_other marks marks' u 2 d w 3 e (omega arith) (omega arith) (λ z. omega arith)) (k.lasts w m);
      }

  pub held_moved : (v f : ℕ) → v < probes_of slice → HeldSearch site (at_source r) v f → (marks' : List ℕ) → marks' ≡ set marks (4 * v + 3) f → MarksAgree slice r marks'
  held_moved v f l h marks' e =
      record {
        room = room_kept marks marks' (4 * probes_of slice) (4 * v + 3) f e k.room;
        standing = λ w m. rw (mark_other marks marks' v 3 f w 0 e (omega arith) (omega arith) (λ z. omega arith)) (k.standing w m);
        held = λ w m. rw (mark_other marks marks' v 3 f w 1 e (omega arith) (omega arith) (λ z. omega arith)) (k.held w m);
        cursors = λ w m. rw (mark_other marks marks' v 3 f w 2 e (omega arith) (omega arith) (λ z. omega arith)) (k.cursors w m);
        lasts = mark_column at at (probes_of slice) 3 marks marks' v f e (omega arith) k.room l (λ d m own. h) (λ w m z a. a) k.lasts;
      }
    where
      at : ℕ → ℕ → Type 0
      at v f = (d : ℕ) → d < 2 * links_of slice → target_of slice d ≡ v → HeldSearch site (at_source r) v f
