-- What each way through the offer and the displacement does to the working bytes.
use Prim.Native.Nat.{ℕ, ◌+◌, ◌-◌, ◌*◌, ◌≤◌, ◌<◌}
use mathlib.Core.Path.{◌≡◌, sym, ◌∙◌, ap}
use mathlib.Core.Bool.{Bool, true, false, cond, ◌&&◌, true≢false}
use mathlib.Core.List.{List}
use native.Mathlib.Omega.{arith}
use native.Mathlib.Decide.{ℕ_discrete}
use lib.Dec.{eqb}
use lib.ListN.{length, set}
use borrow.Author.Tests.{eq-eqb, ne_eqb}
use Rattle.range.proofs.Sums.{sum_at}
use Rattle.plan_turns_search.specs.Record.{at_source, probes_of, links_of, target_of, source_of, spare_of, site_of, put, untried_count, OffersReady, mark, MarksAgree, Offered, Displaces}
use Rattle.plan_turns_search.specs.Offers.{Site, on, stands, holds, Grows, Sought, Cheapest}
use Rattle.plan_turns_search.proofs.Offers.{on_take, made_none, take_made, on_swap, swap_inv, swap_room, swap_grows, swap_made}
use Rattle.plan_turns_search.proofs.Taking.{taken_few}
use Rattle.plan_turns_search.proofs.Record.{length_put, put_here, put_other, put_paired, untried_most, untried_less, distinct, source_below}
use Rattle.plan_turns_search.proofs.Chain.{walk_grows, held_grows}
use Rattle.plan_turns_search.proofs.MarkLaws.{mark_other, mark_column, room_kept}

module _ (slice r : List ℕ) where
  abbrev site : Site
  site = site_of slice

  pub offered_none : (u d : ℕ) → OffersReady slice r → Sought site (at_source r) u d → 2 * links_of slice ≤ d → Offered slice r r u false
  offered_none u d ready s l =
      record {
        paired = ready.paired;
        made = made_none site (at_source r) u ready.inv (s.none l);
        fewer = λ e. absurd (true≢false (sym e));
        none = λ e. s.none l;
      }

  pub offered_take : (u d v n spare : ℕ) → OffersReady slice r → stands site (at_source r) u < spare_of slice u → Sought site (at_source r) u d → d < 2 * links_of slice
      → v ≡ target_of slice d → n ≡ holds site (at_source r) v → spare ≡ spare_of slice v → n < spare
      → (r' : List ℕ) → r' ≡ put r d 1 → Offered slice r r' u true
  offered_take u d v n spare ready room s l ev en es less r' e =
      let next = s.some l in
      let fits : 2 * d + 1 < length r = let k = ready.paired.room in omega arith in
      let free : holds site (at_source r) (target_of slice d) < spare_of slice (target_of slice d) = let a = rw ev at es in let b = rw ev at en in omega arith in
      let made = take_made site (distinct slice ready.fits) (at_source r) ready.inv u d next (at_source (put r d 1)) (put_here r d 1 fits) (put_other r d 1 fits) room free in
      rw e record {
        paired = put_paired r d 1 fits (links_of slice) ready.paired;
        made = made;
        fewer = λ z. untried_less (links_of slice) r (put r d 1) made.grows.tried d l next.untried (λ q. let a = put_here r d 1 fits in omega arith);
        none = λ z. absurd (true≢false z);
      }

  -- the marks after an offer taken: one more of u stands, and one more is held by v
  pub taken_kept : (u d v : ℕ) → OffersReady slice r → Sought site (at_source r) u d → d < 2 * links_of slice → v ≡ target_of slice d → u < probes_of slice → (marks : List ℕ)
      → MarksAgree slice r marks → (r' marks₁ marks₂ : List ℕ) → r' ≡ put r d 1 → marks₁ ≡ set marks (4 * u + 0) (mark marks u 0 + 1) → marks₂ ≡ set marks₁ (4 * v + 1) (mark marks₁ v 1 + 1)
      → Grows site (at_source r) (at_source r') → MarksAgree slice r' marks₂
  taken_kept u d v ready s l ev lu marks k r' marks₁ marks₂ e e₁ e₂ grows =
      record {
        room = room_kept marks₁ marks₂ (4 * probes_of slice) (4 * v + 1) (mark marks₁ v 1 + 1) e₂ room₁;
        standing = λ w m. rw (mark_other marks₁ marks₂ v 1 (mark marks₁ v 1 + 1) w 0 e₂ (omega arith) (omega arith) (λ z. omega arith)) (standing w m);
        held = mark_column (λ w n. n ≡ holds site (at_source r) w) (λ w n. n ≡ holds site (at_source r') w) (probes_of slice) 1 marks₁ marks₂ v (mark marks₁ v 1 + 1) e₂ (omega arith) room₁ lv
            (let a = law (λ f. eqb (target_of slice f) v) in let b = held₁ v lv in let x = rw (eq-eqb (target_of slice d) v (sym ev)) at a in omega arith)
            (λ w m z q. let a = law (λ f. eqb (target_of slice f) w) in let x = rw (ne_eqb (target_of slice d) w (λ y. z (sym y ∙ sym ev))) at a in omega arith) held₁;
        cursors = λ w m. rw (still w 2 (omega arith) (λ z. omega arith) (λ z. omega arith)) (walk_grows site (at_source r) (at_source r') grows w (mark marks w 2) (k.cursors w m));
        lasts = λ w m c lc at. rw (still w 3 (omega arith) (λ z. omega arith) (λ z. omega arith)) (held_grows site (at_source r) (at_source r') grows w (mark marks w 3) (k.lasts w m c lc at));
      }
    where
      fits : 2 * d + 1 < length r
      fits = let k = ready.paired.room in omega arith

      own : source_of slice d ≡ u
      own = (s.some l).own

      lv : v < probes_of slice
      lv = rw ev (ready.fits.ends d l)

      room₁ : 4 * probes_of slice ≤ length marks₁
      room₁ = room_kept marks marks₁ (4 * probes_of slice) (4 * u + 0) (mark marks u 0 + 1) e₁ k.room

      law : (q : ℕ → Bool) → on site (at_source r') q ≡ on site (at_source r) q + cond (q d) 1 0
      law q = rw e (on_take site (distinct slice ready.fits) (at_source r) ready.inv u d (s.some l) (at_source (put r d 1)) (put_here r d 1 fits) (put_other r d 1 fits) q)

      standing : (w : ℕ) → w < probes_of slice → mark marks₁ w 0 ≡ stands site (at_source r') w
      standing =
          mark_column (λ w n. n ≡ stands site (at_source r) w) (λ w n. n ≡ stands site (at_source r') w) (probes_of slice) 0 marks marks₁ u (mark marks u 0 + 1) e₁ (omega arith) k.room lu
          (let a = law (λ f. eqb (source_of slice f) u) in let b = k.standing u lu in let x = rw (eq-eqb (source_of slice d) u own) at a in omega arith)
          (λ w m z q. let a = law (λ f. eqb (source_of slice f) w) in let x = rw (ne_eqb (source_of slice d) w (λ y. z (sym y ∙ own))) at a in omega arith) k.standing

      held₁ : (w : ℕ) → w < probes_of slice → mark marks₁ w 1 ≡ holds site (at_source r) w
      held₁ w m = rw (mark_other marks marks₁ u 0 (mark marks u 0 + 1) w 1 e₁ (omega arith) (omega arith) (λ z. omega arith)) (k.held w m)

      still : (w j : ℕ) → j < 4 → (j ≡ 0 → ⊥) → (j ≡ 1 → ⊥) → mark marks₂ w j ≡ mark marks w j
      still w j lj n₀ n₁ =
          mark_other marks₁ marks₂ v 1 (mark marks₁ v 1 + 1) w j e₂ (omega arith) lj n₁ ∙ mark_other marks marks₁ u 0 (mark marks u 0 + 1) w j e₁ (omega arith) lj n₀

  -- u's next offer goes to an end that holds its spare
  module _ (u d v : ℕ) (ready : OffersReady slice r) (room : stands site (at_source r) u < spare_of slice u) (s : Sought site (at_source r) u d)
      (l : d < 2 * links_of slice) (ev : v ≡ target_of slice d) where
    pub displaces : (n spare : ℕ) → n ≡ holds site (at_source r) v → spare ≡ spare_of slice v → spare ≤ n → Displaces slice r d
    displaces n spare en es more =
        let own = (s.some l).own in
        record {
          ready = ready;
          next = rw own (s.some l);
          room = rw own room;
          full = let a = rw ev at es in let b = rw ev at en in omega arith;
        }

    pub offered_displacing : (r' : List ℕ) → Offered slice r r' (source_of slice d) true → Offered slice r r' u true
    offered_displacing r' o = rw (s.some l).own at o

  -- the maker of a held offer has one standing
  pub held_stands : (v c w : ℕ) → Cheapest site (at_source r) v c → w ≡ source_of slice c → 0 < stands site (at_source r) w
  held_stands v c w low ew =
      let a = sum_at (2 * links_of slice) (λ f. cond (eqb (source_of slice f) w && eqb (at_source r f) 1) 1 0) c low.below in
      let b = rw (eq-eqb (source_of slice c) w (sym ew), low.held) at a in
      omega arith

  -- d is taken in place of c, whose byte is stored, and r becomes r₂
  module _ (d v : ℕ) (at : Displaces slice r d) (ev : v ≡ target_of slice d) where
    pub some_held : 0 < holds site (at_source r) v
    some_held = rw ev (let a = at.full in let b = taken_few site (at_source r) at.ready.inv.holding d at.next.wanted in omega arith)

    module _ (c : ℕ) (low : Cheapest site (at_source r) v c) (byte : ℕ) (tried : byte ≡ 0 → ⊥) (down : byte ≡ 1 → ⊥) (r₂ : List ℕ) (e : r₂ ≡ put (put r c byte) d 1) where
      low_d : Cheapest site (at_source r) (target_of slice d) c
      low_d = rw ev at low

      differ : d ≡ c → ⊥
      differ q = let a = ap (at_source r) q in let b = at.next.untried in let k = low.held in omega arith

      room_c : 2 * c + 1 < length r
      room_c = let a = low.below in let b = at.ready.paired.room in omega arith

      room_d : 2 * d + 1 < length (put r c byte)
      room_d = let a = at.next.below in let b = at.ready.paired.room in let k = length_put r c byte in omega arith

      here : at_source r₂ d ≡ 1
      here = rw e (put_here (put r c byte) d 1 room_d)

      gone : at_source r₂ c ≡ byte
      gone = rw e (put_other (put r c byte) d 1 room_d c (λ z. differ (sym z)) ∙ put_here r c byte room_c)

      rest : (x : ℕ) → (x ≡ d → ⊥) → (x ≡ c → ⊥) → at_source r₂ x ≡ at_source r x
      rest x n m = rw e (put_other (put r c byte) d 1 room_d x n ∙ put_other r c byte room_c x m)

      pub displaced_ready : OffersReady slice r₂
      displaced_ready =
          record {
            fits = at.ready.fits;
            paired = rw e (put_paired (put r c byte) d 1 room_d (links_of slice) (put_paired r c byte room_c (links_of slice) at.ready.paired));
            inv = swap_inv site (distinct slice at.ready.fits) (at_source r) at.ready.inv (source_of slice d) d at.next c low_d at.room at.full (at_source r₂) here (λ z. tried (sym gone ∙ z)) (λ z. down (sym gone ∙ z)) rest;
          }

      pub displaced_room : (w : ℕ) → w ≡ source_of slice c → stands site (at_source r₂) w < spare_of slice w
      displaced_room w ew =
          rw ew (swap_room site (distinct slice at.ready.fits) (at_source r) at.ready.inv (source_of slice d) d at.next c low_d at.room at.full (at_source r₂) here (λ z. tried (sym gone ∙ z)) (λ z. down (sym gone ∙ z)) rest)

      still : (x : ℕ) → at_source r₂ x ≡ 0 → at_source r x ≡ 0
      still x z = go (ℕ_discrete x d) (ℕ_discrete x c)
        where
          go : Dec (x ≡ d) → Dec (x ≡ c) → at_source r x ≡ 0
          go (yes q) m = let a = ap (at_source r₂) q in let b = here in absurd (omega arith)
          go (no n) (yes q) = absurd (tried (sym gone ∙ sym (ap (at_source r₂) q) ∙ z))
          go (no n) (no m) = sym (rest x n m) ∙ z

      pub displaced_fewer : untried_count (links_of slice) r₂ < untried_count (links_of slice) r
      displaced_fewer = untried_less (links_of slice) r r₂ still d at.next.below at.next.untried (λ z. let a = here in omega arith)

      pub displaced_offered : (w : ℕ) → w ≡ source_of slice c → (r₃ : List ℕ) (made? : Bool) → Offered slice r₂ r₃ w made?
          → Offered slice r r₃ (source_of slice d) true
      displaced_offered w ew r₃ made? o =
          record {
            paired = o.paired;
            made = swap_made site (distinct slice at.ready.fits) (at_source r) at.ready.inv (source_of slice d) d at.next c low_d at.room at.full (at_source r₂) here (λ z. tried (sym gone ∙ z)) (λ z. down (sym gone ∙ z)) rest (at_source r₃) (rw ew at o.made);
            fewer = λ z. let x = displaced_fewer in let y = untried_most (links_of slice) r₂ r₃ o.made.grows.tried in omega arith;
            none = λ z. absurd (true≢false z);
          }

      -- the marks then: one less of w stands, and one more of u
      pub displaced_kept : (w u : ℕ) → w ≡ source_of slice c → u ≡ source_of slice d → (marks : List ℕ) → MarksAgree slice r marks
          → (marks₁ marks₂ : List ℕ) → marks₁ ≡ set marks (4 * w + 0) (mark marks w 0 - 1) → marks₂ ≡ set marks₁ (4 * u + 0) (mark marks₁ u 0 + 1) → MarksAgree slice r₂ marks₂
      displaced_kept w u ew eu marks k marks₁ marks₂ e₁ e₂ =
          record {
            room = room_kept marks₁ marks₂ (4 * probes_of slice) (4 * u + 0) (mark marks₁ u 0 + 1) e₂ room₁;
            standing = mark_column less (λ x n. n ≡ stands site (at_source r₂) x) (probes_of slice) 0 marks₁ marks₂ u (mark marks₁ u 0 + 1) e₂ (omega arith) room₁ lu
                (let a = law (λ f. eqb (source_of slice f) u) in let b = one u lu in let x = rw (eq-eqb (source_of slice d) u (sym eu)) at a in omega arith)
                (λ x m z q. let a = law (λ f. eqb (source_of slice f) x) in let y = rw (ne_eqb (source_of slice d) x (λ t. z (sym t ∙ sym eu))) at a in omega arith) one;
            held = λ x m. rw (same x 1 (omega arith) (λ z. omega arith)) (let q = k.held x m in let a = law (λ f. eqb (target_of slice f) x) in let b = ap {B = ℕ} (λ (y : ℕ). cond (eqb y x) 1 0) low_d.own in omega arith);
            cursors = λ x m. rw (same x 2 (omega arith) (λ z. omega arith)) (walk_grows site (at_source r) (at_source r₂) grows x (mark marks x 2) (k.cursors x m));
            lasts = λ x m f lf at. rw (same x 3 (omega arith) (λ z. omega arith)) (held_grows site (at_source r) (at_source r₂) grows x (mark marks x 3) (k.lasts x m f lf at));
          }
        where
          grows : Grows site (at_source r) (at_source r₂)
          grows = swap_grows site (distinct slice at.ready.fits) (at_source r) at.ready.inv (source_of slice d) d at.next c low_d at.room at.full (at_source r₂) here (λ z. tried (sym gone ∙ z)) (λ z. down (sym gone ∙ z)) rest

          law : (q : ℕ → Bool) → on site (at_source r₂) q + cond (q c) 1 0 ≡ on site (at_source r) q + cond (q d) 1 0
          law = on_swap site (distinct slice at.ready.fits) (at_source r) at.ready.inv (source_of slice d) d at.next c low_d at.room at.full (at_source r₂) here (λ z. tried (sym gone ∙ z)) (λ z. down (sym gone ∙ z)) rest

          lw : w < probes_of slice
          lw = rw ew (source_below slice at.ready.fits c low.below)

          lu : u < probes_of slice
          lu = rw eu (source_below slice at.ready.fits d at.next.below)

          room₁ : 4 * probes_of slice ≤ length marks₁
          room₁ = room_kept marks marks₁ (4 * probes_of slice) (4 * w + 0) (mark marks w 0 - 1) e₁ k.room

          -- c's source has one less
          less : ℕ → ℕ → Type 0
          less x n = n + cond (eqb (source_of slice c) x) 1 0 ≡ stands site (at_source r) x

          one : (x : ℕ) → x < probes_of slice → less x (mark marks₁ x 0)
          one =
              mark_column (λ x n. n ≡ stands site (at_source r) x) less (probes_of slice) 0 marks marks₁ w (mark marks w 0 - 1) e₁ (omega arith) k.room lw
              (let a = held_stands v c w low ew in let b = k.standing w lw in rw (eq-eqb (source_of slice c) w (sym ew)) (omega arith))
              (λ x m z q. rw (ne_eqb (source_of slice c) x (λ y. z (sym y ∙ sym ew))) (omega arith)) k.standing

          same : (x j : ℕ) → j < 4 → (j ≡ 0 → ⊥) → mark marks₂ x j ≡ mark marks x j
          same x j lj n =
              mark_other marks₁ marks₂ u 0 (mark marks₁ u 0 + 1) x j e₂ (omega arith) lj n ∙ mark_other marks marks₁ w 0 (mark marks w 0 - 1) x j e₁ (omega arith) lj n
