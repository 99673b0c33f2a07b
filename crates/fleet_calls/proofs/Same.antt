-- What a fleet's calls take from a table: its own entries alone. Two tables that agree on these (`Same`) have the same own bytes, checks, outcomes, entries and finish.
use Prim.Native.Nat.{ℕ, ◌+◌, ◌*◌, ◌<◌}
use mathlib.Core.Path.{◌≡◌, refl, ◌∙◌, ap}
use mathlib.Core.Bool.{Bool, true, false, cond, ◌&&◌, ◌||◌}
use mathlib.Core.List.{List}
use lib.Dec.{ltb, eqb}
use lib.ListN.{length}
use borrow.Author.Tests.{ltb-true}
use Rattle.range.specs.Sum.{count}
use Rattle.range.specs.First.{or_else, first}
use Rattle.range.specs.Lists.{joined}
use Rattle.range.specs.Choice.{lowest, best}
use Rattle.range.proofs.Sums.{weigh_same}
use Rattle.range.proofs.Faults.{or_same, first_same}
use Rattle.range.proofs.Lists.{joined_same}
use Rattle.table.specs.Table.{Table, spare, dearer, cheaper, joins, between}
use Rattle.table.specs.Same.{Same}
use Rattle.plan_theory.proofs.Same.{dearer_same, same_degree}
use Rattle.probe_frame.specs.Frame.{Frame, frame_of, frame_fault}
use Rattle.probe_record.specs.Record.{outbound, inbound, own_with, standing, held, dearest_untried, cheapest_held, spare_fault}
use Rattle.probe_rules.specs.declared.Event.{Event}
use Rattle.probe_rules.specs.declared.Event.TheVariants.{Opening, Offer, Refusal}
use Rattle.probe_rules.specs.declared.Outcome.{Outcome}
use Rattle.probe_rules.specs.declared.Outcome.TheVariants.{Opened, Enough, Taken, TakenDisplacing, Refused, RefusalLearnt, NoChange, AllTried}
use Rattle.probe_rules.specs.Rules.{befalls, entry_of}
use Rattle.probe_rules.specs.Frames.{number_fault, heard_of}
use Rattle.probe_rules.specs.Within.{EventWithin, Within}
use Rattle.fleet_theory.specs.Fleet.{out_at, in_at, pair_at, own, marks, link_bytes_fault, fleet_fault, of_one_probe, event_kind_fault, event_ends_fault, event_line_fault, event_of, unsent_fault, alter_fleet, wiped_to, wiped, would_open, alters, finished}
use Rattle.fleet_theory.proofs.Wipe.{wiped_by_ends}
use Rattle.range.proofs.Choice.{lowest_of_same, best_of_same}

-- a test that counts only where another passes
pub and_under : (a b c : Bool) → (a ≡ true → b ≡ c) → (a && b) ≡ (a && c)
and_under true b c h = h refl
and_under false b c h = refl

both_same : {a b c d : Bool} → a ≡ b → c ≡ d → (a && c) ≡ (b && d)
both_same e f = rw (e, f)

module _ (t u : Table) (e : Same t u) where
  -- an end's own bytes, and their marks
  same_pairs : (p : ℕ) (r : List ℕ) (out out' into into' : ℕ → ℕ) → ((i : ℕ) → i < t.links → out i ≡ out' i) → ((i : ℕ) → i < t.links → into i ≡ into' i)
      → joined (pair_at t p out into r) t.links ≡ joined (pair_at u p out' into' r) u.links
  same_pairs p r out out' into into' outs ins =
      joined_same (pair_at t p out into r) (pair_at u p out' into' r) t.links (λ i l. rw (outs i l, ins i l, e.low i l, e.high i l))
      ∙ ap (λ (n : ℕ). joined (pair_at u p out' into' r) n) e.links

  pub same_own : (p : ℕ) (r : List ℕ) → own t p r ≡ own u p r
  unfolding own
  same_own p r = same_pairs p r (out_at t p) (out_at u p) (in_at t p) (in_at u p) (λ i l. rw (e.low i l)) (λ i l. rw (e.low i l))

  same_marks : (p : ℕ) (r : List ℕ) → marks t p r ≡ marks u p r
  unfolding marks
  same_marks p r =
      same_pairs p r (λ i. out_at t p i + 4) (λ i. out_at u p i + 4) (λ i. in_at t p i + 4) (λ i. in_at u p i + 4) (λ i l. rw (e.low i l)) (λ i l. rw (e.low i l))

  pub same_spare : (v : ℕ) → v < t.probes → spare t v ≡ spare u v
  same_spare v l = rw (same_degree t u e v, e.need v l)

  -- the own links with a byte's value: their number, and the best of them
  module _ (p : ℕ) (byte : ℕ → ℕ) (value : ℕ) where
    same_with : (i : ℕ) → i < t.links → own_with t p byte value i ≡ own_with u p byte value i
    same_with i l = rw (e.low i l, e.high i l)

    same_count : count t.links (own_with t p byte value) ≡ count u.links (own_with u p byte value)
    same_count =
        weigh_same t.links (own_with t p byte value) (own_with u p byte value) (λ i. 1) same_with ∙ ap (λ (n : ℕ). count n (own_with u p byte value)) e.links

    same_best : (better better' : ℕ → ℕ → Bool) → ((i j : ℕ) → i < t.links → j < t.links → better i j ≡ better' i j)
        → best better (own_with t p byte value) t.links t.links ≡ best better' (own_with u p byte value) u.links u.links
    same_best better better' orders =
        best_of_same better better' (own_with t p byte value) (own_with u p byte value) t.links t.links same_with orders
        ∙ ap (λ (n : ℕ). best better' (own_with u p byte value) n n) e.links

  module _ (p : ℕ) (a : List ℕ) where
    same_standing : standing t p a ≡ standing u p a
    same_standing = same_count p (outbound a) 1

    same_held : held t p a ≡ held u p a
    same_held = same_count p (inbound a) 1

    same_dearest : dearest_untried t p a ≡ dearest_untried u p a
    same_dearest = same_best p (outbound a) 0 (dearer t) (dearer u) (dearer_same t u e)

    same_cheapest : cheapest_held t p a ≡ cheapest_held u p a
    same_cheapest = same_best p (inbound a) 1 (cheaper t) (cheaper u) (λ i j l m. dearer_same t u e j i m l)

  -- 22 of an end
  same_spare_fault : (p : ℕ) → p < t.probes → (a : List ℕ) → spare_fault t p a ≡ spare_fault u p a
  same_spare_fault p l a = rw (same_spare p l, same_standing p a, same_held p a)

  -- 20, 21 and 22 of a fleet
  pub same_fleet : (r : List ℕ) → fleet_fault t r ≡ fleet_fault u r
  same_fleet r = or_same size (or_same bytes spares)
    where
      size : ◌≡◌ {A = ℕ} (cond (eqb (length r) (8 * t.links)) 0 20) (cond (eqb (length r) (8 * u.links)) 0 20)
      size = rw e.links

      bytes : first (link_bytes_fault r) t.links ≡ first (link_bytes_fault r) u.links
      bytes = rw e.links

      spares : first (λ p. spare_fault t p (own t p r)) t.probes ≡ first (λ p. spare_fault u p (own u p r)) u.probes
      spares =
          first_same (λ p. spare_fault t p (own t p r)) (λ p. spare_fault u p (own u p r)) t.probes
          (λ p l. ap (spare_fault t p) (same_own p r) ∙ same_spare_fault p l (own u p r))
          ∙ ap (λ (n : ℕ). first (λ p. spare_fault u p (own u p r)) n) e.probes

  -- a line: what it says, and its checks
  pub same_between : (a b : ℕ) → between t a b ≡ between u a b
  same_between a b =
      lowest_of_same (joins t a b) (joins u a b) t.links (λ i l. rw (e.low i l, e.high i l)) ∙ ap (λ (n : ℕ). lowest (joins u a b) n) e.links

  pub same_heard : (f : Frame) → heard_of t f ≡ heard_of u f
  same_heard f = ap (λ (i : ℕ). cond (eqb f.kind 1) (Offer i) (Refusal i)) (same_between f.from f.to)

  pub same_event : (f : Frame) → event_of t f ≡ event_of u f
  same_event f = ap (λ (v : Event). cond (of_one_probe f.kind) Opening v) (same_heard f)

  pub same_line : (l : List ℕ) → event_line_fault t l ≡ event_line_fault u l
  same_line l =
      let f = frame_of l in
      ap (or_else (frame_fault l)) (ap (or_else (event_kind_fault f)) (or_same number ends))
    where
      f : Frame
      f = frame_of l

      number : number_fault t f ≡ number_fault u f
      number = rw e.number

      ends : event_ends_fault t f ≡ event_ends_fault u f
      ends = rw (same_between f.from f.to, e.links, e.probes)

  pub same_unsent : (f : Frame) (r : List ℕ) → unsent_fault (event_of t f) (marks t f.from r) ≡ unsent_fault (event_of u f) (marks u f.from r)
  same_unsent f r = ap (λ (v : Event). unsent_fault v (marks t f.from r)) (same_event f) ∙ ap (unsent_fault (event_of u f)) (same_marks f.from r)

  -- what befalls a probe of the table
  same_displaces : (i c : ℕ) → i < t.links → (ltb c t.links && dearer t i c) ≡ (ltb c u.links && dearer u i c)
  same_displaces i c l =
      and_under (ltb c t.links) (dearer t i c) (dearer u i c) (λ k. dearer_same t u e i c l (ltb-true c t.links k))
      ∙ ap (λ (n : ℕ). ltb c n && dearer u i c) e.links

  pub same_befalls : (p : ℕ) → p < t.probes → (v : Event) → EventWithin t.links v → (a : List ℕ) → befalls t p v a ≡ befalls u p v a
  same_befalls p l Opening w a = rw (same_dearest p a, same_standing p a, same_spare p l, e.links)
  same_befalls p l (Offer i) w a = rw (same_cheapest p a, same_held p a, same_spare p l, same_displaces i (cheapest_held u p a) w)
  same_befalls p l (Refusal i) w a = refl

  -- the entry, and the record's bytes
  pub same_entry_lem : (p : ℕ) (o : Outcome) → Within t.links o → entry_of t p o ≡ entry_of u p o
  same_entry_lem p (Opened i) w = refl
  same_entry_lem p Enough w = refl
  same_entry_lem p (Taken i) w = refl
  same_entry_lem p (TakenDisplacing i c) w = rw (e.low c w.1, e.high c w.1)
  same_entry_lem p (Refused i) w = refl
  same_entry_lem p (RefusalLearnt i) w = refl
  same_entry_lem p (NoChange i) w = refl
  same_entry_lem p AllTried w = refl

  pub same_alter : (p : ℕ) (o : Outcome) → Within t.links o → (r : List ℕ) → alter_fleet t p o r ≡ alter_fleet u p o r
  same_alter p (Opened i) w r = rw (e.low i w)
  same_alter p Enough w r = refl
  same_alter p (Taken i) w r = rw (e.low i w)
  same_alter p (TakenDisplacing i c) w r = rw (e.low i w.0, e.low c w.1)
  same_alter p (Refused i) w r = rw (e.low i w)
  same_alter p (RefusalLearnt i) w r = rw (e.low i w)
  same_alter p (NoChange i) w r = refl
  same_alter p AllTried w r = refl

  -- a restart
  pub same_wiped : (p : ℕ) (r : List ℕ) → wiped t p r ≡ wiped u p r
  same_wiped p r = wiped_by_ends t u p t.links e.low e.high r ∙ ap (λ (n : ℕ). wiped_to u p n r) e.links

  pub same_finished : (r : List ℕ) → finished t r ≡ finished u r
  unfolding finished
  same_finished r = both_same (ap (λ (n : ℕ). eqb n 0) opening) (ap (λ (n : ℕ). eqb n 0) altering)
    where
      opens : (p : ℕ) → p < t.probes → would_open t r p ≡ would_open u r p
      opens p l = rw (same_own p r, same_standing p (own u p r), same_dearest p (own u p r), same_spare p l, e.links)

      opening : count t.probes (would_open t r) ≡ count u.probes (would_open u r)
      opening = weigh_same t.probes (would_open t r) (would_open u r) (λ p. 1) opens ∙ ap (λ (n : ℕ). count n (would_open u r)) e.probes

      both : Table → ℕ → Bool
      both s i = alters s r (s.low i) (s.high i) i || alters s r (s.high i) (s.low i) i

      alike : (i : ℕ) → i < t.links → both t i ≡ both u i
      alike i l = rw (e.low i l, e.high i l, same_own (u.low i) r, same_own (u.high i) r)

      altering : count t.links (both t) ≡ count u.links (both u)
      altering = weigh_same t.links (both t) (both u) (λ i. 1) alike ∙ ap (λ (n : ℕ). count n (both u)) e.links
