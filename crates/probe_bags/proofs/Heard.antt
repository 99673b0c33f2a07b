-- One event heard: the bytes settled from those that it leaves are those settled from the bytes before, with its offer or refusal among the others.
use Prim.Native.Nat.{ℕ, ◌+◌, ◌*◌, ◌≤◌, ◌<◌}
use mathlib.Core.Path.{◌≡◌, refl, sym, ◌∙◌, ap, fun_ext}
use mathlib.Core.Bool.{Bool, true, false, cond, ◌&&◌, ◌||◌, true≢false, and-false}
use mathlib.Core.List.{List}
use native.Mathlib.Omega.{arith}
use native.Mathlib.Decide.{ℕ_discrete}
use lib.Dec.{eqb}
use lib.ListN.{length, set, length-set}
use borrow.Author.Tests.{eqb-true, eq-eqb, ne_eqb}
use Rattle.range.proofs.Bools.{and_left, and_right, and_intro}
use Rattle.range.proofs.Sums.{weigh_le}
use Rattle.range.proofs.Counts.{count_swap}
use Rattle.table.specs.Table.{Table, touches, spare, dearer}
use Rattle.plan_theory.proofs.Places.{Order, Side, here, earlier, later, side}
use Rattle.probe_record.specs.Record.{outbound, inbound, own_with, held}
use Rattle.probe_rules.specs.declared.Event.{Event}
use Rattle.probe_rules.specs.declared.Outcome.{Outcome}
use Rattle.probe_rules.specs.Rules.{alter}
use Rattle.probe_rules.specs.Within.{IsHeard, OwnLink, OwnEvent}
use Rattle.probe_rules.proofs.Befalls.{Befell, opened, enough, all_tried, taken, displacing, refused, seen, learnt, known}
use Rattle.probe_theory.proofs.Stores.{out_here, out_else, out_kept, in_here, in_else, in_kept}
use Rattle.probe_bags.proofs.Settled.{offers, refuses, candidate, above, in_after, out_after, keep, lose}

-- an offer on the own link k
module _ (t : Table) (o : Order t.links (dearer t)) (p : ℕ) (e : List ℕ) (size : length e ≡ 2 * t.links) (offered : ℕ → Bool) (k : ℕ) (own : OwnLink t p k) where
  abbrev b : ℕ → ℕ
  b = inbound e

  -- with the offer on k
  abbrev more : ℕ → Bool
  more j = eqb j k || offered j

  abbrev before : ℕ → Bool
  before = candidate t p b more

  -- unseen and offered
  now_in : b k ≡ 0 → before k ≡ true
  now_in z = rw (own.1, z, eq-eqb k k refl)

  held_in : (g : ℕ) → own_with t p b 1 g ≡ true → before g ≡ true
  held_in g h = rw (and_left (touches t p g) (eqb (b g) 1) h, and_right (touches t p g) (eqb (b g) 1) h)

  beside : (b' : ℕ → ℕ) (j : ℕ) → (j ≡ k → ⊥) → b' j ≡ b j → candidate t p b' offered j ≡ before j
  beside b' j d s = rw (s, ne_eqb j k d)

  -- k is held from now on
  now_held : (b' : ℕ → ℕ) → b k ≡ 0 → b' k ≡ 1 → candidate t p b' offered k ≡ before k
  now_held b' z one = rw (one, z, eq-eqb k k refl)

  not_candidate : (b' : ℕ → ℕ) (c : ℕ) → b' c ≡ 2 → candidate t p b' offered c ≡ false
  not_candidate b' c two = rw two (and-false (touches t p c))

  in_taken : b k ≡ 0 → (i : ℕ) → in_after t p (inbound (set e (2 * k + 1) 1)) offered i ≡ in_after t p b more i
  in_taken z = keep t p before (candidate t p b' offered) b b' (λ j. same j (ℕ_discrete j k)) (λ j h. off j h (ℕ_discrete j k))
    where
      b' : ℕ → ℕ
      b' = inbound (set e (2 * k + 1) 1)

      same : (j : ℕ) → Dec (j ≡ k) → candidate t p b' offered j ≡ before j
      same j (yes s) = rw s (now_held b' z (in_here e k 1 (let l = own.0 in omega arith)))
      same j (no d) = beside b' j d (in_else e k 1 j d)

      off : (j : ℕ) → before j ≡ false → Dec (j ≡ k) → b' j ≡ b j
      off j h (yes s) = absurd (true≢false (sym (now_in z) ∙ (rw s at h)))
      off j h (no d) = in_else e k 1 j d

  in_seen : (b k ≡ 0 → ⊥) → (i : ℕ) → in_after t p b offered i ≡ in_after t p b more i
  in_seen d = keep t p before (candidate t p b offered) b b (λ j. same j (ℕ_discrete j k)) (λ j h. refl)
    where
      same : (j : ℕ) → Dec (j ≡ k) → candidate t p b offered j ≡ before j
      same j (yes s) = rw (s, ne_eqb (b k) 0 d)
      same j (no f) = beside b j f refl

  -- all held ones are dearer than k
  in_refused : b k ≡ 0 → spare t p ≤ held t p e → ((g : ℕ) → OwnLink t p g → b g ≡ 1 → dearer t g k ≡ true) → (i : ℕ) → i < t.links
      → in_after t p (inbound (set e (2 * k + 1) 2)) offered i ≡ in_after t p b more i
  in_refused z full dear =
      lose t p before (candidate t p b' offered) b b' o k own.0 (now_in z) (not_candidate b' k two) (λ j d. beside b' j d (in_else e k 2 j d)) many two
      (λ j d h. in_else e k 2 j d)
    where
      b' : ℕ → ℕ
      b' = inbound (set e (2 * k + 1) 2)

      two : b' k ≡ 2
      two = in_here e k 2 (let l = own.0 in omega arith)

      many : spare t p ≤ above t before k
      many =
          let all = weigh_le t.links (own_with t p b 1) (λ g. dearer t g k && before g) (λ g. 1) (λ g lg h.
          and_intro (dear g (lg, and_left (touches t p g) (eqb (b g) 1) h) (eqb-true (b g) 1 (and_right (touches t p g) (eqb (b g) 1) h))) (held_in g h)) in
          omega arith

  -- k is dearer than the cheapest held c
  module _ (c : ℕ) (z : b k ≡ 0) (full : spare t p ≤ held t p e) (ours : OwnLink t p c) (one : b c ≡ 1) (dear : dearer t k c ≡ true)
      (least : (g : ℕ) → OwnLink t p g → b g ≡ 1 → dearer t c g ≡ false) where
    abbrev mid : List ℕ
    mid = set e (2 * k + 1) 1

    abbrev left : ℕ → ℕ
    left = inbound (set mid (2 * c + 1) 2)

    apart : k ≡ c → ⊥
    apart s = let q : b k ≡ 1 = rw s one in omega arith

    now_two : left c ≡ 2
    now_two = in_here mid c 2 (let l = ours.0 in let n = length-set e (2 * k + 1) 1 in omega arith)

    now_one : left k ≡ 1
    now_one = in_else mid c 2 k apart ∙ in_here e k 1 (let l = own.0 in omega arith)

    elsewhere : (j : ℕ) → (j ≡ k → ⊥) → (j ≡ c → ⊥) → left j ≡ b j
    elsewhere j d f = in_else mid c 2 j f ∙ in_else e k 1 j d

    same_but : (j : ℕ) → (j ≡ c → ⊥) → candidate t p left offered j ≡ before j
    same_but j f = go (ℕ_discrete j k)
      where
        go : Dec (j ≡ k) → candidate t p left offered j ≡ before j
        go (yes s) = rw s (now_held left z now_one)
        go (no d) = beside left j d (elsewhere j d f)

    off_but : (j : ℕ) → (j ≡ c → ⊥) → before j ≡ false → left j ≡ b j
    off_but j f h = go (ℕ_discrete j k)
      where
        go : Dec (j ≡ k) → left j ≡ b j
        go (yes s) = absurd (true≢false (sym (now_in z) ∙ (rw s at h)))
        go (no d) = elsewhere j d f

    -- the held ones but c are dearer than it, and so is k
    enough_above : spare t p ≤ above t before c
    enough_above =
        let all = count_swap t.links (own_with t p b 1) (λ g. dearer t g c && before g) c k ours.0 own.0 (λ g lg d h. and_intro (past g lg d h) (held_in g h))
        (rw z (and-false (touches t p k))) (and_intro dear (now_in z)) in
        omega arith
      where
        past : (g : ℕ) → g < t.links → (g ≡ c → ⊥) → own_with t p b 1 g ≡ true → dearer t g c ≡ true
        past g lg d h =
            go (side t.links (dearer t) o g c lg ours.0)
            (least g (lg, and_left (touches t p g) (eqb (b g) 1) h) (eqb-true (b g) 1 (and_right (touches t p g) (eqb (b g) 1) h)))
          where
            go : Side (dearer t) g c → dearer t c g ≡ false → dearer t g c ≡ true
            go (here q _ _) m = absurd (d (eqb-true g c q))
            go (earlier _ f _) m = f
            go (later _ _ f) m = absurd (true≢false (sym f ∙ m))

    in_displacing : (i : ℕ) → i < t.links → in_after t p left offered i ≡ in_after t p b more i
    in_displacing =
        lose t p before (candidate t p left offered) b left o c ours.0 (held_in c (and_intro ours.1 (eq-eqb (b c) 1 one))) (not_candidate left c now_two) same_but
        enough_above now_two off_but

module _ (t : Table) (o : Order t.links (dearer t)) (p : ℕ) (e : List ℕ) (size : length e ≡ 2 * t.links) where
  -- an outbound byte that is stored leaves the inbound ones
  in_stays : (offered : ℕ → Bool) (k v i : ℕ) → in_after t p (inbound (set e (2 * k) v)) offered i ≡ in_after t p (inbound e) offered i
  in_stays offered k v i = ap (λ (b : ℕ → ℕ). in_after t p b offered i) (fun_ext (in_kept e k v))

  pub in_step : {v : Event} {c : Outcome} → Befell t p e v c → OwnEvent t p v → (offered : ℕ → Bool) (i : ℕ) → i < t.links
      → in_after t p (inbound (alter c e)) offered i ≡ in_after t p (inbound e) (λ j. offers v j || offered j) i
  in_step (opened k a z m h) own offered i l = in_stays offered k 1 i
  in_step (enough m) own offered i l = refl
  in_step (all_tried m h) own offered i l = refl
  in_step (taken k z m) own offered i l = in_taken t o p e size offered k own z i
  in_step (displacing k c z m a y d h) own offered i l = in_displacing t o p e size offered k own c z m a y d h i l
  in_step (refused k z m h) own offered i l = in_refused t o p e size offered k own z m h i l
  in_step (seen k d) own offered i l = in_seen t o p e size offered k own d i
  in_step (learnt k d) own offered i l = in_stays offered k 2 i
  in_step (known k y) own offered i l = refl

  -- a refusal of k is there, or is learnt
  out_refused : (b' : ℕ → ℕ) (refusing : ℕ → Bool) (k i : ℕ) → b' k ≡ 2 → ((j : ℕ) → (j ≡ k → ⊥) → b' j ≡ outbound e j)
      → out_after b' refusing i ≡ out_after (outbound e) (λ j. eqb j k || refusing j) i
  out_refused b' refusing k i two off = go (ℕ_discrete i k)
    where
      either : (x : Bool) → ◌≡◌ {A = ℕ} (cond x 2 2) 2
      either true = refl
      either false = refl

      go : Dec (i ≡ k) → out_after b' refusing i ≡ out_after (outbound e) (λ j. eqb j k || refusing j) i
      go (yes s) = rw (s, two, eq-eqb k k refl) (either (refusing k))
      go (no d) = rw (off i d, ne_eqb i k d)

  pub out_step : {v : Event} {c : Outcome} → Befell t p e v c → OwnEvent t p v → IsHeard v → (refusing : ℕ → Bool) (i : ℕ)
      → out_after (outbound (alter c e)) refusing i ≡ out_after (outbound e) (λ j. refuses v j || refusing j) i
  out_step (opened k a z m h) own frame refusing i = absurd frame
  out_step (enough m) own frame refusing i = absurd frame
  out_step (all_tried m h) own frame refusing i = absurd frame
  out_step (taken k z m) own frame refusing i = rw (out_kept e k 1 i)
  out_step (displacing k c z m a y d h) own frame refusing i = rw (out_kept (set e (2 * k + 1) 1) c 2 i, out_kept e k 1 i)
  out_step (refused k z m h) own frame refusing i = rw (out_kept e k 2 i)
  out_step (seen k d) own frame refusing i = refl
  out_step (learnt k d) own frame refusing i =
      out_refused (outbound (set e (2 * k) 2)) refusing k i (out_here e k 2 (let l = own.0 in omega arith)) (λ j f. out_else e k 2 j f)
  out_step (known k y) own frame refusing i = out_refused (outbound e) refusing k i y (λ j f. refl)
