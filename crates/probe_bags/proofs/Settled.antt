-- The inbound bytes that a bag leaves, without an order: of the links held or offered, those with fewer dearer ones than the spare are held, and the others are refused.
use Prim.Native.Nat.{ℕ, ◌≤◌, ◌<◌}
use mathlib.Core.Path.{◌≡◌, sym, ◌∙◌, ap, fun_ext}
use mathlib.Core.Logic.{◌⊎◌, inl, inr}
use mathlib.Core.Bool.{Bool, true, false, cond, ◌&&◌, ◌||◌, true≢false}
use mathlib.Core.List.{List, [], ◌∷◌}
use native.Mathlib.Omega.{arith}
use native.Mathlib.Decide.{ℕ_discrete}
use lib.Dec.{ltb, eqb}
use borrow.Author.Tests.{lt-ltb, le-ltb}
use Rattle.range.specs.Sum.{count}
use Rattle.range.proofs.Bools.{and_left, and_right, and_intro, decided}
use Rattle.range.proofs.Sums.{weigh_le, weigh_same, count_less}
use Rattle.table.specs.Table.{Table, touches, spare, dearer}
use Rattle.plan_theory.proofs.Places.{Order}
use Rattle.probe_rules.specs.declared.Event.{Event}
use Rattle.probe_rules.specs.declared.Event.TheVariants.{Opening, Offer, Refusal}

-- the event offers the link, or refuses it
abbrev pub offers : Event → ℕ → Bool
offers Opening i = false
offers (Offer k) i = eqb i k
offers (Refusal k) i = false

abbrev pub refuses : Event → ℕ → Bool
refuses Opening i = false
refuses (Offer k) i = false
refuses (Refusal k) i = eqb i k

-- some event of a list does
abbrev pub some : (Event → ℕ → Bool) → List Event → ℕ → Bool
some says [] i = false
some says (v ∷ vs) i = says v i || some says vs i

-- the own links that are held, and those unseen that are offered
abbrev pub candidate : Table → ℕ → (ℕ → ℕ) → (ℕ → Bool) → ℕ → Bool
candidate t p byte offered i = touches t p i && (eqb (byte i) 1 || (eqb (byte i) 0 && offered i))

-- how many of a set are dearer than the link
abbrev pub above : Table → (ℕ → Bool) → ℕ → ℕ
above t set i = count t.links (λ g. dearer t g i && set g)

abbrev pub settled : Table → ℕ → (ℕ → Bool) → (ℕ → ℕ) → ℕ → ℕ
settled t p set byte i = cond (set i) (cond (ltb (above t set i) (spare t p)) 1 2) (byte i)

-- the inbound bytes after offers, and the outbound ones after refusals
abbrev pub in_after : Table → ℕ → (ℕ → ℕ) → (ℕ → Bool) → ℕ → ℕ
in_after t p byte offered i = settled t p (candidate t p byte offered) byte i

abbrev pub out_after : (ℕ → ℕ) → (ℕ → Bool) → ℕ → ℕ
out_after byte refused i = cond (refused i) 2 (byte i)

module _ (t : Table) (p : ℕ) (a a' : ℕ → Bool) (b b' : ℕ → ℕ) where
  -- the same set, and the same bytes off it
  pub keep : ((j : ℕ) → a' j ≡ a j) → ((j : ℕ) → a j ≡ false → b' j ≡ b j) → (i : ℕ) → settled t p a' b' i ≡ settled t p a b i
  keep same off i = ap (λ (s : ℕ → Bool). settled t p s b' i) (fun_ext same) ∙ go (decided (a i))
    where
      go : (a i ≡ true) ⊎ (a i ≡ false) → settled t p a b' i ≡ settled t p a b i
      go (inl h) = rw h
      go (inr h) = rw h (off i h)

  -- a link x with enough dearer ones in the set is refused, now or in the end.
  -- Those cheaper than x are refused with it or without it, and for the others x does not count.
  module _ (o : Order t.links (dearer t)) (x : ℕ) (lx : x < t.links) (into : a x ≡ true) (out : a' x ≡ false)
      (same : (j : ℕ) → (j ≡ x → ⊥) → a' j ≡ a j) (many : spare t p ≤ above t a x) where
    not_dearest : ltb (above t a x) (spare t p) ≡ false
    not_dearest = le-ltb (above t a x) (spare t p) many

    -- what is dearer than x stays in the set
    stays : (g : ℕ) → g < t.links → (dearer t g x && a g) ≡ true → a' g ≡ true
    stays g lg e = same g apart ∙ and_right (dearer t g x) (a g) e
      where
        apart : g ≡ x → ⊥
        apart s = true≢false (sym (rw s at (and_left (dearer t g x) (a g) e)) ∙ o.irreflexive x lx)

    -- and is dearer than what is cheaper than x
    past : (i : ℕ) → i < t.links → dearer t x i ≡ true → (g : ℕ) → g < t.links → (dearer t g x && a g) ≡ true → dearer t g i ≡ true
    past i li d g lg e = o.transitive g x i lg lx li (and_left (dearer t g x) (a g) e) d

    -- cheaper than x: both tests fail
    cheaper_than : (i : ℕ) → i < t.links → dearer t x i ≡ true → (spare t p ≤ above t a i) × (spare t p ≤ above t a' i)
    cheaper_than i li d =
        let before = weigh_le t.links (λ g. dearer t g x && a g) (λ g. dearer t g i && a g) (λ g. 1)
        (λ g lg e. and_intro (past i li d g lg e) (and_right (dearer t g x) (a g) e)) in
        let after = weigh_le t.links (λ g. dearer t g x && a g) (λ g. dearer t g i && a' g) (λ g. 1)
        (λ g lg e. and_intro (past i li d g lg e) (stays g lg e)) in
        (omega arith, omega arith)

    -- not cheaper than x: as many are dearer
    not_cheaper : (i : ℕ) → dearer t x i ≡ false → above t a' i ≡ above t a i
    not_cheaper i d = weigh_same t.links (λ g. dearer t g i && a' g) (λ g. dearer t g i && a g) (λ g. 1) (λ g lg. go g (ℕ_discrete g x))
      where
        go : (g : ℕ) → Dec (g ≡ x) → (dearer t g i && a' g) ≡ (dearer t g i && a g)
        go g (yes s) = rw (s, d)
        go g (no s) = rw (same g s)

    same_test : (i : ℕ) → i < t.links → ltb (above t a' i) (spare t p) ≡ ltb (above t a i) (spare t p)
    same_test i li = go (decided (dearer t x i))
      where
        go : (dearer t x i ≡ true) ⊎ (dearer t x i ≡ false) → ltb (above t a' i) (spare t p) ≡ ltb (above t a i) (spare t p)
        go (inl d) =
            let both = cheaper_than i li d in
            le-ltb (above t a' i) (spare t p) both.1 ∙ sym (le-ltb (above t a i) (spare t p) both.0)
        go (inr d) = ap (λ (n : ℕ). ltb n (spare t p)) (not_cheaper i d)

    pub lose : b' x ≡ 2 → ((j : ℕ) → (j ≡ x → ⊥) → a j ≡ false → b' j ≡ b j) → (i : ℕ) → i < t.links → settled t p a' b' i ≡ settled t p a b i
    lose two off i li = go (ℕ_discrete i x)
      where
        beside : (i ≡ x → ⊥) → (a i ≡ true) ⊎ (a i ≡ false) → settled t p a' b' i ≡ settled t p a b i
        beside s (inl h) = rw (same i s, h) (ap (λ (c : Bool). cond c 1 2) (same_test i li))
        beside s (inr h) = rw (same i s, h) (off i s h)

        go : Dec (i ≡ x) → settled t p a' b' i ≡ settled t p a b i
        go (yes s) = rw (s, out, into, not_dearest) two
        go (no s) = beside s (decided (a i))

-- a set that fits the spare is held as it is
pub few : (t : Table) (p : ℕ) (a : ℕ → Bool) (b : ℕ → ℕ) → Order t.links (dearer t) → count t.links a ≤ spare t p → ((j : ℕ) → a j ≡ true → b j ≡ 1)
    → (i : ℕ) → i < t.links → settled t p a b i ≡ b i
few t p a b o fits ones i li = go (decided (a i))
  where
    go : (a i ≡ true) ⊎ (a i ≡ false) → settled t p a b i ≡ b i
    go (inl h) =
        let less = count_less t.links (λ g. dearer t g i && a g) a i (λ g lg. and_right (dearer t g i) (a g)) li (rw (o.irreflexive i li)) h in
        rw (h, lt-ltb (above t a i) (spare t p) (omega arith)) (sym (ones i h))
    go (inr h) = rw h
