-- What an offer taken, with or without a displacement, does to the offers of a site.
use Prim.Native.Nat.{ℕ, ◌+◌, ◌≤◌, ◌<◌}
use mathlib.Core.Path.{◌≡◌, refl, sym, ◌∙◌, ap}
use mathlib.Core.Logic.{◌⊎◌, inl, inr}
use mathlib.Core.Bool.{Bool, true, false, cond, ◌&&◌}
use native.Mathlib.Omega.{arith}
use native.Mathlib.Decide.{dec_le, dec_lt, ℕ_discrete}
use lib.Dec.{ltb, eqb}
use borrow.Author.Tests.{ltb-true, lt-ltb, eqb-true, eq-eqb, ne_eqb}
use Rattle.range.proofs.Bools.{and_left, and_right, and_intro}
use Rattle.range.proofs.Sums.{sum_same, sum_add, sum_one, weigh_le}
use Rattle.plan_turns_search.specs.Offers.{Site, on, stands, holds, dearer_at_target, dearer_held, WouldTake, WouldRefuse, NoneLeft, Satisfied, OffersInv, Grows, Made, NextOffer, Cheapest}
use Rattle.plan_turns_search.proofs.Taking.{Distinct, not_taken, not_taken_count}

-- the bit of a direction of q by its byte, where the byte becomes 1, and where it is 1 no more
one_more_lem : (b : Bool) → cond (b && eqb 1 1) 1 0 ≡ cond (b && eqb 0 1) 1 0 + cond b 1 0
one_more_lem true = refl
one_more_lem false = refl

one_less_lem : (b : Bool) → cond (b && false) 1 0 + cond b 1 0 ≡ cond (b && eqb 1 1) 1 0
one_less_lem true = refl
one_less_lem false = refl

bit_le : (a b : Bool) → (a ≡ true → b ≡ true) → cond a 1 0 ≤ cond b 1 0
bit_le true b h = rw (h refl) (omega arith)
bit_le false b h = omega arith

none_grows : (s : Site) → Distinct s → (o o' : ℕ → ℕ) → OffersInv s o → OffersInv s o' → (u : ℕ) → Grows s o o' → NoneLeft s o u → NoneLeft s o' u
none_grows s laws o o' i i' u g h d l e z =
    let was = g.tried d z in
    not_taken s o' i'.holding d (g.refuses d l (not_taken_count s o i.holding d laws l was (h d l e was)))

pub satisfied_made : (s : Site) → Distinct s → (o o' : ℕ → ℕ) → OffersInv s o → (u : ℕ) → Made s o o' u → (w : ℕ) → Satisfied s o w → Satisfied s o' w
satisfied_made s laws o o' i u m w (inr h) = inr (none_grows s laws o o' i m.inv w m.grows h)
satisfied_made s laws o o' i u m w (inl h) = go (m.more w)
  where
    go : (stands s o w + cond (eqb u w) 1 0 ≤ stands s o' w) ⊎ NoneLeft s o' w → Satisfied s o' w
    go (inl a) = inl (omega arith)
    go (inr a) = inr a

-- nothing is made where none is left
pub made_none : (s : Site) (o : ℕ → ℕ) (u : ℕ) → OffersInv s o → NoneLeft s o u → Made s o o u
made_none s o u i h = record { inv = i; grows = record { tried = λ d e. e; refuses = λ d l e. e }; more = λ w. go w (ℕ_discrete u w) }
  where
    go : (w : ℕ) → Dec (u ≡ w) → (stands s o w + cond (eqb u w) 1 0 ≤ stands s o w) ⊎ NoneLeft s o w
    go w (yes e) = inr (rw (← e) h)
    go w (no n) = inl (rw (ne_eqb u w n) (omega arith))

-- d's byte becomes 1; the other bytes that were 1 or 0 stay, or are refused
record Step (s : Site) (o o' : ℕ → ℕ) (d : ℕ) : Type 0 where
  tried : (e : ℕ) → o' e ≡ 0 → (o e ≡ 0) × (e ≡ d → ⊥)
  taken : (e : ℕ) → o' e ≡ 1 → (e ≡ d) ⊎ (o e ≡ 1)
  refuses : (e : ℕ) → e < s.dirs → WouldRefuse s o e → WouldRefuse s o' e
  refused : (e : ℕ) → e < s.dirs → (o' e ≡ 0 → ⊥) → (o' e ≡ 1 → ⊥) → WouldRefuse s o' e

module _ (s : Site) (laws : Distinct s) (o : ℕ → ℕ) (i : OffersInv s o) (u d : ℕ) (next : NextOffer s o u d) where
  step_inv : (o' : ℕ → ℕ) → Step s o o' d → ((w : ℕ) → stands s o' w ≤ s.spare w) → ((w : ℕ) → holds s o' w ≤ s.spare w) → OffersInv s o'
  step_inv o' t standing holding = record { standing = standing; holding = holding; refused = t.refused; order = order }
    where
      order : (f g : ℕ) → f < s.dirs → g < s.dirs → s.source f ≡ s.source g → o' f ≡ 1 → o' g ≡ 0 → (s.key g < s.key f) ⊎ WouldRefuse s o' g
      order f g lf lg e f1 g0 = go (t.taken f f1)
        where
          g_was : o g ≡ 0
          g_was = (t.tried g g0).0

          kept : (s.key g < s.key f) ⊎ WouldRefuse s o g → (s.key g < s.key f) ⊎ WouldRefuse s o' g
          kept (inl a) = inl a
          kept (inr a) = inr (t.refuses g lg a)

          own : f ≡ d → Dec (s.key g < s.key d) → Dec (s.key d < s.key g) → (s.key g < s.key f) ⊎ WouldRefuse s o' g
          own q (yes a) b = inl (rw q a)
          own q (no a) (yes b) =
              inr (t.refuses g lg (not_taken_count s o i.holding g laws lg g_was (λ take. let k = next.dearest g lg (sym e ∙ ap s.source q ∙ next.own) g_was take in omega arith)))
          own q (no a) (no b) =
              absurd ((t.tried g g0).1 (sym (laws.sources d g next.below lg (ap s.source (sym q) ∙ e) (omega arith))))

          go : (f ≡ d) ⊎ (o f ≡ 1) → (s.key g < s.key f) ⊎ WouldRefuse s o' g
          go (inl q) = own q (dec_lt (s.key g) (s.key d)) (dec_lt (s.key d) (s.key g))
          go (inr q) = kept (i.order f g lf lg e q g_was)

  -- d is taken by an end with room
  module _ (o' : ℕ → ℕ) (here : o' d ≡ 1) (rest : (e : ℕ) → (e ≡ d → ⊥) → o' e ≡ o e) where
    pub on_take : (q : ℕ → Bool) → on s o' q ≡ on s o q + cond (q d) 1 0
    on_take q =
        let a = sum_same s.dirs (λ f. cond (q f && eqb (o' f) 1) 1 0)
        (λ f. cond (q f && eqb (o f) 1) 1 0 + cond (eqb f d) (cond (q f) 1 0) 0) (λ f k. part f (ℕ_discrete f d)) in
        let b = sum_add s.dirs (λ f. cond (q f && eqb (o f) 1) 1 0) (λ f. cond (eqb f d) (cond (q f) 1 0) 0) in
        let c = sum_one s.dirs (λ f. cond (q f) 1 0) d next.below in
        omega arith
      where
        part : (f : ℕ) → Dec (f ≡ d) → cond (q f && eqb (o' f) 1) 1 0 ≡ cond (q f && eqb (o f) 1) 1 0 + cond (eqb f d) (cond (q f) 1 0) 0
        part f (yes e) = rw (e, eq-eqb d d refl, here, next.untried) (one_more_lem (q d))
        part f (no n) = rw (ne_eqb f d n, rest f n) (omega arith)

    take_step : Step s o o' d
    take_step = record { tried = tried; taken = taken; refuses = refuses; refused = refused }
      where
        tried : (e : ℕ) → o' e ≡ 0 → (o e ≡ 0) × (e ≡ d → ⊥)
        tried e z = go (ℕ_discrete e d)
          where
            go : Dec (e ≡ d) → (o e ≡ 0) × (e ≡ d → ⊥)
            go (yes q) = let a = ap o' q in absurd (omega arith)
            go (no n) = (sym (rest e n) ∙ z, n)

        taken : (e : ℕ) → o' e ≡ 1 → (e ≡ d) ⊎ (o e ≡ 1)
        taken e z = go (ℕ_discrete e d)
          where
            go : Dec (e ≡ d) → (e ≡ d) ⊎ (o e ≡ 1)
            go (yes q) = inl q
            go (no n) = inr (sym (rest e n) ∙ z)

        refuses : (e : ℕ) → e < s.dirs → WouldRefuse s o e → WouldRefuse s o' e
        refuses e l h = let a = on_take (dearer_at_target s e) in omega arith

        refused : (e : ℕ) → e < s.dirs → (o' e ≡ 0 → ⊥) → (o' e ≡ 1 → ⊥) → WouldRefuse s o' e
        refused e l n0 n1 = go (ℕ_discrete e d)
          where
            go : Dec (e ≡ d) → WouldRefuse s o' e
            go (yes q) = absurd (n1 (ap o' q ∙ here))
            go (no n) = refuses e l (i.refused e l (λ z. n0 (rest e n ∙ z)) (λ z. n1 (rest e n ∙ z)))

    pub take_made : stands s o u < s.spare u → holds s o (s.target d) < s.spare (s.target d) → Made s o o' u
    take_made room free =
        record {
          inv = step_inv o' take_step (λ w. standing w (ℕ_discrete (s.source d) w)) (λ w. holding w (ℕ_discrete (s.target d) w));
          grows = record { tried = λ e z. (take_step.tried e z).0; refuses = take_step.refuses };
          more = λ w. inl (let a = on_take (λ f. eqb (s.source f) w) in let b = ap {B = ℕ} (λ (x : ℕ). cond (eqb x w) 1 0) next.own in omega arith);
        }
      where
        standing : (w : ℕ) → Dec (s.source d ≡ w) → stands s o' w ≤ s.spare w
        standing w (yes e) =
            let a = rw (eq-eqb (s.source d) w e) at (on_take (λ f. eqb (s.source f) w)) in
            let q : u ≡ w = sym next.own ∙ e in
            let b = rw q at room in
            omega arith
        standing w (no n) =
            let a = rw (ne_eqb (s.source d) w n) at (on_take (λ f. eqb (s.source f) w)) in
            let b = i.standing w in
            omega arith

        holding : (w : ℕ) → Dec (s.target d ≡ w) → holds s o' w ≤ s.spare w
        holding w (yes e) =
            let a = rw (eq-eqb (s.target d) w e) at (on_take (λ f. eqb (s.target f) w)) in
            let b = rw e at free in
            omega arith
        holding w (no n) =
            let a = rw (ne_eqb (s.target d) w n) at (on_take (λ f. eqb (s.target f) w)) in
            let b = i.holding w in
            omega arith

  -- d is taken in place of c, its target's cheapest
  module _ (c : ℕ) (low : Cheapest s o (s.target d) c) (room : stands s o u < s.spare u) (full : s.spare (s.target d) ≤ holds s o (s.target d))
      (o' : ℕ → ℕ) (here : o' d ≡ 1) (tried₂ : o' c ≡ 0 → ⊥) (gone : o' c ≡ 1 → ⊥) (rest : (e : ℕ) → (e ≡ d → ⊥) → (e ≡ c → ⊥) → o' e ≡ o e) where
    pub apart : d ≡ c → ⊥
    apart q = let a = ap o q in let b = next.untried in let e = low.held in omega arith

    pub on_swap : (q : ℕ → Bool) → on s o' q + cond (q c) 1 0 ≡ on s o q + cond (q d) 1 0
    on_swap q =
        let p = sum_same s.dirs (λ f. cond (q f && eqb (o' f) 1) 1 0 + cond (eqb f c) (cond (q f) 1 0) 0)
        (λ f. cond (q f && eqb (o f) 1) 1 0 + cond (eqb f d) (cond (q f) 1 0) 0) (λ f k. part f (ℕ_discrete f d) (ℕ_discrete f c)) in
        let a = sum_add s.dirs (λ f. cond (q f && eqb (o' f) 1) 1 0) (λ f. cond (eqb f c) (cond (q f) 1 0) 0) in
        let b = sum_add s.dirs (λ f. cond (q f && eqb (o f) 1) 1 0) (λ f. cond (eqb f d) (cond (q f) 1 0) 0) in
        let x = sum_one s.dirs (λ f. cond (q f) 1 0) c low.below in
        let y = sum_one s.dirs (λ f. cond (q f) 1 0) d next.below in
        omega arith
      where
        part : (f : ℕ) → Dec (f ≡ d) → Dec (f ≡ c)
            → cond (q f && eqb (o' f) 1) 1 0 + cond (eqb f c) (cond (q f) 1 0) 0 ≡ cond (q f && eqb (o f) 1) 1 0 + cond (eqb f d) (cond (q f) 1 0) 0
        part f (yes e) (yes g) = absurd (apart (sym e ∙ g))
        part f (yes e) (no g) =
            let h = one_more_lem (q d) in
            rw (e, eq-eqb d d refl, ne_eqb d c apart, here, next.untried) (omega arith)
        part f (no n) (yes g) =
            let h = one_less_lem (q c) in
            rw (g, eq-eqb c c refl, ne_eqb c d (λ z. apart (sym z)), ne_eqb (o' c) 1 gone, low.held) (omega arith)
        part f (no n) (no g) = rw (ne_eqb f d n, ne_eqb f c g, rest f n g)

    cheaper : s.key c < s.key d
    cheaper = go next.wanted
      where
        go : WouldTake s o d → s.key c < s.key d
        go (inl free) = absurd (omega arith)
        go (inr (f, least, less)) =
            let m = low.least f least.below least.own least.held in
            omega arith

    refuses_kept : (e : ℕ) → e < s.dirs → WouldRefuse s o e → WouldRefuse s o' e
    refuses_kept e l h =
        let a = on_swap (dearer_at_target s e) in
        let b = bit_le (dearer_at_target s e c) (dearer_at_target s e d) (λ z.
        let x = and_left (eqb (s.target c) (s.target e)) (ltb (s.key e) (s.key c)) z in
        let y = ltb-true (s.key e) (s.key c) (and_right (eqb (s.target c) (s.target e)) (ltb (s.key e) (s.key c)) z) in
        let k = cheaper in
        and_intro (rw low.own at x) (lt-ltb (s.key e) (s.key d) (omega arith))) in
        omega arith

    -- all that the target holds then is dearer than c
    refuses_gone : WouldRefuse s o' c
    refuses_gone =
        let q : ℕ → Bool = λ f. eqb (s.target f) (s.target d) in
        let a = on_swap q in
        let b = ap {B = ℕ} (λ (x : ℕ). cond (eqb x (s.target d)) 1 0) low.own in
        let k = weigh_le s.dirs (λ f. q f && eqb (o' f) 1) (λ f. dearer_at_target s c f && eqb (o' f) 1) (λ f. 1) all in
        let e = ap s.spare low.own in
        omega arith
      where
        all : (f : ℕ) → f < s.dirs → (eqb (s.target f) (s.target d) && eqb (o' f) 1) ≡ true → (dearer_at_target s c f && eqb (o' f) 1) ≡ true
        all f l h =
            and_intro (and_intro (rw (← low.own) at at_d) (lt-ltb (s.key c) (s.key f) (go (ℕ_discrete f d) (ℕ_discrete f c)))) byte
          where
            at_d : eqb (s.target f) (s.target d) ≡ true
            at_d = and_left (eqb (s.target f) (s.target d)) (eqb (o' f) 1) h

            byte : eqb (o' f) 1 ≡ true
            byte = and_right (eqb (s.target f) (s.target d)) (eqb (o' f) 1) h

            at : s.target f ≡ s.target d
            at = eqb-true (s.target f) (s.target d) at_d

            go : Dec (f ≡ d) → Dec (f ≡ c) → s.key c < s.key f
            go (yes e) n = rw e cheaper
            go (no m) (yes e) = absurd (gone (sym (ap o' e) ∙ eqb-true (o' f) 1 byte))
            go (no m) (no n) = less (dec_lt (s.key c) (s.key f)) (low.least f l at (sym (rest f m n) ∙ eqb-true (o' f) 1 byte))
              where
                less : Dec (s.key c < s.key f) → s.key c ≤ s.key f → s.key c < s.key f
                less (yes a) b = a
                less (no a) b = absurd (n (laws.targets f c l low.below (at ∙ sym low.own) (omega arith)))

    swap_step : Step s o o' d
    swap_step = record { tried = λ e z. tried e z (ℕ_discrete e d) (ℕ_discrete e c); taken = λ e z. taken e z (ℕ_discrete e d) (ℕ_discrete e c); refuses = refuses_kept; refused = λ e l a b. refused e l a b (ℕ_discrete e d) (ℕ_discrete e c) }
      where
        tried : (e : ℕ) → o' e ≡ 0 → Dec (e ≡ d) → Dec (e ≡ c) → (o e ≡ 0) × (e ≡ d → ⊥)
        tried e z (yes q) m = let a = ap o' q in absurd (omega arith)
        tried e z (no n) (yes q) = absurd (tried₂ (sym (ap o' q) ∙ z))
        tried e z (no n) (no m) = (sym (rest e n m) ∙ z, n)

        taken : (e : ℕ) → o' e ≡ 1 → Dec (e ≡ d) → Dec (e ≡ c) → (e ≡ d) ⊎ (o e ≡ 1)
        taken e z (yes q) m = inl q
        taken e z (no n) (yes q) = absurd (gone (sym (ap o' q) ∙ z))
        taken e z (no n) (no m) = inr (sym (rest e n m) ∙ z)

        refused : (e : ℕ) → e < s.dirs → (o' e ≡ 0 → ⊥) → (o' e ≡ 1 → ⊥) → Dec (e ≡ d) → Dec (e ≡ c) → WouldRefuse s o' e
        refused e l n0 n1 (yes q) m = absurd (n1 (ap o' q ∙ here))
        refused e l n0 n1 (no n) (yes q) = rw q refuses_gone
        refused e l n0 n1 (no n) (no m) = refuses_kept e l (i.refused e l (λ z. n0 (rest e n m ∙ z)) (λ z. n1 (rest e n m ∙ z)))

    pub swap_inv : OffersInv s o'
    swap_inv = step_inv o' swap_step (λ w. standing w (ℕ_discrete (s.source d) w)) holding
      where
        standing : (w : ℕ) → Dec (s.source d ≡ w) → stands s o' w ≤ s.spare w
        standing w (yes e) =
            let a = rw (eq-eqb (s.source d) w e) at (on_swap (λ f. eqb (s.source f) w)) in
            let q : u ≡ w = sym next.own ∙ e in
            let b = rw q at room in
            omega arith
        standing w (no n) =
            let a = rw (ne_eqb (s.source d) w n) at (on_swap (λ f. eqb (s.source f) w)) in
            let b = i.standing w in
            omega arith

        holding : (w : ℕ) → holds s o' w ≤ s.spare w
        holding w =
            let a = on_swap (λ f. eqb (s.target f) w) in
            let e = ap {B = ℕ} (λ (x : ℕ). cond (eqb x w) 1 0) low.own in
            let b = i.holding w in
            omega arith

    -- the displaced probe has room for one more
    pub swap_room : stands s o' (s.source c) < s.spare (s.source c)
    swap_room = go (ℕ_discrete (s.source d) (s.source c))
      where
        law : on s o' (λ f. eqb (s.source f) (s.source c)) + 1 ≡ stands s o (s.source c) + cond (eqb (s.source d) (s.source c)) 1 0
        law = rw (eq-eqb (s.source c) (s.source c) refl) at (on_swap (λ f. eqb (s.source f) (s.source c)))

        go : Dec (s.source d ≡ s.source c) → stands s o' (s.source c) < s.spare (s.source c)
        go (yes e) =
            let a = rw (eq-eqb (s.source d) (s.source c) e) at law in
            let q : u ≡ s.source c = sym next.own ∙ e in
            let b = rw q at room in
            omega arith
        go (no n) =
            let a = rw (ne_eqb (s.source d) (s.source c) n) at law in
            let b = i.standing (s.source c) in
            omega arith

    pub swap_grows : Grows s o o'
    swap_grows = record { tried = λ e z. (swap_step.tried e z).0; refuses = refuses_kept }

    pub swap_made : (o'' : ℕ → ℕ) → Made s o' o'' (s.source c) → Made s o o'' u
    swap_made o'' m =
        record {
          inv = m.inv;
          grows = record {
            tried = λ e z. swap_grows.tried e (m.grows.tried e z);
            refuses = λ e l h. m.grows.refuses e l (swap_grows.refuses e l h);
          };
          more = λ w. more w (m.more w);
        }
      where
        more : (w : ℕ) → (stands s o' w + cond (eqb (s.source c) w) 1 0 ≤ stands s o'' w) ⊎ NoneLeft s o'' w
            → (stands s o w + cond (eqb u w) 1 0 ≤ stands s o'' w) ⊎ NoneLeft s o'' w
        more w (inl a) =
            let b = on_swap (λ f. eqb (s.source f) w) in
            let e = ap {B = ℕ} (λ (x : ℕ). cond (eqb x w) 1 0) next.own in
            inl (omega arith)
        more w (inr a) = inr a

-- at the end each offer that does not stand is explained
pub explained : (s : Site) → Distinct s → (o : ℕ → ℕ) → OffersInv s o → (d : ℕ) → d < s.dirs → Satisfied s o (s.source d) → (o d ≡ 1 → ⊥)
    → (s.spare (s.source d) ≤ on s o (λ f. eqb (s.source f) (s.source d) && ltb (s.key d) (s.key f))) ⊎ WouldRefuse s o d
explained s laws o i d l end n1 = go end (ℕ_discrete (o d) 0) (dec_le (s.spare (s.target d)) (dearer_held s o d))
  where
    go : Satisfied s o (s.source d) → Dec (o d ≡ 0) → Dec (WouldRefuse s o d)
        → (s.spare (s.source d) ≤ on s o (λ f. eqb (s.source f) (s.source d) && ltb (s.key d) (s.key f))) ⊎ WouldRefuse s o d
    go e z (yes h) = inr h
    go e (no n) (no h) = inr (i.refused d l n n1)
    go (inr e) (yes z) (no h) = inr (not_taken_count s o i.holding d laws l z (e d l refl z))
    go (inl e) (yes z) (no h) =
        let q : ℕ → Bool = λ f. eqb (s.source f) (s.source d) in
        let k = weigh_le s.dirs (λ f. q f && eqb (o f) 1) (λ f. (q f && ltb (s.key d) (s.key f)) && eqb (o f) 1) (λ f. 1)
        (λ f m a.
        let x = and_left (q f) (eqb (o f) 1) a in
        let y = and_right (q f) (eqb (o f) 1) a in
        and_intro (and_intro x (lt-ltb (s.key d) (s.key f)
        (sure (s.key d < s.key f) (i.order f d m l (eqb-true (s.source f) (s.source d) x) (eqb-true (o f) 1 y) z)))) y) in
        inl (omega arith)
      where
        sure : (P : Type 0) → P ⊎ WouldRefuse s o d → P
        sure P (inl a) = a
        sure P (inr a) = absurd (h a)
