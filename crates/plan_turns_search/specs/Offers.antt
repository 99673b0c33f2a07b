-- Offers by turn, over directions: what an offer, an end that takes none, and a turn mean. Document 01, "Two ways to one plan".
use Rattle.std.specs.Prelude.{ℕ, ◌+◌, ◌≤◌, ◌<◌, ◌≡◌, ◌⊎◌, Bool, cond, ◌&&◌, ltb, eqb}
use Rattle.range.specs.Sum.{count}

-- A direction is a link from one of its ends, the source, to the other, the target. A dearer link has the larger key.
pub record Site : Type 0 where
  pub dirs : ℕ
  pub source : ℕ → ℕ
  pub target : ℕ → ℕ
  pub key : ℕ → ℕ
  pub spare : ℕ → ℕ

-- The offers are o : 0 untried, 1 standing at the source and held at the target, 2 refused.

-- how many directions of q are standing
abbrev pub on : Site → (ℕ → ℕ) → (ℕ → Bool) → ℕ
on s o q = count s.dirs (λ f. q f && eqb (o f) 1)

abbrev pub stands : Site → (ℕ → ℕ) → ℕ → ℕ
stands s o u = on s o (λ f. eqb (s.source f) u)

abbrev pub holds : Site → (ℕ → ℕ) → ℕ → ℕ
holds s o v = on s o (λ f. eqb (s.target f) v)

-- "its cheapest held"
pub record Cheapest (s : Site) (o : ℕ → ℕ) (v c : ℕ) : Type 0 where
  pub below : c < s.dirs
  pub own : s.target c ≡ v
  pub held : o c ≡ 1
  pub least : (f : ℕ) → f < s.dirs → s.target f ≡ v → o f ≡ 1 → s.key c ≤ s.key f

-- the target of d would take it: "An end takes an offer if it holds fewer than its spare, or if the offer is dearer than its cheapest held"
abbrev pub WouldTake : Site → (ℕ → ℕ) → ℕ → Type 0
WouldTake s o d =
    (holds s o (s.target d) < s.spare (s.target d)) ⊎ ((c : ℕ) × Cheapest s o (s.target d) c × (s.key c < s.key d))

-- f ends at the target of d and is dearer
abbrev pub dearer_at_target : Site → ℕ → ℕ → Bool
dearer_at_target s d f = eqb (s.target f) (s.target d) && ltb (s.key d) (s.key f)

-- how many dearer ones the target of d holds
abbrev pub dearer_held : Site → (ℕ → ℕ) → ℕ → ℕ
dearer_held s o d = on s o (dearer_at_target s d)

-- the same by a count: the target of an untried d would not take it exactly when it holds its spare of dearer ones (`would_refuse`)
abbrev pub WouldRefuse : Site → (ℕ → ℕ) → ℕ → Type 0
WouldRefuse s o d = s.spare (s.target d) ≤ dearer_held s o d

-- "none is left to make"
abbrev pub NoneLeft : Site → (ℕ → ℕ) → ℕ → Type 0
NoneLeft s o u = (d : ℕ) → d < s.dirs → s.source d ≡ u → o d ≡ 0 → WouldTake s o d → ⊥

-- "until its offers standing equal its spare or none is left to make"
abbrev pub Satisfied : Site → (ℕ → ℕ) → ℕ → Type 0
Satisfied s o u = (s.spare u ≤ stands s o u) ⊎ NoneLeft s o u

-- what holds of the offers at each moment
pub record OffersInv (s : Site) (o : ℕ → ℕ) : Type 0 where
  pub standing : (u : ℕ) → stands s o u ≤ s.spare u
  pub holding : (v : ℕ) → holds s o v ≤ s.spare v
  pub refused : (d : ℕ) → d < s.dirs → (o d ≡ 0 → ⊥) → (o d ≡ 1 → ⊥) → WouldRefuse s o d
  pub order : (f g : ℕ) → f < s.dirs → g < s.dirs → s.source f ≡ s.source g → o f ≡ 1 → o g ≡ 0 → (s.key g < s.key f) ⊎ WouldRefuse s o g

-- no offer is untried again, and no target would take again
pub record Grows (s : Site) (o o' : ℕ → ℕ) : Type 0 where
  pub tried : (d : ℕ) → o' d ≡ 0 → o d ≡ 0
  pub refuses : (d : ℕ) → d < s.dirs → WouldRefuse s o d → WouldRefuse s o' d

-- an offer of u was made, and each probe displaced on the way offered again
pub record Made (s : Site) (o o' : ℕ → ℕ) (u : ℕ) : Type 0 where
  pub inv : OffersInv s o'
  pub grows : Grows s o o'
  pub more : (w : ℕ) → (stands s o w + cond (eqb u w) 1 0 ≤ stands s o' w) ⊎ NoneLeft s o' w

-- "its dearest link not yet tried whose other end would take it"
pub record NextOffer (s : Site) (o : ℕ → ℕ) (u d : ℕ) : Type 0 where
  pub below : d < s.dirs
  pub own : s.source d ≡ u
  pub untried : o d ≡ 0
  pub wanted : WouldTake s o d
  pub dearest : (g : ℕ) → g < s.dirs → s.source g ≡ u → o g ≡ 0 → WouldTake s o g → s.key g ≤ s.key d

-- what the search answers: the next offer of u, or a number past all directions
pub record Sought (s : Site) (o : ℕ → ℕ) (u r : ℕ) : Type 0 where
  pub some : r < s.dirs → NextOffer s o u r
  pub none : s.dirs ≤ r → NoneLeft s o u

-- the search along u's links stands at e: what is dearer is tried or would not be taken
pub record OfferSearch (s : Site) (o : ℕ → ℕ) (u e : ℕ) : Type 0 where
  pub own : e < s.dirs → s.source e ≡ u
  pub top : e < s.dirs → (g : ℕ) → g < s.dirs → s.source g ≡ u → o g ≡ 0 → s.key e < s.key g → WouldRefuse s o g
  pub end : s.dirs ≤ e → (g : ℕ) → g < s.dirs → s.source g ≡ u → o g ≡ 0 → WouldRefuse s o g

-- the search along the offers held by v stands at v's link f: what is cheaper would not be taken
pub record HeldSearch (s : Site) (o : ℕ → ℕ) (v f : ℕ) : Type 0 where
  pub below : f < s.dirs
  pub own : s.source f ≡ v
  pub low : (g : ℕ) → g < s.dirs → s.target g ≡ v → s.key g < s.key f → WouldRefuse s o g
