-- The bytes of all ends, what may befall one end, and what holds at each moment.
-- The bytes go by probe and link: `o p i` is the outbound byte of the probe p on the link i, `n p i` its inbound byte.
use Prim.Native.Nat.{ℕ, ◌+◌, ◌≤◌, ◌<◌}
use mathlib.Core.Path.{◌≡◌}
use mathlib.Core.Logic.{◌⊎◌}
use mathlib.Core.Bool.{true, false, cond, ◌&&◌}
use lib.Dec.{eqb}
use Rattle.range.specs.Sum.{sum, count}
use Rattle.table.specs.Table.{Table, touches, spare, dearer}
use Rattle.plan_theory.specs.Plan.{rested}
use Rattle.plan_theory.specs.Criterion.{UnderSpare, Across}

-- how many links of p have the byte 1
abbrev pub ones_at : Table → (ℕ → ℕ → ℕ) → ℕ → ℕ
ones_at t b p = count t.links (λ i. touches t p i && eqb (b p i) 1)

-- b with the byte of p on i stored
unfoldable pub store : (ℕ → ℕ → ℕ) → ℕ → ℕ → ℕ → ℕ → ℕ → ℕ
store b p i v q j = cond (eqb q p && eqb j i) v (b q j)

-- the same bytes
abbrev pub SameBytes : (ℕ → ℕ → ℕ) → (ℕ → ℕ → ℕ) → Type 0
SameBytes b c = (p i : ℕ) → b p i ≡ c p i

-- What one event does. `F p i`: the offer of p on i could be sent so far. `G p i`: the refusal of the offer of p on i could be sent so far.
pub data Step (t : Table) (F G : ℕ → ℕ → Type 0) (o n o' n' : ℕ → ℕ → ℕ) : Type 0 where
  idle : SameBytes o' o → SameBytes n' n → Step t F G o n o' n'
  opens : (p i : ℕ) → i < t.links → touches t p i ≡ true → o p i ≡ 0 → ones_at t o p < spare t p
      → ((g : ℕ) → g < t.links → touches t p g ≡ true → o p g ≡ 0 → dearer t g i ≡ false)
      → SameBytes o' (store o p i 1) → SameBytes n' n → Step t F G o n o' n'
  takes : (p w i : ℕ) → i < t.links → Across t i w p → F w i → n p i ≡ 0 → ones_at t n p < spare t p
      → SameBytes o' o → SameBytes n' (store n p i 1) → Step t F G o n o' n'
  displaces : (p w i c : ℕ) → i < t.links → Across t i w p → F w i → n p i ≡ 0 → spare t p ≤ ones_at t n p
      → c < t.links → touches t p c ≡ true → n p c ≡ 1 → dearer t i c ≡ true
      → ((g : ℕ) → g < t.links → touches t p g ≡ true → n p g ≡ 1 → dearer t c g ≡ false)
      → SameBytes o' o → SameBytes n' (store (store n p i 1) p c 2) → Step t F G o n o' n'
  refuses : (p w i : ℕ) → i < t.links → Across t i w p → F w i → n p i ≡ 0 → spare t p ≤ ones_at t n p
      → ((g : ℕ) → g < t.links → touches t p g ≡ true → n p g ≡ 1 → dearer t g i ≡ true)
      → SameBytes o' o → SameBytes n' (store n p i 2) → Step t F G o n o' n'
  learns : (p i : ℕ) → i < t.links → touches t p i ≡ true → G p i
      → SameBytes o' (store o p i 2) → SameBytes n' n → Step t F G o n o' n'

-- What holds at each moment.
pub record FleetInv (t : Table) (F G : ℕ → ℕ → Type 0) (o n : ℕ → ℕ → ℕ) : Type 0 where
  pub out_small : (p i : ℕ) → o p i ≤ 2
  pub in_small : (p i : ℕ) → n p i ≤ 2
  pub out_own : (p i : ℕ) → (o p i ≡ 0 → ⊥) → (i < t.links) × (touches t p i ≡ true)
  pub in_own : (p i : ℕ) → (n p i ≡ 0 → ⊥) → (i < t.links) × (touches t p i ≡ true)
  pub seen : (i p w : ℕ) → Across t i p w → (n w i ≡ 0 → ⊥) → F p i
  pub learnt : (p i : ℕ) → o p i ≡ 2 → G p i
  pub offered : (p i : ℕ) → (o p i ≡ 0 → ⊥) → F p i
  pub refused : (i p w : ℕ) → Across t i p w → n w i ≡ 2 → G p i
  pub refused_offered : (p i : ℕ) → G p i → F p i
  pub standing : (p : ℕ) → ones_at t o p ≤ spare t p
  pub holding : (p : ℕ) → ones_at t n p ≤ spare t p
  pub order : (p f g : ℕ) → f < t.links → g < t.links → touches t p f ≡ true → touches t p g ≡ true → o p f ≡ 1 → o p g ≡ 0 → dearer t f g ≡ true
  -- an offered link has fewer rested dearer ones at its maker than the spare; a refused one is kept
  pub offer_fits : (p i : ℕ) → i < t.links → touches t p i ≡ true → F p i → UnderSpare t (rested t) i p
  pub refused_kept : (p i : ℕ) → i < t.links → touches t p i ≡ true → G p i → rested t i ≡ false

-- the marks after an event
abbrev pub EverOffered : (ℕ → ℕ → Type 0) → (ℕ → ℕ → ℕ) → ℕ → ℕ → Type 0
EverOffered F o p i = F p i ⊎ (o p i ≡ 1)

abbrev pub Refused : Table → (ℕ → ℕ → Type 0) → (ℕ → ℕ → ℕ) → ℕ → ℕ → Type 0
Refused t G n p i = G p i ⊎ ((w : ℕ) × Across t i p w × (n w i ≡ 2))

-- no opening and no frame that may be sent would alter a byte
pub record Quiet (t : Table) (o n : ℕ → ℕ → ℕ) : Type 0 where
  pub opened : (p i : ℕ) → i < t.links → touches t p i ≡ true → o p i ≡ 0 → spare t p ≤ ones_at t o p
  pub heard : (i p w : ℕ) → i < t.links → Across t i p w → o p i ≡ 1 → n w i ≡ 0 → ⊥
  pub told : (i p w : ℕ) → i < t.links → Across t i p w → n w i ≡ 2 → o p i ≡ 2

-- the four bytes of a link
abbrev pub four : Table → (ℕ → ℕ → ℕ) → (ℕ → ℕ → ℕ) → ℕ → ℕ
four t o n i = o (t.low i) i + n (t.high i) i + (o (t.high i) i + n (t.low i) i)

-- the sum of all bytes
abbrev pub total : Table → (ℕ → ℕ → ℕ) → (ℕ → ℕ → ℕ) → ℕ
total t o n = sum t.links (four t o n)

-- an opening or a frame that may be sent would alter a byte
pub data Live (t : Table) (o n : ℕ → ℕ → ℕ) : Type 0 where
  may_open_lem : (p i : ℕ) → i < t.links → touches t p i ≡ true → o p i ≡ 0 → ones_at t o p < spare t p → Live t o n
  may_hear : (i p w : ℕ) → i < t.links → Across t i p w → o p i ≡ 1 → n w i ≡ 0 → Live t o n
  may_learn : (i p w : ℕ) → i < t.links → Across t i p w → n w i ≡ 2 → (o p i ≡ 2 → ⊥) → Live t o n
