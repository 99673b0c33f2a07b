-- Each probe's directions in a chain, from the largest key to the smallest.
use Rattle.std.specs.Prelude.{ℕ, ◌+◌, ◌-◌, ◌*◌, ◌/◌, ◌%◌, ◌≤◌, ◌<◌, ◌≡◌, cond, List, eqb}
use Rattle.table.specs.Table.{item}

-- the direction 2 * i is the link i from its first end, 2 * i + 1 the other way; this is the same link the other way
unfoldable pub opposite : ℕ → ℕ
opposite d = cond (eqb (d % 2) 0) (d + 1) (d - 1)

-- r is the direction of v with the largest key below k, or a number past all where there is none
pub record Below (dirs : ℕ) (source key : ℕ → ℕ) (v k r : ℕ) : Type 0 where
  pub own : r < dirs → source r ≡ v
  pub less : r < dirs → key r < k
  pub most : r < dirs → (g : ℕ) → g < dirs → source g ≡ v → key g < k → key g ≤ key r
  pub none : dirs ≤ r → (g : ℕ) → g < dirs → source g ≡ v → key g < k → ⊥

-- the directions with keys below k are in chains: `head` by probe, `next` by direction. At 4294967296 all are, as keys are smaller
pub record ChainBelow (probes dirs : ℕ) (source key head next : ℕ → ℕ) (k : ℕ) : Type 0 where
  pub firsts : (v : ℕ) → v < probes → Below dirs source key v k (head v)
  pub follows : (d : ℕ) → d < dirs → key d < k → Below dirs source key (source d) (key d) (next d)

-- each direction's next in its chain
abbrev pub Follows : ℕ → (ℕ → ℕ) → (ℕ → ℕ) → (ℕ → ℕ) → Type 0
Follows dirs source key next = (d : ℕ) → d < dirs → Below dirs source key (source d) (key d) (next d)

-- `order` has each link, from the largest key to the smallest
pub record Falls (links : ℕ) (key : ℕ → ℕ) (order : List ℕ) : Type 0 where
  pub below : (k : ℕ) → k < links → item order k < links
  pub falls : (j k : ℕ) → j < k → k < links → key (item order k) < key (item order j)
  pub found : (i : ℕ) → i < links → (k : ℕ) × (k < links) × (item order k ≡ i)

-- the directions' sources are the links' ends, and their keys those of the links
pub record Directions (links : ℕ) (lows highs : List ℕ) (link_key source key : ℕ → ℕ) : Type 0 where
  pub from : (i : ℕ) → i < links → source (2 * i) ≡ item lows i
  pub back : (i : ℕ) → i < links → source (2 * i + 1) ≡ item highs i
  pub keys : (d : ℕ) → d < 2 * links → key d ≡ link_key (d / 2)

-- by every key by which the order falls, all directions are in chains
abbrev pub LinkedBy : ℕ → ℕ → List ℕ → List ℕ → List ℕ → (ℕ → ℕ) → (ℕ → ℕ) → Type 0
LinkedBy probes links lows highs order head next = (link_key source key : ℕ → ℕ) → Directions links lows highs link_key source key → Falls links link_key order → ((i : ℕ) → i < links → link_key i < 4294967296) → ChainBelow probes (2 * links) source key head next 4294967296
