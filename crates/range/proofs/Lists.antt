-- Laws of lists made over i < n.
use Prim.Native.Nat.{ℕ, zero, suc, ◌+◌, ◌*◌, ◌≤◌, ◌<◌}
use mathlib.Core.Path.{◌≡◌, refl, sym, ◌∙◌, ap}
use mathlib.Core.List.{List, ◌++◌}
use native.Mathlib.Nat.{mul-le-mul_left}
use native.Mathlib.Omega.{arith}
use native.Mathlib.Numerals.{add-one}
use native.Mathlib.Decide.{dec_lt, ℕ_discrete}
use lib.ListN.{length, get_or, set, replicate, length-replicate, length-set, length-append, get_or-append}
use lib.Seq.{get_or-set_same, get_or-set_other, get_or-append-add, ext_get_or}
use Rattle.range.specs.Lists.{joined, stored}

pub zeros_at : (n v : ℕ) → get_or {A = ℕ} (replicate n 0) v 0 ≡ 0
zeros_at zero v = refl
zeros_at (suc n) zero = refl
zeros_at (suc n) (suc v) = zeros_at n v

pub joined_next : (f : ℕ → List ℕ) (n : ℕ) → joined f (n + 1) ≡ joined f n ++ f n
unfolding joined
joined_next f n = rw (add-one n)

pub joined_same : (f g : ℕ → List ℕ) (n : ℕ) → ((i : ℕ) → i < n → f i ≡ g i) → joined f n ≡ joined g n
unfolding joined
joined_same f g zero h = refl
joined_same f g (suc n) h = rw (joined_same f g n (λ i l. h i (omega arith)), h n (omega arith))

-- lists of one length w
pub length_joined : (f : ℕ → List ℕ) (w n : ℕ) → ((i : ℕ) → length (f i) ≡ w) → length (joined f n) ≡ w * n
unfolding joined
length_joined f w zero h = omega arith
length_joined f w (suc n) h =
    let a = length_joined f w n h in
    let b = h n in
    length-append (joined f n) (f n) ∙ omega arith

-- the entry j of the list i
pub joined_at : (f : ℕ → List ℕ) (w n i j : ℕ) → ((k : ℕ) → length (f k) ≡ w) → i < n → j < w → get_or (joined f n) (w * i + j) 0 ≡ get_or (f i) j 0
unfolding joined
joined_at f w zero i j h l m = absurd (omega arith)
joined_at f w (suc n) i j h l m = go (λ k. joined_at f w n i j h k m) (ℕ_discrete i n)
  where
    go : (i < n → get_or (joined f n) (w * i + j) 0 ≡ get_or (f i) j 0) → Dec (i ≡ n) → get_or (joined f n ++ f n) (w * i + j) 0 ≡ get_or (f i) j 0
    go before (yes e) = rw (e, ← length_joined f w n h) (get_or-append-add (joined f n) (f n) j 0)
    go before (no d) =
        let a = length_joined f w n h in
        let s : suc i ≤ n = omega arith in
        let b = mul-le-mul_left w s in
        get_or-append (joined f n) (f n) 0 (w * i + j) (omega arith) ∙ before (omega arith)

pub stored_next : (f : ℕ → ℕ) (n : ℕ) (d : List ℕ) → stored f (n + 1) d ≡ set (stored f n d) n (f n)
unfolding stored
stored_next f n d = rw (add-one n)

pub length_stored : (f : ℕ → ℕ) (n : ℕ) (d : List ℕ) → length (stored f n d) ≡ length d
unfolding stored
length_stored f zero d = refl
length_stored f (suc n) d = length-set (stored f n d) n (f n) ∙ length_stored f n d

pub stored_same : (f g : ℕ → ℕ) (n : ℕ) (d : List ℕ) → ((i : ℕ) → i < n → f i ≡ g i) → stored f n d ≡ stored g n d
unfolding stored
stored_same f g zero d h = refl
stored_same f g (suc n) d h = rw (stored_same f g n d (λ i l. h i (omega arith)), h n (omega arith))

-- the entries stored
pub stored_at : (f : ℕ → ℕ) (n : ℕ) (d : List ℕ) (i : ℕ) → n ≤ length d → i < n → get_or (stored f n d) i 0 ≡ f i
unfolding stored
stored_at f zero d i fits l = absurd (omega arith)
stored_at f (suc n) d i fits l = go (stored_at f n d i (omega arith)) (ℕ_discrete i n)
  where
    go : (i < n → get_or (stored f n d) i 0 ≡ f i) → Dec (i ≡ n) → get_or (set (stored f n d) n (f n)) i 0 ≡ f i
    go before (yes e) = rw e (get_or-set_same (stored f n d) n (f n) 0 (let k = length_stored f n d in omega arith))
    go before (no e) = get_or-set_other (stored f n d) n i (f n) 0 e ∙ before (omega arith)

-- "entries beyond the table's own stay untouched"
pub stored_beyond : (f : ℕ → ℕ) (n : ℕ) (d : List ℕ) (i : ℕ) → n ≤ i → get_or (stored f n d) i 0 ≡ get_or d i 0
unfolding stored
stored_beyond f zero d i l = refl
stored_beyond f (suc n) d i l =
    get_or-set_other (stored f n d) n i (f n) 0 (λ (z : i ≡ n). omega arith) ∙ stored_beyond f n d i (omega arith)

pub same_length : (f : ℕ → ℕ) (n : ℕ) (d e : List ℕ) → e ≡ stored f n d → length e ≡ length d
same_length f n d e q = ap length q ∙ length_stored f n d

-- a list is d with f stored when its entries say so
pub stored_ext : (f : ℕ → ℕ) (n : ℕ) (d e : List ℕ) → n ≤ length d → length e ≡ length d → ((j : ℕ) → j < n → get_or e j 0 ≡ f j)
    → ((j : ℕ) → n ≤ j → get_or e j 0 ≡ get_or d j 0) → e ≡ stored f n d
stored_ext f n d e fits long own beyond =
    ext_get_or 0 e (stored f n d) (long ∙ sym (length_stored f n d)) (λ j l. go j (dec_lt j n))
  where
    go : (j : ℕ) → Dec (j < n) → get_or e j 0 ≡ get_or (stored f n d) j 0
    go j (yes k) = own j k ∙ sym (stored_at f n d j fits k)
    go j (no k) = beyond j (omega arith) ∙ sym (stored_beyond f n d j (omega arith))

pub stored_self : (f : ℕ → ℕ) (n : ℕ) (d : List ℕ) → n ≤ length d → ((j : ℕ) → j < n → get_or d j 0 ≡ f j) → d ≡ stored f n d
stored_self f n d fits own = stored_ext f n d d fits refl own (λ j l. refl)

pub stored_again : (f g : ℕ → ℕ) (n : ℕ) (d : List ℕ) → n ≤ length d → stored g n (stored f n d) ≡ stored g n d
stored_again f g n d fits =
    let l = length_stored f n d in
    stored_ext g n d (stored g n (stored f n d)) fits (length_stored g n (stored f n d) ∙ l) (λ j k. stored_at g n (stored f n d) j (omega arith) k)
    (λ j k. stored_beyond g n (stored f n d) j k ∙ stored_beyond f n d j k)

-- one entry stored anew
pub stored_update : (f g : ℕ → ℕ) (n : ℕ) (d : List ℕ) (i v : ℕ) → n ≤ length d → i < n → g i ≡ v → ((j : ℕ) → j < n → (j ≡ i → ⊥) → g j ≡ f j)
    → set (stored f n d) i v ≡ stored g n d
stored_update f g n d i v fits l here same =
    stored_ext g n d (set (stored f n d) i v) fits (length-set (stored f n d) i v ∙ length_stored f n d) (λ j k. go j k (ℕ_discrete j i))
    (λ j k. get_or-set_other (stored f n d) i j v 0 (λ z. omega arith) ∙ stored_beyond f n d j k)
  where
    go : (j : ℕ) → j < n → Dec (j ≡ i) → get_or (set (stored f n d) i v) j 0 ≡ g j
    go j k (yes e) = rw e (get_or-set_same (stored f n d) i v 0 (let m = length_stored f n d in omega arith) ∙ sym here)
    go j k (no e) = get_or-set_other (stored f n d) i j v 0 e ∙ stored_at f n d j fits k ∙ sym (same j k e)
