-- What the checks of a text give to the code behind them.
use Prim.Native.Nat.{ℕ, ◌+◌, ◌-◌, ◌≤◌, ◌<◌}
use mathlib.Core.Path.{◌≡◌, sym, ◌∙◌, ap}
use mathlib.Core.Bool.{Bool, cond}
use mathlib.Core.List.{List}
use native.Mathlib.Omega.{arith}
use native.Mathlib.Decide.{ℕ_discrete, dec_lt}
use lib.Dec.{eqb}
use borrow.Author.Tests.{eq-eqb}
use lib.ListN.{length}
use Rattle.range.specs.First.{or_else, first}
use Rattle.range.proofs.Faults.{or_none, or_left, or_right, first_all}
use Rattle.hex_digits.specs.Digits.{number_at}
use Rattle.lines.specs.Digits.{line_fault}
use Rattle.lines.proofs.Lines.{GoodLine, line_good}
use Rattle.table.specs.Legal.{size_fault, ends_fault, order_fault, link_fault, Size}
use Rattle.table.proofs.Faults.{size_good}
use Rattle.table.specs.Text.{of_text, need_start, link_start, need_line_fault, link_line_fault, head_fault, body_fault, text_fault}

pub need_lines_lem : (s : List ℕ) (n : ℕ) → first (need_line_fault s) n ≡ 0 → (v : ℕ) → v < n → GoodLine s (need_start v) 4
need_lines_lem s n e v l = line_good s (need_start v) 4 (first_all (need_line_fault s) n v e l)

pub link_lines_lem : (s : List ℕ) (m : ℕ) → first (link_line_fault s) m ≡ 0 → (i : ℕ) → i < m → GoodLine s (link_start (of_text s).probes i) 12
link_lines_lem s m e i l =
    line_good s (link_start (of_text s).probes i) 12
    (or_left (line_fault s (link_start (of_text s).probes i) 12) (link_fault (of_text s).probes (of_text s).low (of_text s).high i) (first_all (link_line_fault s) m i e l))

-- A link line that starts at an offset: its ends and its fault.
module _ (s : List ℕ) (probes i at : ℕ) (ep : probes ≡ (of_text s).probes) (ea : at ≡ link_start probes i) where
  start : at ≡ link_start (of_text s).probes i
  start = ea ∙ ap (λ (n : ℕ). link_start n i) ep

  pub low_at : (v : ℕ) → v ≡ number_at s at 4 → v ≡ (of_text s).low i
  low_at v f = f ∙ ap (λ (k : ℕ). number_at s k 4) start

  pub high_at : (v : ℕ) → v ≡ number_at s (at + 4) 4 → v ≡ (of_text s).high i
  high_at v f = f ∙ ap (λ (k : ℕ). number_at s (k + 4) 4) start

  -- what is left of its fault where its digits are good, by its ends and those of the link before it
  pub link_line_is : (low high low₀ high₀ : ℕ) → 0 ≡ line_fault s at 12 → low ≡ (of_text s).low i → high ≡ (of_text s).high i
      → (0 < i → (low₀ ≡ (of_text s).low (i - 1)) × (high₀ ≡ (of_text s).high (i - 1)))
      → link_line_fault s i ≡ or_else (ends_fault probes low high) (cond (eqb i 0) 0 (order_fault low₀ high₀ low high))
  unfolding link_fault
  link_line_is low high low₀ high₀ good el eh before =
      or_none (line_fault s (link_start (of_text s).probes i) 12) (link_fault (of_text s).probes (of_text s).low (of_text s).high i)
      (ap (λ (k : ℕ). line_fault s k 12) (sym start) ∙ sym good)
      ∙ rw (ep, el, eh) (go (ℕ_discrete i 0))
    where
      go : Dec (i ≡ 0) → or_else (ends_fault (of_text s).probes ((of_text s).low i) ((of_text s).high i))
          (cond (eqb i 0) 0 (order_fault ((of_text s).low (i - 1)) ((of_text s).high (i - 1)) ((of_text s).low i) ((of_text s).high i)))
          ≡ or_else (ends_fault (of_text s).probes ((of_text s).low i) ((of_text s).high i))
          (cond (eqb i 0) 0 (order_fault low₀ high₀ ((of_text s).low i) ((of_text s).high i)))
      go (yes z) = rw (eq-eqb i 0 z)
      go (no n) = let b = before (omega arith) in rw (b.0, b.1)

-- a header without a fault
pub record GoodHead (pmax lmax : ℕ) (s : List ℕ) : Type 0 where
  pub line : GoodLine s 0 12
  pub size : Size pmax lmax (of_text s).probes (of_text s).links

pub head_good : (pmax lmax : ℕ) (s : List ℕ) → head_fault pmax lmax s ≡ 0 → GoodHead pmax lmax s
head_good pmax lmax s e =
    let size = size_fault pmax lmax (of_text s).probes (of_text s).links in
    record {
      line = line_good s 0 12 (or_left (line_fault s 0 12) size e);
      size = size_good pmax lmax (of_text s).probes (of_text s).links (or_right (line_fault s 0 12) size e);
    }

-- the lines stand within the text
pub lines_within : (s : List ℕ) (probes links : ℕ) → probes ≡ (of_text s).probes → 13 ≤ length s
    → first (need_line_fault s) probes ≡ 0 → first (link_line_fault s) links ≡ 0 → link_start probes links ≤ length s
lines_within s probes links ep head needs rows = go (dec_lt 0 probes) (dec_lt 0 links)
  where
    go : Dec (0 < probes) → Dec (0 < links) → link_start probes links ≤ length s
    go p (yes m) = let w = (link_lines_lem s links rows (links - 1) (omega arith)).within in omega arith
    go (yes p) (no m) = let w = (need_lines_lem s probes needs (probes - 1) (omega arith)).within in omega arith
    go (no p) (no m) = omega arith

pub text_head : (pmax lmax : ℕ) (more : Bool) (s : List ℕ) → text_fault pmax lmax more s ≡ 0 → GoodHead pmax lmax s
unfolding text_fault
text_head pmax lmax more s e = head_good pmax lmax s (or_left (head_fault pmax lmax s) (body_fault more s) e)
