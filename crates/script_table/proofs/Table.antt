-- The table that the program reads is that of the input.
use Prim.Native.Nat.{ℕ, ◌≤◌}
use mathlib.Core.Path.{◌≡◌, sym, ◌∙◌, ap}
use mathlib.Core.Bool.{true}
use mathlib.Core.List.{List}
use native.Mathlib.Omega.{arith}
use native.Mathlib.Decide.{ℕ_discrete, dec_le}
use lib.ListN.{length, take}
use lib.Seq.{take_all, length-take-le}
use borrow.Author.Tests.{eq-eqb, ne_eqb}
use Rattle.range.proofs.Faults.{or_left}
use Rattle.table.specs.Text.{of_text, head_fault, body_fault, text_end, text_fault}
use Rattle.table.specs.Same.{Same}
use Rattle.table_laws.proofs.Long.{own_text, own_table, own_head, own_end}
use Rattle.table_laws.proofs.Round.{text_within}
use Rattle.script_table.specs.Reading.{table_text}

pub head_none : (s : List ℕ) → text_fault 256 2048 true s ≡ 0 → head_fault 256 2048 s ≡ 0
unfolding text_fault
head_none s z = or_left (head_fault 256 2048 s) (body_fault true s) z

-- of so many bytes that the table is among them
module _ (s : List ℕ) (n : ℕ) (headed : 13 ≤ n) (own : head_fault 256 2048 s ≡ 0 → text_end (of_text s) ≡ n) where
  within : head_fault 256 2048 s ≡ 0 → text_end (of_text s) ≤ n
  within h = let e = own h in omega arith

  pub same_fault : text_fault 256 2048 true s ≡ text_fault 256 2048 true (take n s)
  same_fault = own_text s n headed within

  pub same_table : head_fault 256 2048 s ≡ 0 → Same (of_text s) (of_text (take n s))
  same_table = own_table s n headed within

  pub own_length : text_fault 256 2048 true (take n s) ≡ 0 → length (take n s) ≡ n
  own_length e =
      let z = same_fault ∙ e in
      let w = text_within 256 2048 true s z in
      let o = own (head_none s z) in
      length-take-le n s (omega arith)

-- and the program reads so many
pub record Part (s : List ℕ) : Type 0 where
  pub bytes : ℕ
  pub headed : 13 ≤ bytes
  pub own : head_fault 256 2048 s ≡ 0 → text_end (of_text s) ≡ bytes
  pub is : table_text s ≡ take bytes s

again : (s : List ℕ) (n : ℕ) → take (length (take n s)) s ≡ take n s
again s n = go (dec_le n (length s))
  where
    go : Dec (n ≤ length s) → take (length (take n s)) s ≡ take n s
    go (yes l) = ap (λ (k : ℕ). take k s) (length-take-le n s l)
    go (no d) = let e = take_all n s (omega arith) in ap (λ (k : List ℕ). take (length k) s) e ∙ take_all (length s) s (omega arith) ∙ sym e

pub part_of : (s : List ℕ) → Part s
part_of s = go (ℕ_discrete (head_fault 256 2048 (take 13 s)) 0)
  where
    go : Dec (head_fault 256 2048 (take 13 s) ≡ 0) → Part s
    go (yes e) = record { bytes = text_end (of_text (take 13 s)); headed = omega arith; own = λ h. own_end s h; is = rw (eq-eqb (head_fault 256 2048 (take 13 s)) 0 e) }
    go (no d) =
        record {
          bytes = 13;
          headed = omega arith;
          own = λ h. absurd (d (sym (own_head s) ∙ h));
          is = rw (ne_eqb (head_fault 256 2048 (take 13 s)) 0 d) (again s 13);
        }
