-- The two fillings of the buffer give the table's bytes and no more.
use Prim.Native.Nat.{ℕ, ◌+◌, ◌-◌, ◌≤◌}
use mathlib.Core.Path.{◌≡◌, sym, ◌∙◌, ap, subst}
use mathlib.Core.List.{List, ◌++◌}
use native.Mathlib.Omega.{arith}
use native.Mathlib.Decide.{ℕ_discrete}
use lib.ListN.{length, take, drop, length-append, length-drop}
use lib.Seq.{take-take, take_all, take-append-le, length-take-le}
use borrow.Author.Tests.{eq-eqb, ne_eqb}
use Rattle.table.specs.Text.{of_text, head_fault, text_end}
use Rattle.table_text.proofs.Good.{head_good}
use Rattle.std.specs.Prelude.{Some, None, IfSome, Option, slice_range}
use Rattle.std.proofs.Math.Seq.{take-add}
use Rattle.std.proofs.lemmas.Slice.{between_from_start}
use Rattle.std.specs.Io.KnownBytes.{Consumes}
use Rattle.std.proofs.KnownBytes.{Consumes-trans}
use Rattle.standard_io.specs.Reading.{Fills, FilledOf}
use Rattle.standard_io.proofs.Known.{first_known}
use Rattle.standard_io.specs.declared.Filling.{Filling}
use Rattle.standard_io.specs.declared.Filling.TheVariants.{Until, Failed}
use Rattle.script_table.specs.Reading.{table_end, table_text, ReadsTableText, ReadsTableOf}

-- a buffer whose first bytes are read anew
pub refilled : (part text : List ℕ) (n : ℕ) → length part ≡ length (take n text) → n ≤ length text → length (part ++ drop n text) ≡ length text
refilled part text n e l =
    let a = length-append part (drop n text) in
    let b = length-drop n text in
    let c = length-take-le n text l in
    omega arith

take_split : (a b : ℕ) (xs : List ℕ) → a ≤ b → take a xs ++ slice_range xs a b ≡ take b xs
take_split a b xs h =
    let same : a + (b - a) ≡ b = omega arith in
    sym (take-add a (b - a) xs) ∙ ap (λ (k : ℕ). take k xs) same

-- n bytes of the header's line are read; the rest is filled up to its table's end
module _ (text : List ℕ) (n end : ℕ) (few : n ≤ 13) (long : 27922 ≤ length text) (is : end ≡ table_end (take n text)) where
  abbrev head : List ℕ
  head = take n text

  head_length : length head ≡ n
  head_length = length-take-le n text (omega arith)

  -- a header that passes is a whole line
  record Passed : Type 0 where
    pub whole : n ≡ 13
    pub end_is : end ≡ text_end (of_text head)
    pub most : end ≤ 27922

  passed : head_fault 256 2048 head ≡ 0 → Passed
  passed e =
      let g = head_good 256 2048 head e in
      let w = g.line.within in
      let a = g.size.few in
      let b = g.size.within in
      let k = head_length in
      let i : end ≡ text_end (of_text head) = is ∙ rw (eq-eqb (head_fault 256 2048 head) 0 e) in
      record { whole = omega arith; end_is = i; most = omega arith }

  refused : (head_fault 256 2048 head ≡ 0 → ⊥) → end ≡ n
  refused d = is ∙ rw (ne_eqb (head_fault 256 2048 head) 0 d) head_length

  pub end_most : (n ≤ end) × (end ≤ 27922)
  end_most = go (ℕ_discrete (head_fault 256 2048 head) 0)
    where
      go : Dec (head_fault 256 2048 head ≡ 0) → (n ≤ end) × (end ≤ 27922)
      go (yes e) = let p = passed e in (let i = p.end_is in omega arith, p.most)
      go (no d) = let e = refused d in (omega arith, omega arith)

  module _ (part : List ℕ) (filled : length part ≡ length (take end text)) (kept : take n part ≡ take n (take end text)) where
    part_length : length part ≡ end
    part_length = filled ∙ length-take-le end text (let m = end_most in omega (arith, m.1))

    head_kept : take n part ≡ head
    head_kept = kept ∙ take-take n end text end_most.0

    head_read : (m : ℕ) → n ≤ m → m ≤ end → take 13 (take m part) ≡ head
    head_read m l k = go (ℕ_discrete (head_fault 256 2048 head) 0)
      where
        go : Dec (head_fault 256 2048 head ≡ 0) → take 13 (take m part) ≡ head
        go (yes e) =
            let w = (passed e).whole in
            take-take 13 m part (omega arith) ∙ ap (λ (j : ℕ). take j part) (sym w) ∙ head_kept
        go (no d) =
            let e = refused d in
            let j : m ≡ n = omega arith in
            let p = part_length in
            let q = length-take-le n part (omega arith) in
            ap (λ (i : ℕ). take 13 (take i part)) j ∙ take_all 13 (take n part) (omega arith) ∙ head_kept

    pub reads_own : (r : Filling) → Fills n r (take end text) part → ReadsTableText r (part ++ drop end text)
    reads_own (Until m) f =
        let b = end_most in
        let p = part_length in
        let w = f.within in
        let t = length-take-le end text (omega (arith, b.1)) in
        let k : m ≤ end = (let v = w.1 (omega (arith, b.0)) in omega arith) in
        let a = length-append part (drop end text) in
        let front : take m (part ++ drop end text) ≡ take m part = take-append-le m part (drop end text) (omega arith) in
        let same : table_end (take 13 (take m (part ++ drop end text))) ≡ end = ap (λ (z : List ℕ). table_end (take 13 z)) front ∙ ap table_end (head_read m w.0 k) ∙ sym is in
        (omega arith, omega arith)
    reads_own Failed f = tt

    -- the header's bytes were read into `first`, and the rest into `part`
    module _ (first : List ℕ) (thirteen : length first ≡ 13) (begins : head ≡ take n first) where
      module _ (m : ℕ) (f : Fills n (Until m) (take end text) part) where
        low : n ≤ m
        low = f.within.0

        high : m ≤ end
        high =
            let b = end_most in
            let t = length-take-le end text (omega (arith, b.1)) in
            let v = f.within.1 (omega (arith, b.0)) in
            omega arith

        front : take m (part ++ drop end text) ≡ take m part
        front = let p = part_length in let h = high in take-append-le m part (drop end text) (omega arith)

        joined : slice_range first 0 n ++ slice_range part n m ≡ take m (part ++ drop end text)
        joined =
            ap (λ l. l ++ slice_range part n m) (between_from_start first n ∙ sym begins ∙ sym head_kept) ∙ take_split n m part low ∙ sym front

        first_length : length (take n first) ≡ n
        first_length = length-take-le n first (omega (arith, thirteen))

        all_length : length (take m (part ++ drop end text)) ≡ m
        all_length = let p = part_length in let h = high in ap length front ∙ length-take-le m part (omega arith)

        both : (before mid after : Option (List ℕ)) → FilledOf before mid 0 first (Until n) → FilledOf mid after n part (Until m)
            → Consumes before after (take m (part ++ drop end text))
        both before mid after one two = subst (Consumes before after) joined (Consumes-trans before mid after _ _ one.0 two.0)

        told : (before mid after : Option (List ℕ)) → FilledOf before mid 0 first (Until n) → FilledOf mid after n part (Until m)
            → IfSome before (λ input. take m (part ++ drop end text) ≡ table_text input)
        told None mid after one two = tt
        told (Some input) mid after one two =
            let l = first_length in
            let a = all_length in
            let h = high in
            let p = part_length in
            let short : Consumes (Some input) mid (take n first) = subst (Consumes (Some input) mid) (between_from_start first n) one.0 in
            let start : take 13 input ≡ take n first = first_known (Some input) mid (take n first) 13 (omega (arith, l)) short (λ k. one.1 (omega (arith, k, l, thirteen))) in
            let ends : table_end (take 13 input) ≡ end = ap table_end (start ∙ sym begins) ∙ sym is in
            let all : take end input ≡ take m (part ++ drop end text) =
            first_known (Some input) after (take m (part ++ drop end text)) end (omega (arith, a, h)) (both (Some input) mid after one two) (λ k. two.1 (omega (arith, k, a, p))) in
            sym (ap (λ (k : ℕ). take k input) ends ∙ all)

      pub reads_table : (before mid after : Option (List ℕ)) (r : Filling) → FilledOf before mid 0 first (Until n) → FilledOf mid after n part r → Fills n r (take end text) part
          → ReadsTableOf before after r (part ++ drop end text)
      reads_table before mid after (Until m) one two f = (both m f before mid after one two, told m f before mid after one two)
      reads_table before mid after Failed one two f = tt
