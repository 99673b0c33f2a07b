-- The display's tables: a caller is held to its pair, within the smaller pair both callers answer the same, and slices for that pair are long enough.
use Prim.Native.Nat.{ℕ, ◌≤◌, ◌<◌}
use mathlib.Core.Path.{◌≡◌, refl, sym, ◌∙◌, ap}
use mathlib.Core.Bool.{Bool, true, false, ◌||◌}
use mathlib.Core.List.{List, [], ◌∷◌, ◌++◌}
use native.Mathlib.Omega.{arith}
use native.Mathlib.Nat.{le_trans}
use lib.Dec.{ltb, eqb}
use lib.ListN.{length, length-append}
use lib.Seq.{take_at}
use borrow.Author.Tests.{ltb-false, le-ltb}
use Rattle.range.specs.First.{or_else, first}
use Rattle.range.specs.Reply.{reply_of}
use Rattle.range.proofs.Bools.{or_intro_right, or_false_left, or_false_right}
use Rattle.range.proofs.Faults.{or_none, or_same}
use Rattle.std.specs.Prelude.{Result, Err, ⊤}
use Rattle.refusals.specs.declared.Refusal.{Refusal}
use Rattle.refusals.specs.declared.Refusal.TheVariants.{Size, Slice}
use Rattle.refusals.proofs.Laws.{of_its_number}
use Rattle.lines.specs.Digits.{line_fault}
use Rattle.lines.proofs.Lines.{good_line}
use Rattle.lines.proofs.Numbers.{line_of, length_line, line_reads}
use Rattle.table.specs.Table.{Table}
use Rattle.table.specs.Checking.{checking_reply, ChecksTable}
use Rattle.table.specs.Legal.{size_fault, link_fault, table_fault, room_fault, lent_fault}
use Rattle.table.specs.Slices.{Slices, table_of, slices_room_fault, slice_fault}
use Rattle.table.specs.Text.{triple_line, of_text, text_end, head_fault, body_fault, text_fault, read_fault}
use Rattle.table.proofs.Answers.{checking_is}
use Rattle.table.proofs.Largest.{table_most, text_most}
use Rattle.table_read.specs.Reading.{Lent, lent_of, reading_fault, Reads, ReadsTable}
use Rattle.table_read.specs.declared.TableHead.{TableHead}
use Rattle.table_read.proofs.Answers.{reads_answer}
use Rattle.table_write.specs.Writing.{write_fault, writing_reply, Writes, WritesTable}
use Rattle.table_write.proofs.Answers.{writes_answer, room_enough}
use Rattle.table_laws.specs.Functions.{lent_slices, HoldsTable}
use Rattle.table_laws.proofs.Reading.{room_none, none_short, answer_refused, refusal_is}
use Rattle.table_display.specs.Display.{over, HeldToPair, SameTable, SameText, NeverTooShort, DisplayTables}

-- The size of a table that is within the pair, and of one that is over it.

pub within : (pmax lmax : ℕ) (t : Table) → over pmax lmax t ≡ false → (t.probes ≤ pmax) × (t.links ≤ lmax)
within pmax lmax t o =
    let p = ltb pmax t.probes in
    let l = ltb lmax t.links in
    (ltb-false pmax t.probes (or_false_left p l o), ltb-false lmax t.links (or_false_right p l o))

over_size : (pmax lmax : ℕ) (t : Table) → over pmax lmax t ≡ true → size_fault pmax lmax t.probes t.links ≡ 3
over_size pmax lmax t o = rw (or_intro_right (eqb t.probes 0) (over pmax lmax t) o)

size_same : (pmax lmax pmax' lmax' : ℕ) (t : Table) → pmax ≤ pmax' → lmax ≤ lmax' → over pmax lmax t ≡ false
    → size_fault pmax lmax t.probes t.links ≡ size_fault pmax' lmax' t.probes t.links
size_same pmax lmax pmax' lmax' t p l o =
    let w = within pmax lmax t o in
    rw (le-ltb pmax t.probes w.0, le-ltb lmax t.links w.1, le-ltb pmax' t.probes (le_trans w.0 p), le-ltb lmax' t.links (le_trans w.1 l))

-- Answers by the fault that is found.

lent_same : {a b : Lent} → a.needs ≡ b.needs → a.lows ≡ b.lows → a.highs ≡ b.highs → a.costs ≡ b.costs → a ≡ b
lent_same {a} {b} n l h c = go n l h c
  where
    go : {n n' l l' h h' c c' : List ℕ} → n ≡ n' → l ≡ l' → h ≡ h' → c ≡ c' → lent_of n l h c ≡ lent_of n' l' h' c'
    go n l h c = rw (n, l, h, c)

checks_same : (r r' : Result ⊤ Refusal) (fault fault' : ℕ) → fault ≡ fault' → checking_reply r ≡ reply_of fault [] → checking_reply r' ≡ reply_of fault' [] → r ≡ r'
checks_same r r' fault fault' e w w' = checking_is r fault' (rw e at w) ∙ sym (checking_is r' fault' w')

writes_same : {fault fault' : ℕ} {t : Table} {r r' : Result ℕ Refusal} {out after after' : List ℕ} → fault ≡ fault'
    → Writes fault t r out after → Writes fault' t r' out after' → (r ≡ r') × (after ≡ after')
writes_same e w w' = let v = rw e at w in (writes_answer v ∙ sym (writes_answer w'), v.out ∙ sym w'.out)

reads_same : {fault fault' : ℕ} {t : Table} {r r' : Result TableHead Refusal} {lent after after' : Lent} → fault ≡ fault'
    → Reads fault t r lent after → Reads fault' t r' lent after' → (r ≡ r') × (after ≡ after')
reads_same e w w' =
    let v = rw e at w in
    let f = v.lent in
    let f' = w'.lent in
    (reads_answer v ∙ sym (reads_answer w'), lent_same (f.need ∙ sym f'.need) (f.low ∙ sym f'.low) (f.high ∙ sym f'.high) (f.cost ∙ sym f'.cost))

writes_three : {fault : ℕ} {t : Table} {r : Result ℕ Refusal} {out after : List ℕ} → fault ≡ 3 → Writes fault t r out after → (r ≡ Err Size) × (after ≡ out)
writes_three e w = let v = rw e at w in (writes_answer v ∙ ap Err (of_its_number Size), v.out)

reads_three : {fault : ℕ} {t : Table} {r : Result TableHead Refusal} {lent after : Lent} → fault ≡ 3 → Reads fault t r lent after → (r ≡ Err Size) × (after ≡ lent)
reads_three e w =
    let v = rw e at w in
    (reads_answer v ∙ ap Err (of_its_number Size), lent_same v.lent.need v.lent.low v.lent.high v.lent.cost)

-- Over the pair.
module _ (pmax lmax : ℕ) where
  over_slices : (x : Slices) → over pmax lmax (table_of x) ≡ true → slices_room_fault x ≡ 0 → slice_fault pmax lmax x ≡ 3
  over_slices x o room =
      let t = table_of x in
      or_none (slices_room_fault x) (table_fault pmax lmax t) room ∙ or_same {d = first (link_fault t.probes t.low t.high) t.links} (over_size pmax lmax t o) refl

  over_text : (more : Bool) (s : List ℕ) → over pmax lmax (of_text s) ≡ true → line_fault s 0 12 ≡ 0 → text_fault pmax lmax more s ≡ 3
  unfolding text_fault
  over_text more s o line =
      let head : head_fault pmax lmax s ≡ 3 = or_none (line_fault s 0 12) _ line ∙ over_size pmax lmax (of_text s) o in
      or_same {d = body_fault more s} head refl

  over_header : (more : Bool) (number probes links : ℕ) (rest : List ℕ) → number < 65536 → probes < 65536 → links < 65536
      → (ltb pmax probes || ltb lmax links) ≡ true → text_fault pmax lmax more (triple_line number probes links ++ rest) ≡ 3
  over_header more number probes links rest n p l o =
      let row = number ∷ probes ∷ links ∷ [] in
      let s = line_of row ++ rest in
      let whole = length-append (line_of row) rest in
      let line = length_line row in
      let long : 12 < length s = omega arith in
      let reads = line_reads s 0 row (n, (p, (l, tt))) long (take_at (line_of row) rest 13 line) in
      over_text more s (rw (reads.1.1.0, reads.1.1.1.0) o) (good_line s 0 12 reads.0)

  over_read : (more : Bool) (s : List ℕ) (a : Lent) → over pmax lmax (of_text s) ≡ true → line_fault s 0 12 ≡ 0 → reading_fault pmax lmax more s a ≡ 3
  unfolding read_fault
  over_read more s a o line =
      or_same {d = room_fault (of_text s).probes (of_text s).links (length a.needs) (length a.lows) (length a.highs) (length a.costs)} (over_text more s o line) refl

  pub held_to_pair : HeldToPair pmax lmax
  held_to_pair =
      record {
        slices = over_slices;
        check = λ x r o room w. checking_is r (slice_fault pmax lmax x) w ∙ rw (over_slices x o room) (ap Err (of_its_number Size));
        write = λ x r out after o room l. writes_three (room_enough (length out) (text_end (table_of x)) _ l ∙ over_slices x o room);
        text = over_text;
        header = over_header;
        read = λ more s r lent after o line. reads_three (over_read more s lent o line);
      }

-- Within it.

slices_same : (x : Slices) → over 16 40 (table_of x) ≡ false → slice_fault 16 40 x ≡ slice_fault 256 2048 x
slices_same x o =
    let t = table_of x in
    ap (λ (n : ℕ). or_else (slices_room_fault x) (or_else n (first (link_fault t.probes t.low t.high) t.links)))
    (size_same 16 40 256 2048 t (omega arith) (omega arith) o)

pub same_table : (x : Slices) → over 16 40 (table_of x) ≡ false → SameTable x
same_table x o =
    record {
      fault = slices_same x o;
      check = λ r r'. checks_same r r' (slice_fault 16 40 x) (slice_fault 256 2048 x) (slices_same x o);
      write = λ r r' out after after'. writes_same (or_same {a = lent_fault (length out) (text_end (table_of x))} refl (slices_same x o));
    }

text_same : (more : Bool) (s : List ℕ) → over 16 40 (of_text s) ≡ false → text_fault 16 40 more s ≡ text_fault 256 2048 more s
unfolding text_fault
text_same more s o =
    ap (λ (n : ℕ). or_else (or_else (line_fault s 0 12) n) (body_fault more s)) (size_same 16 40 256 2048 (of_text s) (omega arith) (omega arith) o)

read_same : (more : Bool) (s : List ℕ) (a : Lent) → over 16 40 (of_text s) ≡ false → reading_fault 16 40 more s a ≡ reading_fault 256 2048 more s a
unfolding read_fault
read_same more s a o = or_same (text_same more s o) refl

pub same_text : (s : List ℕ) → over 16 40 (of_text s) ≡ false → SameText s
same_text s o =
    record { fault = λ more. text_same more s o; read = λ more r r' lent after after'. reads_same (read_same more s lent o) }

-- Slices for the pair.

module _ (a : Lent) (holds : HoldsTable 16 40 a) where
  enough : (probes links : ℕ) → probes ≤ 16 → links ≤ 40 → room_fault probes links (length a.needs) (length a.lows) (length a.highs) (length a.costs) ≡ 0
  enough probes links p l =
      room_none probes links a
      record { needed = le_trans p holds.needed; linked = le_trans l holds.linked; equal = holds.equal; equal₂ = holds.equal₂ }

  module _ (number probes links : ℕ) (o : over 16 40 (table_of (lent_slices number probes links a)) ≡ false) where
    abbrev x : Slices
    x = lent_slices number probes links a

    room : slices_room_fault x ≡ 0
    room = let w = within 16 40 (table_of x) o in enough probes links w.0 w.1

    pub fault_most : slice_fault 16 40 x ≤ 6
    fault_most = rw (or_none (slices_room_fault x) (table_fault 16 40 (table_of x)) room) (table_most 16 40 (table_of x))

    check_not : (r : Result ⊤ Refusal) → ChecksTable 16 40 x r → r ≡ Err Slice → ⊥
    check_not r w e =
        let fault = slice_fault 16 40 x in
        let q = (answer_refused (eqb fault 0) fault 8 [] (ap checking_reply (sym e) ∙ w)).1 in
        let l = fault_most in
        omega arith

    write_not : (r : Result ℕ Refusal) (out after : List ℕ) → 618 ≤ length out → WritesTable 16 40 x r out after → r ≡ Err Slice → ⊥
    write_not r out after long w e =
        let fault = write_fault 16 40 x (length out) in
        let q = (answer_refused (eqb fault 0) fault 8 (text_end (table_of x) ∷ []) (ap writing_reply (sym e) ∙ w.answer)).1 in
        let k = within 16 40 (table_of x) o in
        let p = room_enough (length out) (text_end (table_of x)) (slice_fault 16 40 x) (omega (arith, k.0, k.1)) in
        let l = fault_most in
        omega arith

  read_not : (more : Bool) (s : List ℕ) (r : Result TableHead Refusal) (after : Lent) → ReadsTable 16 40 more s r a after → r ≡ Err Slice → ⊥
  read_not more s r after w e =
      let q = refusal_is 16 40 more s r a after w Slice e in
      let p = none_short 16 40 more s a holds in
      let l = text_most 16 40 more s in
      omega (arith, q.0)

  pub never_too_short : NeverTooShort a
  never_too_short =
      record {
        read_fault_lem = λ more s. none_short 16 40 more s a holds;
        read = read_not;
        room = room;
        check = λ number probes links r o. check_not number probes links o r;
        write = λ number probes links r out after o. write_not number probes links o r out after;
      }

pub display_tables : DisplayTables
display_tables = record { held = held_to_pair; same_table = same_table; same_text = same_text; enough = never_too_short }
