-- What the script program prints: document 01, "Programs". Every printed line is closed by a line feed.
use Rattle.std.specs.Prelude.{ℕ, ◌+◌, ◌%◌, Bool, true, cond, List, [], ◌∷◌, ◌++◌, eqb, length, take, drop, replicate}
use Rattle.range.specs.Sum.{sum}
use Rattle.range.specs.Lists.{stored}
use Rattle.hex_digits.specs.Digits.{digits}
use Rattle.lines.specs.Line.{lines_from}
use Rattle.table.specs.Table.{Table}
use Rattle.table.specs.Text.{of_text, text_fault, text_end}
use Rattle.output.specs.Output.{refusal_line}
use Rattle.wake_log.specs.declared.Entry.{Entry}
use Rattle.wake_log.specs.declared.Answer.{Answer}
use Rattle.wake_log.specs.declared.Answer.TheVariants.{Logged, Refused}
use Rattle.wake_log.specs.Entry.{answer_of, code_of, link_of, displaced_of}
use Rattle.probe_frame.specs.Frame.{frame_of}
use Rattle.fleet_theory.specs.Fleet.{event_fault, entry_by, altered_by, State, start, answer_to, next, run, frame_changes, all_changes, finished}
use Rattle.table.specs.Slices.{Slices, table_of}

-- "the entry: probe, what (two digits), link's place in the table from 0, displaced probe; four digits each but for the second"
abbrev pub entry_line : Entry → List ℕ
entry_line e = digits 4 e.probe ++ (digits 2 (code_of e.what) ++ (digits 4 (link_of e.what) ++ (digits 4 (displaced_of e.what) ++ (10 ∷ []))))

-- "In both programs a refusal prints as `e` and three decimal digits"
abbrev pub answer_line : Answer → List ℕ
answer_line (Logged e) = entry_line e
answer_line (Refused n) = refusal_line n

-- "For each it prints the entry"; "A refused line prints its refusal and the script goes on."
unfoldable pub printed : Slices → ℕ → State → List (List ℕ) → List ℕ
printed x room s [] = []
printed x room s (l ∷ ls) = answer_line (answer_to x room s l) ++ printed x room (next x room s l) ls

-- "The last line is finished 01 or 00, then changes in eight digits."
abbrev pub last_line : Bool → ℕ → List ℕ
last_line done changes = digits 2 (cond done 1 0) ++ (digits 8 changes ++ (10 ∷ []))

-- what the lines behind the table print, with a log of some room
unfoldable pub script_text : Slices → ℕ → List ℕ → List ℕ
script_text x room text =
    let ls = lines_from [] text in
    printed x room (start x) ls ++ last_line (finished (table_of x) (run x room (start x) ls).bytes) (all_changes x room (start x) ls)

-- a table in slices as long as the largest
abbrev pub in_slices : Table → Slices
in_slices t =
    record {
      number = t.number;
      probes = t.probes;
      links = t.links;
      needs = stored t.need t.probes (replicate 256 0);
      lows = stored t.low t.links (replicate 2048 0);
      highs = stored t.high t.links (replicate 2048 0);
      costs = stored t.cost t.links (replicate 2048 0);
    }

-- "The script program reads a table and, after its closing line, script lines"; "a refused table prints only that"; "Its log has 1,024 entries."
abbrev pub script_output : List ℕ → List ℕ
script_output s =
    let fault = text_fault 256 2048 true s in
    cond (eqb fault 0) (script_text (in_slices (of_text s)) 1024 (drop (text_end (of_text s)) s)) (refusal_line fault)

-- A script under way: the fleet's record, the log's used entries, the changes so far, the bytes of an unfinished line, and what is printed so far.
-- A frame line has 15 bytes, so 16 tell of a line that it is too long; changes are kept as far as eight digits print them.
pub record Script : Type 0 where
  pub bytes : List ℕ
  pub used : ℕ
  pub changed : ℕ
  pub held : List ℕ
  pub out : List ℕ

module _ (x : Slices) (room : ℕ) where
  -- the record after a line
  abbrev pub bytes_after : Script → List ℕ → List ℕ
  bytes_after p l = cond (eqb (event_fault x p.bytes p.used room l) 0) (altered_by (table_of x) p.bytes (frame_of l)) p.bytes

  abbrev pub answered : Script → List ℕ → Answer
  answered p l =
      answer_of (event_fault x p.bytes p.used room l) (entry_by (table_of x) p.bytes (frame_of l))

  -- after a line, a byte, and a piece of the text
  abbrev pub after_line : Script → List ℕ → Script
  after_line p l =
      record {
        bytes = bytes_after p l;
        used = p.used + cond (eqb (event_fault x p.bytes p.used room l) 0) 1 0;
        changed = (p.changed + sum x.links (frame_changes (frame_of l) p.bytes (bytes_after p l))) % 4294967296;
        held = [];
        out = p.out ++ answer_line (answered p l);
      }

  abbrev pub after_byte : Script → ℕ → Script
  after_byte p b =
      let h = p.held ++ (b ∷ []) in
      cond (eqb b 10) (after_line p h) (record { bytes = p.bytes; used = p.used; changed = p.changed; held = take 16 h; out = p.out })

  unfoldable pub after_piece : Script → List ℕ → Script
  after_piece p [] = p
  after_piece p (b ∷ bs) = after_piece (after_byte p b) bs

abbrev pub begun : Slices → Script
begun x = record { bytes = (start x).bytes; used = 0; changed = 0; held = []; out = [] }

-- what the text's end prints, by the record, the number of bytes of an unfinished line and the changes: a last line without its line feed is refused by 1
abbrev pub end_text : Slices → List ℕ → ℕ → ℕ → List ℕ
end_text x bytes held changed = cond (eqb held 0) [] (refusal_line 1) ++ last_line (finished (table_of x) bytes) changed

-- A text given in pieces, to one call after the other.
unfoldable pub together : List (List ℕ) → List ℕ
together [] = []
together (a ∷ rest) = a ++ together rest

-- each call starts where the one before it ended, with nothing printed
abbrev pub carried : Script → Script
carried p = record { bytes = p.bytes; used = p.used; changed = p.changed; held = p.held; out = [] }

-- what the calls print, one behind the other, and the end
unfoldable pub printed_by : Slices → ℕ → Script → List (List ℕ) → List ℕ
printed_by x room p [] = end_text x p.bytes (length p.held) p.changed
printed_by x room p (a ∷ rest) = (after_piece x room p a).out ++ printed_by x room (carried (after_piece x room p a)) rest
