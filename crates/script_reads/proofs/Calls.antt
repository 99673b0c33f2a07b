-- No call of the program is refused: its slices hold what is printed.
use Prim.Native.Nat.{ℕ, ◌+◌, ◌*◌, ◌≤◌, ◌<◌}
use mathlib.Core.Path.{◌≡◌, sym, ◌∙◌, ap}
use mathlib.Core.List.{List}
use native.Mathlib.Omega.{arith}
use native.Mathlib.Decide.{dec_le}
use lib.Dec.{eqb}
use lib.ListN.{length, take, drop, length-append, take-append-drop}
use borrow.Author.Tests.{lt-ltb}
use Rattle.range.proofs.Faults.{or_none}
use Rattle.fleet_theory.specs.Fleet.{fleet_fault}
use Rattle.table.specs.Slices.{Slices, table_of, slices_fault}
use Rattle.output.specs.Output.{output_reply, output_fault, Prints}
use Rattle.output.specs.declared.Output.{Output}
use Rattle.output.specs.declared.Output.TheVariants as output
use Rattle.output.proofs.Printing.{long_enough, prints_answer}
use Rattle.script_theory.specs.Script.{end_text, after_piece}
use Rattle.script_steps.specs.declared.Progress.{Progress}
use Rattle.script_theory.proofs.Lines.{short_take}
use Rattle.script_steps.proofs.PieceLaws.{piece_short}
use Rattle.script_pieces.proofs.Ends.{length_end, end_most}
use Rattle.script_output.specs.Handling.{before, site_fault, end_call_fault}

-- of an unfinished line at most 16 bytes are held
before_few : (p : Progress) (rec line : List ℕ) → length (before p rec line).held ≤ 16
before_few p rec line =
    let k = short_take 16 line in
    let a = length-append (take p.held (take 16 line)) (drop p.held (take 16 line)) in
    let e = ap length (take-append-drop p.held (take 16 line)) in
    omega (arith, k.1)

-- five bytes for each byte held or given hold any answers
pub piece_fits : (x : Slices) (rec : List ℕ) (p : Progress) (line piece out : List ℕ) → 5 * (16 + length piece) ≤ length out → length (after_piece x 1024 (before p rec line) piece).out ≤ length out
piece_fits x rec p line piece out room =
    let few = before_few p rec line in
    let s = piece_short x 1024 (before p rec line) piece in
    omega arith

module _ (x : Slices) (fine : slices_fault x ≡ 0) (rec : List ℕ) (good : fleet_fault (table_of x) rec ≡ 0) where
  pub end_passes : (held changed : ℕ) (out : List ℕ) → 16 ≤ length out → end_call_fault x rec (end_text x rec held changed) out ≡ 0
  end_passes held changed out room =
      let n = length_end x rec held changed in
      let m = end_most (eqb held 0) in
      let room_none = long_enough (length out) (end_text x rec held changed) (omega arith) in
      or_none (output_fault (length out) (end_text x rec held changed)) (site_fault x rec) room_none ∙ rw (fine, good)

-- printed, and not refused
module _ (fault : ℕ) (printed : List ℕ) (r : Output) (out out' : List ℕ) (h : Prints fault printed r out out') where
  pub never_refused : fault ≡ 0 → (n : ℕ) → r ≡ output.Refused n → ⊥
  never_refused none n e =
      let k = rw none at (prints_answer h) in
      let z : ◌≡◌ {A = ℕ} 0 1 = cc in
      omega arith

-- where the end has printed, its slice holds what it prints
pub end_holds : (x : Slices) (rec printed : List ℕ) (n : ℕ) (out out' : List ℕ) → Prints (end_call_fault x rec printed out) printed (output.Length n) out out' → length printed ≤ length out
end_holds x rec printed n out out' h = go (dec_le (length printed) (length out))
  where
    go : Dec (length printed ≤ length out) → length printed ≤ length out
    go (yes l) = l
    go (no d) =
        let short : length out < length printed = omega arith in
        let k = rw (lt-ltb (length out) (length printed) short) at (prints_answer h) in
        let z : ◌≡◌ {A = ℕ} 0 1 = cc in
        absurd (omega arith)
