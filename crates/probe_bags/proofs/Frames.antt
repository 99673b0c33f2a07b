-- The frames of a bag: the bytes held are those of the frame so far, until its line feed or the bag's end.
use Prim.Native.Nat.{ℕ, suc, ◌+◌, ◌<◌}
use mathlib.Core.Path.{◌≡◌, refl, ◌∙◌}
use mathlib.Core.Bool.{Bool, true, false, cond}
use mathlib.Core.List.{List, [], ◌∷◌, ◌++◌, append-nil, append_assoc}
use native.Mathlib.Omega.{arith}
use native.Mathlib.Decide.{dec_lt}
use lib.Dec.{eqb}
use lib.ListN.{length, length-append}
use borrow.Author.Tests.{le-ltb, ne_eqb}
use Rattle.range.specs.First.{or_else}
use Rattle.lines.specs.Line.{until_feed, line_at, lines_from}
use Rattle.lines.specs.Digits.{line_fault}
use Rattle.lines.proofs.Feeds.{until_le, until_at}
use Rattle.table.specs.Table.{Table}
use Rattle.probe_frame.specs.Frame.{frame_fault}
use Rattle.probe_checks.specs.Checks.{heard_fault}
use Rattle.probe_bags.specs.Bag.{frames_of}
use Rattle.probe_bags.specs.BagLaws.{NoFeed, BagFrames}

no_frame : frames_of [] ≡ []
unfolding lines_from
no_frame = refl

behind : (b : ℕ) (bs : List ℕ) → NoFeed (b ∷ bs) → NoFeed bs
behind b bs none j l = none (suc j) (omega arith)

closed : (held l rest : List ℕ) → NoFeed l → lines_from held (l ++ (10 ∷ rest)) ≡ (held ++ (l ++ (10 ∷ []))) ∷ lines_from [] rest
unfolding lines_from
closed held [] rest none = refl
closed held (b ∷ bs) rest none =
    rw (ne_eqb b 10 (none 0 (omega arith))) (closed (held ++ (b ∷ [])) bs rest (behind b bs none) ∙ rw (append_assoc held (b ∷ []) (bs ++ (10 ∷ []))))

unclosed : (held l : List ℕ) → NoFeed l → 0 < length held + length l → lines_from held l ≡ (held ++ l) ∷ []
unfolding lines_from
unclosed held [] none some = rw (ne_eqb (length held) 0 (λ z. omega arith), append-nil held)
unclosed held (b ∷ bs) none some =
    rw (ne_eqb b 10 (none 0 (omega arith)))
    (unclosed (held ++ (b ∷ [])) bs (behind b bs none) (simp length-append (omega arith)) ∙ rw (append_assoc held (b ∷ []) bs))

no_feed_until : (l : List ℕ) → NoFeed l → until_feed l ≡ length l
no_feed_until l none = let le = until_le l in go (dec_lt (until_feed l) (length l))
  where
    go : Dec (until_feed l < length l) → until_feed l ≡ length l
    go (yes k) = absurd (none (until_feed l) k (until_at l k))
    go (no k) = let le = until_le l in omega arith

-- without a line feed the line is missing, whatever its length
missing : (l : List ℕ) → NoFeed l → line_fault l 0 14 ≡ 1
unfolding line_fault line_at
missing l none = let whole = no_feed_until l none in rw (le-ltb (0 + until_feed l) (length l) (omega arith))

piece_fault_lem : (l : List ℕ) → NoFeed l → frame_fault l ≡ 1
unfolding frame_fault
piece_fault_lem l none = rw (missing l none) (go (eqb (length l) 15))
  where
    go : (b : Bool) → or_else (cond b 0 1) 1 ≡ 1
    go true = refl
    go false = refl

piece_refused : (t : Table) (p : ℕ) (l : List ℕ) → NoFeed l → heard_fault t p l ≡ 1
unfolding heard_fault
piece_refused t p l none = rw (piece_fault_lem l none)

pub bag_frames : BagFrames
bag_frames =
    record {
      no_frame = no_frame;
      frame_ends = closed [];
      last_piece = λ l none some. unclosed [] l none (omega arith);
      piece_refused = piece_refused;
    }
