use mathlib.Core.Path.{◌≡◌}
use mathlib.Core.List.{List}
use Prim.Native.Nat.{ℕ, ◌+◌, ◌-◌, ◌≤◌, ◌<◌}
use native.Mathlib.Numerals.{add-one}
use native.Mathlib.Omega.{arith}
use lib.ListN.{length, get_or, drop, drop_of_length-le}
use lib.Seq.{drop-cons}
use borrow.Author.Tests.{lt-ltb, le-ltb, eq-eqb, ne_eqb}
use Rattle.lines.specs.Line.{until_feed, line_at}
use Rattle.lines.proofs.find_line.Goals as goal

-- the count from an offset where a line feed stands, where another byte does, and at the end
here : (s : List ℕ) (i : ℕ) → i < length s → get_or s i 0 ≡ 10 → until_feed (drop i s) ≡ 0
unfolding until_feed
here s i h e = rw (drop-cons s i 0 h, eq-eqb _ _ e)

past : (s : List ℕ) (i : ℕ) → i < length s → (get_or s i 0 ≡ 10 → ⊥) → until_feed (drop i s) ≡ 1 + until_feed (drop (i + 1) s)
unfolding until_feed
past s i h e = rw (add-one i, drop-cons s i 0 h, ne_eqb _ _ e) (omega arith)

none : (s : List ℕ) (i : ℕ) → length s ≤ i → until_feed (drop i s) ≡ 0
unfolding until_feed
none s i h = rw (drop_of_length-le s h)

pub returns-then-text-i-eq10 : goal.returns-then-text-i-eq10
unfolding line_at
returns-then-text-i-eq10 c =
    let z = here _ _ c.loop-i-test.true c.if-text-i-eq10.true in
    let e : c.args.at + until_feed (drop c.args.at c.args.text.now) ≡ c.loop-i.i = omega arith in
    let n : until_feed (drop c.args.at c.args.text.now) ≡ c.loop-i.i - c.args.at = omega arith in
    rw (e, lt-ltb _ _ c.loop-i-test.true, n)

pub loop-i-preserved : goal.loop-i-preserved
loop-i-preserved c = let z = past _ _ c.loop-i-test.true c.if-text-i-eq10.false in omega arith

pub returns : goal.returns
unfolding line_at
returns c =
    let z = none _ _ c.loop-i-test.false in
    let l : length c.args.text.now ≤ c.args.at + until_feed (drop c.args.at c.args.text.now) = omega arith in
    rw (le-ltb _ _ l)
