-- What the searches over maps find: the same links as those over bytes.
use Prim.Native.Nat.{ℕ}
use mathlib.Core.Path.{◌≡◌, refl, sym}
use mathlib.Core.Bool.{Bool, true, false, cond, ◌&&◌, ◌||◌, not}
use lib.Dec.{eqb}
use borrow.Author.Tests.{lt-ltb}
use Rattle.range.specs.Choice.{best}
use Rattle.range.proofs.Choice.{best_of_same}
use Rattle.bit_maps.specs.BitMap.{bit}
use Rattle.table.specs.Table.{Table, dearer, cheaper}
use Rattle.probe_record.specs.Record.{outbound, inbound, own_with, dearest_untried, cheapest_held}
use Rattle.probe_maps.specs.Maps.{Maps, bytes_of, is_own}
use Rattle.probe_maps.specs.GoodMaps.{GoodMaps}
use Rattle.probe_maps.proofs.Rounds.{out_is, is_held}
use Rattle.probe_maps.proofs.Bits.{own_bit}

pub zero_byte : (a b : Bool) → eqb (cond a 1 (cond b 2 0)) 0 ≡ not (a || b)
zero_byte true b = refl
zero_byte false true = refl
zero_byte false false = refl

module _ (t : Table) (p : ℕ) (m : Maps) (g : GoodMaps t p m) where
  pub untried_is : dearest_untried t p (bytes_of t.links m)
      ≡ best (dearer t) (λ i. is_own t p i && not (bit m.standing i || bit m.refused_out i)) t.links t.links
  untried_is =
      best_of_same (dearer t) (dearer t) (own_with t p (outbound (bytes_of t.links m)) 0) (λ i. is_own t p i && not (bit m.standing i || bit m.refused_out i)) t.links t.links
      (λ i l. rw (out_is t.links m i l, lt-ltb i t.links l, zero_byte (bit m.standing i) (bit m.refused_out i))) (λ i j l k. refl)

  pub cheapest_is : cheapest_held t p (bytes_of t.links m) ≡ best (cheaper t) (bit m.held) t.links t.links
  cheapest_is =
      best_of_same (cheaper t) (cheaper t) (own_with t p (inbound (bytes_of t.links m)) 1) (bit m.held) t.links t.links
      (λ i l. sym (own_bit t p m.held (inbound (bytes_of t.links m)) g.own_held (is_held t.links m g.sound) i)) (λ i j l k. refl)
