-- What befalls an end, by the numbers of a pass.
use Prim.Native.Nat.{ℕ, ◌-◌, ◌≤◌, ◌<◌}
use mathlib.Core.Path.{◌≡◌, sym, ◌∙◌, ap}
use mathlib.Core.Bool.{true, false}
use mathlib.Core.List.{List}
use borrow.Author.Tests.{lt-ltb, le-ltb}
use Rattle.table.specs.Table.{Table, degree, spare, dearer, cheaper}
use Rattle.table.proofs.Needs.{spare_given}
use Rattle.probe_record.specs.Record.{outbound, inbound, standing, held, dearest_untried, cheapest_held}
use Rattle.probe_rules.specs.declared.Outcome.TheVariants.{Opened, Enough, Taken, TakenDisplacing, Refused, AllTried}
use Rattle.probe_rules.specs.Rules.{opening, offer}
use Rattle.fleet_rules.specs.Survey.{Surveyed}
use Rattle.fleet_rules.specs.declared.Survey.{Survey}

-- the spare, by the probe's number of links
pub spare_counted : (t : Table) (p d n : ℕ) → d ≡ degree t p → n ≡ d - t.need p → spare t p ≡ n
spare_counted t p d n e k = spare_given t p ∙ ap (λ (x : ℕ). x - t.need p) (sym e) ∙ sym k

module _ (t : Table) (p : ℕ) (e : List ℕ) (s : Survey) (n : ℕ) (spare_is : spare t p ≡ n) where
  module _ (g : Surveyed t p (outbound e) (dearer t) 0 t.links s) where
    standing_is : standing t p e ≡ s.count
    standing_is = sym g.ones

    dearest_is : dearest_untried t p e ≡ s.best
    dearest_is = sym g.chosen

    pub opening_full : n ≤ s.count → Enough ≡ opening t p e
    opening_full l = rw (standing_is, spare_is, le-ltb s.count n l)

    pub opening_none : s.count < n → t.links ≤ s.best → AllTried ≡ opening t p e
    opening_none l m = rw (standing_is, spare_is, dearest_is, lt-ltb s.count n l, le-ltb s.best t.links m)

    pub opening_one : s.count < n → s.best < t.links → Opened s.best ≡ opening t p e
    opening_one l m = rw (standing_is, spare_is, dearest_is, lt-ltb s.count n l, lt-ltb s.best t.links m)

  module _ (g : Surveyed t p (inbound e) (cheaper t) 1 t.links s) (i : ℕ) where
    held_is : held t p e ≡ s.count
    held_is = sym g.ones

    cheapest_is : cheapest_held t p e ≡ s.best
    cheapest_is = sym g.chosen

    pub offer_taken : s.count < n → Taken i ≡ offer t p e i
    offer_taken l = rw (held_is, spare_is, lt-ltb s.count n l)

    pub offer_none : n ≤ s.count → t.links ≤ s.best → Refused i ≡ offer t p e i
    offer_none l m = rw (held_is, spare_is, cheapest_is, le-ltb s.count n l, le-ltb s.best t.links m)

    pub offer_displacing : n ≤ s.count → s.best < t.links → dearer t i s.best ≡ true → TakenDisplacing i s.best ≡ offer t p e i
    offer_displacing l m d = rw (held_is, spare_is, cheapest_is, le-ltb s.count n l, lt-ltb s.best t.links m, d)

    pub offer_refused : n ≤ s.count → s.best < t.links → dearer t i s.best ≡ false → Refused i ≡ offer t p e i
    offer_refused l m d = rw (held_is, spare_is, cheapest_is, le-ltb s.count n l, lt-ltb s.best t.links m, d)
