-- What an opening says that opens nothing: by cases of what befell the end, on a record that 22 lets pass.
use Prim.Native.Nat.{ℕ, ◌*◌}
use mathlib.Core.Path.{◌≡◌, refl, sym, ◌∙◌, ap}
use mathlib.Core.Logic.{inl, inr}
use mathlib.Core.List.{List}
use native.Mathlib.Omega.{arith}
use lib.Seq.{get_or-set_same}
use Rattle.range.specs.First.{or_else}
use Rattle.range.proofs.Faults.{or_right}
use Rattle.table.specs.Table.{Table, item}
use Rattle.table.specs.Legal.{Legal}
use Rattle.probe_record.proofs.Bytes.{GoodRecord}
use Rattle.wake_log.specs.declared.Entry.{Entry}
use Rattle.wake_log.specs.declared.Answer.TheVariants.{Logged}
use Rattle.wake_log.proofs.Answers.{logged_is}
use Rattle.probe_rules.specs.declared.Event.TheVariants.{Opening}
use Rattle.probe_rules.specs.declared.Outcome.{Outcome}
use Rattle.probe_rules.specs.declared.Outcome.TheVariants.{Opened}
use Rattle.probe_rules.specs.Rules.{befalls, alter, what_of, entry_of}
use Rattle.probe_rules.proofs.Befalls.{Befell, opened, enough, all_tried, befell}
use Rattle.probe_rules.proofs.OutcomeLaws.{befalls_within}
use Rattle.probe_maps.specs.Maps.{Maps, AllWords, bytes_of, maps_fault}
use Rattle.probe_maps.specs.MapRules.{alter_maps}
use Rattle.probe_maps.proofs.Faults.{good_maps, maps_good_record, turns_back}
use Rattle.probe_maps.proofs.SameAltered.{bytes_altered}
use Rattle.probe_checks.specs.Checks.{open_fault}
use Rattle.probe_checks.proofs.Accepted.{open_parts}
use Rattle.probe.specs.Answers.{Befallen}
use Rattle.probe.proofs.Answers.{befallen_answer}
use Rattle.probe_theory.specs.EndLaws.{OpensNothing}

pub unaltered_says : (t : Table) (p : ℕ) (e : List ℕ) → GoodRecord t p e → {o : Outcome} → Befell t p e Opening o → alter o e ≡ e → OpensNothing t p e (what_of t p o)
unaltered_says t p e good (opened i a z m h) s =
    let n = good.size in
    let l = a.0 in
    let one : item (alter (Opened i) e) (2 * i) ≡ 1 = get_or-set_same e (2 * i) 1 0 (omega arith) in
    let still : item (alter (Opened i) e) (2 * i) ≡ item e (2 * i) = ap (λ (x : List ℕ). item x (2 * i)) s in
    absurd (omega arith)
unaltered_says t p e good (enough m) s =
    let f = good.standing_fits in
    record {
      one_of_two = inl refl;
      says_01 = (λ c. omega arith, λ c. refl);
      says_07 = (λ c. absurd (omega arith), λ l. absurd (omega arith));
      none_untried = λ c. absurd (omega arith);
    }
unaltered_says t p e good (all_tried m h) s =
    record {
      one_of_two = inr refl;
      says_01 = (λ c. absurd (omega arith), λ c. absurd (omega arith));
      says_07 = (λ c. m, λ l. refl);
      none_untried = λ c. h;
    }

pub opens_nothing : (t : Table) → Legal t → (p slices free : ℕ) (m : Maps) (entry : Entry) → AllWords m
    → Befallen (open_fault (or_else slices (maps_fault t p m)) t p free) t p Opening (Logged entry) m m → OpensNothing t p (bytes_of t.links m) entry.what
opens_nothing t legal p slices free m entry words b = go (logged_is fault (entry_of t p o) entry (sym (befallen_answer b)))
  where
    fault : ℕ
    fault = open_fault (or_else slices (maps_fault t p m)) t p free

    e : List ℕ
    e = bytes_of t.links m

    o : Outcome
    o = befalls t p Opening e

    go : (fault ≡ 0) × (entry_of t p o ≡ entry) → OpensNothing t p e entry.what
    go (none, s) =
        let passes = or_right slices (maps_fault t p m) (open_parts (or_else slices (maps_fault t p m)) t p free none).0 in
        let good = maps_good_record t p m (good_maps t p m words passes) in
        let same = (turns_back t p).maps_back m words passes in
        let after : alter_maps t.links o m ≡ m = sym (rw none at b.maps_after_lem) in
        let still : alter o e ≡ e = sym (bytes_altered t.links m e same o (befalls_within t p Opening e tt)) ∙ ap (bytes_of t.links) after in
        rw (← s) (unaltered_says t p e good (befell t legal p e Opening tt) still)
