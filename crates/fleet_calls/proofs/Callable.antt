-- Calls can be made: for any lines, each over any slices of the table, on what the last one left. So no statement about calls is hollow.
use Prim.Native.Nat.{ℕ}
use mathlib.Core.Path.{◌≡◌, refl, ap}
use mathlib.Core.Bool.{cond}
use mathlib.Core.List.{List, [], ◌∷◌}
use lib.Dec.{eqb}
use lib.ListN.{length, set}
use Rattle.table.specs.Slices.{Slices, table_of}
use Rattle.probe_frame.specs.Frame.{frame_of}
use Rattle.wake_log.specs.Entry.{answer_of}
use Rattle.fleet_theory.specs.Fleet.{event_fault, entry_by, altered_by}
use Rattle.fleet_calls.specs.Calls.{SameTable, LoggedCall, LoggedLeft, left_by_logged, KeptLogged, LoggedCalls, logged_given, EventCall, EventLeft, left_by_event, KeptEvent, EventCalls, event_given, GivenLines}
use Rattle.fleet.proofs.Calls.{handled_is}

-- the call of a line that does what `event_logged` promises
abbrev pub made_logged : LoggedLeft → Slices → List ℕ → LoggedCall
made_logged b y l =
    let fault = event_fault y b.bytes b.used (length b.log) l in
    let entry = entry_by (table_of y) b.bytes (frame_of l) in
    record {
      slices = y;
      line = l;
      answer = answer_of fault entry;
      bytes = cond (eqb fault 0) (altered_by (table_of y) b.bytes (frame_of l)) b.bytes;
      log = cond (eqb fault 0) (set b.log b.used entry) b.log;
    }

abbrev made_event : ℕ → EventLeft → Slices → List ℕ → EventCall
made_event room b y l =
    let fault = event_fault y b.bytes b.used room l in
    record {
      slices = y;
      line = l;
      answer = answer_of fault (entry_by (table_of y) b.bytes (frame_of l));
      bytes = cond (eqb fault 0) (altered_by (table_of y) b.bytes (frame_of l)) b.bytes;
    }

pub made_kept : (x y : Slices) → SameTable y x → (b : LoggedLeft) (l : List ℕ) → KeptLogged x b (made_logged b y l)
made_kept x y same b l =
    let c = made_logged b y l in
    record {
      same_table = same;
      promise = record { handled = handled_is y b.used (length b.log) l c.answer b.bytes c.bytes refl refl; log_after = refl };
    }

made_event_kept : (x y : Slices) → SameTable y x → (room : ℕ) (b : EventLeft) (l : List ℕ) → KeptEvent x room b (made_event room b y l)
made_event_kept x y same room b l =
    let c = made_event room b y l in
    record { same_table = same; promise = handled_is y b.used room l c.answer b.bytes c.bytes refl refl }

module _ (x : Slices) where
  pub callable : (b : LoggedLeft) (gs : List (Slices × List ℕ)) → GivenLines x gs → (cs : List LoggedCall) × (logged_given cs ≡ gs) × LoggedCalls x b cs
  callable b [] k = ([], refl, tt)
  callable b ((y, l) ∷ gs) k =
      let c = made_logged b y l in
      let rest = callable (left_by_logged b c) gs k.1 in
      (c ∷ rest.0, ap (λ (hs : List (Slices × List ℕ)). (y, l) ∷ hs) rest.1, (made_kept x y k.0 b l, rest.2))

  pub event_callable : (room : ℕ) (b : EventLeft) (gs : List (Slices × List ℕ)) → GivenLines x gs → (cs : List EventCall) × (event_given cs ≡ gs) × EventCalls x room b cs
  event_callable room b [] k = ([], refl, tt)
  event_callable room b ((y, l) ∷ gs) k =
      let c = made_event room b y l in
      let rest = event_callable room (left_by_event b c) gs k.1 in
      (c ∷ rest.0, ap (λ (hs : List (Slices × List ℕ)). (y, l) ∷ hs) rest.1, (made_event_kept x y k.0 room b l, rest.2))
