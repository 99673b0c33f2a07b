-- The marked sites M1 to M11, the script of M4, openings that open nothing (02, No. 3), restarts (02, No. 2) and lines that are turned down: document 01, "Sites to compare", "Programs" and "Turned down for the state".
use Rattle.std.specs.Prelude.{ℕ, ◌≡◌, true, List, [], ◌∷◌, ◌++◌, length, take}
use Rattle.plan_theory.specs.Sites.{site, row, Sites}
use Rattle.probe_frame.specs.Frame.{frame_line}
use Rattle.wake_log.specs.declared.Entry.{Entry}
use Rattle.wake_log.specs.declared.What.{What}
use Rattle.wake_log.specs.declared.What.TheVariants as what
use Rattle.wake_log.specs.declared.Answer.TheVariants.{Refused}
use Rattle.fleet_theory.specs.Fleet.{State, start, answer_to, run, all_changes, finished}
use Rattle.table.specs.Slices.{Slices, table_of, slices_fault}

-- table 1 by its needs and its links' low ends, high ends and costs
abbrev pub slices : List ℕ → List ℕ → List ℕ → List ℕ → Slices
slices needs lows highs costs =
    record { number = 1; probes = length needs; links = length costs; needs = needs; lows = lows; highs = highs; costs = costs }

abbrev pub m2_in_slices : Slices
m2_in_slices = slices (0 ∷ 1 ∷ 1 ∷ 0 ∷ []) (0 ∷ 1 ∷ 2 ∷ []) (1 ∷ 2 ∷ 3 ∷ []) (5 ∷ 6 ∷ 5 ∷ [])

abbrev pub m4_in_slices : Slices
m4_in_slices = slices (0 ∷ 0 ∷ []) (0 ∷ []) (1 ∷ []) (7 ∷ [])

-- the line of a frame of table 1
abbrev pub line : ℕ → ℕ → ℕ → List ℕ
line kind from to = frame_line record { kind = kind; number = 1; from = from; to = to }

-- "Kind 01 is an offer, 02 a refusal; .. 00, an opening, with from and to the same probe"
abbrev pub opening_line : ℕ → List ℕ
opening_line p = line 0 p p

abbrev pub offer_line : ℕ → ℕ → List ℕ
offer_line p q = line 1 p q

abbrev pub refusal_frame : ℕ → ℕ → List ℕ
refusal_frame p q = line 2 p q

-- 02, No. 2: "Script kind 03, with from and to the same"
abbrev pub restart_line : ℕ → List ℕ
restart_line p = line 3 p p

abbrev pub entry : ℕ → What → Entry
entry p w = record { probe = p; what = w }

-- "Its log has 1,024 entries."
abbrev pub after_lines : Slices → List (List ℕ) → State
after_lines x lines = run x 1024 (start x) lines

-- a legal table, and the entries, the finish and the changes of a list of lines, none turned down
pub record SampleScript (x : Slices) (lines : List (List ℕ)) (entries : List Entry) (total : ℕ) : Type 0 where
  pub table_legal : slices_fault x ≡ 0
  pub entries_logged : (after_lines x lines).log ≡ entries
  pub says_finished : finished (table_of x) (after_lines x lines).bytes ≡ true
  pub changes_made : all_changes x 1024 (start x) lines ≡ total

-- "0 opens and 1 takes it; 1 opens and 2 takes it; 2 opens and 1 takes it, displacing 0, which learns it; 3 opens, 2 refuses, 3 learns it."
abbrev pub m11_lines : List (List ℕ)
m11_lines =
    opening_line 0 ∷ offer_line 0 1
    ∷ opening_line 1 ∷ offer_line 1 2
    ∷ opening_line 2 ∷ offer_line 2 1 ∷ refusal_frame 1 0
    ∷ opening_line 3 ∷ offer_line 3 2 ∷ refusal_frame 2 3
    ∷ []

abbrev pub m11_entries : List Entry
m11_entries =
    entry 0 (what.Opened 0) ∷ entry 1 (what.Taken 0)
    ∷ entry 1 (what.Opened 1) ∷ entry 2 (what.Taken 1)
    ∷ entry 2 (what.Opened 1) ∷ entry 1 (what.TakenDisplacing 1 0) ∷ entry 0 (what.RefusalLearnt 0)
    ∷ entry 3 (what.Opened 2) ∷ entry 2 (what.Refused 2) ∷ entry 3 (what.RefusalLearnt 2)
    ∷ []

-- "the script lines `00000100000000`, `01000100000001`, `00000100010001`, `01000100010000`"
abbrev pub m4_lines : List (List ℕ)
m4_lines = opening_line 0 ∷ offer_line 0 1 ∷ opening_line 1 ∷ offer_line 1 0 ∷ []

abbrev pub m4_entries : List Entry
m4_entries = entry 0 (what.Opened 0) ∷ entry 1 (what.Taken 0) ∷ entry 1 (what.Opened 0) ∷ entry 0 (what.Taken 0) ∷ []

-- 02, No. 3, after M11: the only links of 0 and 3 are refused, while 1 and 2 have as many standing as their spare, each 1
abbrev pub m11_openings_lines : List (List ℕ)
m11_openings_lines = m11_lines ++ (opening_line 0 ∷ opening_line 1 ∷ opening_line 2 ∷ opening_line 3 ∷ [])

abbrev pub m11_openings_entries : List Entry
m11_openings_entries = m11_entries ++ (entry 0 what.AllTried ∷ entry 1 what.Enough ∷ entry 2 what.Enough ∷ entry 3 what.AllTried ∷ [])

-- two probes that both need their one link: spare 0
abbrev pub both_need_slices : Slices
both_need_slices = slices (1 ∷ 1 ∷ []) (0 ∷ []) (1 ∷ []) (7 ∷ [])

-- probe 0 offers both its links; 1 takes and 2, which needs its link, refuses: one stands of spare 2
abbrev pub one_refused_slices : Slices
one_refused_slices = slices (0 ∷ 0 ∷ 1 ∷ []) (0 ∷ 0 ∷ []) (1 ∷ 2 ∷ []) (5 ∷ 6 ∷ [])

abbrev pub one_refused_lines : List (List ℕ)
one_refused_lines =
    opening_line 0 ∷ offer_line 0 2 ∷ refusal_frame 2 0
    ∷ opening_line 0 ∷ offer_line 0 1 ∷ opening_line 0
    ∷ opening_line 1 ∷ offer_line 1 0 ∷ opening_line 1 ∷ opening_line 2
    ∷ []

abbrev pub one_refused_entries : List Entry
one_refused_entries =
    entry 0 (what.Opened 1) ∷ entry 2 (what.Refused 1) ∷ entry 0 (what.RefusalLearnt 1)
    ∷ entry 0 (what.Opened 0) ∷ entry 1 (what.Taken 0) ∷ entry 0 what.AllTried
    ∷ entry 1 (what.Opened 0) ∷ entry 0 (what.Taken 0) ∷ entry 1 what.Enough ∷ entry 2 what.Enough
    ∷ []

-- a late frame, on two probes of which 1 needs their link: 0 offers, 1 restarts, and its refusal, sent before, is learnt; then the offer, sent before, comes again
abbrev pub late_slices : Slices
late_slices = slices (0 ∷ 1 ∷ []) (0 ∷ []) (1 ∷ []) (1 ∷ [])

abbrev pub late_lines : List (List ℕ)
late_lines = opening_line 0 ∷ offer_line 0 1 ∷ restart_line 1 ∷ refusal_frame 1 0 ∷ []

abbrev pub late_entries : List Entry
late_entries = entry 0 (what.Opened 0) ∷ entry 1 (what.Refused 0) ∷ entry 1 what.Restarted ∷ entry 0 (what.RefusalLearnt 0) ∷ []

-- M11 with a restart of every probe after its sixth line. 0 then learns the refusal, sent before, of a link that it has not tried; its old offer is taken and displaced anew.
abbrev pub restarted_lines : List (List ℕ)
restarted_lines =
    take 6 m11_lines
    ++ (restart_line 0 ∷ restart_line 1 ∷ restart_line 2 ∷ restart_line 3
    ∷ refusal_frame 1 0 ∷ opening_line 0 ∷ offer_line 0 1
    ∷ opening_line 1 ∷ offer_line 1 2
    ∷ opening_line 2 ∷ offer_line 2 1
    ∷ opening_line 3 ∷ offer_line 3 2 ∷ refusal_frame 2 3
    ∷ [])

abbrev pub restarted_entries : List Entry
restarted_entries =
    take 6 m11_entries
    ++ (entry 0 what.Restarted ∷ entry 1 what.Restarted ∷ entry 2 what.Restarted ∷ entry 3 what.Restarted
    ∷ entry 0 (what.RefusalLearnt 0) ∷ entry 0 what.AllTried ∷ entry 1 (what.Taken 0)
    ∷ entry 1 (what.Opened 1) ∷ entry 2 (what.Taken 1)
    ∷ entry 2 (what.Opened 1) ∷ entry 1 (what.TakenDisplacing 1 0)
    ∷ entry 3 (what.Opened 2) ∷ entry 2 (what.Refused 2) ∷ entry 3 (what.RefusalLearnt 2)
    ∷ [])

-- lines turned down by their refusal alone, on M2: fresh, or after M11
pub record LineRefusals : Type 0 where
  pub cut_line : answer_to m2_in_slices 1024 (start m2_in_slices) (take 14 (opening_line 0)) ≡ Refused 1
  pub capital_digit : answer_to m2_in_slices 1024 (start m2_in_slices) (take 13 (opening_line 0) ++ (65 ∷ 10 ∷ [])) ≡ Refused 2
  pub other_kind : answer_to m2_in_slices 1024 (start m2_in_slices) (line 4 0 0) ≡ Refused 9
  pub other_table : answer_to m2_in_slices 1024 (start m2_in_slices) (frame_line record { kind = 0; number = 2; from = 0; to = 0 }) ≡ Refused 23
  pub no_probe : answer_to m2_in_slices 1024 (start m2_in_slices) (opening_line 4) ≡ Refused 24
  pub two_ends : answer_to m2_in_slices 1024 (start m2_in_slices) (line 0 0 1) ≡ Refused 24
  pub restart_of_two : answer_to m2_in_slices 1024 (start m2_in_slices) (line 3 0 1) ≡ Refused 24
  pub no_link : answer_to m2_in_slices 1024 (start m2_in_slices) (offer_line 0 2) ≡ Refused 24
  pub never_offered : answer_to m2_in_slices 1024 (after_lines m2_in_slices m11_lines) (offer_line 1 0) ≡ Refused 27
  pub never_refused : answer_to m2_in_slices 1024 (after_lines m2_in_slices m11_lines) (refusal_frame 2 1) ≡ Refused 27
  pub restart_on_full_log : answer_to m2_in_slices 0 (start m2_in_slices) (restart_line 0) ≡ Refused 26
  pub full_log : answer_to m2_in_slices 0 (start m2_in_slices) (opening_line 0) ≡ Refused 26

-- `m2_table`, `m4_table`: the tables are those of M2 and M4
pub record Samples : Type 0 where
  pub m1_to_m10 : Sites
  pub m2_table : table_of m2_in_slices ≡ row (5 ∷ 6 ∷ 5 ∷ [])
  pub m11 : SampleScript m2_in_slices m11_lines m11_entries 11
  pub m11_openings : SampleScript m2_in_slices m11_openings_lines m11_openings_entries 11
  pub spare_none : SampleScript both_need_slices (opening_line 0 ∷ []) (entry 0 what.Enough ∷ []) 0
  pub one_refused : SampleScript one_refused_slices one_refused_lines one_refused_entries 7
  pub late : SampleScript late_slices late_lines late_entries 3
  pub late_again : SampleScript late_slices (late_lines ++ (offer_line 0 1 ∷ [])) (late_entries ++ (entry 1 (what.Refused 0) ∷ [])) 4
  pub m11_restarted : SampleScript m2_in_slices restarted_lines restarted_entries 17
  pub refusals : LineRefusals
  pub m4_table : table_of m4_in_slices ≡ site (0 ∷ 0 ∷ []) (0 ∷ []) (1 ∷ []) (7 ∷ [])
  pub m4_script : SampleScript m4_in_slices m4_lines m4_entries 4
