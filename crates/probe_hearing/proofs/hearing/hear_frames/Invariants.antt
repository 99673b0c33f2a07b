-- Invariant: the maps are good and the own links as at first; the frames left, from the maps now, leave what all leave from the first.
use mathlib.Core.Path.{◌≡◌}
use mathlib.Core.List.{map}
use lib.ListN.{length, take}
use Rattle.probe_maps.specs.Maps.{rows}
use Rattle.probe_hearing.specs.PackedEvents.{unpacked_event}
use Rattle.probe_hearing.proofs.HeardSoFar.{HeardSoFar}
use Rattle.table.specs.Slices.{as_slices, table_of}
use Rattle.probe_hearing.proofs.hearing.hear_frames.Given as goal

abbrev pub invariant-loop-n : goal.invariant-loop-n
invariant-loop-n l =
    (l.own ≡ l.initial.own)
    × HeardSoFar (table_of (as_slices l.table)) l.probe (map unpacked_event (take l.count l.said)) (rows l.initial.standing l.initial.refused_out l.initial.held l.initial.refused_in) l.initial.entries (rows l.standing l.refused_out l.held l.refused_in) l.entries l.n
    × (length l.standing ≡ length l.initial.standing) × (length l.refused_out ≡ length l.initial.refused_out) × (length l.held ≡ length l.initial.held) × (length l.refused_in ≡ length l.initial.refused_in)
