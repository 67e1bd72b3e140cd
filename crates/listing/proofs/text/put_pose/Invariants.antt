-- `listing::text::put_pose` meets its contract. The loop's invariant: the fields so far are put, one behind the other. Assumes nothing.
use lib.ListN.{take}
use Rattle.std.specs.List.{flat_map}
use Rattle.putting.specs.Putting.{Puts}
use Rattle.listing.proofs.Fields.{float_field}
use Rattle.listing.proofs.text.put_pose.Given as goal

abbrev pub invariant-loop-number : goal.invariant-loop-number
invariant-loop-number l = Puts l.initial.writer (flat_map float_field (take l.number-index l.number-items)) l.writer
