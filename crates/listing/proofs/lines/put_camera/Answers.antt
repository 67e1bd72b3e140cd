-- `listing::lines::put_camera` meets its contract: the word, three fields and the pose, one behind the other. Assumes nothing.
use native.Mathlib.Omega.{arith}
use Rattle.arithmetic.specs.Pose.{flat}
use Rattle.listing.specs.Listing.{camera_line}
use Rattle.putting.proofs.Putting.{puts_then, puts_length}
use Rattle.listing.proofs.Digits.{length_small}
use Rattle.listing.proofs.Fields.{length_fields_text}
use Rattle.listing.proofs.lines.put_camera.Goals as goal

pub put_number-requires : goal.put_number-requires
put_number-requires c = omega (arith, puts_length, length_small)

pub put_number-requires-2 : goal.put_number-requires-2
put_number-requires-2 c = omega (arith, puts_length, length_small)

pub put_number-requires-3 : goal.put_number-requires-3
put_number-requires-3 c = omega (arith, puts_length, length_small)

pub put_pose-requires : goal.put_pose-requires
put_pose-requires c = omega (arith, puts_length, length_small)

pub returns-clause-put : goal.returns-clause-put
unfolding camera_line
returns-clause-put c =
    rw (c.from.ensures, c.from-2.ensures, c.from-3.ensures) at
    (puts_then c.put_byte.ensures (puts_then c.put_number.ensures (puts_then c.put_number-2.ensures (puts_then c.put_number-3.ensures c.put_pose.ensures))))

pub returns-clause-upper_bound : goal.returns-clause-upper_bound
returns-clause-upper_bound c = omega (arith, length_small, length_fields_text (flat c.args.pose))
