-- `listing::lines::put_view` meets its contract: the word, one field and the pose, one behind the other. Assumes nothing.
use native.Mathlib.Omega.{arith}
use Rattle.arithmetic.specs.Pose.{flat}
use Rattle.listing.specs.Listing.{view_line}
use Rattle.putting.proofs.Putting.{puts_then, puts_length}
use Rattle.listing.proofs.Digits.{length_small}
use Rattle.listing.proofs.Fields.{length_fields_text}
use Rattle.listing.proofs.lines.put_view.Goals as goal

pub put_number-requires : goal.put_number-requires
put_number-requires c = omega (arith, puts_length, length_small)

pub put_pose-requires : goal.put_pose-requires
put_pose-requires c = omega (arith, puts_length, length_small)

pub returns-clause-put : goal.returns-clause-put
unfolding view_line
returns-clause-put c = rw c.from.ensures at (puts_then c.put_byte.ensures (puts_then c.put_number.ensures c.put_pose.ensures))

pub returns-clause-upper_bound : goal.returns-clause-upper_bound
returns-clause-upper_bound c = omega (arith, length_small, length_fields_text (flat c.args.pose))
