-- The rows of `Rows` hold, by computing with the definitions: what is told of each list is what its row says. Assumes nothing.
use mathlib.Core.Path.{◌≡◌, refl}
use lib.Ieee.{of_bits}
use Rattle.arithmetic.specs.Pose.{finite_pose}
use Rattle.refusal.specs.Table.{refuse_if, refuse_at, or_else, first_of}
use Rattle.lists.specs.Finding.{lowest}
use Rattle.averaging.specs.Entry.{lowest_not_finite, average_refusal}
use Rattle.averaging.specs.Rows.{all_told, all_said, rows}

pub rows_tell : all_told rows ≡ all_said rows
unfolding rows all_told all_said average_refusal first_of refuse_if refuse_at or_else lowest_not_finite lowest finite_pose of_bits
rows_tell = refl
