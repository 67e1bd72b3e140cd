-- Every edit is lawful. Assumes nothing.
use Rattle.command.specs.Command.{Edit, size, place, withdraw}
use Rattle.claims_streams.proofs.Edits.Law.{EditLaw}
use Rattle.claims_streams.proofs.Edits.Size.{size_law}
use Rattle.claims_streams.proofs.Edits.Pose.{place_law}
use Rattle.claims_streams.proofs.Edits.Withdraw.{withdraw_law}

pub edit_law : (change : Edit) → EditLaw change
edit_law (size views cameras reference) = size_law views cameras reference
edit_law (place view camera p) = place_law view camera p
edit_law (withdraw view camera) = withdraw_law view camera
