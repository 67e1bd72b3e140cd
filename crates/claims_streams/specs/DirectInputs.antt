-- The direct call that a session stands for, by document 01: "Solve answers as the direct call would on the grid that masks and buffer
-- hold". Its counts, marks and floats, and its outcome as a reply. Rests on the direct call of `extrinsics` and the record of `Session`.
use Rattle.std.specs.Prelude.{ℕ, ◌+◌, ◌*◌, ◌/◌, ◌%◌, ◌≡◌, cond, List, get_or, replicate, Float}
use Rattle.arithmetic.specs.Pose.{flat, pose_at}
use Rattle.lists.specs.Masks.{in_mask}
use Rattle.lists.specs.Lists.{tabulate, gather}
use Rattle.extrinsics.specs.Direct.{Direct}
use Rattle.extrinsics.specs.Outcome.{Outcome}
use Rattle.session_commands.specs.Obeyed.{State}
use Rattle.claims_streams.specs.Stream.{Answer}
use Rattle.session_record.specs.declared.Session.{Session}
use Rattle.session_commands.specs.Reply.{Reply}
use Rattle.std.specs.Prelude.{Err, Ok}
use Rattle.session_commands.specs.declared.Done.TheVariants.{Solved}

-- "per view, a 32-bit camera count"
unfoldable pub counts_of : Session → List ℕ
counts_of s = replicate s.views s.cameras

-- "a byte mark per cell (0 empty, 1 pose), view after view": by the bits of the masks.
unfoldable pub marks_of : Session → List ℕ
marks_of s = tabulate (s.views * s.cameras) (λ i. cond (in_mask (get_or s.masks (i % s.cameras) 0) (i / s.cameras)) 1 0)

-- "seven floats per cell": those of the buffer "from 7 × (view × 16 + camera)".
unfoldable pub floats_of : Session → List Float → List Float
floats_of s buffer = gather (s.views * s.cameras) (λ i. flat (pose_at buffer (7 * (i / s.cameras * 16 + i % s.cameras))))

-- What the session replies where the direct call comes to that outcome.
unfoldable pub reply_of : Outcome → Reply
reply_of (Err r) = Err r
reply_of (Ok tt) = Ok Solved

-- An answer in a state is the direct call's: some outcome of it, the reply that says so, and both answers as that call leaves them;
-- nothing else changes.
pub record AsDirect (t : State) (a : Answer) : Type 0 where
  pub outcome : Outcome
  pub direct :
      Direct (counts_of t.session) (marks_of t.session) (floats_of t.session t.buffer) t.session.reference t.first t.second
      outcome a.after.first a.after.second
  pub reply : a.reply ≡ reply_of outcome
  pub same_session : a.after.session ≡ t.session
  pub same_buffer : a.after.buffer ≡ t.buffer
