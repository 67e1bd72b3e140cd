-- `put_commands` meets its contract: each part of the file is a frame, and after the last the lent bytes are full. Assumes nothing.
use native.Mathlib.Omega.{arith}
use mathlib.Core.Path.{ap, ◌∙◌}
use mathlib.Core.List.{List, []}
use lib.ListN.{get_or}
use Prim.Native.Nat.{ℕ}
use Rattle.command.proofs.LowBytes.{length_place_bytes}
use Rattle.telemetry.specs.Frames.{frame_bytes, frames_in}
use Rattle.telemetry.proofs.Frames.{puts_frame, get_or-first_chunks}
use Rattle.telemetry.proofs.put_commands.Goals as goal

pub loop-frame-preserved : goal.loop-frame-preserved
loop-frame-preserved c =
    let l = c.loop-frame in
    let put = c.put_pose_command.ensures in
    let frames = c.args.frames.now in
    let frame = get_or c.as_chunks.result.0.now l.frame-index [] in
    let is = ap (λ (packed : List (List ℕ)). get_or packed l.frame-index []) c.as_chunks.ensures.front ∙ get_or-first_chunks frame_bytes (frames_in frames) l.frame-index frames [] (omega arith) in (
      omega (arith, put.put.behind, length_place_bytes),
      puts_frame frames l.frame-index frame _ is c.read_packed.ensures.value l.invariant.1 put,
    )
