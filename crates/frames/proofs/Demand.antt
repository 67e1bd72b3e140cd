-- What goes to both outputs is what is demanded in words, for an input of any length: `frames_demand`, and so of a run that fails nowhere: `turned_demand`. Assumes nothing.
use Prim.Native.Nat.{ℕ, ◌*◌, ◌/◌, ◌≤◌}
use native.Mathlib.Omega.{arith}
use mathlib.Core.Path.{◌≡◌, refl, ap, ◌∙◌, subst, sym}
use mathlib.Core.List.{List, [], ◌∷◌, ◌++◌, append-nil}
use lib.ListN.{length, replicate, length-replicate}
use Rattle.std.specs.Prelude.{Option, None, Some}
use Rattle.std.specs.Io.KnownBytes.{Appends}
use Rattle.refusal.specs.declared.Refusal.{Refusal}
use Rattle.refusal.specs.declared.Refusal.TheVariants.{BrokenFrame, TooManyFrames}
use Rattle.command.specs.Command.{pose_width}
use Rattle.listing.specs.Listing as Listing
use Rattle.listing.specs.Listing.{refusal_line}
use Rattle.telemetry.specs.Frames.{Bytes, frame_bytes, frames_in, command_bytes, import_leaves}
use Rattle.telemetry.proofs.Frames.{frames-broken, frames_many, frames_pass, import_passed}
use Rattle.claims_telemetry.specs.Import.{CommandsOfFrames}
use Rattle.claims_telemetry.proofs.Import.{import_demand}
use Rattle.frames.specs.Told.{refusal_of, output_by, error_by, output_of, error_of}
use Rattle.frames.specs.Turned.{ReadWhole, Turned}
use Rattle.frames.specs.Demand.{FramesDemand, RunDemand}
use Rattle.frames.proofs.Turning.{refused-output}

broken_line : refusal_line BrokenFrame ≡ 110 ∷ 111 ∷ 32 ∷ 49 ∷ 52 ∷ 32 ∷ 48 ∷ 10 ∷ []
unfolding refusal_line Listing.decimal_text Listing.decimal_within
broken_line = refl

many_line : refusal_line TooManyFrames ≡ 110 ∷ 111 ∷ 32 ∷ 49 ∷ 53 ∷ 32 ∷ 48 ∷ 10 ∷ []
unfolding refusal_line Listing.decimal_text Listing.decimal_within
many_line = refl

module _ (bytes : List ℕ) where
  -- An answer of the frames' own length.
  abbrev lent : List ℕ
  lent = replicate (pose_width * frames_in bytes) 0

  passed : refusal_of bytes ≡ None → (output_of bytes ≡ command_bytes bytes) × (error_of bytes ≡ [])
  unfolding output_by error_by
  passed e = (ap (λ (o : Option Refusal). output_by o (command_bytes bytes)) e, ap error_by e)

  pub frames_demand : FramesDemand bytes (output_of bytes) (error_of bytes)
  frames_demand = record {
    no_multiple =
        λ h.
        let told = refused-output bytes BrokenFrame (frames-broken (length bytes) (pose_width * frames_in bytes) (λ e. h (length bytes / frame_bytes) (omega arith))) in
        (told.0, told.1 ∙ broken_line);
    too_many =
        λ n e l.
        let told = refused-output bytes TooManyFrames (frames_many (length bytes) (pose_width * frames_in bytes) (omega arith) (omega arith)) in
        (told.0, told.1 ∙ many_line);
    turned =
        λ small n e few.
        let none : refusal_of bytes ≡ None = frames_pass (length bytes) (pose_width * frames_in bytes) (omega arith) (omega arith) refl in
        let long : length lent ≡ pose_width * frames_in bytes = length-replicate (pose_width * frames_in bytes) 0 in
        let done = (import_demand bytes lent).imported small n e few (omega (arith, long)) in
        let leaves : import_leaves bytes lent ≡ command_bytes bytes = (import_passed bytes lent (frames_pass (length bytes) (length lent) (omega arith) (omega arith) long)).1 in
        (subst (CommandsOfFrames bytes n) (leaves ∙ sym (passed none).0) done.1, (passed none).1);
  }

-- A run over memory that fails nowhere is what is demanded of it.
pub turned_demand : (input output error : List ℕ) (input' output' error' : Option (List ℕ)) → Turned (Some input) input' (Some output) output' (Some error) error'
    → RunDemand input output error output' error'
turned_demand input output error input' output' error' turned =
    let all = read_is input' turned.all turned.read in
    record {
      commands = output_of input;
      line = error_of input;
      output_is = appended output output' (output_of input) (subst (λ (l : List ℕ). Appends (Some output) output' (output_of l)) all turned.to_output);
      error_is = appended error error' (error_of input) (subst (λ (l : List ℕ). Appends (Some error) error' (error_of l)) all turned.to_error);
      demand = frames_demand input;
      of_bytes = subst (λ (l : List ℕ). length l ≤ 30720 → Bytes l) all turned.of_bytes;
    }
  where
    read_is : (new : Option (List ℕ)) (all : List ℕ) → ReadWhole (Some input) new all → all ≡ input
    read_is None all read = absurd read.0
    read_is (Some rest) all read = sym (read.0 ∙ ap (λ (l : List ℕ). all ++ l) read.1 ∙ append-nil all)

    appended : (held : List ℕ) (after : Option (List ℕ)) (more : List ℕ) → Appends (Some held) after more → after ≡ Some (held ++ more)
    appended held None more puts = absurd puts
    appended held (Some now) more puts = ap Some puts
