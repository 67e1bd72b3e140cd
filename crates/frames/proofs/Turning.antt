-- What stands for an input: a read of more, a length in place of a longer one, and what both outputs gain. Assumes nothing.
use Prim.Native.Nat.{ℕ, ◌+◌, ◌*◌, ◌%◌, ◌≤◌, ◌<◌}
use native.Mathlib.Decide.{ℕ_discrete, dec_le}
use native.Mathlib.Nat.{add-zero}
use native.Mathlib.Omega.{arith}
use mathlib.Core.Path.{◌≡◌, sym, ap, ◌∙◌, subst}
use mathlib.Core.List.{List, [], ◌++◌}
use lib.ListN.{length, take, length-append}
use lib.Seq.{length-take-le}
use Rattle.std.specs.Prelude.{Option, None, Some, Result, Ok, Err}
use Rattle.std.specs.Io.KnownBytes.{Appends, Consumes, IsAtEnd}
use Rattle.std.proofs.KnownBytes.{Appends-nil, Consumes-trans, Keeps-refl}
use Rattle.std.specs.declared.io.Error.{Error}
use Rattle.refusal.specs.declared.Refusal.{Refusal}
use Rattle.refusal.specs.declared.Refusal.TheVariants.{BrokenFrame, TooManyFrames}
use Rattle.command.specs.Command.{pose_width}
use Rattle.listing.specs.Listing.{refusal_line}
use Rattle.telemetry.specs.Frames.{Bytes, frame_bytes, max_bytes, frames_in, command_bytes, frames_refusal, RefusedAlike}
use Rattle.telemetry.proofs.Frames.{frames-broken, frames_many, alike_more, alike_through}
use Rattle.descriptors.specs.Moved.{IsTold}
use Rattle.frames.specs.declared.Failed.TheVariants.{Output, Line}
use Rattle.frames.specs.Told.{refusal_of, output_by, error_by, output_of, error_of, put_of, told_of, Decided, Told}
use Rattle.frames.specs.Inner.Room.{input_bytes}
use Rattle.frames.specs.Turned.{StandsFor, Taken, Turned, Untold}

-- ---- read so far

-- So many bytes at the memory's front stand for all that was read.
pub record Kept (old new : Option (List ℕ)) (kept : ℕ) (memory : List ℕ) : Type 0 where
  pub all : List ℕ
  pub read : Consumes old new all
  pub alike : RefusedAlike kept (length all)
  pub within : kept ≤ length all
  pub is_all : length all ≤ max_bytes → take kept memory ≡ all

-- So many bytes more, behind those that are kept.
pub kept_more : {old mid new : Option (List ℕ)} {kept : ℕ} {memory memory' : List ℕ} (part : List ℕ) (got : ℕ) → Kept old mid kept memory
    → got ≤ length part → Consumes mid new (take got part) → take (kept + got) memory' ≡ take kept memory ++ take got part → Kept old new (kept + got) memory'
kept_more {old} {mid} {new} {kept} {memory} {memory'} part got k fits read is =
    let longer : length (k.all ++ take got part) ≡ length k.all + got = length-append k.all (take got part) ∙ ap (λ (n : ℕ). length k.all + n) (length-take-le got part fits) in
    record {
      all = k.all ++ take got part;
      read = Consumes-trans old mid new k.all (take got part) k.read read;
      alike = subst (RefusedAlike (kept + got)) (sym longer) (alike_more kept (length k.all) got k.alike);
      within = omega (arith, longer, k.within);
      is_all = λ h. is ∙ ap (λ (l : List ℕ). l ++ take got part) (k.is_all (omega (arith, longer, h)));
    }

-- A full memory holds more than what may pass; a shorter length stands for it.
pub kept_shorter : {old new : Option (List ℕ)} {kept : ℕ} {memory : List ℕ} (shorter : ℕ) → Kept old new kept memory → input_bytes ≤ kept → RefusedAlike shorter kept
    → shorter < max_bytes + 2 * frame_bytes → Kept old new shorter memory
kept_shorter {old} {new} {kept} {memory} shorter k full alike below = record {
  all = k.all;
  read = k.read;
  alike = alike_through shorter kept (length k.all) alike k.alike;
  within = omega (arith, k.within);
  is_all = λ h. absurd (omega (arith, k.within));
}

pub kept_taken : {old new : Option (List ℕ)} {kept : ℕ} {memory : List ℕ} → Kept old new kept memory → kept ≤ length memory → IsAtEnd new → Taken old new (take kept memory)
kept_taken {old} {new} {kept} {memory} k roomy ended =
    record {
      all = k.all;
      read = (k.read, ended);
      stands = record { alike = subst (λ (n : ℕ). RefusedAlike n (length k.all)) (sym (length-take-le kept memory roomy)) k.alike; is_all = k.is_all };
    }

-- ---- what belongs where

-- What is longer than any input that passes is refused, whatever is lent.
long_refused : (n : ℕ) → max_bytes < n → (r : Refusal) × ((lent : ℕ) → frames_refusal n lent ≡ Some r)
long_refused n long = go (ℕ_discrete (n % frame_bytes) 0)
  where
    go : Dec (n % frame_bytes ≡ 0) → (r : Refusal) × ((lent : ℕ) → frames_refusal n lent ≡ Some r)
    go (yes whole) = (TooManyFrames, λ lent. frames_many n lent whole (omega arith))
    go (no broken) = (BrokenFrame, λ lent. frames-broken n lent broken)

pub refused-output : (bytes : List ℕ) (r : Refusal) → refusal_of bytes ≡ Some r → (output_of bytes ≡ []) × (error_of bytes ≡ refusal_line r)
unfolding output_by error_by
refused-output bytes r e = (ap (λ (o : Option Refusal). output_by o (command_bytes bytes)) e, ap error_by e)

-- What stands for an input is told what the input is.
pub stands-alike : (kept all : List ℕ) → StandsFor kept all → (output_of kept ≡ output_of all) × (error_of kept ≡ error_of all) × (refusal_of kept ≡ refusal_of all)
stands-alike kept all stands = go (dec_le (length all) max_bytes)
  where
    same : (lent : ℕ) → frames_refusal (length kept) lent ≡ frames_refusal (length all) lent
    same lent =
        ap (λ (n : ℕ). frames_refusal n lent) (sym (add-zero (length kept)))
        ∙ stands.alike 0 lent
        ∙ ap (λ (n : ℕ). frames_refusal n lent) (add-zero (length all))

    go : Dec (length all ≤ max_bytes) → (output_of kept ≡ output_of all) × (error_of kept ≡ error_of all) × (refusal_of kept ≡ refusal_of all)
    go (yes short) = (ap output_of (stands.is_all short), ap error_of (stands.is_all short), ap refusal_of (stands.is_all short))
    go (no long) =
        let (r, refused) = long_refused (length all) (omega arith) in
        let refused_kept : refusal_of kept ≡ Some r = same (pose_width * frames_in kept) ∙ refused (pose_width * frames_in kept) in
        let refused_all : refusal_of all ≡ Some r = refused (pose_width * frames_in all) in
        let one = refused-output kept r refused_kept in
        let other = refused-output all r refused_all in
        (one.0 ∙ sym other.0, one.1 ∙ sym other.1, refused_kept ∙ sym refused_all)

-- ---- what both outputs gain

module _ {old new : Option (List ℕ)} {kept commands line : List ℕ} (answer : Result ℕ ℕ) (count : ℕ) (taken : Taken old new kept) (told : Told kept answer commands line) where
  abbrev alike : (output_of kept ≡ output_of taken.all) × (error_of kept ≡ error_of taken.all) × (refusal_of kept ≡ refusal_of taken.all)
  alike = stands-alike kept taken.all taken.stands

  -- What is put and what is told are what belongs there for all of the input.
  all_put : (a : Result ℕ ℕ) → answer ≡ a → put_of a commands ≡ output_of taken.all
  all_put a is = ap (λ (b : Result ℕ ℕ). put_of b commands) (sym is) ∙ told.to_output ∙ alike.0

  all_told : (a : Result ℕ ℕ) → answer ≡ a → told_of a line ≡ error_of taken.all
  all_told a is = ap (λ (b : Result ℕ ℕ). told_of b line) (sym is) ∙ told.to_error ∙ alike.1

  bytes_all : length taken.all ≤ max_bytes → Bytes taken.all
  bytes_all short = subst Bytes (taken.stands.is_all short) told.of_bytes

  pub turned_commands : {output output' : Option (List ℕ)} → answer ≡ Ok count → Appends output output' (take count commands) → (errors : Option (List ℕ)) → Turned old new output output' errors errors
  turned_commands {output} {output'} is puts errors = record {
    all = taken.all;
    read = taken.read;
    to_output = subst (Appends output output') (all_put (Ok count) is) puts;
    to_error = subst (Appends errors errors) (all_told (Ok count) is) (Appends-nil errors);
    of_bytes = bytes_all;
  }

  pub turned_line : {output output' : Option (List ℕ)} → answer ≡ Err count → Appends output output' (take count line) → (commands_to : Option (List ℕ)) → Turned old new commands_to commands_to output output'
  turned_line {output} {output'} is tells commands_to = record {
    all = taken.all;
    read = taken.read;
    to_output = subst (Appends commands_to commands_to) (all_put (Err count) is) (Appends-nil commands_to);
    to_error = subst (Appends output output') (all_told (Err count) is) tells;
    of_bytes = bytes_all;
  }

  -- A part of it, where an output fails.
  pub untold_commands : (output output' errors : Option (List ℕ)) (front : ℕ) (e : Error) → IsTold e → answer ≡ Ok count → Appends output output' (take front (take count commands))
      → Untold (Output e) old new output output' errors errors
  untold_commands output output' errors front e tells is puts =
      let passed : refusal_of kept ≡ None = subst (Decided kept) is told.decided in
      (taken.all, front, tells, taken.read, sym alike.2 ∙ passed, subst (λ (l : List ℕ). Appends output output' (take front l)) (all_put (Ok count) is) puts, Keeps-refl errors)

  pub untold_line : (output output' commands_to : Option (List ℕ)) (front : ℕ) (e : Error) → IsTold e → answer ≡ Err count → Appends output output' (take front (take count line))
      → Untold (Line e) old new commands_to commands_to output output'
  untold_line output output' commands_to front e says is tells =
      let refused : (r : Refusal) × (refusal_of kept ≡ Some r) = subst (Decided kept) is told.decided in
      (taken.all, front, refused.0, says, taken.read, sym alike.2 ∙ refused.1, subst (λ (l : List ℕ). Appends output output' (take front l)) (all_told (Err count) is) tells, Keeps-refl commands_to)
