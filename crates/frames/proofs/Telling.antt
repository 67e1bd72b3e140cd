-- What the import of the frames, with an answer of their own length lent, says of what goes to standard output and to standard error. Assumes nothing.
use Prim.Native.Nat.{ℕ, ◌+◌, ◌*◌, ◌/◌, ◌%◌, ◌≤◌}
use native.Mathlib.Decide.{ℕ_discrete, dec_le}
use native.Mathlib.Omega.{arith}
use mathlib.Core.Path.{◌≡◌, refl, sym, ap, ◌∙◌}
use mathlib.Core.Bool.{Bool, cond}
use Rattle.std.specs.Prelude.{Option, None, Some, Err, Ok}
use mathlib.Core.List.{List, [], ◌++◌}
use lib.ListN.{length, take, drop, length-append}
use lib.Dec.{leb}
use lib.Seq.{take_at, length-take-le}
use borrow.Author.Tests.{le-ltb, le-leb}
use Rattle.refusal.specs.declared.Refusal.{Refusal}
use Rattle.command.specs.Command.{pose_width}
use Rattle.listing.specs.Listing.{refusal_line, listing_bytes}
use Rattle.putting.specs.Putting.{Put}
use Rattle.telemetry.specs.Frames.{Bytes, frame_bytes, max_frames, command_bytes, frames_refusal, imported_of, import_leaves}
use Rattle.telemetry.proofs.Frames.{frames-broken, frames_many, import_refused, import_passed}
use Rattle.frames.specs.Told.{refusal_of, output_by, error_by, Told}
use Rattle.frames.specs.Inner.Room.{room_for}

-- Where there are too many frames, what is lent does not matter; else it is as long as their commands.
room-refusal : (n : ℕ) → frames_refusal n (room_for n) ≡ frames_refusal n (pose_width * (n / frame_bytes))
room-refusal n = go (dec_le (n / frame_bytes) max_frames) (ℕ_discrete (n % frame_bytes) 0)
  where
    go : Dec (n / frame_bytes ≤ max_frames) → Dec (n % frame_bytes ≡ 0) → frames_refusal n (room_for n) ≡ frames_refusal n (pose_width * (n / frame_bytes))
    go (yes few) whole = ap (λ (b : Bool). frames_refusal n (cond b 0 (pose_width * (n / frame_bytes)))) (le-ltb max_frames (n / frame_bytes) few)
    go (no many) (yes whole) = frames_many n _ whole (omega arith) ∙ sym (frames_many n _ whole (omega arith))
    go (no many) (no broken) = frames-broken n _ broken ∙ sym (frames-broken n _ broken)

module _ (bytes commands : List ℕ) (room : ℕ) (is : room ≡ room_for (length bytes)) (inside : room ≤ length commands) where
  abbrev lent : List ℕ
  lent = take room commands

  lent-refusal : frames_refusal (length bytes) (length lent) ≡ refusal_of bytes
  lent-refusal = ap (frames_refusal (length bytes)) (length-take-le room commands inside ∙ is) ∙ room-refusal (length bytes)

  refused_with : (r : Refusal) → imported_of bytes lent ≡ Err r → refusal_of bytes ≡ Some r
  refused_with r e = sym lent-refusal ∙ go (frames_refusal (length bytes) (length lent)) refl
    where
      go : (o : Option Refusal) → frames_refusal (length bytes) (length lent) ≡ o → frames_refusal (length bytes) (length lent) ≡ Some r
      go (Some q) f = let told = (import_refused bytes lent q f).0 in cc
      go None f = let told = (import_passed bytes lent f).0 in let z : ◌≡◌ {A = ℕ} 0 1 = cc in absurd (omega arith)

  passed_with : (n : ℕ) → imported_of bytes lent ≡ Ok n → (refusal_of bytes ≡ None) × (import_leaves bytes lent ≡ command_bytes bytes)
  passed_with n e = go (frames_refusal (length bytes) (length lent)) refl
    where
      go : (o : Option Refusal) → frames_refusal (length bytes) (length lent) ≡ o → (refusal_of bytes ≡ None) × (import_leaves bytes lent ≡ command_bytes bytes)
      go (Some q) f = let told = (import_refused bytes lent q f).0 in let z : ◌≡◌ {A = ℕ} 0 1 = cc in absurd (omega arith)
      go None f = (sym lent-refusal ∙ f, (import_passed bytes lent f).1)

  -- A refusal: its line, and no commands.
  pub told-refused : Bytes bytes → (r : Refusal) (held line line' : List ℕ) (count : ℕ) → imported_of bytes lent ≡ Err r → listing_bytes ≤ length line
      → Put line 0 (cond (leb listing_bytes (length line)) (refusal_line r) []) line' count → Told bytes (Err count) held line'
  unfolding output_by error_by
  told-refused small r held line line' count e roomy put =
      let refused = refused_with r e in
      let shown : Put line 0 (refusal_line r) line' count = rw (le-leb listing_bytes (length line) roomy) at put in
      record {
        decided = (r, refused);
        to_output = ap (λ (o : Option Refusal). output_by o (command_bytes bytes)) (sym refused);
        to_error = ap (take count) shown.bytes ∙ take_at (refusal_line r) _ count (omega (arith, shown.behind)) ∙ ap error_by (sym refused);
        of_bytes = small;
        output_within = tt;
        error_within = omega (arith, shown.behind, ap length shown.bytes, length-append (refusal_line r) (drop (0 + length (refusal_line r)) line));
      }

  -- Commands, and no line.
  pub told-commands : Bytes bytes → (n : ℕ) (left line : List ℕ) → imported_of bytes lent ≡ Ok n → left ≡ import_leaves bytes lent → length left ≡ length lent
      → Told bytes (Ok room) (left ++ drop room commands) line
  unfolding output_by error_by
  told-commands small n left line e leaves same =
      let passed = passed_with n e in
      let filled : length left ≡ room = same ∙ length-take-le room commands inside in
      record {
        decided = passed.0;
        to_output = take_at left (drop room commands) room filled ∙ leaves ∙ passed.1 ∙ ap (λ (o : Option Refusal). output_by o (command_bytes bytes)) (sym passed.0);
        to_error = ap error_by (sym passed.0);
        of_bytes = small;
        output_within = simp length-append (omega (arith, filled));
        error_within = tt;
      }
