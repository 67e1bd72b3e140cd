-- What `placer_frames` replies is what the words say: `frames_replies`. Assumes nothing.
use Prim.Native.Nat.{ℕ, ◌*◌, ◌^◌, ◌≤◌, ◌<◌}
use native.Mathlib.Omega.{arith}
use mathlib.Core.Path.{◌≡◌, refl, sym, ap, ◌∙◌, subst}
use Rattle.std.specs.Prelude.{Option, None, Some}
use mathlib.Core.List.{List}
use lib.ListN.{length}
use Rattle.refusal.specs.Table.{detail_of}
use Rattle.refusal.specs.declared.Refusal.{Refusal}
use Rattle.telemetry.specs.Frames.{frames_in, frames_refusal, imported_of}
use Rattle.telemetry.proofs.Frames.{frames_passed, frames-plain, import_refused, import_passed}
use Rattle.claims_telemetry.specs.Import.{CommandsOfFrames, RefusedWith}
use Rattle.claims_telemetry.proofs.Import.{import_demand}
use Rattle.placer.specs.Code.{code_of, code_of_imported}
use Rattle.placer.specs.Exports.{ImportedInto}
use Rattle.placer.specs.Reading.{imported_in}
use Rattle.placer.proofs.Reading.{SmallImported, imported_in-code_of_imported}
use Rattle.claims_exports.specs.FramesReplies.{FramesReplies}

module _ (frames commands : List ℕ) (r : ℕ) (commands' : List ℕ) (into : ImportedInto frames commands r commands') where
  -- What is refused names nothing, and of what is not there are at most 1,024 frames.
  small_answer : SmallImported (imported_of frames commands)
  small_answer = go (frames_refusal (length frames) (length commands)) refl
    where
      plain : (q : Refusal) → frames_refusal (length frames) (length commands) ≡ Some q → detail_of q < 2 ^ 32
      plain q e = omega (arith, frames-plain (length frames) (length commands) q e)

      go : (o : Option Refusal) → frames_refusal (length frames) (length commands) ≡ o → SmallImported (imported_of frames commands)
      go (Some q) e = subst SmallImported (sym (import_refused frames commands q e).0) (plain q e)
      go None e = subst SmallImported (sym (import_passed frames commands e).0) (omega (arith, (frames_passed (length frames) (length commands) e).few))

  unchanged-above : 2 ^ 32 ≤ r → commands' ≡ commands
  unfolding code_of_imported
  unchanged-above above = go (frames_refusal (length frames) (length commands)) refl
    where
      go : (o : Option Refusal) → frames_refusal (length frames) (length commands) ≡ o → commands' ≡ commands
      go (Some q) e = into.answer ∙ (import_refused frames commands q e).1
      go None e =
          let count : r ≡ frames_in frames = into.reply ∙ ap code_of_imported (import_passed frames commands e).0 in
          absurd (omega (arith, count, (frames_passed (length frames) (length commands) e).few))

  -- A refusal of the import, in the upper 32 bits.
  refused_code : (number : ℕ) → RefusedWith (imported_of frames commands) number → r ≡ number * 2 ^ 32
  unfolding code_of_imported
  refused_code number (q, is, same, plain) = let code : r ≡ code_of q = into.reply ∙ ap code_of_imported is in omega (arith, code, same, plain)

  pub frames_replies : FramesReplies frames commands r commands'
  unfolding code_of_imported
  frames_replies =
      let demand = import_demand frames commands in
      record {
        no_multiple = λ h. refused_code 14 (demand.no_multiple h);
        too_many = λ n e l. refused_code 15 (demand.too_many n e l);
        another_length = λ n e l h. refused_code 5 (demand.another_length n e l h);
        imported =
            λ bytes n e l h.
            let done = demand.imported bytes n e l h in
            (into.reply ∙ ap code_of_imported done.0, subst (CommandsOfFrames frames n) (sym into.answer) done.1);
        unchanged = unchanged-above;
        read_back = ap imported_in into.reply ∙ imported_in-code_of_imported (imported_of frames commands) small_answer;
      }
