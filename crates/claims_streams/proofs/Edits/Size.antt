-- The command Size as an edit: when it is accepted, and its law (`size_law`). Assumes nothing.
use Prim.Native.Nat.{ℕ}
use native.Mathlib.Omega.{arith}
use mathlib.Core.Path.{◌≡◌, refl, sym, ap, subst, ◌∙◌}
use mathlib.Core.Logic.{inl, inr}
use mathlib.Core.Bool.{not, false≢true}
use Rattle.std.specs.Prelude.{None}
use mathlib.Core.List.{[], ◌∷◌}
use lib.Pow.{pow_pos}
use borrow.Author.Tests.{eqb-true, not-false, eq-eqb}
use Rattle.refusal.specs.Table.{refuse_if, first_of}
use Rattle.refusal.specs.declared.Refusal.TheVariants.{SizeAgain}
use Rattle.inputs.specs.Inputs.{size_refusal}
use Rattle.inputs.proofs.Answering.{refuse_if-none, first_of_none_all, Sizes, size_refusal-none, size_refusal-sizes}
use Rattle.inputs.proofs.InTurn.{If, ShortDetail, Small, if_first_of, if_refuse_if, if_size_refusal, small_size}
use Rattle.command.specs.Command.{Edit, size}
use Rattle.session_record.specs.Session.{held_of, has_size}
use Rattle.session_commands.specs.Commands.{edit_refusal, edit_session, edit_buffer}
use Rattle.session_record.specs.declared.Session.{Session}
use Rattle.claims_streams.specs.Stream.{ends_stream}
use Rattle.claims_streams.specs.Held.{cell_after, writes}
use Rattle.claims_streams.specs.CallDemand1.{sizes_in}
use Rattle.claims_streams.proofs.Accepting.{refuse_if_false, first_of_all_none}
use Rattle.claims_streams.proofs.Sound.{Sound, no_bits}
use Rattle.claims_streams.proofs.Edits.Law.{GoesOn, EditLaw}

module _ (s : Session) (views cameras reference : ℕ) where
  pub size_checks_is : edit_refusal (held_of s) (size views cameras reference)
      ≡ first_of (refuse_if (has_size (held_of s)) SizeAgain ∷ size_refusal views cameras reference ∷ [])
  unfolding edit_refusal
  size_checks_is = refl

  pub size-accepted : edit_refusal (held_of s) (size views cameras reference) ≡ None → (s.views ≡ 0) × Sizes views cameras reference
  size-accepted e =
      let (again, (sizes, _)) = first_of_none_all _ (sym size_checks_is ∙ e) in
      (eqb-true _ _ (not-false _ (refuse_if-none _ _ again)), size_refusal-none views cameras reference sizes)

  pub accepts_size : s.views ≡ 0 → Sizes views cameras reference → edit_refusal (held_of s) (size views cameras reference) ≡ None
  accepts_size e sizes =
      size_checks_is
      ∙ first_of_all_none _ (refuse_if_false _ _ (ap not (eq-eqb _ _ e)), (size_refusal-sizes views cameras reference sizes, tt))

-- ---- the law

module _ (views cameras reference : ℕ) where
  abbrev change : Edit
  change = size views cameras reference

  goes_on : (s : Session) → If GoesOn (edit_refusal (held_of s) change)
  unfolding ends_stream
  goes_on s =
      subst (If GoesOn) (sym (size_checks_is s views cameras reference))
      (if_first_of GoesOn _ (
        if_refuse_if GoesOn (has_size (held_of s)) SizeAgain refl,
        λ e. (if_size_refusal GoesOn refl refl refl views cameras reference, λ e. tt),
      ))

  small : (s : Session) → Small (edit_refusal (held_of s) change)
  small s =
      subst Small (sym (size_checks_is s views cameras reference))
      (if_first_of ShortDetail _ (
        if_refuse_if ShortDetail (has_size (held_of s)) SizeAgain (omega arith),
        λ e. (small_size views cameras reference, λ e. tt),
      ))

  sound_after : (s : Session) → edit_refusal (held_of s) change ≡ None → Sound s → Sound (edit_session s change)
  unfolding edit_session
  sound_after s e h =
      let (none_yet, sizes) = size-accepted s views cameras reference e in
      record {
        sizes = inr sizes;
        inside = λ i l k. rw (no_bits s h none_yet i l) (pow_pos views);
        outside = λ i l k. no_bits s h none_yet i l;
        true_summary = refl;
      }

  pub size_law : EditLaw change
  unfolding edit_session edit_buffer cell_after writes sizes_in
  size_law =
      record {
        goes_on = goes_on;
        small = λ s allowed bytes. small s;
        masks_kept = λ s. refl;
        sound_after = sound_after;
        views_after = λ s e. inl (refl, (size-accepted s views cameras reference e).1.some_views);
        length_kept = λ s buffer e sound fits. refl;
        cells_after = λ s buffer e sound sixteen fits v c o h before. before;
        finite_after = λ s e v c o before. before;
        into_empty = λ s e v c names. absurd (false≢true names);
        holds_written = λ v c names o. absurd (false≢true names);
        others_kept = λ s buffer e sound fits v c h names k l. refl;
      }
