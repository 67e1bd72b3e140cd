-- The details of what a call of the session refuses have no more than 32 bits, where the stream's elements are bytes (`small_call`): 13
-- comes first, so that offsets are at most 65,536, and 5, so that sizes are within the limits. Assumes nothing.
use Prim.Native.Nat.{ℕ, ◌+◌, ◌≤◌}
use native.Mathlib.Omega.{arith}
use mathlib.Core.Path.{◌≡◌, refl, sym, subst}
use mathlib.Core.Bool.{Bool, true, false, not, cond}
use Rattle.std.specs.Prelude.{Option, None, Some}
use mathlib.Core.List.{List, [], ◌∷◌}
use lib.ListN.{length, get_or}
use lib.Dec.{T, leb, ltb}
use lib.Ieee.{Float}
use borrow.Author.Tests.{ltb-false}
use Rattle.refusal.specs.Table.{refuse_if}
use Rattle.refusal.specs.declared.Refusal.{Refusal}
use Rattle.refusal.specs.declared.Refusal.TheVariants.{WrongLength, Truncated, TooLong, NoSize}
use Rattle.inputs.proofs.Answering.{refuse_if-none, first_of_none_all}
use Rattle.inputs.proofs.InTurn.{ShortDetail, Small, if_first_of, if_refuse_if}
use Rattle.extrinsics.specs.Outcome.{grid_refusal}
use Rattle.placing.specs.Rig.{rig_grid}
use Rattle.command.specs.Framing.{whole, short, frame, framed_by, framed}
use Rattle.command.specs.Command.{Command, edit, solve, width_of, command_at, decoded, parse}
use Rattle.command.specs.Writing.{OfBytes}
use Rattle.command.proofs.Writing.{command_at-bytes}
use Rattle.session_record.specs.Session.{held_of, has_size, session_grid, possible}
use Rattle.session_commands.specs.Commands.{command_refusal}
use Rattle.session_commands.specs.Obeyed.{State, Result, reply_to}
use Rattle.session.specs.Call.{max_stream, call_refusal, read, call, unusable}
use Rattle.session.proofs.Calling.{call_cases}
use Rattle.session_record.specs.declared.Session.{Session}
use Rattle.claims_streams.specs.Stream.{answer_to, Usable}
use Rattle.claims_streams.proofs.Accepting.{solve_checks}
use Rattle.claims_streams.proofs.Sound.{within_limits}
use Rattle.claims_streams.proofs.Edits.All.{edit_law}
use Rattle.claims_streams.proofs.Streams.{obeyed-answer_to}
use Rattle.claims_streams.proofs.Usable.{usable_of_check, answer_to-accepted, answer_to-refused}
use Rattle.placer.proofs.Details.{small_grid}
use Rattle.placer.proofs.Reading.{SmallReply}
use Rattle.claims_exports.specs.InHand.{Bytes}

-- ---- commands

pub small_command : (s : Session) (buffer : List Float) → T (possible s) → (command : Command) → OfBytes command → Small (command_refusal (held_of s) buffer command)
unfolding command_refusal rig_grid
small_command s buffer allowed (edit change) h = (edit_law change).small s allowed h
small_command s buffer allowed solve h =
    let fit = within_limits s allowed in
    subst Small (sym (solve_checks s buffer))
    (if_first_of ShortDetail (refuse_if (not (has_size (held_of s))) NoSize ∷ grid_refusal (session_grid (held_of s) buffer) ∷ [])
    (if_refuse_if ShortDetail (not (has_size (held_of s))) NoSize (omega arith), λ e. (small_grid (session_grid (held_of s) buffer) fit.0 fit.1, λ e. tt)))

small_reply_to : (command : Command) → SmallReply (reply_to command)
unfolding reply_to
small_reply_to (edit change) = tt
small_reply_to solve = tt

pub small_answer : (t : State) → T (possible t.session) → (command : Command) → OfBytes command → SmallReply (answer_to t command).reply
small_answer t allowed command h =
    go (command_refusal (held_of t.session) t.buffer command) refl (small_command t.session t.buffer allowed command h)
  where
    go : (o : Option Refusal) → command_refusal (held_of t.session) t.buffer command ≡ o → Small (command_refusal (held_of t.session) t.buffer command)
        → SmallReply (answer_to t command).reply
    go None e k = rw (answer_to-accepted t command e) (small_reply_to command)
    go (Some r) e k = rw (answer_to-refused t command r e) (subst Small e k)

-- ---- one call

module _ (t : State) (stream : List ℕ) (at : ℕ) where
  -- What the checks before all else have shown.
  pub call_checked : call_refusal t stream at ≡ None → (length stream ≤ max_stream) × Usable t × (at ≤ length stream)
  unfolding call_refusal
  call_checked e =
      let (long, (wrong, (past, _))) =
      first_of_none_all
      (refuse_if (ltb max_stream (length stream)) TooLong
      ∷ refuse_if (unusable t) WrongLength
      ∷ refuse_if (ltb (length stream) at) (Truncated (length stream))
      ∷ []) e in (
        ltb-false max_stream (length stream) (refuse_if-none _ _ long),
        usable_of_check t (refuse_if-none _ _ wrong),
        ltb-false (length stream) at (refuse_if-none _ _ past),
      )

module _ (t : State) (stream : List ℕ) (at : ℕ) (bytes : Bytes stream) where
  small_call_refusal : Small (call_refusal t stream at)
  unfolding call_refusal
  small_call_refusal =
      if_first_of ShortDetail
      (refuse_if (ltb max_stream (length stream)) TooLong
      ∷ refuse_if (unusable t) WrongLength
      ∷ refuse_if (ltb (length stream) at) (Truncated (length stream))
      ∷ []) (
        if_refuse_if ShortDetail (ltb max_stream (length stream)) TooLong (omega arith),
        λ e. (
          if_refuse_if ShortDetail (unusable t) WrongLength (omega arith),
          λ f. (
            if_refuse_if ShortDetail (ltb (length stream) at) (Truncated (length stream))
                (omega (arith, ltb-false max_stream (length stream) (refuse_if-none (ltb max_stream (length stream)) TooLong e))),
            λ g. tt,
          ),
        ),
      )

  module _ (allowed : T (possible t.session)) (small-offset : at ≤ max_stream) where
    small_read : SmallReply (read t stream at (parse stream at)).reply
    unfolding parse read decoded framed framed_by
    small_read = go (width_of (get_or stream at 0)) refl
      where
        go : (o : Option ℕ) → width_of (get_or stream at 0) ≡ o → SmallReply (read t stream at (decoded stream at (framed_by stream at o))).reply
        go None e = omega (arith, bytes at)
        go (Some w) e = whole-or-short (leb (at + w) (length stream))
          where
            whole-or-short : (b : Bool) → SmallReply (read t stream at (decoded stream at (cond b (whole w) short))).reply
            whole-or-short true = rw (obeyed-answer_to t (command_at stream (frame at w)) (at + w)) (small_answer t allowed (command_at stream (frame at w)) (command_at-bytes stream bytes at w))
            whole-or-short false = omega (arith, small-offset)

  pub small_call : SmallReply (call t stream at).reply
  small_call =
      call_cases t stream at (λ (r : Result). SmallReply r.reply) (λ r e. subst Small e small_call_refusal) (λ _ _. tt)
      (λ e _. let (in-limit, u, h) = call_checked t stream at e in small_read u.record_possible (omega (arith, in-limit, h)))
