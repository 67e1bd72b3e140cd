-- What one call comes to, by what refuses it, what holds of it in each case (`call_cases`), and how an equation of results says `Called`. Assumes nothing.
use Prim.Native.Nat.{ℕ}
use native.Mathlib.Decide.{ℕ_discrete}
use mathlib.Core.Path.{◌≡◌, refl, ap}
use mathlib.Core.Bool.{cond}
use lib.Dec.{eqb, ltb}
use Rattle.std.specs.Prelude.{Option, None, Some, Ok}
use mathlib.Core.List.{List, [], ◌∷◌}
use lib.ListN.{length}
use lib.Ieee.{Float}
use borrow.Author.Tests.{eq-eqb, ne_eqb}
use Rattle.refusal.specs.Table.{refuse_if, first_of}
use Rattle.refusal.specs.declared.Refusal.{Refusal}
use Rattle.refusal.specs.declared.Refusal.TheVariants.{WrongLength, Truncated, TooLong}
use Rattle.command.specs.Command.{parse}
use Rattle.session_commands.specs.Obeyed.{State, Result, result}
use Rattle.session.specs.Call.{max_stream, unusable, stopped, read, call_refusal, call, Called}
use Rattle.session.specs.Inner.Steps.{result_of}
use Rattle.session.specs.declared.Step.{Step}
use Rattle.session_commands.specs.declared.Done.TheVariants.{End}

module _ (t : State) (stream : List ℕ) (at : ℕ) where
  -- The checks before all else, with the record's own check closed.
  pub call_refusal_is : call_refusal t stream at
      ≡ first_of
      (refuse_if (ltb max_stream (length stream)) TooLong
      ∷ refuse_if (unusable t) WrongLength
      ∷ refuse_if (ltb (length stream) at) (Truncated (length stream))
      ∷ [])
  unfolding call_refusal
  call_refusal_is = refl

  pub call_is : call t stream at
      ≡ (elim (call_refusal t stream at) [
        | Some r ↦ stopped t stream r
        | None ↦ cond (eqb at (length stream)) (result (Ok End) t at) (read t stream at (parse stream at))
      ])
  unfolding call
  call_is = refl

  pub call-refused : (r : Refusal) → call_refusal t stream at ≡ Some r → call t stream at ≡ stopped t stream r
  unfolding call
  call-refused r e = rw (e, call)

  pub call_end : call_refusal t stream at ≡ None → at ≡ length stream → call t stream at ≡ result (Ok End) t at
  unfolding call
  call_end e h = rw (e, call) (rw (eq-eqb at (length stream) h))

  pub call-read : call_refusal t stream at ≡ None → (at ≡ length stream → ⊥) → call t stream at ≡ read t stream at (parse stream at)
  unfolding call
  call-read e h = rw (e, call) (rw (ne_eqb at (length stream) h))

  -- What holds of a refusal before all else, of the end and of what is read holds of what the call comes to.
  pub call_cases : (P : Result → Type 0)
      → ((r : Refusal) → call_refusal t stream at ≡ Some r → P (stopped t stream r))
      → (call_refusal t stream at ≡ None → at ≡ length stream → P (result (Ok End) t at))
      → (call_refusal t stream at ≡ None → (at ≡ length stream → ⊥) → P (read t stream at (parse stream at)))
      → P (call t stream at)
  call_cases P refused ended reads = go (call_refusal t stream at) refl (ℕ_discrete at (length stream))
    where
      go : (o : Option Refusal) → call_refusal t stream at ≡ o → Dec (at ≡ length stream) → P (call t stream at)
      go (Some r) e d = rw (call-refused r e) (refused r e)
      go None e (yes h) = rw (call_end e h) (ended e h)
      go None e (no h) = rw (call-read e h) (reads e h)

  pub called : (step : Step) (buffer first : List Float) (second : List ℕ) → result_of step buffer first second ≡ call t stream at
      → Called t stream at step buffer first second
  called step buffer first second e =
      record {
        reply = ap (λ (r : Result). r.reply) e;
        next = ap (λ (r : Result). r.next) e;
        session = ap (λ (r : Result). r.after.session) e;
        buffer_after_is = ap (λ (r : Result). r.after.buffer) e;
        first_after_is = ap (λ (r : Result). r.after.first) e;
        second_after_is = ap (λ (r : Result). r.after.second) e;
      }
