-- One call at an offset before the stream's end names a next offset beyond it (`call_advances`). Assumes nothing.
use Prim.Native.Nat.{ℕ, ◌+◌, ◌<◌}
use native.Mathlib.Omega.{arith}
use mathlib.Core.Path.{◌≡◌, refl}
use mathlib.Core.List.{List}
use lib.ListN.{length}
use Rattle.command.specs.Command.{Command, Parsed, complete, broken, unknown, parse}
use Rattle.command.proofs.Decoding.{parse-complete}
use Rattle.session_commands.specs.Obeyed.{State, Result, obeyed}
use Rattle.session.specs.Call.{read, call}
use Rattle.session_commands.proofs.Obeying.{obeyed_cases}
use Rattle.session.proofs.Calling.{call_cases}

obeyed-next : (t : State) (command : Command) (next : ℕ) → (obeyed t command next).next ≡ next
obeyed-next t command next = obeyed_cases t command next (λ (r : Result). r.next ≡ next) (λ _ _. refl) (λ _. refl)

module _ (t : State) (stream : List ℕ) (at : ℕ) (h : at < length stream) where
  read_advances : (p : Parsed) → parse stream at ≡ p → at < (read t stream at p).next
  unfolding read
  read_advances (complete command width) e = rw (obeyed-next t command (at + width)) (omega (arith, (parse-complete stream at command width e).0))
  read_advances broken e = h
  read_advances (unknown byte) e = h

  pub call_advances : at < (call t stream at).next
  call_advances =
      call_cases t stream at (λ (r : Result). at < r.next) (λ _ _. h) (λ _ e. absurd (omega arith)) (λ _ _. read_advances (parse stream at) refl)
