-- One turn of `rig`'s loop: what a call of the whole-stream entry leaves to come. Rests on `round_of` of `claims_printing`. Assumes nothing.
use Prim.Native.Nat.{ℕ, ◌*◌, ◌≤◌, ◌<◌}
use native.Mathlib.Omega.{arith}
use mathlib.Core.Path.{◌≡◌, sym, ap, ◌∙◌}
use mathlib.Core.List.{List, ◌++◌, append_assoc}
use lib.ListN.{length, take, drop, length-append}
use lib.Ieee.{Float}
use lib.Seq.{take_at}
use Rattle.session_commands.specs.Obeyed.{State, state}
use Rattle.session.specs.Call.{max_stream}
use Rattle.stream_text.specs.StreamText.{Part, part_in, ObeyedInto}
use Rattle.stream_text.specs.declared.StreamText.{StreamText}
use Rattle.claims_printing.specs.Printed.{whole_of}
use Rattle.claims_printing.proofs.Loop.{at_end, at_end_whole, round_of}

-- How many bytes a turn prints at most.
abbrev pub text_bytes : ℕ
text_bytes = 16384

-- The state that the whole stream leaves, and the text that it prints.
abbrev pub Ends : Part → State → List ℕ → Type 0
Ends whole now done = (now ≡ whole.after) × (done ≡ whole.text)

-- What the whole stream leaves and prints is still to come, behind what was printed. Each turn prints no more than its text holds, and goes on by a byte or more.
abbrev pub Comes : State → State → List ℕ → ℕ → List ℕ → Type 0
Comes t now stream at done =
    let to_come = at_end now stream at in
    Ends (at_end t stream 0) to_come.after (done ++ to_come.text) × (length done ≤ at * text_bytes) × (at ≤ max_stream)

module _ {now : State} {stream : List ℕ} {at : ℕ} {answer : StreamText} {buffer first : List Float} {second old new : List ℕ} where
  -- What is put of a turn's text is all of it.
  put_whole : ObeyedInto now stream at answer buffer first second old new → take answer.length new ≡ (part_in now stream at (length old)).text
  put_whole o = ap (take answer.length) o.leaves.front.text_bytes_is ∙ take_at _ (drop answer.length old) answer.length (sym o.leaves.front.text_length)

  -- Where commands are left, the rest is still to come behind it.
  pub turn_comes : length old ≡ text_bytes → ObeyedInto now stream at answer buffer first second old new → (t : State) (done : List ℕ) → length new ≡ text_bytes
      → answer.next < length stream → Comes t now stream at done → Comes t (state answer.session buffer first second) stream answer.next (done ++ take answer.length new)
  turn_comes holds o t done same inside (ends, few, near) =
      let round = round_of (omega arith) o in
      let on = round.goes_on inside in
      let put = take answer.length new in
      let rest = (at_end (state answer.session buffer first second) stream answer.next).text in
      let front = o.leaves.front in (
        (
          ap (λ (p : Part). p.after) on ∙ ends.0,
          append_assoc done put rest ∙ ap (λ (l : List ℕ). done ++ l) (ap (λ (l : List ℕ). l ++ rest) (put_whole o) ∙ ap (λ (p : Part). p.text) on) ∙ ends.1,
        ),
        omega (arith, round.advances inside, length-append done put, front.taken, front.within),
        omega (arith, round.stream_fits inside),
      )

  -- Where none is left, the state is that of the stream's meaning, and its text was printed.
  pub turn_ends : length old ≡ text_bytes → ObeyedInto now stream at answer buffer first second old new → {t t₀ : State} → t ≡ t₀ → (done : List ℕ)
      → length stream ≤ answer.next → Comes t now stream at done → Ends (whole_of t₀ stream) (state answer.session buffer first second) (done ++ take answer.length new)
  turn_ends holds o {t} same done past (ends, few, near) =
      let last = (round_of (omega arith) o).ends past in
      let whole = at_end_whole t stream ∙ ap (λ (u : State). whole_of u stream) same in (
        ap (λ (p : Part). p.after) last ∙ ends.0 ∙ ap (λ (p : Part). p.after) whole,
        ap (λ (l : List ℕ). done ++ l) (put_whole o ∙ ap (λ (p : Part). p.text) last) ∙ ends.1 ∙ ap (λ (p : Part). p.text) whole,
      )
